-- One more step of a history that the pages keep.
use Rattle.std.proofs.Common.{◌≡◌, ℕ, suc, zero, ◌+◌, ◌-◌, ◌*◌, ◌^◌, ◌<◌, ◌≤◌, List, [], ◌∷◌, ◌++◌, length, refl, ap}
use Rattle.std.proofs.Common.{sym, ◌∙◌, arith, subst, append_assoc, Bool, Option, Some}
use Rattle.std.specs.Prelude.{map, if◌then◌else◌}
use Rattle.std.proofs.lemmas.Bool.{eq-eqb, ne_eqb}
use Rattle.std.proofs.lemmas.List.{length_push}
use Rattle.std.proofs.lemmas.Nat.{pow_pos}
use Rattle.std.proofs.Math.Nat.{pow-suc}
use Rattle.tw_disk.specs.Image.{Image}
use Rattle.tw_base.specs.declared.kinds.limits.TheConstants.{LAST_STEP}
use Rattle.tw_base.specs.declared.history.content.Content.{Content}
use Rattle.tw_base.specs.declared.history.root.Root.{Root}
use Rattle.tw_base.specs.kinds.Texts.{authenticator_text, step_datum_text}
use Rattle.tw_base.specs.events.EventTree.{event_root}
use Rattle.tw_base.specs.history.History.{History, Step, events_at, events_of, plus, step_at, thread_of, time_at}
use Rattle.tw_base.specs.history.History.{time_of}
use Rattle.tw_base.specs.history.Tree.{tree}
use Rattle.tw_base.specs.kinds.Levels.{top_level}
use Rattle.tw_base.specs.history.Auth.{auth, auths, datum_text_at, link_texts, tree_label}
use Rattle.tw_base.specs.history.Limits.{FitTogether, IsTimeWithinLimits, IsWithinLimits, MayRecord}
use Rattle.tw_base.proofs.lemmas.kinds.DigestBytes.{IsDigest}
use Rattle.tw_base.proofs.lemmas.history.Auths.{auth-suc}
use Rattle.tw_base.proofs.lemmas.kinds.Levels.{divides-less, divides-minus, top_level-divides, top_level-greatest}
use Rattle.tw_base.proofs.lemmas.history.Plus.{auths-plus, step_at-new}
use Rattle.tw_skiplist.specs.declared.head.Head.{Head}
use Rattle.tw_steppage.specs.declared.link.StepRef.{StepRef}
use Rattle.tw_skiplist.specs.declared.adding.NewStep.{NewStep}
use Rattle.tw_steppage.specs.declared.fields.StepFields.{StepFields}
use Rattle.tw_steppage.specs.declared.limits.TheConstants.{MOST_PIECE_BYTES}
use Rattle.tw_disk.specs.Answers.{Next}
use Rattle.tw_skiplist.specs.Appended.{appended, appended_events, appended_thread, bare_step, first_page, new_fields}
use Rattle.tw_skiplist.specs.Appended.{new_labels, new_step, next_of, put_behind}
use Rattle.tw_skiplist.specs.Events.{piece_count}
use Rattle.tw_disk.specs.Found.Found.{Is}
use Rattle.tw_skiplist.specs.Keeping.{GoOn, Keeps, KeepsSteps, MayBeKept, Place, fields_at, link_to, links_at, links_to}
use Rattle.tw_skiplist.specs.Keeping.{place_of_step}
use Rattle.tw_skiplist.specs.Records.{page_labels}
use Rattle.tw_steppage.specs.StepBytes.{event_pages, step_page_bytes, stream}
use Rattle.tw_skiplist.specs.Walks.{all_links, link_in, links_on, next_links}
use Rattle.tw_skiplist.proofs.Contents.{may_record}
use Rattle.tw_disk.proofs.FoundLaws.{is_on}
use Rattle.tw_skiplist.proofs.Growing.{below_head}
use Rattle.tw_skiplist.proofs.Kept.{length-links_to, power-le}
use Rattle.tw_skiplist.proofs.KeptReadings.{first_is, link_kept}
use Rattle.tw_skiplist.proofs.PieceCounts.{count_all}
use Rattle.tw_skiplist.proofs.Plus.{KeepsSteps-plus, place_of-new, place_of-plus}
use Rattle.tw_skiplist.proofs.Recording.{labels_to}
use Rattle.tw_skiplist.proofs.Streams.{length-stream}

-- the step that a lower link of a step leads to has a link of that level itself
module _ (step level : ℕ) (some : 0 < step) (small : step < 2 ^ 40) (lower : level < top_level step) where
  below_top : 2 ^ suc level ≤ step
  below_top = power-le step (suc level) some small (omega (arith, lower))

  pub earlier_some : 0 < step - 2 ^ level
  earlier_some = omega (arith, below_top, pow-suc 2 level, pow_pos level)

  pub level_fits : level ≤ top_level (step - 2 ^ level)
  level_fits =
      let divides = divides-less step (top_level step) level (omega (arith, lower))
      (top_level-divides step some (omega (arith, small))) in
      top_level-greatest (step - 2 ^ level) level earlier_some (omega (arith, small))
      (divides-minus step level (omega (arith, below_top, pow-suc 2 level)) divides)

  -- from there that level leads where the step's next link does
  next_level : step - 2 ^ level - 2 ^ level ≡ step - 2 ^ suc level
  next_level = omega (arith, pow-suc 2 level)

-- the links of the next step
module _ (dig : List ℕ → List ℕ) (size : (text : List ℕ) → IsDigest (dig text)) (h : History) (places : List Place)
    (ps : Image) (kept : KeepsSteps dig ps h places) (n : ℕ) (n_is : n ≡ length h.steps) (short : n < LAST_STEP) where
  -- from that of a level on, behind those of the levels below it
  links_kept : (more level : ℕ) → level + more ≡ top_level (n + 1)
      → links_on ps (n + 1) more level (links_to dig h places (n + 1) level) (link_to dig h places (n + 1 - 2 ^ level))
      ≡ Is (links_to dig h places (n + 1) (suc (level + more)))
  unfolding links_on links_to
  links_kept zero level l = ap (λ (k : ℕ). Is (links_to dig h places (n + 1) (suc k))) (let e : level ≡ level + 0 =
      omega arith in e)
  links_kept (suc more) level l =
      let at : ℕ = n + 1 - 2 ^ level in
      let lower : level < top_level (n + 1) = omega (arith, l) in
      let some = earlier_some (n + 1) level (omega arith) (omega (arith, short)) lower in
      let own : link_in ps (link_to dig h places at).page at level ≡ Is (link_to dig h places (n + 1 - 2 ^ suc level)) =
      link_kept dig size h places ps kept at level some (omega (arith, n_is, pow_pos level))
      (level_fits (n + 1) level (omega arith) (omega (arith, short)) lower)
      ∙ ap (λ (i : ℕ). Is (link_to dig h places i)) (next_level (n + 1) level (omega arith) (omega (arith, short))
      lower) in
      is_on (link_in ps (link_to dig h places at).page at level) (links_on ps (n + 1) more (suc level)
      (links_to dig h places (n + 1) (suc level))) (link_to dig h places (n + 1 - 2 ^ suc level)) own
      ∙ links_kept more (suc level) (omega (arith, l))
      ∙ ap (λ (k : ℕ). Is (links_to dig h places (n + 1) (suc k))) (let e : suc level + more ≡ level + suc more =
      omega arith in e)

  pub all_kept : all_links ps (n + 1) (link_to dig h places n) ≡ Is
      (links_to dig h places (n + 1) (suc (top_level (n + 1))))
  unfolding links_to
  all_kept =
      ap (λ (i : ℕ). all_links ps (n + 1) (link_to dig h places i)) (let e : n ≡ n + 1 - 1 = omega arith in e)
      ∙ links_kept (top_level (n + 1)) 0 (omega arith)
      ∙ ap (λ (k : ℕ). Is (links_to dig h places (n + 1) (suc k))) (let e : 0 + top_level (n + 1) ≡ top_level (n + 1) =
      omega arith in e)

-- ---- the step that was put

-- it is found behind the pages, and where its archive is that of the longer history, they keep that under its head
pub record Grown (dig : List ℕ → List ℕ) (ps : Image) (h : History) (head : Head) (places : List Place)
    (content : Content) (archive : Root) (time : Option ℕ) : Type 0 where
  pub more : Image
  pub new : Head
  pub is : appended dig ps head content archive time ≡ Is (record { pages = ps ++ more; value = new })
  pub keeps : MayBeKept (bare_step content time) → archive.page < 4 + length ps → 4 + length ps < 2 ^ 47
      → (s : Step) → s.content ≡ content → s.time ≡ time → archive.label ≡ tree_label dig
      (tree (plus h s) (suc (length h.steps)))
      → (longer : Keeps dig (ps ++ more) (plus h s) new) × GoOn places longer.places (length h.steps) archive.page

module _ (dig : List ℕ → List ℕ) (size : (text : List ℕ) → IsDigest (dig text)) (ps : Image) (h : History) (head : Head)
    (keeps : Keeps dig ps h head)
    (content : Content) (archive : Root) (time : Option ℕ) (short : head.step < LAST_STEP) where
  abbrev n : ℕ
  n = length h.steps

  abbrev new_parts : NewStep
  new_parts = new_step dig content archive time

  abbrev bytes : List ℕ
  bytes = stream (appended_events content)

  abbrev places : List Place
  places = keeps.places

  abbrev links : List StepRef
  links = links_to dig h places (head.step + 1) (suc (top_level (head.step + 1)))

  abbrev next : Next Head
  next = next_of dig ps head new_parts links

  abbrev new_label : List ℕ
  new_label = dig (authenticator_text (head.step + 1) (new_labels dig ps head new_parts links))

  abbrev f : StepFields
  f = new_fields ps new_parts new_label

  next_is : head.step + 1 ≡ suc n
  next_is = omega (arith, keeps.step)

  links_found : next_links ps head ≡ Is links
  links_found =
      ap (λ (first : StepRef). all_links ps (head.step + 1) first) (first_is dig size ps h head keeps) ∙ all_kept dig
      size h places ps keeps.keeps head.step keeps.step short

  is_next : appended dig ps head content archive time ≡ Is next
  unfolding put_behind
  is_next = is_on (next_links ps head) (λ links. Is (next_of dig ps head new_parts links)) links links_found

  abbrev place : Place
  place = record { page = next.value.page; first = first_page ps (length bytes); archive = archive.page }

  abbrev more_places : List Place
  more_places = places ++ place ∷ []

  links_of : links ≡ links_at dig h places (suc n)
  links_of = ap (λ (i : ℕ). links_to dig h places i (suc (top_level i))) next_is

  no_first : length bytes ≡ 0 → first_page ps (length bytes) ≡ 0
  no_first none = ap (λ (b : Bool). if b then 0 else 4 + length ps) (eq-eqb (length bytes) 0 none)

  some_first : 0 < length bytes → first_page ps (length bytes) ≡ 4 + length ps
  some_first some = ap (λ (b : Bool). if b then 0 else 4 + length ps)
      (ne_eqb (length bytes) 0 (λ none. omega (arith, none, some)))

  few : MayBeKept (bare_step content time) → piece_count (length bytes) ≤ 18
  few may =
      let sum = length-stream (appended_events content) in
      let limits : MayRecord (appended_events content) = may_record (Some (bare_step content time)) may in
      omega (arith, sum, limits.are.count, limits.fit)

  abbrev page : List ℕ
  page = step_page_bytes (suc n) f links

  abbrev pieces : Image
  pieces = event_pages (suc n) bytes (piece_count (length bytes))

  -- a step of this content and time, where the archive is that of the longer history
  module _ (may : MayBeKept (bare_step content time)) (low : archive.page < 4 + length ps)
      (room : 4 + length ps < 2 ^ 47)
      (s : Step) (content_is : s.content ≡ content) (time_is : s.time ≡ time) (archived : archive.label ≡ tree_label dig
      (tree (plus h s) (suc n))) where
    abbrev longer : History
    longer = plus h s

    here : place_of_step more_places (suc n) ≡ place
    here = place_of-new dig h places s place keeps.keeps.count

    same_events : appended_events content ≡ events_at longer (suc n)
    same_events = ap appended_events (sym content_is) ∙ ap events_of (sym (step_at-new h s))

    same_thread : appended_thread content ≡ thread_of (step_at longer (suc n))
    same_thread = ap appended_thread (sym content_is) ∙ ap thread_of (sym (step_at-new h s))

    same_time : time ≡ time_at longer (suc n)
    same_time = sym time_is ∙ ap time_of (sym (step_at-new h s))

    abbrev datum : List ℕ
    datum = dig (step_datum_text (event_root dig (appended_events content)) archive.label
        (length (appended_events content)) time)

    datum_of : datum ≡ dig (datum_text_at dig longer (suc n))
    unfolding datum_text_at
    datum_of =
        (λ j. dig (step_datum_text (event_root dig (same_events j)) (archived j) (length (same_events j))
        (same_time j)))

    auths_of : auths dig h n ≡ auths dig longer n
    auths_of = sym (auths-plus h s dig n (omega arith))

    label_of : new_label ≡ auth dig longer (suc n)
    label_of =
        (λ j. dig (authenticator_text (next_is j) (page_labels dig (next_is j) datum (links_to dig h places (next_is j)
        (suc (top_level (next_is j)))) (length (links_to dig h places (next_is j) (suc (top_level (next_is j))))))))
        ∙ ap (λ (m : ℕ). dig (authenticator_text (suc n) (page_labels dig (suc n) datum (links_at dig h places (suc n))
        m))) (length-links_to dig size h places (suc n) (suc (top_level (suc n))))
        ∙ ap (λ (ls : List (List ℕ)). dig (authenticator_text (suc n) ls)) (labels_to dig size h places ps keeps.keeps n
        datum (suc (top_level (suc n))) (omega arith))
        ∙ (λ j. dig
        (authenticator_text (suc n)
        (map dig (link_texts dig (datum_of j) (auths_of j) (suc n) (suc (top_level (suc n)))))))
        ∙ sym (auth-suc dig longer n)

    fields_of : f ≡ fields_at dig longer more_places (suc n)
    fields_of =
        (λ j. record {
          count = length (same_events j);
          stream = record { page = (ap (λ (p : Place). p.first) (sym here)) j; size = length (stream (same_events j)) };
          event_root = event_root dig (same_events j);
          archive = record { page = (ap (λ (p : Place). p.archive) (sym here)) j; label = archived j };
          received = same_thread j;
          auth = label_of j;
          time = same_time j;
        })

    may_be : MayBeKept s
    may_be = record {
      content = subst IsWithinLimits (sym content_is) may.content;
      together = subst (λ (c : Content). FitTogether (appended_events c)) (sym content_is) may.together;
      time = subst IsTimeWithinLimits (sym time_is) may.time;
    }

    -- the stream of the step
    abbrev own : List ℕ
    own = stream (events_of (Some s))

    own_is : bytes ≡ own
    own_is = ap (λ (c : Content). stream (appended_events c)) (sym content_is)

    put_keeps : (kept : Keeps dig (ps ++ (pieces ++ page ∷ [])) longer next.value) × GoOn places kept.places n
        archive.page
    put_keeps =
        let longer_is : length longer.steps ≡ suc n = length_push h.steps s ∙ omega arith in
        let under = below_head dig ps h places keeps.keeps in
        let lengths : length bytes ≡ length own = ap length own_is in
        let pieces_are : event_pages (suc n) own (piece_count (length bytes)) ≡ pieces =
        ap (λ (b : List ℕ). event_pages (suc n) b (piece_count (length bytes))) (sym own_is) in
        let all : length own ≤ MOST_PIECE_BYTES * piece_count (length bytes) =
        subst (λ (m : ℕ). m ≤ MOST_PIECE_BYTES * piece_count (length bytes)) lengths (count_all (length bytes)) in
        let kept = KeepsSteps-plus dig ps h places s archive.page keeps.keeps (omega (arith, short, keeps.step)) may_be
        (piece_count (length bytes)) place.first place.page all
        (λ none. no_first (lengths ∙ none)) (λ some. some_first (omega (arith, some, lengths))) refl
        (omega (arith, room, few may)) (omega (arith, under)) (omega (arith, low)) f links fields_of links_of in
        let there = subst (λ (x : Image). KeepsSteps dig ((ps ++ x) ++ page ∷ []) longer more_places) pieces_are
        kept in (
          record {
            places = more_places;
            keeps = subst (λ (x : Image). KeepsSteps dig x longer more_places) (append_assoc ps pieces (page ∷ []))
                there;
            step = next_is ∙ sym longer_is;
            auth = label_of ∙ ap (λ (i : ℕ). auth dig longer i) (sym longer_is);
            page = ap (λ (p : Place). p.page) (sym here) ∙ ap (λ (i : ℕ). (place_of_step more_places i).page)
                (sym longer_is);
          },
          record {
            before = λ i l. place_of-plus dig h places s place keeps.keeps.count i l;
            new = ap (λ (p : Place). p.archive) here;
          },
        )

  pub grown : Grown dig ps h head keeps.places content archive time
  grown = record {
    more = pieces ++ page ∷ [];
    new = next.value;
    is = is_next
        ∙ (λ j. Is
        (record {
          pages = (ps ++ event_pages (next_is j) bytes (piece_count (length bytes))) ++ step_page_bytes (next_is j) f
              links ∷ [];
          value = next.value;
        }))
        ∙ ap (λ (x : Image). Is (record { pages = x; value = next.value })) (append_assoc ps pieces (page ∷ []));
    keeps = put_keeps;
  }
