-- Pages that keep a history keep the one with one more step, with that step's pages behind them.
use Rattle.std.proofs.Common.{◌≡◌, ℕ, suc, zero, ◌+◌, ◌-◌, ◌*◌, ◌^◌, ◌<◌, ◌≤◌, List, [], ◌∷◌, ◌++◌, length, refl, ap}
use Rattle.std.proofs.Common.{sym, ◌∙◌, arith, inl, inr, subst, length-append, Option, Some}
use Rattle.std.specs.Prelude.{IfSome}
use Rattle.std.proofs.lemmas.Bool.{cases_lt}
use Rattle.std.proofs.lemmas.List.{length_push, get_or_push, get_or_append_left, get_or-append_right}
use Rattle.std.proofs.lemmas.Nat.{pow_pos}
use Rattle.tw_disk.specs.Image.{Image, page_at}
use Rattle.tw_base.specs.declared.kinds.limits.TheConstants.{LAST_STEP}
use Rattle.tw_base.specs.events.EventTree.{event_root}
use Rattle.tw_base.specs.history.History.{History, Step, events_at, events_of, plus, thread_of, time_of}
use Rattle.tw_base.specs.kinds.Levels.{top_level}
use Rattle.tw_base.specs.history.Auth.{tree_label}
use Rattle.tw_base.proofs.lemmas.history.Plus.{auth-plus, step_at-new, step_at-plus, tree-plus}
use Rattle.tw_steppage.specs.declared.link.StepRef.{StepRef}
use Rattle.tw_steppage.specs.declared.fields.StepFields.{StepFields}
use Rattle.tw_skiplist.specs.Keeping.{KeepsStep, KeepsSteps, KeepsStream, MayBeKept, Place, fields_at, link_to}
use Rattle.tw_skiplist.specs.Keeping.{links_at, links_to, no_place, place_of_step}
use Rattle.tw_steppage.specs.StepBytes.{event_page_bytes, event_pages, piece, step_page_bytes, stream}
use Rattle.tw_skiplist.proofs.Growing.{KeepsStep-grows, has_bytes}
use Rattle.tw_skiplist.proofs.Streams.{length-event_pages, page_at-event_pages}
use Rattle.tw_steppage.specs.declared.limits.TheConstants.{MOST_PIECE_BYTES}

module _ (dig : List ℕ → List ℕ) (h : History) (places : List Place) (s : Step) (place : Place)
    (count : length places ≡ suc (length h.steps)) where
  abbrev longer : History
  longer = plus h s

  abbrev more : List Place
  more = places ++ place ∷ []

  pub place_of-plus : (i : ℕ) → i ≤ length h.steps → place_of_step more i ≡ place_of_step places i
  place_of-plus i l = get_or_append_left places (place ∷ []) no_place i (omega (arith, count))

  pub place_of-new : place_of_step more (suc (length h.steps)) ≡ place
  place_of-new = get_or_push places place no_place (suc (length h.steps)) count

  events_at-plus : (i : ℕ) → i ≤ length h.steps → events_at longer i ≡ events_at h i
  events_at-plus i l = ap events_of (step_at-plus h s i l)

  link_to-plus : (i : ℕ) → i ≤ length h.steps → link_to dig longer more i ≡ link_to dig h places i
  link_to-plus i l = (λ j. record { page = (place_of-plus i l j).page; auth = auth-plus h s dig i l j })

  pub links_to-plus : (i level : ℕ) → i ≤ suc (length h.steps) → links_to dig longer more i level ≡ links_to dig h
      places i level
  unfolding links_to
  links_to-plus i zero l = refl
  links_to-plus i (suc level) l =
      let power : 0 < 2 ^ level = pow_pos level in
      (λ j. links_to-plus i level l j ++ link_to-plus (i - 2 ^ level) (omega (arith, l, power)) j ∷ [])

  fields_at-plus : (i : ℕ) → i ≤ length h.steps → fields_at dig longer more i ≡ fields_at dig h places i
  fields_at-plus i l =
      let events = events_at-plus i l in
      let here = place_of-plus i l in
      let label = auth-plus h s dig i l in
      (λ j. record {
        count = length (events j);
        stream = record { page = (here j).first; size = length (stream (events j)) };
        event_root = event_root dig (events j);
        archive = record { page = (here j).archive; label = tree_label dig (tree-plus h s i l j) };
        received = thread_of (step_at-plus h s i l j);
        auth = label j;
        time = time_of (step_at-plus h s i l j);
      })

  pub KeepsStep-plus : (pages : Image) (i : ℕ) → suc i ≤ length h.steps → KeepsStep dig pages h places i
      → KeepsStep dig pages longer more i
  KeepsStep-plus pages i l k =
      let here : place_of_step places (suc i) ≡ place_of_step more (suc i) = sym (place_of-plus (suc i) l) in
      let before : place_of_step places i ≡ place_of_step more i = sym (place_of-plus i (omega (arith, l))) in
      let events : events_at h (suc i) ≡ events_at longer (suc i) = sym (events_at-plus (suc i) l) in
      record {
        may = subst (λ (o : Option Step). IfSome o MayBeKept) (sym (step_at-plus h s (suc i) l)) k.may;
        low = subst (λ (p : Place). 4 ≤ p.page) here k.low;
        rising = subst (λ (p : Place). p.page < (place_of_step more (suc i)).page) before
            (subst (λ (p : Place). (place_of_step places i).page < p.page) here k.rising);
        below = subst (λ (p : Place). p.page < 4 + length pages) here k.below;
        small = subst (λ (p : Place). p.page < 2 ^ 48) here k.small;
        archive = subst (λ (p : Place). p.archive < p.page) here k.archive;
        bytes = ap (λ (p : Place). page_at pages (p.page - 4)) (sym here) ∙ k.bytes
            ∙ (λ j. step_page_bytes (suc i) (sym (fields_at-plus (suc i) l) j)
            (sym (links_to-plus (suc i) (suc (top_level (suc i))) (omega (arith, l))) j));
        stream = subst (λ (p : Place). KeepsStream pages (suc i) p.first p.page (stream (events_at longer (suc i))))
            here
            (subst (λ (es : List (List ℕ)). KeepsStream pages (suc i) (place_of_step places (suc i)).first
            (place_of_step places (suc i)).page (stream es)) events k.stream);
      }

-- one more step, with its event pages and its step page
module _ (dig : List ℕ → List ℕ) (pages : Image) (h : History) (places : List Place) (s : Step) (archive : ℕ)
    (kept : KeepsSteps dig pages h places)
    (short : length h.steps < LAST_STEP) (may : MayBeKept s) (count first page : ℕ)
    (all : length (stream (events_of (Some s))) ≤ MOST_PIECE_BYTES * count)
    (none : length (stream (events_of (Some s))) ≡ 0 → first ≡ 0) (some : 0 < length (stream (events_of (Some s)))
    → first ≡ 4 + length pages)
    (page_is : page ≡ 4 + length pages + count) (small : page < 2 ^ 48)
    (rises : (place_of_step places (length h.steps)).page < page) (lower : archive < page) where
  abbrev n : ℕ
  n = length h.steps

  abbrev new_history : History
  new_history = plus h s

  abbrev events : List (List ℕ)
  events = events_of (Some s)

  abbrev place : Place
  place = record { page = page; first = first; archive = archive }

  abbrev new_places : List Place
  new_places = places ++ place ∷ []

  abbrev event_images : Image
  event_images = event_pages (suc n) (stream events) count

  module _ (f : StepFields) (links : List StepRef) (fields_are : f ≡ fields_at dig new_history new_places (suc n))
      (links_are : links ≡ links_at dig h places (suc n)) where
    abbrev last : List ℕ
    last = step_page_bytes (suc n) f links

    abbrev grown : Image
    grown = (pages ++ event_images) ++ last ∷ []

    before_last : length (pages ++ event_images) ≡ length pages + count
    before_last = omega (arith, length-append pages event_images, length-event_pages (suc n) (stream events) count)

    size : length grown ≡ suc (length pages + count)
    size = omega (arith, length_push (pages ++ event_images) last, before_last)

    -- the event pages in the grown list
    event_page_at : (number : ℕ) → number < count → page_at grown (length pages + number) ≡ event_page_bytes (suc n)
        number (piece (stream events) number)
    event_page_at number l =
        get_or_append_left (pages ++ event_images) (last ∷ []) [] (length pages + number)
        (omega (arith, before_last, l))
        ∙ get_or-append_right pages event_images (length pages) (length pages + number) [] refl (omega arith)
        ∙ ap (λ (k : ℕ). page_at event_images k) (let e : length pages + number - length pages ≡ number = omega arith in
        e)
        ∙ page_at-event_pages (suc n) (stream events) count number l

    within : (number : ℕ) → MOST_PIECE_BYTES * number < length (stream events) → number < count
    within number l = omega (arith, l, all)

    new_stream : KeepsStream grown (suc n) first page (stream events)
    new_stream = record {
      none = none;
      low = λ has. omega (arith, some has);
      below = λ number l. omega (arith, some (has_bytes number _ l), within number l, page_is);
      pieces = λ number l.
          let at = some (has_bytes number _ l) in
          ap (λ (k : ℕ). page_at grown k) (let e : first + number - 4 ≡ length pages + number = omega (arith, at) in e)
          ∙ event_page_at number (within number l);
    }

    new_step : KeepsStep dig grown new_history new_places n
    new_step =
        let here : place ≡ place_of_step new_places (suc n) = sym (place_of-new dig h places s place kept.count) in
        let before : place_of_step places n ≡ place_of_step new_places n =
        sym (place_of-plus dig h places s place kept.count n (omega arith)) in
        let same : events ≡ events_at new_history (suc n) = ap events_of (sym (step_at-new h s)) in
        record {
          may = subst (λ (o : Option Step). IfSome o MayBeKept) (sym (step_at-new h s)) may;
          low = subst (λ (p : Place). 4 ≤ p.page) here (omega (arith, page_is));
          rising = subst (λ (p : Place). p.page < (place_of_step new_places (suc n)).page) before
              (subst (λ (p : Place). (place_of_step places n).page < p.page) here rises);
          below = subst (λ (p : Place). p.page < 4 + length grown) here (omega (arith, size, page_is));
          small = subst (λ (p : Place). p.page < 2 ^ 48) here small;
          archive = subst (λ (p : Place). p.archive < p.page) here lower;
          bytes = ap (λ (p : Place). page_at grown (p.page - 4)) (sym here)
              ∙ get_or_push (pages ++ event_images) last [] (page - 4) (omega (arith, before_last, page_is))
              ∙ (λ j. step_page_bytes (suc n) (fields_are j)
              ((links_are ∙ sym (links_to-plus dig h places s place kept.count (suc n) (suc (top_level (suc n)))
              (omega arith))) j));
          stream = subst (λ (p : Place). KeepsStream grown (suc n) p.first p.page
              (stream (events_at new_history (suc n)))) here
              (subst (λ (es : List (List ℕ)). KeepsStream grown (suc n) first page (stream es)) same new_stream);
        }

    pub KeepsSteps-plus : KeepsSteps dig grown new_history new_places
    KeepsSteps-plus = record {
      count = omega (arith, length_push places place, kept.count, length_push h.steps s);
      nowhere = place_of-plus dig h places s place kept.count 0 (omega arith) ∙ kept.nowhere;
      short = omega (arith, short, length_push h.steps s);
      steps = λ i l. elim (cases_lt i n) [
        | inl less ↦ KeepsStep-plus dig h places s place kept.count grown i (omega (arith, less))
            (KeepsStep-grows dig (pages ++ event_images) (last ∷ []) h places i
            (KeepsStep-grows dig pages event_images h places i (kept.steps i less)))
        | inr past ↦ (
            let e : n ≡ i = omega (arith, l, past, length_push h.steps s) in
            subst (λ (k : ℕ). KeepsStep dig grown new_history new_places k) e new_step)
      ];
    }
