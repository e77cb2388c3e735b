-- What the pages of a history's steps are, and where their links lead.
use Rattle.std.proofs.Common.{◌≡◌, ℕ, suc, zero, ◌+◌, ◌-◌, ◌^◌, ◌%◌, ◌<◌, ◌≤◌, List, [], ◌∷◌, length, get_or, refl, ap}
use Rattle.std.proofs.Common.{sym, ◌∙◌, arith, inl, inr, subst, lit<, Bool, true}
use Rattle.std.specs.Prelude.{◌==◌}
use Rattle.std.proofs.lemmas.Bool.{cases_lt, lt-ltb}
use Rattle.std.proofs.lemmas.List.{length_push, get_or_push, get_or_append_left}
use Rattle.std.proofs.lemmas.Nat.{pow_pos}
use Rattle.std.proofs.Math.Nat.{pow-le-pow_right, mod-eq_of_lt}
use Rattle.tw_disk.specs.Image.{Image, page_at}
use Rattle.tw_base.specs.history.Auth.{auth}
use Rattle.tw_base.specs.history.History.{History, events_at, step_at, thread_of, time_at}
use Rattle.tw_base.specs.events.EventTree.{event_root}
use Rattle.tw_base.specs.kinds.Lists.{Each}
use Rattle.tw_base.specs.kinds.Levels.{top_level}
use Rattle.tw_base.specs.history.Tree.{tree}
use Rattle.tw_base.proofs.lemmas.kinds.DigestBytes.{IsDigest, auth-digest, event_root-digest, tree_label-digest}
use Rattle.tw_base.proofs.lemmas.kinds.Levels.{top_level-divides}
use Rattle.tw_base.proofs.lemmas.kinds.ListLemmas.{Each-append}
use Rattle.tw_steppage.specs.declared.link.StepRef.{StepRef}
use Rattle.tw_steppage.specs.declared.fields.StepFields.{StepFields}
use Rattle.tw_skiplist.specs.Keeping.{KeepsStep, KeepsSteps, Place, archive_at, fields_at, link_to, links_at, links_to}
use Rattle.tw_skiplist.specs.Keeping.{place_of_step}
use Rattle.tw_steppage.specs.StepBytes.{paged_codec, ref_codec, stream}
use Rattle.tw_disk.specs.Found.{Found, when, ◌>>=◌, spelled}
use Rattle.tw_disk.specs.Found.Found.{Is}
use Rattle.tw_steppage.specs.StepPages.{lies_below, link_at_level, no_ref}
use Rattle.tw_skiplist.specs.StepPagesRead.{step_in, page_of_step}
use Rattle.tw_skiplist.specs.Walks.{link_in}
use Rattle.tw_disk.proofs.FoundLaws.{is_on, bytes_in-within}
use Rattle.tw_disk.proofs.SpelledLaws.{page-is}
use Rattle.tw_skiplist.proofs.Contents.{may_count, may_time}
use Rattle.tw_steppage.proofs.Rules.{below_where, both_true, link_rules-all}
use Rattle.tw_steppage.proofs.StepCodecs.{ref-fits, step-fits, step-lawful}

-- ---- powers

-- a level of a step has a power of at most the step
pub power-le : (s level : ℕ) → 0 < s → s < 2 ^ 40 → level ≤ top_level s → 2 ^ level ≤ s
power-le s level p q l =
    let up : 2 ^ level ≤ 2 ^ top_level s = pow-le-pow_right (lit< tt) l in
    elim (cases_lt s (2 ^ top_level s)) [
      | inl less ↦ (
          let rest = top_level-divides s p (omega (arith, q)) in
          let same : s % 2 ^ top_level s ≡ s = mod-eq_of_lt less in
          absurd (omega (arith, rest, same, p)))
      | inr more ↦ omega (arith, up, more)
    ]

-- ---- the links of a history's steps

module _ (dig : List ℕ → List ℕ) (size : (text : List ℕ) → IsDigest (dig text)) (h : History)
    (places : List Place) where
  pub length-links_to : (i count : ℕ) → length (links_to dig h places i count) ≡ count
  unfolding links_to
  length-links_to i zero = refl
  length-links_to i (suc level) = length_push (links_to dig h places i level) _ ∙ omega (arith, length-links_to i level)

  pub get_or-links_to : (d : StepRef) (i count j : ℕ) → j < count → get_or (links_to dig h places i count) j d ≡ link_to
      dig h places (i - 2 ^ j)
  unfolding links_to
  get_or-links_to d i zero j l = absurd (omega arith)
  get_or-links_to d i (suc level) j l =
      elim (cases_lt j level) [
        | inl less ↦ get_or_append_left (links_to dig h places i level) _ d j
            (omega (arith, less, length-links_to i level)) ∙ get_or-links_to d i level j less
        | inr more ↦ (
            let e : level ≡ j = omega (arith, l, more) in
            get_or_push (links_to dig h places i level) (link_to dig h places (i - 2 ^ level)) d j
            (length-links_to i level ∙ e)
            ∙ ap (λ (k : ℕ). link_to dig h places (i - 2 ^ k)) e)
      ]

  module _ (ps : Image) (kept : KeepsSteps dig ps h places) where
    abbrev page : ℕ → ℕ
    page i = (place_of_step places i).page

    -- a later step has a greater page
    rises_by : (i d : ℕ) → i + suc d ≤ length h.steps → page i < page (i + suc d)
    rises_by i zero l =
        let e : suc i ≡ i + 1 = omega arith in
        subst (λ (k : ℕ). page i < page k) e (kept.steps i (omega (arith, l))).rising
    rises_by i (suc d) l =
        let before = rises_by i d (omega (arith, l)) in
        let next = (kept.steps (i + suc d) (omega (arith, l))).rising in
        let e : suc (i + suc d) ≡ i + suc (suc d) = omega arith in
        subst (λ (k : ℕ). page i < page k) e (omega (arith, before, next))

    pub rises : (i j : ℕ) → i < j → j ≤ length h.steps → page i < page j
    rises i j less l =
        let e : i + suc (j - suc i) ≡ j = omega (arith, less) in
        subst (λ (k : ℕ). page i < page k) e (rises_by i (j - suc i) (omega (arith, e, l)))

    pub small_page : (i : ℕ) → i ≤ length h.steps → page i < 2 ^ 48
    small_page zero l = subst (λ (q : Place). q.page < 2 ^ 48) (sym kept.nowhere) (omega arith)
    small_page (suc k) l = (kept.steps k (omega (arith, l))).small

    -- ---- the page of a step

    auth-is : (i : ℕ) → IsDigest (auth dig h i)
    auth-is = auth-digest dig (λ t. (size t).0) (λ t. (size t).1) h

    links-fit : (i count : ℕ) → i ≤ length h.steps → Each ref_codec.Fits (links_to dig h places i count)
    unfolding links_to
    links-fit i zero l = tt
    links-fit i (suc level) l =
        Each-append ref_codec.Fits (links_to dig h places i level) (link_to dig h places (i - 2 ^ level) ∷ [])
        (links-fit i level l) (
          ref-fits (link_to dig h places (i - 2 ^ level)) (omega (arith, small_page (i - 2 ^ level) (omega (arith, l))))
              (auth-is (i - 2 ^ level)),
          tt,
        )

    first_below : (k : ℕ) → (s : KeepsStep dig ps h places k) → (place_of_step places (suc k)).first < page (suc k)
    first_below k s =
        elim (cases_lt 0 (length (stream (events_at h (suc k))))) [
          | inl some ↦ (let under = s.stream.below 0 (omega (arith, some)) in omega (arith, under))
          | inr none ↦ (let zero_first = s.stream.none (omega (arith, none)) in omega (arith, zero_first, s.low))
        ]

    -- a step whose first event page is 0 has no bytes
    no_bytes : (k : ℕ) → (s : KeepsStep dig ps h places k) → (place_of_step places (suc k)).first ≡ 0
        → length (stream (events_at h (suc k))) ≡ 0
    no_bytes k s none =
        elim (cases_lt 0 (length (stream (events_at h (suc k))))) [
          | inl some ↦ (let low = s.stream.low some in absurd (omega (arith, low, none)))
          | inr few ↦ omega (arith, few)
        ]

    -- only step 0 has page 0
    no_page : (i : ℕ) → i ≤ length h.steps → page i ≡ 0 → i ≡ 0
    no_page zero l none = refl
    no_page (suc k) l none = absurd (omega (arith, (kept.steps k (omega (arith, l))).low, none))

    link_rule : (k level : ℕ) → k < length h.steps → level < suc (top_level (suc k)) → lies_below (suc k == 2 ^ level)
        (link_at_level (links_at dig h places (suc k)) level).page (page (suc k)) ≡ true
    link_rule k level l within =
        let at = ap (λ (x : StepRef). x.page) (get_or-links_to no_ref (suc k) (suc (top_level (suc k))) level within) in
        let some = pow_pos level in
        let within_step = power-le (suc k) level (omega arith) (omega (arith, l, kept.short)) (omega (arith, within)) in
        below_where (suc k) (2 ^ level) (link_at_level (links_at dig h places (suc k)) level).page (page (suc k))
        (omega (arith, at, rises (suc k - 2 ^ level) (suc k) (omega (arith, some)) (omega (arith, l))))
        (λ same.
        let none : suc k - 2 ^ level ≡ 0 = omega (arith, same) in
        at ∙ ap (λ (i : ℕ). page i) none ∙ ap (λ (p : Place). p.page) kept.nowhere)
        (λ none.
        let first : suc k - 2 ^ level ≡ 0 = no_page (suc k - 2 ^ level) (omega (arith, l)) (sym at ∙ none) in
        omega (arith, first, within_step))

    page-fits : (k : ℕ) → k < length h.steps → KeepsStep dig ps h places k → (paged_codec (suc k)).Fits
        (fields_at dig h places (suc k), links_at dig h places (suc k))
    page-fits k l s =
        step-fits (suc k) (length (events_at h (suc k)))
        (record { page = (place_of_step places (suc k)).first; size = length (stream (events_at h (suc k))) })
        (event_root dig (events_at h (suc k)))
        (archive_at dig h places (suc k)) (auth dig h (suc k)) (links_at dig h places (suc k)) (time_at h (suc k))
        (thread_of (step_at h (suc k)))
        (may_count (step_at h (suc k)) (place_of_step places (suc k)).first s.may s.stream.none
        (omega (arith, first_below k s, s.small)))
        (event_root-digest dig (λ t. (size t).0) (λ t. (size t).1) (events_at h (suc k)))
        (tree_label-digest dig (λ t. (size t).0) (λ t. (size t).1) (tree h (suc k))) (omega (arith, s.archive, s.small))
        (auth-is (suc k))
        (may_time (step_at h (suc k)) s.may) (length-links_to (suc k) (suc (top_level (suc k))))
        (links-fit (suc k) (suc (top_level (suc k))) (omega (arith, l)))

    -- a step's page is the page of that step
    pub kept_page : (k : ℕ) → k < length h.steps → page_of_step ps (page (suc k)) (suc k) ≡ Is
        (fields_at dig h places (suc k), links_at dig h places (suc k))
    unfolding page_of_step step_in
    kept_page k l =
        let s = kept.steps k l in
        let f : StepFields = fields_at dig h places (suc k) in
        let links : List StepRef = links_at dig h places (suc k) in
        let fields = both_true _ _ (below_where f.stream.size 0 f.stream.page (page (suc k)) (first_below k s)
        s.stream.none (no_bytes k s)) (lt-ltb f.archive.page (page (suc k)) s.archive) in
        let rules = link_rules-all (page (suc k)) (suc k) links (length links)
        (λ level under. link_rule k level l (omega (arith, under, length-links_to (suc k) (suc (top_level (suc k))))))
        in
        ap (λ (b : Found (List ℕ)). b >>= step_in (page (suc k)) (suc k)) (bytes_in-within ps (page (suc k)) s.low
        s.below)
        ∙ is_on (spelled (page (suc k)) 4096 (paged_codec (suc k)) (page_at ps (page (suc k) - 4))) _ (f, links)
        (page-is (page (suc k)) (paged_codec (suc k)) (step-lawful (suc k)) (page_at ps (page (suc k) - 4)) (f, links)
        (record { bytes = s.bytes; fits = page-fits k l s }))
        ∙ ap (λ (b : Bool). when b (page (suc k)) (f, links)) (both_true _ _ fields rules)

    -- where a link of it leads
    pub kept_link_in : (k level : ℕ) → k < length h.steps → level ≤ top_level (suc k) → link_in ps (page (suc k))
        (suc k) level ≡ Is (link_to dig h places (suc k - 2 ^ level))
    kept_link_in k level l fine =
        is_on (page_of_step ps (page (suc k)) (suc k)) (λ p. Is (link_at_level p.1 level))
        (fields_at dig h places (suc k), links_at dig h places (suc k)) (kept_page k l)
        ∙ ap (λ (link : StepRef). Is link) (get_or-links_to no_ref (suc k) (suc (top_level (suc k))) level
        (omega (arith, fine)))
