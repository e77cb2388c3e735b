-- The map files of two services are accepted together, and tell the bounds of their histories.
use Rattle.std.proofs.Common.{◌≡◌, ℕ, ◌-◌, ◌<◌, ◌≤◌, List, [], ◌∷◌, length, refl, sym, ap, ◌∙◌, subst, arith}
use Rattle.std.specs.Prelude.{true, Option, Some, None, IsSome, IfSome, MatchOption, ◌==◌, ◌&&◌}
use Rattle.std.specs.Option.{option_map, option_map_or}
use Rattle.std.specs.Str.{bytes_eq}
use Rattle.std.proofs.lemmas.Bool.{and_from, eq-eqb}
use Rattle.std.proofs.lemmas.Slice.Eq.{bytes_eq-Decides}
use Rattle.tw_base.specs.declared.history.thread.Thread.{Thread}
use Rattle.tw_base.specs.declared.history.tree_proof.Ask.{Ask}
use Rattle.tw_base.specs.declared.history.tree_proof.TreeProof.{TreeProof}
use Rattle.tw_base.specs.history.Anchors.{anchor_of}
use Rattle.tw_base.specs.history.History.{History, received}
use Rattle.tw_base.specs.history.Sound.{IsSound}
use Rattle.tw_base.specs.history.Tree.{entries, tree}
use Rattle.tw_base.specs.kinds.Lists.{Each}
use Rattle.tw_base.proofs.lemmas.history.Trees.{tree-rises}
use Rattle.tw_base.proofs.lemmas.kinds.ListLemmas.{Each-append}
use Rattle.tw_base.specs.history.TreeProofs.{IsSo, ancestors_of, proof_of}
use Rattle.tw_base.specs.history.Ways.{is_left, nearest_left, nearest_right}
use Rattle.tw_skipproof.specs.declared.existence.Part.{Part}
use Rattle.tw_skipproof.specs.Acceptance.{Reaches}
use Rattle.tw_skipproof.specs.HistoryProofs.{IsPartOfHistory}
use Rattle.tw_skipproof.proofs.PartOf.{reaches-made}
use Rattle.tw_treeproof.specs.Answers.{Checks, IsAnswer, shown_answer}
use Rattle.tw_treeproof.proofs.OwnProofs.{own-answers, own-checks}
use Rattle.tw_chain.specs.Checks.{under_anchor}
use Rattle.tw_chain.specs.Checks.Check.{AnswerOf, NeedsAnchor}
use Rattle.tw_chain.specs.Passing.{Passes}
use Rattle.tw_tmap.specs.declared.map_file.HighFile.{HighFile}
use Rattle.tw_tmap.specs.declared.map_file.LowFile.{LowFile}
use Rattle.tw_tmap.specs.declared.map_file.LowPart.{LowPart}
use Rattle.tw_tmap.specs.declared.map_verdict.MapVerdict.TheVariants.{Yes}
use Rattle.tw_tmap.specs.Bounds.{greatest_step, high_bound, low_bound}
use Rattle.tw_tmap.specs.Checking.{before_checks, before_told, fit, high_ask, high_checks, high_part, high_told}
use Rattle.tw_tmap.specs.Checking.{low_ask, low_checks, low_file_part, low_told}
use Rattle.tw_tmap.specs.OwnFiles.{IsAnchoredAt, IsOwnHigh, IsOwnLow, OwnAreAccepted}
use Rattle.tw_tmap.proofs.Bounded.{high-is, low-is}
use Rattle.tw_tmap.proofs.MapBinds.{received-small}
use Rattle.tw_tmap.proofs.MapChecks.{accepted-yes}

module _ (dig : List ℕ → List ℕ) (anchors : List Thread) where
  -- the anchor of a file's service and top
  anchor-at : (h : History) (top : ℕ) (service : List ℕ) (step : ℕ) (held : IsAnchoredAt dig anchors h top)
      → service ≡ h.name → step ≡ top
      → anchor_of anchors service step ≡ Some held.0
  anchor-at h top service step held named at = (λ k. anchor_of anchors (named k) (at k)) ∙ held.1

  part-passes : (n : ℕ) (h : History) (step top : ℕ) (at : Part) → IsPartOfHistory dig h step top at → 0 < step
      → step ≤ top → IsAnchoredAt dig anchors h top
      → Each (Passes dig anchors) (under_anchor n at)
  part-passes n h step top at is from_1 order held =
      let anchor : Thread = held.0 in
      let there = anchor-at h top at.service at.top held is.service is.at_top in
      let reaches : Reaches dig at anchor.auth = subst (Reaches dig at) (sym held.2)
      (reaches-made dig h step top at is from_1 order) in (
        omega (arith, order, is.at_step, is.at_top),
        (
          subst IsSome (sym there) refl,
          (
            subst (λ (o : Option Thread). IfSome (option_map (λ (t : Thread). t.auth) o) (Reaches dig at)) (sym there)
                reaches,
            tt,
          ),
        ),
      )

  own-shown : (h : History) → IsSound h → (step top : ℕ) (at : Part) (asked : Ask) (shown : TreeProof)
      → IsPartOfHistory dig h step top at → IsSo (entries (tree h step)) asked
      → shown ≡ proof_of dig (tree h step) asked → Checks dig at.opening.archive_root asked shown
  own-shown h sound step top at asked shown is so e =
      subst (Checks dig at.opening.archive_root asked) (sym e)
      (subst (λ root. Checks dig root asked (proof_of dig (tree h step) asked)) is.opening.binds.archive_root
      (own-checks dig (tree h step) asked (tree-rises h sound step) so))

  answered : (h : History) → IsSound h → (step : ℕ) (asked : Ask) (shown : TreeProof) → IsSo (entries (tree h step))
      asked → shown ≡ proof_of dig (tree h step) asked
      → IsAnswer (entries (tree h step)) asked (shown_answer asked (ancestors_of shown))
  answered h sound step asked shown so e =
      subst (λ (p : TreeProof). IsAnswer (entries (tree h step)) asked (shown_answer asked (ancestors_of p))) (sym e)
      (own-answers dig (tree h step) asked (tree-rises h sound step) so)

  -- ---- the low file

  module _ (h : History) (sound : IsSound h) (step : ℕ) (peer : List ℕ) (top : ℕ) (some : 0 < step) (order : step ≤ top)
      (within : top ≤ length h.steps) (f : LowFile)
      (is : IsOwnLow dig h step peer top f) (held : IsAnchoredAt dig anchors h top) where
    abbrev Shown : Option LowPart → Type 0
    Shown o = MatchOption o (step ≡ 1) (λ p. (1 < step) × IsPartOfHistory dig h (step - 1) top (low_file_part f p)
        × (p.shown ≡ proof_of dig (tree h (step - 1)) (low_ask f)))

    ordered : f.step ≤ f.top
    ordered = omega (arith, order, is.at_step, is.at_top)

    low-passes : Each (Passes dig anchors) (low_checks f)
    low-passes = (ordered, by f.shown is.shown)
      where
        by : (o : Option LowPart) → Shown o → Each (Passes dig anchors)
            (option_map_or (before_checks f) o (NeedsAnchor (record { from = f.service; step = f.top }) ∷ []))
        by None first = (subst IsSome (sym (anchor-at h top f.service f.top held is.service is.at_top)) refl, tt)
        by (Some p) later =
            Each-append (Passes dig anchors) (under_anchor 0 (low_file_part f p))
            (AnswerOf 0 p.opening.archive_root (low_ask f) p.shown ∷ [])
            (part-passes 0 h (step - 1) top (low_file_part f p) later.1 (omega (arith, later.0)) (omega (arith, order))
            held)
            (own-shown h sound (step - 1) top (low_file_part f p) (low_ask f) p.shown later.1 tt later.2, tt)

    low-own : low_told f ≡ low_bound h step peer
    unfolding received
    low-own = by f.shown is.shown
      where
        by : (o : Option LowPart) → Shown o → option_map_or (before_told f) o 0 ≡ low_bound h step peer
        by None first = ap (λ (n : ℕ). low_bound h n peer) (sym first)
        by (Some p) later =
            low-is h sound (step - 1) (omega (arith, order, within)) f.peer
            (nearest_right (is_left (low_ask f)) (ancestors_of p.shown))
            (received-small h sound (step - 1) (omega (arith, order, within))) (answered h sound (step - 1) (low_ask f)
            p.shown tt later.2)
            ∙ ap (λ (name : List ℕ). greatest_step name (received h (step - 1))) is.of_peer

  -- ---- the high file

  module _ (h : History) (sound : IsSound h) (top : ℕ) (service : List ℕ) (step : ℕ) (some : 0 < step)
      (from_1 : 0 < top) (within : top ≤ length h.steps) (f : HighFile)
      (is : IsOwnHigh dig h top service step f) (held : IsAnchoredAt dig anchors h top) where
    part-is : IsPartOfHistory dig h top top (high_part f)
    part-is =
        record {
          service = is.of_peer;
          at_step = is.at_top;
          at_top = is.at_top;
          path = omega arith;
          opening = is.opening;
        }

    high-passes : Each (Passes dig anchors) (high_checks f)
    high-passes =
        Each-append (Passes dig anchors) (under_anchor 1 (high_part f)) (AnswerOf 1 f.opening.archive_root (high_ask f)
        f.shown ∷ [])
        (part-passes 1 h top top (high_part f) part-is from_1 (omega arith) held)
        (own-shown h sound top top (high_part f) (high_ask f) f.shown part-is tt is.shown, tt)

    high-own : high_told f ≡ high_bound h service step top
    high-own =
        high-is h sound top within f.peer f.step (nearest_left (is_left (high_ask f)) (ancestors_of f.shown))
        (omega (arith, some, is.at_step))
        (answered h sound top (high_ask f) f.shown tt is.shown)
        ∙ ap (λ (name : List ℕ). high_bound h name f.step top) is.of_service
        ∙ ap (λ (n : ℕ). high_bound h service n top) is.at_step

pub own-accepted : (dig : List ℕ → List ℕ) → OwnAreAccepted dig
own-accepted dig own other step top upto low high anchors own_sound other_sound some order within from_1 upto_within
    is_low is_high own_held other_held =
    let names : bytes_eq low.service high.peer ≡ true = (bytes_eq-Decides low.service high.peer).1
    (is_low.service ∙ sym is_high.of_service) in
    let steps : (low.step == high.step) ≡ true = eq-eqb low.step high.step (is_low.at_step ∙ sym is_high.at_step) in
    let peers : bytes_eq low.peer high.service ≡ true = (bytes_eq-Decides low.peer high.service).1
    (is_low.of_peer ∙ sym is_high.of_peer) in
    let fits : fit low high ≡ true =
    and_from (bytes_eq low.service high.peer) (low.step == high.step && bytes_eq low.peer high.service) names
    (and_from (low.step == high.step) (bytes_eq low.peer high.service) steps peers) in
    let low_is = low-own dig anchors own own_sound step other.name top some order within low is_low own_held in
    let high_is = high-own dig anchors other other_sound upto own.name step some from_1 upto_within high is_high
    other_held in
    accepted-yes dig anchors low high (
      fits,
      Each-append (Passes dig anchors) (low_checks low) (high_checks high) (low-passes dig anchors own own_sound step
          other.name top some order within low is_low own_held)
          (high-passes dig anchors other other_sound upto own.name step some from_1 upto_within high is_high
          other_held),
    )
    ∙ (λ k. Yes (low_is k) (high_is k) (is_high.at_top k))
