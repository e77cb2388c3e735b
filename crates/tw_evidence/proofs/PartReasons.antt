-- When each reason is told of evidence: against a proof that of the verdict on the proof by itself.
use Rattle.std.proofs.Common.{◌≡◌, ◌⊎◌, ℕ, List, refl, sym, ap, ◌∙◌, subst, arith, inl, inr}
use Rattle.std.specs.Prelude.{Bool, true, false, Option, Some, None, ◌==◌, not, nat_le, if◌then◌else◌}
use Rattle.std.specs.Bool.{Decides}
use Rattle.std.specs.Str.{bytes_eq}
use Rattle.std.proofs.lemmas.Bool.{and_cases, false_from_ne_true, leb-false, not-false, true_from_ne_false}
use Rattle.std.proofs.lemmas.Bool.Decides.{not_from_Decides}
use Rattle.std.proofs.lemmas.Slice.Eq.{bytes_eq-Decides}
use Rattle.tw_base.specs.declared.history.report.Reason.{Reason}
use Rattle.tw_base.specs.declared.history.report.Reason.TheVariants.{Malformed, BadOrder, NotHeld, BadPath, BadOpening}
use Rattle.tw_base.specs.declared.history.report.Reason.TheVariants.{BadEvent, BadTree, Carried}
use Rattle.tw_base.specs.declared.history.thread.Thread.{Thread}
use Rattle.tw_base.specs.format.Formats.{Spells}
use Rattle.tw_base.specs.history.Reasons.{IsNoHigher, reason_number}
use Rattle.tw_base.proofs.lemmas.format.FormatLaws.{one_value}
use Rattle.tw_skipproof.specs.Paths.{Climbs}
use Rattle.tw_chain.specs.declared.proof.Proof.{Proof}
use Rattle.tw_chain.specs.declared.proof.Proof.TheVariants.{Archived}
use Rattle.tw_chain.specs.declared.proof.ThreadProof.{ThreadProof}
use Rattle.tw_chain.specs.declared.verdict.Verdict.TheVariants.{No as Rejected}
use Rattle.tw_chain.specs.Accepting.{IsAccepted}
use Rattle.tw_chain.specs.Checks.{checks, top_of}
use Rattle.tw_chain.specs.Finding.{found_in}
use Rattle.tw_chain.specs.Proofs.{proof_bytes, proof_layout}
use Rattle.tw_chain.specs.Reasons.{Fails, IsVerdict, StandsAgainst}
use Rattle.tw_chain.proofs.Lowest.{IsLeast, first-fails, found-lowest, found-none, passing-fails}
use Rattle.tw_chain.proofs.PassesLaws.{climbs-is}
use Rattle.tw_tmap.proofs.MapChecks.{passing-found}
use Rattle.tw_evidence.specs.declared.evidence.Evidence.{Evidence}
use Rattle.tw_evidence.specs.declared.fork.ForkReason.{ForkReason}
use Rattle.tw_evidence.specs.declared.fork.ForkReason.TheVariants.{Malformed as NoWord, Part, NoConflict, BadLink}
use Rattle.tw_evidence.specs.declared.fork.ForkVerdict.TheVariants.{No}
use Rattle.tw_evidence.specs.Evidence.{thread_proof_codec}
use Rattle.tw_evidence.specs.Forks.{HasNoConflict, IsEvidenceAccepted, IsReasonTold, are_in_order, conflict_verdict}
use Rattle.tw_evidence.specs.Forks.{conflicts, fork_verdict, link_climbs, lower, upper}
use Rattle.tw_evidence.proofs.EvidenceCodec.{thread-spells}
use Rattle.tw_evidence.proofs.Verdicts.{conflicts-is, one, two, verdict_with}

module _ (dig : List ℕ → List ℕ) (anchors : List Thread) (t : ThreadProof) where
  abbrev FailsFor : Reason → Type 0
  FailsFor = Fails dig anchors false (checks (Archived t))

  abbrev Against : Reason → Type 0
  Against = StandsAgainst dig anchors false (Archived t)

  -- a reason that stands in the form that isn't strict is that of a check
  against-fails : (reason : Reason) → Against reason → FailsFor reason
  against-fails (Malformed place) is = absurd is
  against-fails (NotHeld service step) is = first-fails dig anchors false (checks (Archived t))
      (record { from = service; step = step }) is
  against-fails (Carried count) is = absurd (let no : false ≡ true = is.0 in cc)
  against-fails BadOrder is = is
  against-fails (BadPath part) is = is
  against-fails (BadOpening part) is = is
  against-fails (BadEvent part) is = is
  against-fails (BadTree part) is = is

  -- the reasons of a proof of kind 3: of its orders, of its anchor, of its path and of its tree proof
  abbrev Known : Reason → Type 0
  Known reason =
      (reason ≡ BadOrder) ⊎ ((reason ≡ NotHeld (top_of t.at).from (top_of t.at).step)
      ⊎ ((reason ≡ BadPath 0) ⊎ (reason ≡ BadTree 0)))

  known : (reason : Reason) → FailsFor reason → Known reason
  known reason (inl order) = inl order.0
  known reason (inr (inl held)) = inr (inl held.0)
  known reason (inr (inr (inl path))) = inr (inr (inl path.0))
  known reason (inr (inr (inr (inl order)))) = inl order.0
  known reason (inr (inr (inr (inr (inl tree))))) = inr (inr (inr tree.0))
  known reason (inr (inr (inr (inr (inr none))))) = absurd none

  -- the least one stands
  least-stands : (reason : Reason) → IsLeast dig anchors false (checks (Archived t)) reason → Against reason
  least-stands reason is = by (known reason is.fails)
    where
      by : Known reason → Against reason
      by (inl order) = subst Against (sym order) (subst FailsFor order is.fails)
      by (inr (inl held)) = subst Against (sym held) (is.first (top_of t.at) held)
      by (inr (inr (inl path))) = subst Against (sym path) (subst FailsFor path is.fails)
      by (inr (inr (inr tree))) = subst Against (sym tree) (subst FailsFor tree is.fails)

  -- ---- the verdict on the bytes that are written of the proof

  module _ (fits : thread_proof_codec.Fits t) where
    abbrev word : List ℕ
    word = proof_bytes (Archived t)

    abbrev IsRejected : Reason → Type 0
    IsRejected reason = IsVerdict dig anchors false word (Rejected reason)

    spells : Spells proof_layout word (Archived t)
    spells = thread-spells t fits

    same : (q : Proof) → Spells proof_layout word q → q ≡ Archived t
    same q also = one_value proof_layout word q (Archived t) also spells

    against : (q : Proof) (reason : Reason) → Spells proof_layout word q → StandsAgainst dig anchors false q reason
        → FailsFor reason
    against q reason also stands = against-fails reason (subst (λ q. StandsAgainst dig anchors false q reason)
        (same q also) stands)

    -- what is found is told
    pub found-verdict : (reason : Reason) → found_in dig anchors (checks (Archived t)) ≡ Some reason → IsRejected reason
    found-verdict reason some =
        let least : IsLeast dig anchors false (checks (Archived t)) reason = found-lowest dig anchors false
        (checks (Archived t)) reason some in (
          λ accepts. absurd (passing-fails dig anchors false (checks (Archived t)) reason
              (subst (IsAccepted dig anchors) (same accepts.0 accepts.1) accepts.2) least.fails),
          record {
            stands = inr (Archived t, spells, least-stands reason least);
            lowest = λ other. elim [
              | inl none ↦ absurd (none.0 (Archived t) spells)
              | inr proof ↦ least.least other (against proof.0 other proof.1 proof.2)
            ];
          },
        )

    -- one reason of each number stands against it
    abbrev of_number : ℕ → Reason
    of_number n = if n == 2 then BadOrder else (if n == 3 then NotHeld (top_of t.at).from (top_of t.at).step
        else (if n == 4 then BadPath 0 else BadTree 0))

    known-number : (reason : Reason) → Known reason → reason ≡ of_number (reason_number reason)
    known-number reason (inl order) = rw order refl
    known-number reason (inr (inl held)) = rw held refl
    known-number reason (inr (inr (inl path))) = rw path refl
    known-number reason (inr (inr (inr tree))) = rw tree refl

    told-known : (reason : Reason) → IsRejected reason → Known reason
    told-known reason is =
        elim is.1.stands [
          | inl none ↦ absurd (none.0 (Archived t) spells)
          | inr proof ↦ known reason (against proof.0 reason proof.1 proof.2)
        ]

    same-number : (one other : Reason) → IsNoHigher one other → IsNoHigher other one → reason_number one ≡ reason_number
        other
    same-number one other (inl a) (inl b) = absurd (omega (arith, a, b))
    same-number one other (inl a) (inr b) = absurd (omega (arith, a, b.0))
    same-number one other (inr a) b = a.0

    told-once : (one other : Reason) → IsRejected one → IsRejected other → one ≡ other
    told-once one other is also =
        let number = same-number one other (is.1.lowest other also.1.stands) (also.1.lowest one is.1.stands) in
        known-number one (told-known one is) ∙ ap of_number number ∙ sym (known-number other (told-known other also))

    -- what is told is found
    pub verdict-found : (reason : Reason) → IsRejected reason → found_in dig anchors (checks (Archived t)) ≡ Some reason
    verdict-found reason is =
        let cases : (found : Option Reason) → found_in dig anchors (checks (Archived t)) ≡ found → found ≡ Some reason =
        elim [
          | None ↦ λ none. absurd (let no : false ≡ true =
              (is.0 (Archived t, spells, found-none dig anchors false (checks (Archived t)) none)).0 in cc)
          | Some other ↦ λ some. ap (λ (r : Reason). Some r) (told-once other reason (found-verdict other some) is)
        ]
        in cases (found_in dig anchors (checks (Archived t))) refl

-- ---- the reason that is told of evidence

module _ (dig : List ℕ → List ℕ) (anchors : List Thread) (e : Evidence) (first_fits : thread_proof_codec.Fits e.first)
    (second_fits : thread_proof_codec.Fits e.second) where
  accepted : one dig anchors e ≡ None → two dig anchors e ≡ None → IsEvidenceAccepted dig anchors e
  accepted a b = (
    found-none dig anchors false (checks (Archived e.first)) a,
    found-none dig anchors false (checks (Archived e.second)) b,
  )

  -- where the threads don't conflict, one of the three is so
  no_conflict : conflicts e ≡ false → HasNoConflict e
  no_conflict is =
      elim (and_cases (are_in_order (lower e) (upper e)) (not (bytes_eq e.bottom (lower e).auth)) is) [
        | inl order ↦ elim (and_cases (bytes_eq (lower e).from (upper e).from) (nat_le (lower e).step (upper e).step)
            order) [
              | inl services ↦ inl (not_from_Decides (bytes_eq (lower e).from (upper e).from)
                  (bytes_eq-Decides (lower e).from (upper e).from) services)
              | inr steps ↦ inr (inl (leb-false (lower e).step (upper e).step steps))
            ]
        | inr differs ↦
            inr (inr ((bytes_eq-Decides e.bottom (lower e).auth).0 (not-false (bytes_eq e.bottom (lower e).auth)
            differs)))
      ]

  -- and where they do, none
  conflict_none : conflicts e ≡ true → HasNoConflict e → ⊥
  conflict_none is (inl services) = services ((conflicts-is e).0 is).0.0
  conflict_none is (inr (inl below)) = let order = ((conflicts-is e).0 is).0.1 in omega (arith, below, order)
  conflict_none is (inr (inr same)) = ((conflicts-is e).0 is).1 same

  abbrev PathClimbs : Type 0
  PathClimbs = Climbs dig e.link.links (upper e).step (lower e).step e.bottom (upper e).auth

  climbs_as : Decides (link_climbs dig e) PathClimbs
  climbs_as = climbs-is dig e.link.links (upper e).step (lower e).step e.bottom (Some (upper e).auth)

  told : (reason : ForkReason) (first second : Option Reason) (conflict climbs : Bool)
      → one dig anchors e ≡ first → two dig anchors e ≡ second
      → conflicts e ≡ conflict → link_climbs dig e ≡ climbs
      → verdict_with dig anchors e first second conflict climbs ≡ No reason → IsReasonTold dig anchors e reason
  told reason (Some r) second conflict climbs a b c d is =
      let same : Part 1 r ≡ reason = cc in
      subst (IsReasonTold dig anchors e) same (inl (refl, found-verdict dig anchors e.first first_fits r a))
  told reason None (Some r) conflict climbs a b c d is =
      let same : Part 2 r ≡ reason = cc in
      subst (IsReasonTold dig anchors e) same
      (inr (
        refl,
        found-none dig anchors false (checks (Archived e.first)) a,
        found-verdict dig anchors e.second second_fits r b,
      ))
  told reason None None false climbs a b c d is =
      let same : NoConflict ≡ reason = cc in
      subst (IsReasonTold dig anchors e) same (accepted a b, no_conflict c)
  told reason None None true false a b c d is =
      let same : BadLink ≡ reason = cc in
      subst (IsReasonTold dig anchors e) same
      (accepted a b, conflict_none c, not_from_Decides (link_climbs dig e) climbs_as d)
  told reason None None true true a b c d is = absurd (cc)

  pub no-told : (reason : ForkReason) → fork_verdict dig anchors e ≡ No reason → IsReasonTold dig anchors e reason
  no-told reason is = told reason (one dig anchors e) (two dig anchors e) (conflicts e) (link_climbs dig e) refl refl
      refl refl is

  -- the verdict where both proofs are accepted
  both_none : IsEvidenceAccepted dig anchors e → fork_verdict dig anchors e ≡ conflict_verdict dig e
  both_none are =
      ap (λ (o : Option Reason). verdict_with dig anchors e o (two dig anchors e) (conflicts e) (link_climbs dig e))
      (passing-found dig anchors (checks (Archived e.first)) are.0)
      ∙ ap (λ (o : Option Reason). verdict_with dig anchors e None o (conflicts e) (link_climbs dig e))
      (passing-found dig anchors (checks (Archived e.second)) are.1)

  pub told-no : (reason : ForkReason) → IsReasonTold dig anchors e reason → fork_verdict dig anchors e ≡ No reason
  told-no (NoWord place) is = absurd is
  told-no (Part number reason) (inl is) =
      ap (λ (o : Option Reason). verdict_with dig anchors e o (two dig anchors e) (conflicts e) (link_climbs dig e))
      (verdict-found dig anchors e.first first_fits reason is.1)
      ∙ ap (λ (n : ℕ). No (Part n reason)) (sym is.0)
  told-no (Part number reason) (inr is) =
      ap (λ (o : Option Reason). verdict_with dig anchors e o (two dig anchors e) (conflicts e) (link_climbs dig e))
      (passing-found dig anchors (checks (Archived e.first)) is.1)
      ∙ ap (λ (o : Option Reason). verdict_with dig anchors e None o (conflicts e) (link_climbs dig e))
      (verdict-found dig anchors e.second second_fits reason is.2)
      ∙ ap (λ (n : ℕ). No (Part n reason)) (sym is.0)
  told-no NoConflict is =
      let none : conflicts e ≡ false = false_from_ne_true (conflicts e) (λ conflict. conflict_none conflict is.1) in
      both_none is.0 ∙ ap (λ (b : Bool). verdict_with dig anchors e None None b (link_climbs dig e)) none
  told-no BadLink is =
      let conflict : conflicts e ≡ true = true_from_ne_false (conflicts e) (λ none. is.1 (no_conflict none)) in
      let falls : link_climbs dig e ≡ false = false_from_ne_true (link_climbs dig e)
      (λ climbs. is.2 (climbs_as.0 climbs)) in
      both_none is.0 ∙ ap (λ (b : Bool). verdict_with dig anchors e None None b (link_climbs dig e)) conflict
      ∙ ap (λ (b : Bool). verdict_with dig anchors e None None true b) falls
