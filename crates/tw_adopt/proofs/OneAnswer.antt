-- The bytes of proofs show one thing each of a history's service, or have one first fault; so one answer comes of them,
-- want of memory excepted.
use Rattle.std.proofs.Common.{◌≡◌, ◌∙◌, ℕ, ◌+◌, List, [], ◌∷◌, length, Bool, true, false, refl, ap, sym, inl, inr, ◌⊎◌}
use Rattle.std.specs.Prelude.{Option, Some, None, Result, Ok, Err}
use Rattle.std.proofs.lemmas.Bool.{cases_lt, false≢true}
use Rattle.std.proofs.lemmas.Option.{none-some, same_Some}
use Rattle.tw_base.specs.declared.history.report.Reason.{Reason}
use Rattle.tw_base.specs.declared.history.report.Reason.TheVariants.{Malformed}
use Rattle.tw_base.specs.declared.history.thread.Thread.{Thread}
use Rattle.tw_base.specs.format.Formats.{IsPlace, Placed, Spells, SpellsNothing, read_at}
use Rattle.tw_base.specs.history.History.{History}
use Rattle.tw_base.proofs.lemmas.format.FormatLaws.{one_value, whole-longer, whole-stops, whole-word}
use Rattle.tw_chain.specs.declared.proof.Proof.{Proof}
use Rattle.tw_chain.specs.declared.verdict.Verdict.{Verdict}
use Rattle.tw_chain.specs.declared.verdict.Verdict.TheVariants.{Yes, No}
use Rattle.tw_chain.specs.Accepting.{Accepts, claim_of}
use Rattle.tw_chain.specs.Proofs.{proof_layout}
use Rattle.tw_chain.specs.Reasons.{IsVerdict}
use Rattle.tw_chain.proofs.ProofCodec.{proof-lawful}
use Rattle.tw_verifier.specs.Judgements.{judgement_of, verdict_of}
use Rattle.tw_verifier.proofs.Verdicts.{judgement-verdict, malformed_bytes}
use Rattle.tw_adopt.specs.declared.adopted.AdoptFault.{AdoptFault}
use Rattle.tw_adopt.specs.declared.adopted.AdoptFault.TheVariants.{Part, Stranger, Differs, NoMemory}
use Rattle.tw_adopt.specs.declared.adopted.Adopted.{Adopted}
use Rattle.tw_adopt.specs.declared.receiving.Receiving.{Receiving}
use Rattle.tw_adopt.specs.Adopting.{AreGood, IsAdoptFault, IsAdoption, IsFirstFault, IsGood, IsOther, ShowsNoReceiving}
use Rattle.tw_adopt.specs.Adopting.{ShowsReceiving, adopted_by, furthest, receiving_of}
use Rattle.tw_base.specs.history.Auth.{auth_within}
use Rattle.tw_adopt.specs.Stops.{is_auth_found}
use Rattle.tw_adopt.proofs.AdoptionLaws.{good-faultless}
use Rattle.tw_adopt.proofs.LowestReasons.{lowest_once}
use Rattle.tw_adopt.proofs.WeighingLaws.{found-is, found-not}

-- bytes spell a proof, or none, and then stop at a place
spelled-or-not : (bytes : List ℕ) → ((p : Proof) × Spells proof_layout bytes p)
    ⊎ ((place : ℕ) × SpellsNothing proof_layout bytes × IsPlace proof_layout bytes place)
spelled-or-not bytes = by (read_at proof_layout bytes 0) refl
  where
    by : (r : Result (Placed Proof) ℕ) → read_at proof_layout bytes 0 ≡ r
        → ((p : Proof) × Spells proof_layout bytes p) ⊎ ((place : ℕ) × SpellsNothing proof_layout bytes
        × IsPlace proof_layout bytes place)
    by (Err place) is = let stops = whole-stops proof_layout proof-lawful.goes bytes place is in
        inr (place, stops.0, stops.1)
    by (Ok read) is = elim (cases_lt read.after (length bytes)) [
      | inl longer ↦ let none = whole-longer proof_layout bytes read.after read.value is longer in
          inr (read.after, none.0, none.1)
      | inr all ↦ inl (read.value, whole-word proof_layout bytes read.after read.value is all)
    ]

module _ (dig : List ℕ → List ℕ) (anchors : List Thread) where
  -- they are accepted, or rejected for a reason
  accepted-or-not : (bytes : List ℕ) → Accepts dig anchors bytes
      ⊎ ((reason : Reason) × IsVerdict dig anchors false bytes (No reason))
  accepted-or-not bytes = elim (spelled-or-not bytes) [
    | inl word ↦ by (verdict_of false (judgement_of dig anchors word.0)) (judgement-verdict dig anchors false bytes
        word.0 word.1)
    | inr none ↦ inr (Malformed none.0, malformed_bytes dig anchors false bytes none.0 none.1 none.2)
  ]
    where
      by : (verdict : Verdict) → IsVerdict dig anchors false bytes verdict → Accepts dig anchors bytes
          ⊎ ((reason : Reason) × IsVerdict dig anchors false bytes (No reason))
      by (Yes report) is = inl is.0
      by (No reason) is = inr (reason, is)

module _ (dig : List ℕ → List ℕ) (anchors : List Thread) (h : History) where
  -- ---- one proof

  -- bytes spell one proof, which claims one thing
  claim_once : (bytes : List ℕ) (one other : Accepts dig anchors bytes) → receiving_of h.name (claim_of one.0)
      ≡ receiving_of h.name (claim_of other.0)
  claim_once bytes one other = ap (λ (p : Proof). receiving_of h.name (claim_of p))
      (one_value proof_layout bytes one.0 other.0 one.1 other.1)

  shown_once : (bytes : List ℕ) (r s : Receiving) → ShowsReceiving dig anchors h bytes r → ShowsReceiving dig anchors h
      bytes s → r ≡ s
  shown_once bytes r s one other = same_Some r s (sym one.1 ∙ claim_once bytes one.0 other.0 ∙ other.1)

  shown_not_none : (bytes : List ℕ) (r : Receiving) → ShowsReceiving dig anchors h bytes r → ShowsNoReceiving dig
      anchors h bytes → ⊥
  shown_not_none bytes r one none = none-some r (sym none.1 ∙ claim_once bytes none.0 one.0 ∙ one.1)

  not_rejected : (bytes : List ℕ) (reason : Reason) → Accepts dig anchors bytes → IsVerdict dig anchors false bytes
      (No reason) → ⊥
  not_rejected bytes reason accepts rejected = let never = rejected.0 accepts in false≢true never.0

  other_once : (bytes : List ℕ) (step step' : ℕ) (held held' : List ℕ) (found found' : Option (List ℕ))
      → IsOther dig anchors h bytes step held found
      → IsOther dig anchors h bytes step' held' found' → (step ≡ step') × (held ≡ held') × (found ≡ found')
  other_once bytes step step' held held' found found' one other =
      let same : one.shown ≡ other.shown = shown_once bytes one.shown other.shown one.shows other.shows in
      let steps : step ≡ step' = one.step_is ∙ ap (λ (r : Receiving). r.entry.thread.step) same ∙ sym other.step_is in (
        steps,
        one.held_is ∙ ap (λ (r : Receiving). r.entry.thread.auth) same ∙ sym other.held_is,
        one.found_is ∙ ap (auth_within dig h) steps ∙ sym other.found_is,
      )

  fault_once : (number : ℕ) (bytes : List ℕ) (f g : AdoptFault) → IsAdoptFault dig anchors h number bytes f
      → IsAdoptFault dig anchors h number bytes g → f ≡ g
  fault_once number bytes (Part n reason) (Part m other) one also = (
      let numbers = one.0 ∙ sym also.0 in
      let reasons = lowest_once dig anchors false bytes reason other one.1.1 also.1.1 in
      λ i. Part (numbers i) (reasons i))
  fault_once number bytes (Stranger n) (Stranger m) one also = ap (λ (k : ℕ). Stranger k) (one.0 ∙ sym also.0)
  fault_once number bytes (Differs n step held found) (Differs m step' held' found') one also = (
      let numbers = one.0 ∙ sym also.0 in
      let all = other_once bytes step step' held held' found found' one.1 also.1 in
      let steps = all.0 in
      let helds = all.1 in
      let founds = all.2 in
      λ i. Differs (numbers i) (steps i) (helds i) (founds i))
  fault_once number bytes (Part n reason) (Stranger m) one also = absurd (not_rejected bytes reason also.1.0 one.1)
  fault_once number bytes (Part n reason) (Differs m step held found) one also =
      absurd (not_rejected bytes reason also.1.shows.0 one.1)
  fault_once number bytes (Stranger n) (Part m reason) one also = absurd (not_rejected bytes reason one.1.0 also.1)
  fault_once number bytes (Stranger n) (Differs m step held found) one also =
      absurd (shown_not_none bytes also.1.shown also.1.shows one.1)
  fault_once number bytes (Differs n step held found) (Part m reason) one also =
      absurd (not_rejected bytes reason one.1.shows.0 also.1)
  fault_once number bytes (Differs n step held found) (Stranger m) one also =
      absurd (shown_not_none bytes one.1.shown one.1.shows also.1)
  fault_once number bytes NoMemory g one also = absurd one
  fault_once number bytes (Part n reason) NoMemory one also = absurd also
  fault_once number bytes (Stranger n) NoMemory one also = absurd also
  fault_once number bytes (Differs n step held found) NoMemory one also = absurd also

  good_not_fault : (number : ℕ) (bytes : List ℕ) (r : Receiving) (fault : AdoptFault) → IsGood dig anchors h bytes r
      → IsAdoptFault dig anchors h number bytes fault → ⊥
  good_not_fault number bytes r fault good bad = good-faultless dig anchors h number (bytes ∷ []) (r ∷ []) fault
      (good, tt) (inl bad)

  -- ---- all of them

  pub good_once : (proofs : List (List ℕ)) (shown others : List Receiving) → AreGood dig anchors h proofs shown
      → AreGood dig anchors h proofs others → shown ≡ others
  good_once [] [] [] one other = refl
  good_once [] [] (s ∷ others) one other = absurd other
  good_once [] (r ∷ shown) others one other = absurd one
  good_once (bytes ∷ proofs) [] others one other = absurd one
  good_once (bytes ∷ proofs) (r ∷ shown) [] one other = absurd other
  good_once (bytes ∷ proofs) (r ∷ shown) (s ∷ others) one other =
      let first = shown_once bytes r s one.0.0 other.0.0 in
      let rest = good_once proofs shown others one.1 other.1 in
      λ i. first i ∷ rest i

  pub first_fault_once : (number : ℕ) (proofs : List (List ℕ)) (f g : AdoptFault) → IsFirstFault dig anchors h number
      proofs f → IsFirstFault dig anchors h number proofs g
      → f ≡ g
  first_fault_once number [] f g one other = absurd one
  first_fault_once number (bytes ∷ proofs) f g (inl one) (inl other) = fault_once number bytes f g one other
  first_fault_once number (bytes ∷ proofs) f g (inl one) (inr other) =
      absurd (good_not_fault number bytes other.0 f other.1 one)
  first_fault_once number (bytes ∷ proofs) f g (inr one) (inl other) =
      absurd (good_not_fault number bytes one.0 g one.1 other)
  first_fault_once number (bytes ∷ proofs) f g (inr one) (inr other) = first_fault_once (number + 1) proofs f g one.2
      other.2

  -- one of both stands
  good-or-fault : (number : ℕ) (bytes : List ℕ) → ((r : Receiving) × IsGood dig anchors h bytes r)
      ⊎ ((fault : AdoptFault) × IsAdoptFault dig anchors h number bytes fault)
  good-or-fault number bytes = elim (accepted-or-not dig anchors bytes) [
    | inl accepts ↦ by accepts (receiving_of h.name (claim_of accepts.0)) refl
    | inr rejected ↦ inr (Part number rejected.0, (refl, rejected.1))
  ]
    where
      agrees : (r : Receiving) → ShowsReceiving dig anchors h bytes r → (b : Bool)
          → is_auth_found (auth_within dig h r.entry.thread.step) r.entry.thread.auth ≡ b
          → ((r : Receiving) × IsGood dig anchors h bytes r) ⊎ ((fault : AdoptFault) × IsAdoptFault dig anchors h number
          bytes fault)
      agrees r shows true test =
          inl (r, (shows, found-is (auth_within dig h r.entry.thread.step) r.entry.thread.auth test))
      agrees r shows false test =
          let other : IsOther dig anchors h bytes r.entry.thread.step r.entry.thread.auth
          (auth_within dig h r.entry.thread.step) = record {
            shown = r;
            shows = shows;
            step_is = refl;
            held_is = refl;
            found_is = refl;
            differs = found-not (auth_within dig h r.entry.thread.step) r.entry.thread.auth test;
          } in
          inr (
            Differs number r.entry.thread.step r.entry.thread.auth (auth_within dig h r.entry.thread.step),
            (refl, other),
          )

      by : (accepts : Accepts dig anchors bytes) → (shown : Option Receiving) → receiving_of h.name (claim_of accepts.0)
          ≡ shown
          → ((r : Receiving) × IsGood dig anchors h bytes r) ⊎ ((fault : AdoptFault) × IsAdoptFault dig anchors h number
          bytes fault)
      by accepts None none = inr (Stranger number, (refl, (accepts, none)))
      by accepts (Some r) some = agrees r (accepts, some) (is_auth_found (auth_within dig h r.entry.thread.step)
          r.entry.thread.auth) refl

  pub all-or-fault : (number : ℕ) (proofs : List (List ℕ))
      → ((shown : List Receiving) × AreGood dig anchors h proofs shown)
      ⊎ ((fault : AdoptFault) × IsFirstFault dig anchors h number proofs fault)
  all-or-fault number [] = inl ([], tt)
  all-or-fault number (bytes ∷ proofs) = elim (good-or-fault number bytes) [
    | inr bad ↦ inr (bad.0, inl bad.1)
    | inl good ↦ elim (all-or-fault (number + 1) proofs) [
      | inl all ↦ inl (good.0 ∷ all.0, (good.1, all.1))
      | inr bad ↦ inr (bad.0, inr (good.0, good.1, bad.1))
    ]
  ]

  -- ---- the answer

  pub taken-is : (proofs : List (List ℕ)) (first : Receiving) (rest : List Receiving)
      (result : Result Adopted AdoptFault) → AreGood dig anchors h proofs (first ∷ rest)
      → IsAdoption dig anchors h proofs result → (result ≡ Ok (adopted_by h (furthest first rest)))
      ⊎ (result ≡ Err NoMemory)
  taken-is proofs first rest (Ok a) good is =
      inl (ap (λ (b : Adopted). Ok b) (is.3 ∙ ap (λ (shown : List Receiving). by shown)
      (good_once proofs (is.0 ∷ is.1) (first ∷ rest) is.2 good)))
    where
      by : List Receiving → Adopted
      by [] = a
      by (r ∷ more) = adopted_by h (furthest r more)
  taken-is proofs first rest (Err NoMemory) good is = inr refl
  taken-is proofs first rest (Err (Part number reason)) good is =
      absurd (good-faultless dig anchors h 1 proofs (first ∷ rest) (Part number reason) good is)
  taken-is proofs first rest (Err (Stranger number)) good is =
      absurd (good-faultless dig anchors h 1 proofs (first ∷ rest) (Stranger number) good is)
  taken-is proofs first rest (Err (Differs number step held found)) good is =
      absurd (good-faultless dig anchors h 1 proofs (first ∷ rest) (Differs number step held found) good is)

  pub fault-is : (proofs : List (List ℕ)) (fault : AdoptFault) (result : Result Adopted AdoptFault)
      → IsFirstFault dig anchors h 1 proofs fault
      → IsAdoption dig anchors h proofs result → (result ≡ Err fault) ⊎ (result ≡ Err NoMemory)
  fault-is proofs fault (Ok a) bad is = absurd (good-faultless dig anchors h 1 proofs (is.0 ∷ is.1) fault is.2 bad)
  fault-is proofs fault (Err NoMemory) bad is = inr refl
  fault-is proofs fault (Err (Part number reason)) bad is =
      inl (ap (λ (f : AdoptFault). Err f) (first_fault_once 1 proofs (Part number reason) fault is bad))
  fault-is proofs fault (Err (Stranger number)) bad is =
      inl (ap (λ (f : AdoptFault). Err f) (first_fault_once 1 proofs (Stranger number) fault is bad))
  fault-is proofs fault (Err (Differs number step held found)) bad is =
      inl (ap (λ (f : AdoptFault). Err f) (first_fault_once 1 proofs (Differs number step held found) fault is bad))
