-- What is heard of proofs, one more at a time.
use Rattle.std.proofs.Common.{◌≡◌, ℕ, ◌+◌, ◌<◌, ◌≤◌, List, [], ◌∷◌, ◌++◌, length, get_or, take, drop, refl, ap, sym}
use Rattle.std.proofs.Common.{◌∙◌, subst, arith, false}
use Rattle.std.specs.Prelude.{Option, Some, None, Ok, Err}
use Rattle.std.specs.Option.{option_map_or}
use Rattle.std.proofs.lemmas.List.{drop_more, length-take-le, take-append-drop, take_all, take_more}
use Rattle.tw_base.specs.declared.history.report.Report.{Report}
use Rattle.tw_base.specs.declared.history.thread.Thread.{Thread}
use Rattle.tw_base.specs.history.History.{History}
use Rattle.tw_chain.specs.declared.verdict.Verdict.{Verdict}
use Rattle.tw_chain.specs.declared.verdict.Verdict.TheVariants.{Yes, No}
use Rattle.tw_chain.specs.Accepting.{claim_of}
use Rattle.tw_chain.specs.Reasons.{IsVerdict}
use Rattle.tw_adopt.specs.declared.adopted.AdoptFault.{AdoptFault}
use Rattle.tw_adopt.specs.declared.adopted.AdoptFault.TheVariants.{Stranger}
use Rattle.tw_adopt.specs.declared.receiving.Receiving.{Receiving}
use Rattle.tw_adopt.specs.Adopting.{IsAdoptFault, ShowsReceiving, receiving_of}
use Rattle.tw_adopt.specs.Hearing.{AreHeard, IsHeard, heard_of}

module _ (dig : List ℕ → List ℕ) (anchors : List Thread) (h : History) where
  -- what a verdict shows of the service
  pub verdict-heard : (number : ℕ) (bytes : List ℕ) (verdict : Verdict) → IsVerdict dig anchors false bytes verdict
      → IsHeard dig anchors h number bytes (heard_of number h.name verdict)
  verdict-heard number bytes (No reason) is = (refl, is)
  verdict-heard number bytes (Yes report) is = by (receiving_of h.name report.claim) refl
    where
      claims : receiving_of h.name report.claim ≡ receiving_of h.name (claim_of is.0.0)
      claims = ap (λ (r : Report). receiving_of h.name r.claim) is.2

      by : (o : Option Receiving) → receiving_of h.name report.claim ≡ o → IsHeard dig anchors h number bytes
          (option_map_or (λ (t : Receiving). Ok t) o (Err (Stranger number)))
      by None none = (refl, (is.0, sym claims ∙ none))
      by (Some t) some = (is.0, sym claims ∙ some)

  -- one more shows something
  heard-push : (number : ℕ) (proofs : List (List ℕ)) (shown : List Receiving) (bytes : List ℕ) (t : Receiving)
      → AreHeard dig anchors h number proofs shown None → ShowsReceiving dig anchors h bytes t
      → AreHeard dig anchors h number (proofs ++ bytes ∷ []) (shown ++ t ∷ []) None
  heard-push number [] [] bytes t heard one = (one, tt)
  heard-push number [] (u ∷ shown) bytes t heard one = absurd heard
  heard-push number (p ∷ proofs) [] bytes t heard one = absurd heard
  heard-push number (p ∷ proofs) (u ∷ shown) bytes t heard one =
      (heard.0, heard-push (number + 1) proofs shown bytes t heard.1 one)

  -- the next one has a fault
  heard-stop : (number at : ℕ) (proofs rest : List (List ℕ)) (shown : List Receiving) (bytes : List ℕ)
      (fault : AdoptFault) → AreHeard dig anchors h number proofs shown None
      → at ≡ number + length proofs → IsAdoptFault dig anchors h at bytes fault → AreHeard dig anchors h number
      (proofs ++ bytes ∷ rest) shown (Some fault)
  heard-stop number at [] rest [] bytes fault heard is bad = subst (λ n. IsAdoptFault dig anchors h n bytes fault)
      (let e : at ≡ number = omega (arith, is) in e) bad
  heard-stop number at [] rest (u ∷ shown) bytes fault heard is bad = absurd heard
  heard-stop number at (p ∷ proofs) rest [] bytes fault heard is bad = absurd heard
  heard-stop number at (p ∷ proofs) rest (u ∷ shown) bytes fault heard is bad =
      (heard.0, heard-stop (number + 1) at proofs rest shown bytes fault heard.1 (omega (arith, is)) bad)

  pub heard-more : (proofs : List (List ℕ)) (i : ℕ) (bytes : List ℕ) (shown more : List Receiving) (t : Receiving)
      → i < length proofs → AreHeard dig anchors h 1 (take i proofs) shown None
      → bytes ≡ get_or proofs i bytes → ShowsReceiving dig anchors h bytes t → more ≡ shown ++ t ∷ []
      → AreHeard dig anchors h 1 (take (i + 1) proofs) more None
  heard-more proofs i bytes shown more t inside heard is one pushed =
      let next : take (i + 1) proofs ≡ take i proofs ++ bytes ∷ [] = take_more proofs i bytes inside
      ∙ ap (λ (b : List ℕ). take i proofs ++ b ∷ []) (sym is) in
      subst (λ (ps : List (List ℕ)). AreHeard dig anchors h 1 ps more None) (sym next)
      (subst (λ (ts : List Receiving). AreHeard dig anchors h 1 (take i proofs ++ bytes ∷ []) ts None) (sym pushed)
      (heard-push 1 (take i proofs) shown bytes t heard one))

  pub heard-fault : (proofs : List (List ℕ)) (i : ℕ) (bytes : List ℕ) (shown : List Receiving) (fault : AdoptFault)
      → i < length proofs → AreHeard dig anchors h 1 (take i proofs) shown None
      → bytes ≡ get_or proofs i bytes → IsAdoptFault dig anchors h (i + 1) bytes fault → AreHeard dig anchors h 1 proofs
      shown (Some fault)
  heard-fault proofs i bytes shown fault inside heard is bad =
      let behind : drop i proofs ≡ bytes ∷ drop (i + 1) proofs = drop_more proofs i bytes inside
      ∙ ap (λ (b : List ℕ). b ∷ drop (i + 1) proofs) (sym is) in
      let whole : take i proofs ++ bytes ∷ drop (i + 1) proofs ≡ proofs =
      ap (λ (ps : List (List ℕ)). take i proofs ++ ps) (sym behind) ∙ take-append-drop i proofs in
      let few : i ≤ length proofs = omega (arith, inside) in
      let size : length (take i proofs) ≡ i = length-take-le i proofs few in
      subst (λ (ps : List (List ℕ)). AreHeard dig anchors h 1 ps shown (Some fault)) whole
      (heard-stop 1 (i + 1) (take i proofs) (drop (i + 1) proofs) shown bytes fault heard (omega (arith, size)) bad)

  pub heard-all : (proofs : List (List ℕ)) (i : ℕ) (shown : List Receiving) → length proofs ≤ i → AreHeard dig anchors h
      1 (take i proofs) shown None → AreHeard dig anchors h 1 proofs shown None
  heard-all proofs i shown past heard = subst (λ (ps : List (List ℕ)). AreHeard dig anchors h 1 ps shown None)
      (take_all i proofs past) heard

  -- of some proofs without a fault something is shown
  pub heard-some : (proofs : List (List ℕ)) (shown : List Receiving) (fault : Option AdoptFault) → AreHeard dig anchors
      h 1 proofs shown fault → 0 < length proofs → fault ≡ None → 0 < length shown
  heard-some [] shown fault heard some none = absurd (omega (arith, some))
  heard-some (p ∷ proofs) (t ∷ shown) fault heard some none = omega arith
  heard-some (p ∷ proofs) [] None heard some none = absurd heard
  heard-some (p ∷ proofs) [] (Some f) heard some none = cc
