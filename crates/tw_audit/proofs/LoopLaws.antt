-- Loops over lists, one item more.
use Rattle.std.proofs.Common.{◌≡◌, ℕ, suc, zero, ◌+◌, ◌<◌, List, [], ◌∷◌, ◌++◌, length, get_or, take, refl, ap}
use Rattle.std.proofs.Common.{sym, ◌∙◌, subst, arith}
use Rattle.std.specs.List.{flat_map}
use Rattle.std.proofs.lemmas.List.{append-nil, take_more}
use Rattle.tw_base.specs.history.Family.{family_texts}
use Rattle.tw_base.specs.history.History.{History}
use Rattle.tw_base.specs.history.HistoryTexts.{history_texts}
use Rattle.tw_base.specs.kinds.Lists.{Each}
use Rattle.tw_base.proofs.lemmas.kinds.ListLemmas.{Each-append}
use Rattle.tw_audit.specs.declared.passing.Passed.{Passed}
use Rattle.tw_audit.specs.Stops.{AnswerInTurn, AnswersForHeld}
use Rattle.tw_base.specs.declared.history.thread.Thread.{Thread}
use Rattle.tw_audit.proofs.CheckTexts.{gathered}

module _ {X : Type 0} where
  pub each-at : (P : X → Type 0) (xs : List X) (i : ℕ) (d : X) → i < length xs → Each P xs → P (get_or xs i d)
  each-at P [] i d inside all = absurd (omega arith)
  each-at P (x ∷ xs) zero d inside all = all.0
  each-at P (x ∷ xs) (suc i) d inside all = each-at P xs i d (omega arith) all.1

  pub each-more : (P : X → Type 0) (xs : List X) (i : ℕ) (d : X) → i < length xs → Each P (take i xs)
      → P (get_or xs i d) → Each P (take (i + 1) xs)
  each-more P xs i d inside all one = subst (Each P) (sym (take_more xs i d inside))
      (Each-append P (take i xs) (get_or xs i d ∷ []) all (one, tt))

  pub flat_map-more : {Y : Type 0} (f : X → List Y) (xs : List X) (i : ℕ) (d : X) → i < length xs
      → flat_map f (take i xs) ++ f (get_or xs i d) ≡ flat_map f (take (i + 1) xs)
  flat_map-more f xs i d inside =
      sym (ap (flat_map f) (take_more xs i d inside) ∙ gathered f (take i xs) (get_or xs i d ∷ [])
      ∙ ap (λ ys. flat_map f (take i xs) ++ ys) (append-nil (f (get_or xs i d))))

module _ (dig : List ℕ → List ℕ) where
  family-texts : (family : List History) → family_texts dig family ≡ flat_map (history_texts dig) family
  family-texts [] = refl
  family-texts (h ∷ family) = ap (λ ts. history_texts dig h ++ ts) (family-texts family)

  pub family-more : (family : List History) (i : ℕ) (d : History) → i < length family
      → family_texts dig (take i family) ++ history_texts dig (get_or family i d) ≡ family_texts dig
      (take (i + 1) family)
  family-more family i d inside =
      ap (λ ts. ts ++ history_texts dig (get_or family i d)) (family-texts (take i family)) ∙ flat_map-more
      (history_texts dig) family i d inside ∙ sym (family-texts (take (i + 1) family))

  turn-push : (held : List Thread) (hs : List History) (ps : List Passed) (h : History) (p : Passed)
      → AnswerInTurn dig held hs ps → AnswersForHeld dig held h p
      → AnswerInTurn dig held (hs ++ h ∷ []) (ps ++ p ∷ [])
  turn-push held [] [] h p all one = (one, tt)
  turn-push held [] (q ∷ ps) h p all one = absurd all
  turn-push held (g ∷ hs) [] h p all one = absurd all
  turn-push held (g ∷ hs) (q ∷ ps) h p all one = (all.0, turn-push held hs ps h p all.1 one)

  pub turn-more : (held : List Thread) (family : List History) (i : ℕ) (d : History) (ps : List Passed) (p : Passed)
      → i < length family → AnswerInTurn dig held (take i family) ps
      → AnswersForHeld dig held (get_or family i d) p → AnswerInTurn dig held (take (i + 1) family) (ps ++ p ∷ [])
  turn-more held family i d ps p inside all one =
      subst (λ hs. AnswerInTurn dig held hs (ps ++ p ∷ [])) (sym (take_more family i d inside))
      (turn-push held (take i family) ps (get_or family i d) p all one)
