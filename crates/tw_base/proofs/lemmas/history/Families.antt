-- The histories of a family.
use Rattle.std.proofs.Common.{◌≡◌, ℕ, List, [], ◌∷◌, ◌++◌, Bool, true, false, sym, subst}
use Rattle.std.specs.Prelude.{Some, if◌then◌else◌}
use Rattle.std.specs.Str.{bytes_eq}
use Rattle.tw_base.specs.kinds.Clash.{Among, Within}
use Rattle.tw_base.specs.history.History.{History}
use Rattle.tw_base.specs.history.Sound.{IsSound}
use Rattle.tw_base.specs.history.HistoryTexts.{history_texts}
use Rattle.tw_base.specs.history.Family.{AllSound, HasHistory, family_texts, history_of}
use Rattle.tw_base.proofs.lemmas.kinds.Clashes.{Among-left, Among-right}

same_some : (g h : History) → Some g ≡ Some h → g ≡ h
same_some g h e = cc

-- the family's history of a service is sound
pub sound_of : (family : List History) (name : List ℕ) (h : History) → AllSound family → HasHistory family name h
    → IsSound h
sound_of [] name h sound has = cc
sound_of (g ∷ family) name h sound has = by (bytes_eq g.name name) has (λ q. sound_of family name h sound.1 q)
  where
    by : (b : Bool) → (if b then Some g else history_of family name) ≡ Some h
        → (history_of family name ≡ Some h → IsSound h) → IsSound h
    by true e rest = subst IsSound (same_some g h e) sound.0
    by false e rest = rest e

-- and its texts are among the family's
pub texts_within : (dig : List ℕ → List ℕ) (family : List History) (name : List ℕ) (h : History)
    → HasHistory family name h → Within (history_texts dig h) (family_texts dig family)
texts_within dig [] name h has = cc
texts_within dig (g ∷ family) name h has = by (bytes_eq g.name name) has (λ q. texts_within dig family name h q)
  where
    by : (b : Bool) → (if b then Some g else history_of family name) ≡ Some h → (history_of family name ≡ Some h
        → Within (history_texts dig h) (family_texts dig family)) → Within (history_texts dig h)
        (history_texts dig g ++ family_texts dig family)
    by true e rest text p = Among-left text (history_texts dig g) _ (subst (λ k. Among text (history_texts dig k))
        (sym (same_some g h e)) p)
    by false e rest text p = Among-right text (history_texts dig g) _ (rest e text p)
