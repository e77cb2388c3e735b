-- What a sink took, call after call.
use Rattle.std.proofs.Common.{ℕ, ◌+◌, List, ◌++◌, take, take-add, drop, ap, sym, ◌∙◌}
use Rattle.std.specs.Prelude.{Option, Some}
use Rattle.std.proofs.lemmas.List.{append_assoc}
use Rattle.tw_outside.specs.TakenBytes.{Appends}

-- one piece more of a text
pub Appends-more : (old between new : Option (List ℕ)) (text : List ℕ) (written n : ℕ)
    → Appends old between (take written text) → Appends between new (take n (drop written text))
    → Appends old new (take (written + n) text)
Appends-more old between new text written n first then taken is =
    then (taken ++ take written text) (first taken is)
    ∙ ap (λ (bytes : List ℕ). Some bytes) (append_assoc taken (take written text) (take n (drop written text))
    ∙ ap (λ more. taken ++ more) (sym (take-add written n text)))
