-- Inputs that are read again: the names that may be asked for stay the same.
use Rattle.std.specs.Prelude.{ℕ, ◌↔◌, List}

pub still_same : {I : Type 0} (may_ask : I → List ℕ → Type 0) {begun old new : I}
    → ((name : List ℕ) → may_ask old name ↔ may_ask begun name) → ((name : List ℕ) → may_ask new name ↔ may_ask old name)
    → (name : List ℕ) → may_ask new name ↔ may_ask begun name
still_same may_ask before same name =
    ((λ may. (before name).0 ((same name).0 may)), (λ may. (same name).1 ((before name).1 may)))
