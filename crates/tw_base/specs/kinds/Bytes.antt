-- Bytes: numbers below 256. Texts, events and digests are lists of them.
use Rattle.std.specs.Prelude.{◌≡◌, ℕ, ◌<◌, List, length}
use Rattle.tw_base.specs.kinds.Lists.{Each}

abbrev pub AreBytes : List ℕ → Type 0
AreBytes bytes = Each (λ b. b < 256) bytes

-- so many bytes
abbrev pub HasBytes : ℕ → List ℕ → Type 0
HasBytes n bytes = (length bytes ≡ n) × AreBytes bytes
