-- Lists of bytes.
use Rattle.std.proofs.Common.{ℕ, suc, zero, ◌<◌, List, [], ◌∷◌, ◌++◌, get_or, take, drop, lit<}
use Rattle.tw_base.specs.kinds.Bytes.{AreBytes}
use Rattle.tw_base.specs.kinds.Lists.{Each}
use Rattle.tw_base.specs.kinds.Texts.{joined}

pub AreBytes-at : (bytes : List ℕ) → AreBytes bytes → (i : ℕ) → get_or bytes i 0 < 256
AreBytes-at [] all i = lit< tt
AreBytes-at (b ∷ bs) all zero = all.0
AreBytes-at (b ∷ bs) all (suc i) = AreBytes-at bs all.1 i

pub AreBytes-from : (bytes : List ℕ) → ((i : ℕ) → get_or bytes i 0 < 256) → AreBytes bytes
AreBytes-from [] small = tt
AreBytes-from (b ∷ bs) small = (small 0, AreBytes-from bs (λ i. small (suc i)))

pub AreBytes-append : (one other : List ℕ) → AreBytes one → AreBytes other → AreBytes (one ++ other)
AreBytes-append [] other first second = second
AreBytes-append (b ∷ bs) other first second = (first.0, AreBytes-append bs other first.1 second)

pub AreBytes-front : (one other : List ℕ) → AreBytes (one ++ other) → AreBytes one
AreBytes-front [] other all = tt
AreBytes-front (b ∷ bs) other all = (all.0, AreBytes-front bs other all.1)

pub AreBytes-back : (one other : List ℕ) → AreBytes (one ++ other) → AreBytes other
AreBytes-back [] other all = all
AreBytes-back (b ∷ bs) other all = AreBytes-back bs other all.1

pub AreBytes-take : (n : ℕ) (bytes : List ℕ) → AreBytes bytes → AreBytes (take n bytes)
AreBytes-take zero bytes all = tt
AreBytes-take (suc n) [] all = tt
AreBytes-take (suc n) (b ∷ bs) all = (all.0, AreBytes-take n bs all.1)

pub AreBytes-drop : (n : ℕ) (bytes : List ℕ) → AreBytes bytes → AreBytes (drop n bytes)
AreBytes-drop zero bytes all = all
AreBytes-drop (suc n) [] all = tt
AreBytes-drop (suc n) (b ∷ bs) all = AreBytes-drop n bs all.1

pub AreBytes-joined : (parts : List (List ℕ)) → Each AreBytes parts → AreBytes (joined parts)
AreBytes-joined [] all = tt
AreBytes-joined (part ∷ parts) all = AreBytes-append part (joined parts) all.0 (AreBytes-joined parts all.1)
