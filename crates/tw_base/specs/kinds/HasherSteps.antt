-- That digests are bytes, for the laws of the hashers.
use Rattle.std.specs.Prelude.{ℕ, suc, zero, ◌<◌, ◌/◌, ◌^◌, List, [], ◌∷◌, ◌++◌, sum, replicate, slice_index}
use Rattle.std.specs.Int.{byte_at, bytes_high_first, to_be_bytes, w32}
use Rattle.std.proofs.Common.{lit<}
use Rattle.std.proofs.Math.Nat.{mod-lt}
use Rattle.sha2.specs.Sha256.{digest_bytes, sha256}
use Rattle.tw_base.specs.kinds.Bytes.{AreBytes}
use Rattle.tw_base.specs.kinds.Weak.{weak}

joined-are : (xs ys : List ℕ) → AreBytes xs → AreBytes ys → AreBytes (xs ++ ys)
joined-are [] ys one other = other
joined-are (x ∷ xs) ys one other = (one.0, joined-are xs ys one.1 other)

byte_at-is : (k n : ℕ) → byte_at k n < 256
byte_at-is zero n = mod-lt n (lit< tt)
byte_at-is (suc k) n = mod-lt (n / 256 ^ suc k) (lit< tt)

number-are : (k n : ℕ) → AreBytes (bytes_high_first k n)
number-are zero n = tt
number-are (suc k) n = (byte_at-is k n, number-are k n)

words-are : (h : List ℕ) (n : ℕ) → AreBytes (digest_bytes h n)
unfolding digest_bytes
words-are h zero = tt
words-are h (suc n) = joined-are (digest_bytes h n) (to_be_bytes w32 (slice_index h n)) (words-are h n) (number-are 4 (slice_index h n))

pub bytes-sha256 : (text : List ℕ) → AreBytes (sha256 text)
unfolding sha256
bytes-sha256 text = words-are _ 8

zeros-are : (n : ℕ) → AreBytes (replicate n 0)
zeros-are zero = tt
zeros-are (suc n) = (lit< tt, zeros-are n)

pub bytes-weak : (text : List ℕ) → AreBytes (weak text)
bytes-weak text = (mod-lt (sum text) (lit< tt), zeros-are 31)
