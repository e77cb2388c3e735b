-- What stands in a file after writes of its bytes.
use Rattle.std.proofs.Common.{◌≡◌, ℕ, ◌+◌, ◌-◌, ◌≤◌, List, ◌++◌, length, take, drop, refl, sym, ap, ◌∙◌, arith}
use Rattle.std.proofs.lemmas.List.{append_assoc, length-append, length-drop, length-take-le, take_at, drop_at, drop-drop}
use Rattle.tw_hostio.specs.FileBytes.{put_bytes, TornBytes}

module _ (at : ℕ) (bytes file : List ℕ) (joins : at ≤ length file) where
  front : length (take at file) ≡ at
  front = length-take-le at file joins

  pub length-put_bytes : length (put_bytes at bytes file) ≡ at + (length bytes + (length file - (at + length bytes)))
  unfolding put_bytes
  length-put_bytes =
      omega (arith, front, length-append (take at file) (bytes ++ drop (at + length bytes) file), length-append bytes (drop (at + length bytes) file), length-drop (at + length bytes) file)

  -- the bytes that were written are there
  pub written_there : take (length bytes) (drop at (put_bytes at bytes file)) ≡ bytes
  unfolding put_bytes
  written_there =
      ap (take (length bytes)) (drop_at (take at file) (bytes ++ drop (at + length bytes) file) at front)
      ∙ take_at bytes (drop (at + length bytes) file) (length bytes) refl

-- two writes, the second right behind the first, are one
pub put_twice : (at : ℕ) (one two file : List ℕ) → at ≤ length file
    → put_bytes (at + length one) two (put_bytes at one file) ≡ put_bytes at (one ++ two) file
unfolding put_bytes
put_twice at one two file joins =
    let a = take at file in
    let r = drop (at + length one) file in
    let size : length (a ++ one) ≡ at + length one = omega (arith, length-append a one, length-take-le at file joins) in
    let whole : a ++ (one ++ r) ≡ (a ++ one) ++ r = sym (append_assoc a one r) in
    let taken : take (at + length one) (a ++ (one ++ r)) ≡ a ++ one = ap (take (at + length one)) whole ∙ take_at (a ++ one) r (at + length one) size in
    let left : drop (at + length one + length two) (a ++ (one ++ r)) ≡ drop (at + length one + length two) file =
    sym (drop-drop (length two) (at + length one) (a ++ (one ++ r)))
    ∙ ap (drop (length two)) (ap (drop (at + length one)) whole ∙ drop_at (a ++ one) r (at + length one) size)
    ∙ drop-drop (length two) (at + length one) file in
    let count : at + length one + length two ≡ at + length (one ++ two) = omega (arith, length-append one two) in
    ap (λ (f : List ℕ). f ++ (two ++ drop (at + length one + length two) (a ++ (one ++ r)))) taken
    ∙ ap (λ (d : List ℕ). (a ++ one) ++ (two ++ d)) (left ∙ ap (λ (k : ℕ). drop k file) count)
    ∙ append_assoc a one (two ++ drop (at + length (one ++ two)) file)
    ∙ ap (λ (t : List ℕ). a ++ t) (sym (append_assoc one two (drop (at + length (one ++ two)) file)))

-- a write of fewer bytes, within the place of another
pub TornBytes-within : (at n from m : ℕ) (a b c : List ℕ) → at ≤ from → from + m ≤ at + n → TornBytes at n a b → TornBytes from m b c → TornBytes at n a c
TornBytes-within at n from m a b c low high first second = record {
  no_shorter = omega (arith, first.no_shorter, second.no_shorter);
  no_longer = omega (arith, first.no_longer, second.no_longer);
  below = λ k within before. second.below k (omega (arith, first.no_shorter)) (omega arith) ∙ first.below k within before;
  above = λ k within behind. second.above k (omega (arith, first.no_shorter)) (omega arith) ∙ first.above k within behind;
}

-- nothing written
pub TornBytes-none : (at n : ℕ) (file : List ℕ) → TornBytes at n file file
TornBytes-none at n file = record { no_shorter = omega arith; no_longer = omega arith; below = λ k within low. refl; above = λ k within high. refl }

-- a write of no more bytes at the same place
pub TornBytes-wider : (at n m : ℕ) (a b : List ℕ) → n ≤ m → TornBytes at n a b → TornBytes at m a b
TornBytes-wider at n m a b few torn = record {
  no_shorter = torn.no_shorter;
  no_longer = omega (arith, torn.no_longer, few);
  below = torn.below;
  above = λ k within behind. torn.above k within (omega (arith, behind, few));
}
