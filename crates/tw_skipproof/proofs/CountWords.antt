-- Count words as numbers of four bytes.
use Rattle.std.proofs.Common.{◌≡◌, ℕ, ◌+◌, ◌-◌, ◌*◌, ◌/◌, ◌%◌, ◌^◌, ◌<◌, List, ◌∷◌, ◌++◌, ap, sym, ◌∙◌, arith, lit<}
use Rattle.std.proofs.Common.{append_assoc}
use Rattle.std.specs.Prelude.{Option, Some, None, is_some, OnOk, Result, Ok, Err, if◌then◌else◌}
use Rattle.std.proofs.lemmas.List.{append-nil}
use Rattle.std.proofs.lemmas.Nat.{div-add-mod'}
use Rattle.tw_base.specs.declared.kinds.failure.NoMemory.{NoMemory as WantOfMemory}
use Rattle.tw_base.specs.format.Codecs.{nothing, number_codec, optional, present}
use Rattle.tw_base.specs.format.Fields.{number_bytes}
use Rattle.tw_base.specs.format.Taking.{Puts}
use Rattle.tw_base.proofs.lemmas.format.NumberLaws.{low_bytes, number_bytes-more}
use Rattle.tw_skipproof.specs.Codecs.{count_bytes}

pub untimed_word : (n : ℕ) → n < 2 ^ 24 → number_bytes 4 n ≡ 0 ∷ number_bytes 3 n
untimed_word n l = ap (number_bytes 4) (let e : n ≡ 0 * 256 ^ 3 + n = omega arith in e) ∙ number_bytes-more 3 0 n
    (lit< tt) l

pub timed_word : (n : ℕ) → n < 2 ^ 24 → number_bytes 4 (n + 2 ^ 31) ≡ 128 ∷ number_bytes 3 n
timed_word n l = ap (number_bytes 4) (let e : n + 2 ^ 31 ≡ 128 * 256 ^ 3 + n = omega arith in e) ∙ number_bytes-more 3
    128 n (lit< tt) l

-- four bytes see a number as it wraps
pub word_wraps : (n : ℕ) → number_bytes 4 (n % 2 ^ 32) ≡ number_bytes 4 n
unfolding number_bytes
word_wraps n = sym (low_bytes 4 (n / 2 ^ 32) (n % 2 ^ 32)) ∙ ap (number_bytes 4) (div-add-mod' n (2 ^ 32))

-- a count word and then the time
pub count_put : (count : ℕ) (time : Option ℕ) (before mid after : List ℕ) (r : Result (Unit {0}) WantOfMemory)
    → mid ≡ before ++ number_bytes 4 (count + (if is_some time then 2 ^ 31 else 0))
    → Puts (optional (is_some time) (number_codec 8 0 (2 ^ 64 - 1))) time mid after r
    → OnOk r (after ≡ before ++ count_bytes count time)
unfolding nothing present number_codec
count_put count None before mid after (Ok done) word put =
    put.0 ∙ append-nil mid ∙ word ∙ ap (λ n. before ++ number_bytes 4 n) (let e : count + 0 ≡ count = omega arith in e)
count_put count (Some time) before mid after (Ok done) word put =
    put.0 ∙ ap (λ w. w ++ number_bytes 8 time) word ∙ append_assoc before (number_bytes 4 (count + 2 ^ 31))
    (number_bytes 8 time)
count_put count time before mid after (Err fault) word put = tt
