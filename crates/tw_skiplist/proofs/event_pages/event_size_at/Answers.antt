use Rattle.std.proofs.Common.{◌≡◌, ◌<◌, ◌+◌, ◌-◌, ◌++◌, ℕ, zero, suc, List, [], ◌∷◌, ap, sym, ◌∙◌, arith, get_or}
use Rattle.std.proofs.Common.{length, take, drop, length-drop, length-append}
use Rattle.std.specs.Int.{from_be_bytes, w32}
use Rattle.std.proofs.lemmas.List.{get_or-drop, length-take-le}
use Rattle.std.proofs.lemmas.Nat.{be_bytes_4, from_be_bytes-to_be_bytes_4}
use Rattle.tw_skiplist.proofs.event_pages.event_size_at.Goals as goal
use Rattle.tw_skiplist.proofs.event_pages.event_size_at.Goals.{then-size-gt-MOST_EVENT_BYTES-via-then-size-gt-MOST_EVENT_BYTES}
use Rattle.tw_skiplist.proofs.event_pages.event_size_at.Goals.{then-size-gt-MOST_EVENT_BYTES-via-else-size-gt-MOST_EVENT_BYTES+then-bytes-at}

-- the first of some bytes are bytes
first_fit : (n : ℕ) (bs : List ℕ) → ((i : ℕ) → get_or bs i 0 < 256) → (i : ℕ) → get_or (take n bs) i 0 < 256
first_fit zero bs fits i = omega arith
first_fit (suc n) [] fits i = omega arith
first_fit (suc n) (b ∷ bs) fits zero = fits 0
first_fit (suc n) (b ∷ bs) fits (suc i) = first_fit n bs (λ k. fits (suc k)) i

pub returns : goal.returns
returns c =
    let rest = drop c.args.at c.args.bytes.now in
    let size : length rest ≡ length c.args.bytes.now - c.args.at = length-drop c.args.at c.args.bytes.now in record {
      few = omega arith;
      room = omega arith;
      length_is =
          sym (be_bytes_4 (take 4 rest) c.u32_at-size.result
          (length-take-le 4 rest (omega (arith, size, c.if-bytes-at-lt4.false)))
          (first_fit 4 rest
          (λ i. omega (arith, get_or-drop c.args.at c.args.bytes.now i 0, c.type_inv.bytes (c.args.at + i))))
          c.u32_at-size.ensures);
    }

pub returns-then-bytes-at-lt4 : goal.returns-then-bytes-at-lt4
returns-then-bytes-at-lt4 c = λ event rest is short.
    let size : length (drop c.args.at c.args.bytes.now) ≡ 4 + length (event ++ rest) = ap (λ (t : List ℕ). length t) is
    ∙ omega arith in
    omega (arith, size, length-drop c.args.at c.args.bytes.now, c.if-bytes-at-lt4.true)

pub returns-then-size-gt-MOST_EVENT_BYTES : goal.returns-then-size-gt-MOST_EVENT_BYTES
returns-then-size-gt-MOST_EVENT_BYTES c = λ event rest is short.
    let size : length (drop c.args.at c.args.bytes.now) ≡ 4 + length (event ++ rest) = ap (λ (t : List ℕ). length t) is
    ∙ omega arith in
    let same : c.u32_at-size.result ≡ length event =
    c.u32_at-size.ensures ∙ ap (λ (t : List ℕ). from_be_bytes w32 (take 4 t)) is ∙ from_be_bytes-to_be_bytes_4
    (length event) (omega (arith, short)) in
    let all = length-drop c.args.at c.args.bytes.now in
    let both = length-append event rest in
    elim c.then-size-gt-MOST_EVENT_BYTES.branch [
      | then-size-gt-MOST_EVENT_BYTES-via-then-size-gt-MOST_EVENT_BYTES w ↦
          omega (arith, w.if-size-gt-MOST_EVENT_BYTES.true, same, short)
      | then-size-gt-MOST_EVENT_BYTES-via-else-size-gt-MOST_EVENT_BYTES+then-bytes-at w ↦
          omega (arith, w.if-bytes-at.true, same, size, all, both)
    ]
