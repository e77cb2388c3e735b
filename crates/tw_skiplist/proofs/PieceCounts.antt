-- How many event pages a stream has, and what they have.
use Rattle.std.proofs.Common.{◌≡◌, ℕ, suc, ◌+◌, ◌-◌, ◌*◌, ◌<◌, ◌≤◌, List, ap, ◌∙◌, arith}
use Rattle.tw_disk.specs.Image.{Image}
use Rattle.tw_skiplist.specs.declared.info.EventsAt.{EventsAt}
use Rattle.tw_steppage.specs.declared.limits.TheConstants.{MOST_PIECE_BYTES}
use Rattle.tw_skiplist.specs.Events.{last_event_page, piece_behind, piece_count, pieces_from}
use Rattle.tw_disk.specs.Found.{◌>>=◌}
use Rattle.tw_disk.specs.Found.Found.{Is}

pub count_more : (size number : ℕ) → MOST_PIECE_BYTES * number < size → number < piece_count size
count_more size number l = omega arith

pub count_end : (size number : ℕ) → size ≤ MOST_PIECE_BYTES * number → piece_count size ≤ number
count_end size number l = omega arith

-- each of the numbers below the count is needed
pub count_needed : (size number : ℕ) → number < piece_count size → MOST_PIECE_BYTES * number < size
count_needed size number l = omega arith

pub count_all : (size : ℕ) → size ≤ MOST_PIECE_BYTES * piece_count size
count_all size = omega arith

module _ (ps : Image) (at : EventsAt) (number : ℕ) (before : List ℕ) where
  pub pieces-here : at.stream.size ≤ MOST_PIECE_BYTES * number → pieces_from ps at (piece_count at.stream.size - number)
      number before ≡ Is before
  unfolding pieces_from
  pieces-here end = ap (λ (more : ℕ). pieces_from ps at more number before) (let e : piece_count at.stream.size - number
      ≡ 0 = omega (arith, count_end at.stream.size number end) in e)

  pub pieces-on : MOST_PIECE_BYTES * number < at.stream.size → pieces_from ps at (piece_count at.stream.size - number)
      number before
      ≡ (piece_behind ps at number before >>= pieces_from ps at (piece_count at.stream.size - (number + 1))
      (number + 1))
  unfolding pieces_from
  pieces-on more =
      let next : suc number ≡ number + 1 = omega arith in
      let under = count_more at.stream.size number more in
      ap (λ (left : ℕ). pieces_from ps at left number before) (let e : piece_count at.stream.size - number ≡ suc
      (piece_count at.stream.size - (number + 1)) = omega (arith, under) in e)
      ∙ ap (λ (n : ℕ). piece_behind ps at number before >>= pieces_from ps at
      (piece_count at.stream.size - (number + 1)) n) next

pub pieces-begin : (ps : Image) (at : EventsAt) (before : List ℕ) → pieces_from ps at (piece_count at.stream.size) 0
    before ≡ pieces_from ps at (piece_count at.stream.size - 0) 0 before
pieces-begin ps at before = ap (λ (more : ℕ). pieces_from ps at more 0 before)
    (let e : piece_count at.stream.size ≡ piece_count at.stream.size - 0 = omega arith in e)

pub last_page-on : (at : EventsAt) (number : ℕ) → last_event_page at (number + 1) ≡ at.stream.page + number
last_page-on at number = ap (last_event_page at) (let e : number + 1 ≡ suc number = omega arith in e)

-- the event pages of a stream, one by one
pub ruleset pieces_go_on = (pieces-here, pieces-on, pieces-begin, last_page-on, count_more, count_end)
