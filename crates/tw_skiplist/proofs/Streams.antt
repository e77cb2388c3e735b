-- The stream of events and its pieces.
use Rattle.std.proofs.Common.{◌≡◌, ℕ, suc, zero, ◌+◌, ◌*◌, ◌<◌, List, [], ◌∷◌, ◌++◌, length, get_or, take, refl, ap}
use Rattle.std.proofs.Common.{sym, ◌∙◌, arith, inl, inr, append_assoc, Option, Some, None}
use Rattle.std.specs.Prelude.{min, sum_by}
use Rattle.std.specs.Option.{option_map}
use Rattle.std.specs.Int.{to_be_bytes, w32}
use Rattle.std.proofs.lemmas.Bool.{cases_lt}
use Rattle.std.proofs.lemmas.List.Sums.{sum_by-cons}
use Rattle.std.proofs.lemmas.List.{length-append, take_all, take_more, length_push, get_or_push, get_or_append_left}
use Rattle.std.proofs.lemmas.List.{append-nil}
use Rattle.tw_disk.specs.Image.{Image, page_at}
use Rattle.tw_steppage.specs.StepBytes.{event_page_bytes, event_pages, piece, stream}
use Rattle.tw_steppage.specs.declared.limits.TheConstants.{MOST_PIECE_BYTES}

pub stream-append : (xs ys : List (List ℕ)) → stream (xs ++ ys) ≡ stream xs ++ stream ys
stream-append [] ys = refl
stream-append (x ∷ xs) ys =
    ap (λ (t : List ℕ). to_be_bytes w32 (length x) ++ (x ++ t)) (stream-append xs ys)
    ∙ ap (λ (t : List ℕ). to_be_bytes w32 (length x) ++ t) (sym (append_assoc x (stream xs) (stream ys)))

pub length-stream : (events : List (List ℕ)) → length (stream events) ≡ 4 * length events + sum_by
    (λ event. length event) events
length-stream [] = refl
length-stream (e ∷ es) = let rest = length-stream es in
    omega (arith, rest, length-append e (stream es), sum_by-cons (λ event. length event) e es)

-- one more event
pub stream-more : (xs : List (List ℕ)) (i : ℕ) (d : List ℕ) → i < length xs → stream (take (i + 1) xs) ≡ stream
    (take i xs) ++ (to_be_bytes w32 (length (get_or xs i d)) ++ get_or xs i d)
stream-more xs i d l =
    ap stream (take_more xs i d l) ∙ stream-append (take i xs) (get_or xs i d ∷ [])
    ∙ ap (λ (t : List ℕ). stream (take i xs) ++ (to_be_bytes w32 (length (get_or xs i d)) ++ t))
    (append-nil (get_or xs i d))

-- a piece is cut off at the stream's end
pub taken : (xs : List ℕ) (n : ℕ) → n ≡ length xs → take (min n MOST_PIECE_BYTES) xs ≡ take MOST_PIECE_BYTES xs
taken xs n is =
    elim (cases_lt MOST_PIECE_BYTES n) [
      | inl more ↦ ap (λ (k : ℕ). take k xs) (let e : min n MOST_PIECE_BYTES ≡ MOST_PIECE_BYTES = omega arith in e)
      | inr less ↦ (
          let e : min n MOST_PIECE_BYTES ≡ n = omega arith in
          ap (λ (k : ℕ). take k xs) e ∙ take_all n xs (omega (arith, is))
          ∙ sym (take_all MOST_PIECE_BYTES xs (omega (arith, is, less))))
    ]

pub event_pages-first : (step : ℕ) (bytes : List ℕ) → event_pages step bytes 0 ≡ []
unfolding event_pages
event_pages-first step bytes = refl

pub event_pages-more : (step : ℕ) (bytes : List ℕ) (number : ℕ) → event_pages step bytes (number + 1) ≡ event_pages step
    bytes number ++ event_page_bytes step number (piece bytes number) ∷ []
unfolding event_pages
event_pages-more step bytes number = ap (event_pages step bytes) (let e : number + 1 ≡ suc number = omega arith in e)

pub length-event_pages : (step : ℕ) (bytes : List ℕ) (count : ℕ) → length (event_pages step bytes count) ≡ count
unfolding event_pages
length-event_pages step bytes zero = refl
length-event_pages step bytes (suc number) = length_push (event_pages step bytes number) _
    ∙ omega (arith, length-event_pages step bytes number)

-- the event page of a number
pub page_at-event_pages : (step : ℕ) (bytes : List ℕ) (count number : ℕ) → number < count
    → page_at (event_pages step bytes count) number ≡ event_page_bytes step number (piece bytes number)
unfolding event_pages
page_at-event_pages step bytes zero number l = absurd (omega arith)
page_at-event_pages step bytes (suc last) number l =
    elim (cases_lt number last) [
      | inl less ↦ get_or_append_left (event_pages step bytes last) _ [] number
          (omega (arith, less, length-event_pages step bytes last)) ∙ page_at-event_pages step bytes last number less
      | inr more ↦ (
          let e : last ≡ number = omega (arith, l, more) in
          get_or_push (event_pages step bytes last) (event_page_bytes step last (piece bytes last)) [] number
          (length-event_pages step bytes last ∙ e)
          ∙ ap (λ (k : ℕ). event_page_bytes step k (piece bytes k)) e)
    ]

-- ---- pages that may be told, with more behind them

pub option_ap : {one other : Image} (told : Option Image) → one ≡ other → option_map (λ ps. ps ++ one) told ≡ option_map
    (λ ps. ps ++ other) told
option_ap {one} {other} told e = ap (λ (more : Image). option_map (λ ps. ps ++ more) told) e

pub option_same : (told : Option Image) (more : Image) → more ≡ [] → told ≡ option_map (λ ps. ps ++ more) told
option_same None more none = refl
option_same (Some ps) more none = ap (λ (x : Image). Some x) (sym (append-nil ps) ∙ ap (λ (m : Image). ps ++ m)
    (sym none))

pub option_more : (told now : Option Image) (more : Image) (page : List ℕ) → now ≡ option_map (λ ps. ps ++ more) told
    → option_map (λ ps. ps ++ page ∷ []) now ≡ option_map (λ ps. ps ++ (more ++ page ∷ [])) told
option_more None now more page is = ap (λ (o : Option Image). option_map (λ ps. ps ++ page ∷ []) o) is
option_more (Some ps) now more page is = ap (λ (o : Option Image). option_map (λ ps. ps ++ page ∷ []) o) is
    ∙ ap (λ (x : Image). Some x) (append_assoc ps more (page ∷ []))
