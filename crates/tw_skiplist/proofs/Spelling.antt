-- The events that a stream spells.
use Rattle.std.proofs.Common.{◌≡◌, ℕ, suc, zero, ◌+◌, ◌*◌, ◌<◌, ◌≤◌, List, [], ◌∷◌, ◌++◌, length, take, drop, refl, ap}
use Rattle.std.proofs.Common.{sym, ◌∙◌, arith, subst, append_assoc, length-append, length-take, length-drop}
use Rattle.std.specs.Int.{to_be_bytes, from_be_bytes, w32}
use Rattle.std.proofs.lemmas.List.{drop-drop, append-nil, take_all}
use Rattle.std.proofs.lemmas.Nat.{from_be_bytes-to_be_bytes_4}
use Rattle.tw_base.specs.kinds.Bytes.{AreBytes}
use Rattle.tw_base.specs.declared.kinds.limits.TheConstants.{MOST_EVENTS, MOST_EVENT_BYTES, MOST_STEP_BYTES}
use Rattle.tw_base.specs.kinds.Lists.{Each}
use Rattle.tw_base.proofs.lemmas.kinds.ByteLemmas.{AreBytes-back, AreBytes-front}
use Rattle.tw_base.proofs.lemmas.kinds.TextFields.{halves}
use Rattle.tw_skiplist.specs.ScanSteps.{HasEventAt, IsNoEventAt, SpellsEvents}
use Rattle.tw_steppage.specs.StepBytes.{stream}
use Rattle.tw_skiplist.proofs.Streams.{length-stream, stream-append}

abbrev pub AllShort : List (List ℕ) → Type 0
AllShort events = Each (λ event. length event ≤ MOST_EVENT_BYTES) events

-- an event behind its length, and what follows it
pub event-fields : (a b x y : List ℕ) → length a ≤ MOST_EVENT_BYTES → length b ≤ MOST_EVENT_BYTES
    → to_be_bytes w32 (length a) ++ (a ++ x) ≡ to_be_bytes w32 (length b) ++ (b ++ y) → (a ≡ b) × (x ≡ y)
event-fields a b x y p q same =
    let size : length a ≡ length b =
    sym (from_be_bytes-to_be_bytes_4 (length a) (omega arith)) ∙ ap (λ (t : List ℕ). from_be_bytes w32 (take 4 t)) same
    ∙ from_be_bytes-to_be_bytes_4 (length b) (omega arith) in
    halves a b x y size (ap (drop 4) same)

-- events that bytes spell are lists of bytes
pub spelled_bytes : (events : List (List ℕ)) → AreBytes (stream events) → Each AreBytes events
spelled_bytes [] all = tt
spelled_bytes (e ∷ es) all =
    let rest = AreBytes-back (to_be_bytes w32 (length e)) (e ++ stream es) all in
    (AreBytes-front e (stream es) rest, spelled_bytes es (AreBytes-back e (stream es) rest))

-- events that a stream begins with are the first of its events
pub record Begins (xs es : List (List ℕ)) (rest : List ℕ) : Type 0 where
  pub more : List (List ℕ)
  pub all : es ≡ xs ++ more
  pub rest_is : rest ≡ stream more

pub begins : (xs es : List (List ℕ)) (rest : List ℕ) → AllShort xs → AllShort es → length xs ≤ length es
    → stream xs ++ rest ≡ stream es → Begins xs es rest
begins [] es rest p q l same = record { more = es; all = refl; rest_is = same }
begins (x ∷ xs) [] rest p q l same = absurd (omega arith)
begins (x ∷ xs) (e ∷ es) rest p q l same =
    let parts = event-fields x e (stream xs ++ rest) (stream es) p.0 q.0 (
    ap (λ (t : List ℕ). to_be_bytes w32 (length x) ++ t) (sym (append_assoc x (stream xs) rest)) ∙ same) in
    let on = begins xs es rest p.1 q.1 (omega arith) parts.1 in
    record { more = on.more; all = (λ j. sym parts.0 j ∷ on.all j); rest_is = on.rest_is }

length-none : (xs : List (List ℕ)) → length xs ≡ 0 → xs ≡ []
length-none [] e = refl
length-none (x ∷ xs) e = absurd (omega arith)

-- ---- while a stream is taken apart

module _ (bytes : List ℕ) (count at index : ℕ) (events es : List (List ℕ)) (so_far : stream events ≡ take at bytes)
    (within : at ≤ length bytes) (count_is : length events ≡ index)
    (sizes : AllShort events) (spells : SpellsEvents bytes count es) (more_to_come : index ≤ count) where
  pub rest_of : Begins events es (drop at bytes)
  rest_of = begins events es (drop at bytes) sizes spells.limits.are.sizes
      (omega (arith, count_is, spells.count_is, more_to_come))
      (ap (λ (t : List ℕ). t ++ drop at bytes) so_far ∙ take_drop at bytes ∙ sym spells.stream_is)
    where
      take_drop : (n : ℕ) (xs : List ℕ) → take n xs ++ drop n xs ≡ xs
      take_drop zero xs = refl
      take_drop (suc n) [] = refl
      take_drop (suc n) (x ∷ xs) = ap (λ (t : List ℕ). x ∷ t) (take_drop n xs)

  -- as many events are to come as the count lacks
  left : index + length rest_of.more ≡ count
  left =
      omega (
        arith,
        count_is,
        spells.count_is,
        ap (λ (l : List (List ℕ)). length l) rest_of.all,
        length-append events rest_of.more,
      )

  -- where no event stands although some are to come, the bytes spell none
  pub no_event : index < count → IsNoEventAt bytes at → ⊥
  no_event less none = first rest_of.more (omega (arith, less, left)) rest_of.rest_is
      (each_of events rest_of.more (subst AllShort rest_of.all spells.limits.are.sizes))
    where
      each_of : (xs ys : List (List ℕ)) → AllShort (xs ++ ys) → AllShort ys
      each_of [] ys all = all
      each_of (x ∷ xs) ys all = each_of xs ys all.1

      first : (more : List (List ℕ)) → 0 < length more → drop at bytes ≡ stream more → AllShort more → ⊥
      first [] some is short = absurd (omega arith)
      first (e ∷ more) some is short = none e (stream more) is short.0

  -- when all are taken, nothing is left, and the events are these
  pub all_taken : index ≡ count → (at ≡ length bytes) × (events ≡ es)
  all_taken done =
      let none : rest_of.more ≡ [] = length-none rest_of.more (omega (arith, done, left)) in
      let empty : length (drop at bytes) ≡ 0 = ap (λ (t : List ℕ). length t) (rest_of.rest_is ∙ ap stream none) in (
        omega (arith, empty, length-drop at bytes, within),
        sym (rest_of.all ∙ ap (λ (m : List (List ℕ)). events ++ m) none ∙ append-nil events),
      )

  -- when all are taken, they end where the bytes do, and aren't too long together
  pub not_ended : index ≡ count → (at ≡ length bytes → at ≤ 4 * count + MOST_STEP_BYTES → ⊥) → ⊥
  not_ended done wrong =
      let end = (all_taken done).0 in
      let size : length (stream es) ≡ length bytes = ap (λ (t : List ℕ). length t) spells.stream_is in
      wrong end (omega (arith, length-stream es, size, end, spells.count_is, spells.limits.fit))

-- all events are taken, and end where the bytes do
pub ended : (bytes : List ℕ) (count at index : ℕ) (events : List (List ℕ)) → stream events ≡ take at bytes
    → length events ≡ index → AllShort events → index ≡ count → at ≡ length bytes → count ≤ MOST_EVENTS
    → at ≤ 4 * count + MOST_STEP_BYTES → AreBytes bytes → SpellsEvents bytes count events
ended bytes count at index events so_far count_is sizes done end few fits bytes_are =
    let spelt : stream events ≡ bytes = so_far ∙ take_all at bytes (omega (arith, end)) in
    let size : length (stream events) ≡ length bytes = ap (λ (t : List ℕ). length t) spelt in
    record {
      stream_is = spelt;
      count_is = count_is ∙ done;
      limits = record {
        are = record {
          count = omega (arith, count_is, done, few);
          sizes = sizes;
          bytes = spelled_bytes events (subst AreBytes (sym spelt) bytes_are);
        };
        fit = omega (arith, length-stream events, size, count_is, done, end, fits);
      };
    }

-- ---- one more event

Each-push : (xs : List (List ℕ)) (x : List ℕ) → AllShort xs → length x ≤ MOST_EVENT_BYTES → AllShort (xs ++ x ∷ [])
Each-push [] x all short = (short, tt)
Each-push (y ∷ xs) x all short = (all.0, Each-push xs x all.1 short)

take-nil : (n : ℕ) → take n (let none : List ℕ = [] in none) ≡ []
take-nil zero = refl
take-nil (suc n) = refl

pub take_on : (n m : ℕ) (xs : List ℕ) → take n xs ++ take m (drop n xs) ≡ take (n + m) xs
take_on zero m xs = ap (λ (k : ℕ). take k xs) (let e : m ≡ 0 + m = omega arith in e)
take_on (suc n) m [] = take-nil m ∙ sym (take-nil (suc n + m))
take_on (suc n) m (x ∷ xs) = ap (λ (t : List ℕ). x ∷ t) (take_on n m xs) ∙ ap (λ (k : ℕ). take k (x ∷ xs))
    (let e : suc (n + m) ≡ suc n + m = omega arith in e)

module _ (bytes : List ℕ) (at size : ℕ) (events : List (List ℕ)) (event : List ℕ) (so_far : stream events ≡ take at
    bytes) (has : HasEventAt bytes at size) (event_is : event ≡ take size (drop (at + 4) bytes)) where
  pub event_length : length event ≡ size
  event_length = ap (λ (t : List ℕ). length t) event_is ∙ length-take size (drop (at + 4) bytes)
      ∙ (let room = has.room in omega (arith, length-drop (at + 4) bytes))

  pub more_taken : stream (events ++ event ∷ []) ≡ take (at + (4 + size)) bytes
  more_taken =
      stream-append events (event ∷ [])
      ∙ ap (λ (t : List ℕ). stream events ++ (to_be_bytes w32 (length event) ++ t)) (append-nil event)
      ∙ (λ j. so_far j ++ (to_be_bytes w32 (event_length j) ++ event_is j))
      ∙ ap (λ (t : List ℕ). take at bytes ++ (t ++ take size (drop (at + 4) bytes))) (sym has.length_is)
      ∙ ap (λ (t : List ℕ). take at bytes ++ (take 4 (drop at bytes) ++ take size t)) (sym (drop-drop 4 at bytes))
      ∙ ap (λ (t : List ℕ). take at bytes ++ t) (take_on 4 size (drop at bytes))
      ∙ take_on at (4 + size) bytes

  pub more_sizes : AllShort events → AllShort (events ++ event ∷ [])
  more_sizes all = Each-push events event all (omega (arith, event_length, has.few))
