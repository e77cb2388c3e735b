-- Files of receipts: each more receipt, and what stops the reading.
use Rattle.std.proofs.Common.{◌≡◌, ◌⊎◌, ℕ, suc, zero, ◌+◌, ◌*◌, ◌-◌, ◌<◌, ◌≤◌, List, [], ◌∷◌, ◌++◌, length, take, drop}
use Rattle.std.proofs.Common.{refl, sym, ◌∙◌, ap, subst, inl, inr, arith, append_assoc}
use Rattle.std.specs.Prelude.{map, Ok, Err}
use Rattle.std.proofs.Math.Seq.{drop-append_seam, take-append_seam}
use Rattle.std.proofs.lemmas.List.{append-nil, drop-drop, length-append, length-drop, length-take, take-append-drop}
use Rattle.tw_base.specs.declared.history.report.Hop.{Hop}
use Rattle.tw_base.specs.declared.kinds.failure.ReadFault.{ReadFault}
use Rattle.tw_base.specs.declared.kinds.failure.ReadFault.TheVariants.{Malformed, NoMemory}
use Rattle.tw_base.specs.format.Formats.{IsPlace, Spells, SpellsNothing}
use Rattle.tw_base.specs.kinds.Lists.{Each}
use Rattle.tw_base.proofs.lemmas.format.FormatLaws.{one_value}
use Rattle.tw_base.proofs.lemmas.kinds.ListLemmas.{Each-append}
use Rattle.tw_msg.specs.Receipts.{receipt_bytes, receipt_layout}
use Rattle.tw_msg.specs.declared.receipt.Receipt.{Receipt}
use Rattle.tw_msg.proofs.ReceiptCodec.{receipt-lawful, receipt-size}
use Rattle.tw_atlas.specs.ReceiptFiles.{AddsHops, BeginsWith, GoesNoFurther, IsFull, receipt_hop, receipts_bytes, room}
use Rattle.tw_atlas.specs.ReceiptSteps.{AddsNext, IsFaultLater}
use Rattle.tw_atlas.specs.declared.limits.TheConstants.{MOST_RECEIPTS}

abbrev pub AreSpelled : List Receipt → Type 0
AreSpelled receipts = Each (λ r. Spells receipt_layout (receipt_bytes r) r) receipts

-- a word is what is written of its receipt, and has 116 bytes
word-bytes : (word : List ℕ) (r : Receipt) → Spells receipt_layout word r → word ≡ receipt_bytes r
word-bytes word r spells = (receipt-lawful.words word r spells).0

pub word-size : (r : Receipt) → Spells receipt_layout (receipt_bytes r) r → length (receipt_bytes r) ≡ 116
word-size r spells = receipt-size r (receipt-lawful.words (receipt_bytes r) r spells).1

bytes-append : (one other : List Receipt) → receipts_bytes (one ++ other) ≡ receipts_bytes one ++ receipts_bytes other
bytes-append [] other = refl
bytes-append (r ∷ one) other = ap (λ bs. receipt_bytes r ++ bs) (bytes-append one other)
    ∙ sym (append_assoc (receipt_bytes r) (receipts_bytes one) (receipts_bytes other))

pub receipts-size : (receipts : List Receipt) → AreSpelled receipts → length (receipts_bytes receipts) ≡ 116 * length
    receipts
receipts-size [] spelled = omega arith
receipts-size (r ∷ receipts) spelled =
    let one = word-size r spelled.0 in let more = receipts-size receipts spelled.1 in
    omega (arith, one, more, length-append (receipt_bytes r) (receipts_bytes receipts))

-- ---- what is read so far

pub record ReadSoFar (bytes : List ℕ) (before hops : List Hop) (at : ℕ) : Type 0 where
  pub receipts : List Receipt
  pub begins : BeginsWith bytes receipts (drop at bytes)
  pub place : at ≡ length (receipts_bytes receipts)
  pub hops_are : hops ≡ before ++ map receipt_hop receipts
  pub few : length hops ≤ MOST_RECEIPTS

map-append : {X Y : Type 0} (f : X → Y) (xs ys : List X) → map f (xs ++ ys) ≡ map f xs ++ map f ys
map-append f [] ys = refl
map-append f (x ∷ xs) ys = ap (λ zs. f x ∷ zs) (map-append f xs ys)

length-map : {X Y : Type 0} (f : X → Y) (xs : List X) → length (map f xs) ≡ length xs
length-map f [] = refl
length-map f (x ∷ xs) = let rest = length-map f xs in omega (arith, rest)

-- one receipt more
pub read-more : (bytes : List ℕ) (before hops new : List Hop) (at size : ℕ) → ReadSoFar bytes before hops at
    → AddsNext (drop at bytes) hops new (Ok size) → ReadSoFar bytes before new (at + size)
read-more bytes before hops new at size s next =
    let r : Receipt = next.0 in
    let rest : List ℕ = drop at bytes in
    let word : take size rest ≡ receipt_bytes r = word-bytes (take size rest) r next.2 in
    let spells = subst (λ w. Spells receipt_layout w r) word next.2 in
    let behind : drop size rest ≡ drop (at + size) bytes = drop-drop size at bytes in
    let split : rest ≡ receipt_bytes r ++ drop (at + size) bytes =
    sym (take-append-drop size rest) ∙ ap (λ (w : List ℕ). w ++ drop size rest) word
    ∙ ap (λ (bs : List ℕ). receipt_bytes r ++ bs) behind in
    let fits = next.1 in
    record {
      receipts = s.receipts ++ r ∷ [];
      begins = record {
        split = s.begins.split ∙ ap (λ (bs : List ℕ). receipts_bytes s.receipts ++ bs) split
            ∙ sym (append_assoc (receipts_bytes s.receipts) (receipt_bytes r) (drop (at + size) bytes))
            ∙ ap (λ (bs : List ℕ). bs ++ drop (at + size) bytes)
            (sym (bytes-append s.receipts (r ∷ []) ∙ ap (λ (bs : List ℕ). receipts_bytes s.receipts ++ bs)
            (append-nil (receipt_bytes r))));
        spelled = Each-append (λ r. Spells receipt_layout (receipt_bytes r) r) s.receipts (r ∷ []) s.begins.spelled
            (spells, tt);
      };
      place = (let before = s.place in let size-is : length (take size rest) ≡ length (receipt_bytes r) =
          ap (λ (bs : List ℕ). length bs) word in
          let all : length (receipts_bytes (s.receipts ++ r ∷ [])) ≡ length (receipts_bytes s.receipts ++ receipts_bytes
          (r ∷ [])) = ap (λ (bs : List ℕ). length bs) (bytes-append s.receipts (r ∷ [])) in
          omega (
            arith,
            before,
            size-is,
            all,
            length-append (receipts_bytes s.receipts) (receipts_bytes (r ∷ [])),
            length-append (receipt_bytes r) [],
            length-take size rest,
            fits,
          ));
      hops_are = next.4 ∙ ap (λ (hs : List Hop). hs ++ receipt_hop r ∷ []) s.hops_are ∙ append_assoc before
          (map receipt_hop s.receipts) (receipt_hop r ∷ [])
          ∙ ap (λ (hs : List Hop). before ++ hs) (sym (map-append receipt_hop s.receipts (r ∷ [])));
      few = (let room = next.3 in let count : length new ≡ length (hops ++ receipt_hop r ∷ []) =
          ap (λ (hs : List Hop). length hs) next.4 in
          omega (arith, room, count, length-append hops (receipt_hop r ∷ [])));
    }

-- the receipts are counted by their hops
count-hops : (before hops : List Hop) (receipts : List Receipt) → hops ≡ before ++ map receipt_hop receipts
    → length hops ≡ length before + length receipts
count-hops before hops receipts are =
    let all : length hops ≡ length (before ++ map receipt_hop receipts) = ap (λ (hs : List Hop). length hs) are in
    omega (arith, all, length-append before (map receipt_hop receipts), length-map receipt_hop receipts)

-- ---- what stops it

pub empty-bytes : (word rest : List ℕ) → [] ≡ word ++ rest → length word ≡ 0
empty-bytes word rest e = let size : length {A = ℕ} [] ≡ length (word ++ rest) = ap (λ (bs : List ℕ). length bs) e in
    omega (arith, size, length-append word rest)

-- two words that begin the same bytes are of one size, and so are their rests the same
pub same-rest : (r s : Receipt) (xs ys : List ℕ) → Spells receipt_layout (receipt_bytes r) r → Spells receipt_layout
    (receipt_bytes s) s → receipt_bytes r ++ xs ≡ receipt_bytes s ++ ys
    → (xs ≡ ys) × (r ≡ s)
same-rest r s xs ys one other e =
    let size : length (receipt_bytes r) ≡ length (receipt_bytes s) = word-size r one ∙ sym (word-size s other) in
    let front : receipt_bytes r ≡ receipt_bytes s =
    sym (take-append_seam (receipt_bytes r) xs) ∙ ap (λ (bs : List ℕ). take (length (receipt_bytes r)) bs) e
    ∙ ap (λ (n : ℕ). take n (receipt_bytes s ++ ys)) size ∙ take-append_seam (receipt_bytes s) ys in
    let back : xs ≡ ys =
    sym (drop-append_seam (receipt_bytes r) xs) ∙ ap (λ (bs : List ℕ). drop (length (receipt_bytes r)) bs) e
    ∙ ap (λ (n : ℕ). drop n (receipt_bytes s ++ ys)) size ∙ drop-append_seam (receipt_bytes s) ys in (
      back,
      one_value receipt_layout (receipt_bytes r) r s one (subst (λ (w : List ℕ). Spells receipt_layout w s) (sym front)
          other),
    )

-- one more receipt can't stand there
IsStopped : (most : ℕ) → List ℕ → Type 0
IsStopped most rest = (0 < length rest) × ((0 < most) → (n : ℕ) → SpellsNothing receipt_layout (take n rest))

no-more : (receipts others : List Receipt) (rest : List ℕ) (most : ℕ) → AreSpelled receipts → AreSpelled others
    → receipts_bytes receipts ++ rest ≡ receipts_bytes others ++ []
    → length receipts ≤ most → IsStopped (most - length receipts) rest → length others ≤ most → ⊥
unfolding IsStopped
no-more [] [] rest most one other e low stopped few =
    let size : length rest ≡ length {A = ℕ} [] = ap (λ (bs : List ℕ). length bs) e in let some = stopped.0 in
    omega (arith, size, some)
no-more [] (s ∷ others) rest most one other e low stopped few =
    let whole : rest ≡ receipt_bytes s ++ (receipts_bytes others ++ []) = e ∙ append_assoc (receipt_bytes s)
    (receipts_bytes others) [] in
    let front : take (length (receipt_bytes s)) rest ≡ receipt_bytes s = ap (take (length (receipt_bytes s))) whole
    ∙ take-append_seam (receipt_bytes s) (receipts_bytes others ++ []) in
    stopped.1 (omega (arith, few)) (length (receipt_bytes s)) s (subst (λ (w : List ℕ). Spells receipt_layout w s)
    (sym front) other.0)
no-more (r ∷ receipts) [] rest most one other e low stopped few =
    let size = word-size r one.0 in
    let none = empty-bytes (receipt_bytes r) (receipts_bytes receipts ++ rest)
    (sym e ∙ append_assoc (receipt_bytes r) (receipts_bytes receipts) rest) in
    omega (arith, size, none)
no-more (r ∷ receipts) (s ∷ others) rest zero one other e low stopped few = omega (arith, low)
no-more (r ∷ receipts) (s ∷ others) rest (suc most) one other e low stopped few =
    let both : receipt_bytes r ++ (receipts_bytes receipts ++ rest) ≡ receipt_bytes s ++ (receipts_bytes others ++ []) =
    sym (append_assoc (receipt_bytes r) (receipts_bytes receipts) rest) ∙ e ∙ append_assoc (receipt_bytes s)
    (receipts_bytes others) [] in
    let rests = same-rest r s (receipts_bytes receipts ++ rest) (receipts_bytes others ++ []) one.0 other.0 both in
    no-more receipts others rest most one.1 other.1 rests.0 (omega (arith, low))
    (subst (λ (m : ℕ). (0 < length rest) × ((0 < m) → (n : ℕ) → SpellsNothing receipt_layout (take n rest)))
    (let same : suc most - length (r ∷ receipts) ≡ most - length receipts = omega (arith, low) in same) stopped)
    (omega (arith, few))

pub read-stops : (bytes : List ℕ) (before hops new end : List Hop) (at place : ℕ) → ReadSoFar bytes before hops at
    → length before ≤ MOST_RECEIPTS → at < length bytes
    → AddsNext (drop at bytes) hops new (Err (Malformed place)) → AddsHops bytes before end
    (Err (Malformed (at + place)))
unfolding IsStopped
read-stops bytes before hops new end at place s some below next = (
  λ others are. no-more s.receipts others (drop at bytes) (room before) s.begins.spelled are.begins.spelled
      (sym s.begins.split ∙ are.begins.split) low (long, stopped next) are.few,
  record {
    receipts = s.receipts;
    rest = drop at bytes;
    begins = s.begins;
    behind = place;
    bad = bad next;
    place_is = (let at-is = s.place in omega (arith, at-is));
  },
)
  where
    count : length hops ≡ length before + length s.receipts
    count = count-hops before hops s.receipts s.hops_are

    low : length s.receipts ≤ room before
    low = let few = s.few in omega (arith, count, few)

    long : 0 < length (drop at bytes)
    long = omega (arith, below, length-drop at bytes)

    stopped : ((MOST_RECEIPTS ≤ length hops) × (place ≡ 0)) ⊎ ((length hops < MOST_RECEIPTS)
        × ((n : ℕ) → SpellsNothing receipt_layout (take n (drop at bytes))) × IsPlace receipt_layout (drop at bytes)
        place)
        → 0 < room before - length s.receipts → (n : ℕ) → SpellsNothing receipt_layout (take n (drop at bytes))
    stopped (inl full) room-left = absurd (let most = full.0 in omega (arith, most, room-left, count))
    stopped (inr none) room-left = none.1

    bad : ((MOST_RECEIPTS ≤ length hops) × (place ≡ 0)) ⊎ ((length hops < MOST_RECEIPTS)
        × ((n : ℕ) → SpellsNothing receipt_layout (take n (drop at bytes))) × IsPlace receipt_layout (drop at bytes)
        place)
        → IsFull (room before) s.receipts (drop at bytes) place ⊎ GoesNoFurther (room before) s.receipts (drop at bytes)
        place
    bad (inl full) =
        inl (record {
          all = (let most = full.0 in let few = s.few in omega (arith, most, few, count, some));
          more = long;
          first = full.1;
        })
    bad (inr none) =
        inr (record
        { room = (let free = none.0 in omega (arith, free, count)); more = long; none = none.1; is_place = none.2 })

-- ---- what the loop asks

-- the bytes behind a place, as a slice of them is read
pub rest-of : (bytes : List ℕ) (at : ℕ) → take (length bytes - at) (drop at bytes) ≡ drop at bytes
rest-of bytes at = ap (λ (n : ℕ). take n (drop at bytes)) (sym (length-drop at bytes)) ∙ take-whole (drop at bytes)
  where
    take-whole : (bs : List ℕ) → take (length bs) bs ≡ bs
    take-whole [] = refl
    take-whole (b ∷ bs) = ap (λ (cs : List ℕ). b ∷ cs) (take-whole bs)

pub next-size : (rest : List ℕ) (hops new : List Hop) (size : ℕ) → AddsNext rest hops new (Ok size) → (0 < size)
    × (size ≤ length rest)
next-size rest hops new size next =
    let r : Receipt = next.0 in
    let word : take size rest ≡ receipt_bytes r = word-bytes (take size rest) r next.2 in
    let spells = subst (λ w. Spells receipt_layout w r) word next.2 in
    let bytes = word-size r spells in
    let same : length (take size rest) ≡ length (receipt_bytes r) = ap (λ (bs : List ℕ). length bs) word in
    let fits = next.1 in
    (omega (arith, bytes, same, length-take size rest, fits), fits)

pub smaller : (n at size : ℕ) → at < n → 0 < size → n - (at + size) < n - at
smaller n at size below some = omega (arith, below, some)

pub read-fails : (bytes : List ℕ) (before hops new end : List Hop) (at : ℕ) (fault later : ReadFault)
    → ReadSoFar bytes before hops at → length before ≤ MOST_RECEIPTS → at < length bytes
    → AddsNext (drop at bytes) hops new (Err fault) → IsFaultLater at fault later → AddsHops bytes before end
    (Err later)
read-fails bytes before hops new end at (Malformed place) later s few below next is =
    subst (λ (f : ReadFault). AddsHops bytes before end (Err f)) (sym is) (read-stops bytes before hops new end at place
    s few below next)
read-fails bytes before hops new end at NoMemory later s few below next is =
    subst (λ (f : ReadFault). AddsHops bytes before end (Err f)) (sym is) tt
