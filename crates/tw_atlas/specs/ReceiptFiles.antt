-- Files of receipts: any number of them, one after another.
use Rattle.std.specs.Prelude.{◌≡◌, ◌⊎◌, ℕ, ◌+◌, ◌-◌, ◌<◌, ◌≤◌, List, [], ◌++◌, length, map, take, Result, Ok, Err}
use Rattle.std.specs.List.{flat_map}
use Rattle.tw_base.specs.declared.history.report.Hop.{Hop}
use Rattle.tw_base.specs.declared.kinds.failure.ReadFault.{ReadFault}
use Rattle.tw_base.specs.declared.kinds.failure.ReadFault.TheVariants.{Malformed, NoMemory}
use Rattle.tw_base.specs.format.Formats.{IsPlace, Spells, SpellsNothing}
use Rattle.tw_base.specs.kinds.Lists.{Each}
use Rattle.tw_msg.specs.Receipts.{receipt_bytes, receipt_layout}
use Rattle.tw_msg.specs.declared.receipt.Receipt.{Receipt}
use Rattle.tw_atlas.specs.declared.limits.TheConstants.{MOST_RECEIPTS}

-- the hop that a receipt gives: from the thread's service and step to the recorder and its step
abbrev pub receipt_hop : Receipt → Hop
receipt_hop r = record { from = r.thread.from; step = r.thread.step; by = r.by.from; archived = r.by.step }

abbrev pub receipts_bytes : List Receipt → List ℕ
receipts_bytes receipts = flat_map receipt_bytes receipts

-- the bytes are the receipts, each of which is spelled, and then the rest
pub record BeginsWith (bytes : List ℕ) (receipts : List Receipt) (rest : List ℕ) : Type 0 where
  pub split : bytes ≡ receipts_bytes receipts ++ rest
  pub spelled : Each (λ r. Spells receipt_layout (receipt_bytes r) r) receipts

-- a file of receipts, of which there may be so many
pub record AreReceipts (most : ℕ) (bytes : List ℕ) (receipts : List Receipt) : Type 0 where
  pub begins : BeginsWith bytes receipts []
  pub few : length receipts ≤ most

-- as many receipts as there may be, and one byte more, which is the bad one
pub record IsFull (most : ℕ) (receipts : List Receipt) (rest : List ℕ) (place : ℕ) : Type 0 where
  pub all : length receipts ≡ most
  pub more : 0 < length rest
  pub first : place ≡ 0

-- there may be one more, but no front of the rest is one; the bad byte is that at which none goes on
pub record GoesNoFurther (most : ℕ) (receipts : List Receipt) (rest : List ℕ) (place : ℕ) : Type 0 where
  pub room : length receipts < most
  pub more : 0 < length rest
  pub none : (n : ℕ) → SpellsNothing receipt_layout (take n rest)
  pub is_place : IsPlace receipt_layout rest place

-- the place of the first bad byte: behind the receipts with which the file begins, by so many bytes
pub record IsBadAt (most : ℕ) (bytes : List ℕ) (place : ℕ) : Type 0 where
  pub receipts : List Receipt
  pub rest : List ℕ
  pub begins : BeginsWith bytes receipts rest
  pub behind : ℕ
  pub bad : IsFull most receipts rest behind ⊎ GoesNoFurther most receipts rest behind
  pub place_is : place ≡ length (receipts_bytes receipts) + behind

-- how many receipts may follow those of so many hops
abbrev pub room : List Hop → ℕ
room hops = MOST_RECEIPTS - length hops

-- what reading a file adds to the hops of earlier ones: the hop of each receipt, of which there are at most as many as room is left for;
-- Malformed exactly where the bytes are no such receipts, with the place of the first bad byte. Want of memory is free
abbrev pub AddsHops : (bytes : List ℕ) → (before after : List Hop) → Result (Unit {0}) ReadFault → Type 0
AddsHops bytes before after (Ok done) =
    (receipts : List Receipt) × AreReceipts (room before) bytes receipts × (after ≡ before ++ map receipt_hop receipts)
AddsHops bytes before after (Err (Malformed place)) =
    ((receipts : List Receipt) → AreReceipts (room before) bytes receipts → ⊥) × IsBadAt (room before) bytes place
AddsHops bytes before after (Err NoMemory) = Unit {0}
