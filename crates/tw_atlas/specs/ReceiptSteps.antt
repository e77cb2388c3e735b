-- What reading the next receipt of a file adds.
use Rattle.std.specs.Prelude.{◌≡◌, ◌⊎◌, ℕ, ◌+◌, ◌<◌, ◌≤◌, List, [], ◌∷◌, ◌++◌, length, take, Result, Ok, Err}
use Rattle.tw_base.specs.declared.history.report.Hop.{Hop}
use Rattle.tw_base.specs.declared.kinds.failure.ReadFault.{ReadFault}
use Rattle.tw_base.specs.declared.kinds.failure.ReadFault.TheVariants.{Malformed, NoMemory}
use Rattle.tw_base.specs.format.Formats.{IsPlace, Spells, SpellsNothing}
use Rattle.tw_msg.specs.Receipts.{receipt_layout}
use Rattle.tw_msg.specs.declared.receipt.Receipt.{Receipt}
use Rattle.tw_atlas.specs.ReceiptFiles.{receipt_hop}
use Rattle.tw_atlas.specs.declared.limits.TheConstants.{MOST_RECEIPTS}

-- where there is room for one more, it takes the receipt at the front of the bytes, and answers its size; else it tells the place of
-- the bad byte
abbrev pub AddsNext : (bytes : List ℕ) → (before after : List Hop) → Result ℕ ReadFault → Type 0
AddsNext bytes before after (Ok size) =
    (r : Receipt) × (size ≤ length bytes) × Spells receipt_layout (take size bytes) r × (length before < MOST_RECEIPTS) × (after ≡ before ++ receipt_hop r ∷ [])
AddsNext bytes before after (Err (Malformed place)) =
    ((MOST_RECEIPTS ≤ length before) × (place ≡ 0))
    ⊎ ((length before < MOST_RECEIPTS) × ((n : ℕ) → SpellsNothing receipt_layout (take n bytes)) × IsPlace receipt_layout bytes place)
AddsNext bytes before after (Err NoMemory) = Unit {0}

-- the same of a fault's place, counted from earlier bytes
abbrev pub IsFaultLater : (at : ℕ) → ReadFault → ReadFault → Type 0
IsFaultLater at (Malformed place) later = later ≡ Malformed (at + place)
IsFaultLater at NoMemory later = later ≡ NoMemory

-- the place that a fault tells, if any, is at most so much
abbrev pub IsWithin : (most : ℕ) → ReadFault → Type 0
IsWithin most (Malformed place) = place ≤ most
IsWithin most NoMemory = Unit {0}
