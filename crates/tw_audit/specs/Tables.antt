-- What a table of texts keeps of those that it took: of each digest the first of its texts, until one clashes with it.
use Rattle.std.specs.Prelude.{◌≡◌, ℕ, ◌≤◌, List, [], ◌∷◌, ◌++◌, length, false, Option, Some, None, find, slice_range, if◌then◌else◌, IfSome}
use Rattle.std.specs.BTreeMap.{get}
use Rattle.std.specs.Cmp.Lexicographic.{slice_cmp}
use Rattle.std.specs.Int.{from_be_bytes, w64}
use Rattle.std.specs.Option.{option_map}
use Rattle.std.specs.Ordering.{nat_cmp}
use Rattle.std.specs.Str.{bytes_eq}
use Rattle.tw_base.specs.kinds.Bytes.{HasBytes}
use Rattle.tw_base.specs.kinds.Clash.{Pair, clash_pair, clashes}
use Rattle.tw_audit.specs.KeyLists.{doubtful, key_front}
use Rattle.tw_audit.specs.declared.keys.Repeated.{Repeated}
use Rattle.tw_audit.specs.declared.table.Place.{Place}
use Rattle.tw_audit.specs.declared.table.Table.{Table}
use Rattle.tw_audit.specs.declared.table.TextPair.{TextPair}

-- a digest as four numbers, by which it is kept
abbrev pub words_of : (digest : List ℕ) → List ℕ
words_of digest =
    from_be_bytes w64 (slice_range digest 0 8) ∷ from_be_bytes w64 (slice_range digest 8 16)
    ∷ from_be_bytes w64 (slice_range digest 16 24) ∷ from_be_bytes w64 (slice_range digest 24 32) ∷ []

abbrev pub text_at : (arena : List ℕ) → Place → List ℕ
text_at arena p = slice_range arena p.start p.end

-- the texts that clash, as they are kept
abbrev pub pair_kept : TextPair → Pair
pair_kept p = record { one = p.one; other = p.other }

abbrev pub place_in_table : Table → (words : List ℕ) → Option Place
place_in_table t words = get (slice_cmp nat_cmp) t.places words

-- the text that is kept of a digest
abbrev pub kept : Table → (digest : List ℕ) → Option (List ℕ)
kept t digest = option_map (text_at t.arena.items) (place_in_table t (words_of digest))

-- the text that was kept, where it is another one
abbrev pub other_than : (text : List ℕ) → Option (List ℕ) → Option (List ℕ)
other_than text None = None
other_than text (Some first) = if bytes_eq first text then None else Some first

pub record IsInside (arena : List ℕ) (p : Place) : Type 0 where
  pub order : p.start ≤ p.end
  pub within : p.end ≤ length arena

-- what is kept of a digest is the first text with which another one of that digest would clash
abbrev pub Knows : (dig : List ℕ → List ℕ) (texts : List (List ℕ)) → (kept : List ℕ → Option (List ℕ)) → Type 0
Knows dig texts kept = (text : List ℕ) → find (clashes dig text) texts ≡ other_than text (kept (dig text))

-- the table took these texts: it has their pair, or knows all of them
pub record HasTaken (dig : List ℕ → List ℕ) (texts : List (List ℕ)) (t : Table) : Type 0 where
  pub pair : clash_pair dig texts ≡ option_map pair_kept t.found
  pub knows : t.found ≡ None → Knows dig texts (kept t)
  pub places : (words : List ℕ) → IfSome (place_in_table t words) (IsInside t.arena.items)

-- unless memory was wanting
abbrev pub Took : (dig : List ℕ → List ℕ) → Table → List (List ℕ) → Type 0
Took dig t texts = t.spent ≡ false → HasTaken dig texts t

-- the texts are the keys and texts behind them, and of those the table took the ones with such a key
pub record TookBehind (dig : List ℕ → List ℕ) (r : Repeated) (t : Table) (texts : List (List ℕ)) : Type 0 where
  pub behind : List (List ℕ)
  pub are : texts ≡ key_front r ++ behind
  pub took : Took dig t (doubtful dig r behind)

abbrev pub GivesDigests : (dig : List ℕ → List ℕ) → Type 0
GivesDigests dig = (text : List ℕ) → HasBytes 32 (dig text)
