-- Events files: the events of one step, as a service is given them.
use Rattle.std.specs.Prelude.{ℕ, ◌-◌, ◌^◌, List, [], ◌∷◌}
use Rattle.tw_base.specs.format.Codecs.{Codec, behind, counted, sized_codec}
use Rattle.tw_base.specs.format.Formats.{Format}

-- the four bytes TWE1
abbrev pub events_magic : List ℕ
events_magic = 0x54 ∷ 0x57 ∷ 0x45 ∷ 0x31 ∷ []

-- the magic, the number of events in four bytes, and each of them behind its length in four bytes
unfoldable pub events_codec : Codec (List (List ℕ))
events_codec = behind events_magic (counted 4 0 (2 ^ 32 - 1) (sized_codec 4 0 (2 ^ 32 - 1)))

abbrev pub events_file : Format (List (List ℕ))
events_file = events_codec.format
