-- What an event page spells.
use Rattle.std.proofs.Common.{◌≡◌, ℕ, List, length, take, drop, ap, ◌∙◌}
use Rattle.std.proofs.lemmas.List.{take_at}
use Rattle.tw_base.specs.format.Codecs.{HasBytes, behind, bytes_codec}
use Rattle.tw_base.specs.format.PageBytes.{IsPageOf}
use Rattle.tw_base.proofs.lemmas.format.CodecLaws.{Lawful, lawful}
use Rattle.tw_steppage.specs.StepBytes.{event_page_bytes, piece_codec}

pub piece-lawful : (step number count : ℕ) → Lawful (piece_codec step number count)
unfolding piece_codec
piece-lawful step number count = search lawful depth 20

-- an event page is the page of its piece
pub event_page_of : (step number count : ℕ) (page bytes : List ℕ) → page ≡ event_page_bytes step number bytes
    → HasBytes count bytes → IsPageOf (piece_codec step number count) page bytes
unfolding event_page_bytes piece_codec behind bytes_codec
event_page_of step number count page bytes is fits = record { bytes = is; fits = fits }

-- and only then
pub of_event_page : (step number count : ℕ) (page bytes : List ℕ) → IsPageOf (piece_codec step number count) page bytes
    → (page ≡ event_page_bytes step number bytes) × (length bytes ≡ count)
unfolding event_page_bytes piece_codec behind bytes_codec
of_event_page step number count page bytes is = (is.bytes, is.fits.0)

-- the piece that stands in it
pub piece_read : (step number count : ℕ) (page bytes : List ℕ) → page ≡ event_page_bytes step number bytes
    → length bytes ≡ count → take count (drop 11 page) ≡ bytes
unfolding event_page_bytes piece_codec behind bytes_codec
piece_read step number count page bytes is size = ap (λ (p : List ℕ). take count (drop 11 p)) is ∙ take_at bytes _ count
    size
