-- What the bytes of an event page spell.
use Rattle.std.proofs.Common.{◌≡◌, ℕ, List, take, drop, refl, ap, sym, ◌∙◌, Bool, true, false}
use Rattle.std.specs.Prelude.{◌↔◌, IsTrue}
use Rattle.tw_base.specs.format.Codecs.{HasBytes}
use Rattle.tw_disk.specs.Found.{spelled, when}
use Rattle.tw_disk.proofs.SpelledLaws.{page-is, page-none}
use Rattle.tw_steppage.specs.StepBytes.{event_page_bytes, piece_codec}
use Rattle.tw_steppage.proofs.EventPages.{event_page_of, of_event_page, piece-lawful, piece_read}

-- the bytes spell the piece that stands in them where they are the event page of that one, and else none
pub event_page_spells : (step number count : ℕ) (bytes : List ℕ) (is : Bool)
    → (IsTrue is ↔ (bytes ≡ event_page_bytes step number (take count (drop 11 bytes))))
    → HasBytes count (take count (drop 11 bytes))
    → (page : ℕ) → spelled page 4096 (piece_codec step number count) bytes ≡ when is page (take count (drop 11 bytes))
event_page_spells step number count bytes true tells has = λ page.
    page-is page (piece_codec step number count) (piece-lawful step number count) bytes (take count (drop 11 bytes))
    (event_page_of step number count bytes (take count (drop 11 bytes)) (tells.0 refl) has)
event_page_spells step number count bytes false tells has = λ page.
    page-none page (piece_codec step number count) (piece-lawful step number count) bytes (λ other is.
    let own = of_event_page step number count bytes other is in
    let bad : IsTrue false = tells.1 (own.0 ∙ ap (λ (b : List ℕ). event_page_bytes step number b)
    (sym (piece_read step number count bytes other own.0 own.1))) in
    cc)
