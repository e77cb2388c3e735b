-- Map files whose bytes are told come to one verdict, or are refused for one reason.
use Rattle.std.proofs.Common.{◌≡◌, ◌∙◌, ℕ, List, sym, inl, inr}
use Rattle.std.specs.Prelude.{Option, Ok, Err}
use Rattle.sha2.specs.Sha256.{sha256}
use Rattle.tw_base.specs.declared.history.thread.Thread.{Thread}
use Rattle.tw_outside.specs.Asked.{asked}
use Rattle.tw_outside.specs.Files.{Files}
use Rattle.tw_words.specs.declared.command.Command.TheVariants.{CheckMap}
use Rattle.tw_text.specs.declared.fault.CommandFault.TheVariants.{Unreadable}
use Rattle.tw_text.specs.declared.refusal.BadInput.{BadInput}
use Rattle.tw_text.specs.declared.refusal.BadInput.TheVariants.{BadByte, BadLine, Unsound}
use Rattle.tw_filecmd.specs.Verifying.{HasAnchors, HasBadLine}
use Rattle.tw_tmap.specs.declared.map_file.HighFile.{HighFile}
use Rattle.tw_tmap.specs.declared.map_file.LowFile.{LowFile}
use Rattle.tw_tmap.specs.declared.map_verdict.MapVerdict.{MapVerdict}
use Rattle.tw_tmap.specs.Checking.{map_verdict}
use Rattle.tw_tmap.specs.MapFiles.{high_layout, low_layout}
use Rattle.tw_reachcmd.specs.CheckMap.{CheckMapComes, HasBadFile, HoldMaps, IsBadLineOf}
use Rattle.tw_app.specs.Alike.{TellsEach}
use Rattle.tw_app.specs.Commands.{command_files}
use Rattle.tw_app.proofs.ToldFiles.{anchors_once, bad_line_once, good_not_bad, held_not_none, held_once, none_once}

module _ (told : Option Files) (low high anchors : List ℕ)
    (tells : TellsEach told (command_files (CheckMap low high anchors))) where
  abbrev Bad : BadInput → Type 0
  Bad bad = HasBadFile told low high anchors bad

  line_of : (l : LowFile) (h : HighFile) (number : ℕ) → HoldMaps told low high l h → IsBadLineOf told anchors number
      → HasBadLine told high anchors number
  line_of l h number hold bad = record { proof_there = hold.high_held.there; there = bad.there; bad = bad.bad }

  -- where both files hold map files, neither is told
  hold_not_bad : (l : LowFile) (h : HighFile) (named : List ℕ) (place : ℕ) → HoldMaps told low high l h
      → Bad (BadByte named place) → ⊥
  hold_not_bad l h named place hold (inl bad) = held_not_none low_layout told low tells.0.0 tells.0.1 l place
      hold.low_held bad.1
  hold_not_bad l h named place hold (inr bad) = held_not_none high_layout told high tells.1.0.0 tells.1.0.1 h place
      hold.high_held bad.1.1

  bad_byte_once : (named again : List ℕ) (p q : ℕ) → Bad (BadByte named p) → Bad (BadByte again q)
      → BadByte named p ≡ BadByte again q
  bad_byte_once named again p q (inl one) (inl other) = (
      let names = one.0 ∙ sym other.0 in
      let places = none_once low_layout told low tells.0.0 tells.0.1 p q one.1 other.1 in
      λ i. BadByte (names i) (places i))
  bad_byte_once named again p q (inl one) (inr other) =
      absurd (held_not_none low_layout told low tells.0.0 tells.0.1 other.0.0 p other.0.1 one.1)
  bad_byte_once named again p q (inr one) (inl other) =
      absurd (held_not_none low_layout told low tells.0.0 tells.0.1 one.0.0 q one.0.1 other.1)
  bad_byte_once named again p q (inr one) (inr other) = (
      let names = one.1.0 ∙ sym other.1.0 in
      let places = none_once high_layout told high tells.1.0.0 tells.1.0.1 p q one.1.1 other.1.1 in
      λ i. BadByte (names i) (places i))

  pub bad_map_once : (bad other : BadInput) → Bad bad → Bad other → bad ≡ other
  bad_map_once (BadByte named p) (BadByte again q) a b = bad_byte_once named again p q a b
  bad_map_once (BadByte named p) (BadLine again q) a b = absurd (hold_not_bad b.0.0 b.0.1 named p b.0.2 a)
  bad_map_once (BadByte named p) (Unsound again step rule) a b = absurd b
  bad_map_once (BadLine named p) (BadByte again q) a b = absurd (hold_not_bad a.0.0 a.0.1 again q a.0.2 b)
  bad_map_once (BadLine named p) (BadLine again q) a b = (
      let names = a.1.0 ∙ sym b.1.0 in
      let numbers = bad_line_once told anchors tells.1.1.0.0 tells.1.1.0.1 high p q (line_of a.0.0 a.0.1 p a.0.2 a.1.1)
      (line_of b.0.0 b.0.1 q b.0.2 b.1.1) in
      λ i. BadLine (names i) (numbers i))
  bad_map_once (BadLine named p) (Unsound again step rule) a b = absurd b
  bad_map_once (Unsound named step rule) other a b = absurd a

  -- where both hold map files, and the third one anchors, none is told
  pub maps_not_bad : (l : LowFile) (h : HighFile) (held : List Thread) → HoldMaps told low high l h
      → HasAnchors told anchors held → (bad : BadInput) → Bad bad → ⊥
  maps_not_bad l h held hold has (BadByte named place) is = hold_not_bad l h named place hold is
  maps_not_bad l h held hold has (BadLine named number) is =
      good_not_bad told anchors tells.1.1.0.0 tells.1.1.0.1 held high number has
      (line_of is.0.0 is.0.1 number is.0.2 is.1.1)
  maps_not_bad l h held hold has (Unsound named step rule) is = is

  module _ (m n k l : ℕ) where
    pub map_done : (v w : MapVerdict) → CheckMapComes (asked told m n) low high anchors (Ok v)
        → CheckMapComes (asked told k l) low high anchors (Ok w) → v ≡ w
    map_done v w a b =
        let lows : a.0 ≡ b.0 = held_once low_layout told low tells.0.0 tells.0.1 a.0 b.0 a.3.0.low_held
        b.3.0.low_held in
        let highs : a.1 ≡ b.1 = held_once high_layout told high tells.1.0.0 tells.1.0.1 a.1 b.1 a.3.0.high_held
        b.3.0.high_held in
        let held : a.2 ≡ b.2 = anchors_once told anchors tells.1.1.0.0 tells.1.1.0.1 a.2 b.2 a.3.1 b.3.1 in
        a.3.2.is_verdict ∙ (λ i. map_verdict sha256 (held i) (lows i) (highs i)) ∙ sym b.3.2.is_verdict

    pub map_apart : (v : MapVerdict) (bad : BadInput) → CheckMapComes (asked told m n) low high anchors (Ok v)
        → CheckMapComes (asked told k l) low high anchors (Err (Unreadable bad)) → ⊥
    map_apart v bad a b = maps_not_bad a.0 a.1 a.2 a.3.0 a.3.1 bad b
