-- What is told of map files with status 0 says, by the lines alone.
use Rattle.std.proofs.Common.{◌≡◌, ℕ, List, refl, sym, ◌∙◌, subst, arith, inl, inr}
use Rattle.std.specs.Prelude.{IfOk, Option, Result, Ok, Err, map}
use Rattle.sha2.specs.Sha256.{sha256}
use Rattle.tw_base.specs.declared.kinds.failure.NoMemory.{NoMemory}
use Rattle.tw_base.specs.format.Formats.{Spells}
use Rattle.tw_msg.specs.AnchorsFile.{anchor_on, lines}
use Rattle.tw_plain.specs.Maps.{IsPlainMap}
use Rattle.tw_plain.specs.Plain.{file_lines}
use Rattle.tw_tmap.specs.declared.map_file.HighFile.{HighFile}
use Rattle.tw_tmap.specs.declared.map_file.LowFile.{LowFile}
use Rattle.tw_tmap.specs.declared.map_verdict.MapVerdict.{MapVerdict}
use Rattle.tw_tmap.specs.declared.map_verdict.MapVerdict.TheVariants.{Gap, No, Yes}
use Rattle.tw_tmap.specs.Checking.{map_verdict}
use Rattle.tw_tmap.specs.MapFiles.{high_layout, low_layout}
use Rattle.tw_tmap.specs.Texts.{map_status, map_text}
use Rattle.tw_judge.specs.declared.told.Told.{Told}
use Rattle.tw_judge.specs.Maps.{AreMapBytesJudged, AreMapsTold, ThreeFiles}
use Rattle.tw_judge.proofs.PlainVerdicts.{no_fault}

module _ (so : (low_bytes high_bytes file : List ℕ) (low : LowFile) (high : HighFile) (l : ℕ) (h : Option ℕ) (upto : ℕ)
    → Spells low_layout low_bytes low → Spells high_layout high_bytes high
    → map_verdict sha256 (map anchor_on (lines file)) low high ≡ Yes l h upto
    → IsPlainMap sha256 low_bytes high_bytes (file_lines file) (map_text (Yes l h upto)))
    (bytes names : ThreeFiles) where
  verdict-plain : (v : MapVerdict) → AreMapBytesJudged bytes v → map_status v ≡ 0
      → IsPlainMap sha256 bytes.low bytes.high (file_lines bytes.anchors) (map_text v)
  verdict-plain (Yes l h upto) is zeroth =
      so bytes.low bytes.high bytes.anchors is.low is.high l h upto is.are.low_spelled is.are.high_spelled (sym is.is_verdict)
  verdict-plain (No reason) is zeroth = absurd (omega (arith, zeroth))
  verdict-plain Gap is zeroth = absurd (omega (arith, zeroth))

  told-plain : (status : ℕ) (text : List ℕ) → AreMapsTold bytes names status text → status ≡ 0
      → IsPlainMap sha256 bytes.low bytes.high (file_lines bytes.anchors) text
  told-plain status text (inl judged) zeroth =
      subst (IsPlainMap sha256 bytes.low bytes.high (file_lines bytes.anchors)) (sym judged.text_is)
      (verdict-plain judged.verdict judged.judged (sym judged.status_is ∙ zeroth))
  told-plain status text (inr why) zeroth = absurd (no_fault why.fault (sym why.status_is ∙ zeroth))

  pub result-plain : (r : Result Told NoMemory) → IfOk r (λ told. AreMapsTold bytes names told.status told.text)
      → IfOk r (λ told. told.status ≡ 0 → IsPlainMap sha256 bytes.low bytes.high (file_lines bytes.anchors) told.text)
  result-plain (Ok told) is = λ zeroth. told-plain told.status told.text is zeroth
  result-plain (Err fault) is = tt
