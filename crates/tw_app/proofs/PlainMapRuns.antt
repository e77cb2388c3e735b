-- What a run of `checkmap` with status 0 says, by the lines of its file alone.
use Rattle.std.proofs.Common.{◌≡◌, ℕ, List, [], ◌∷◌, ◌++◌, ap, sym, ◌∙◌, subst}
use Rattle.std.specs.Prelude.{codes, map, Option, Some, MatchOption}
use Rattle.sha2.specs.Sha256.{sha256}
use Rattle.tw_base.specs.declared.history.thread.Thread.{Thread}
use Rattle.tw_base.specs.format.Formats.{Spells}
use Rattle.tw_disk.specs.Disk.{DiskView}
use Rattle.tw_disk.specs.Image.{Image}
use Rattle.tw_msg.specs.AnchorsFile.{anchor_on, lines as lines_in}
use Rattle.tw_outside.specs.Files.{Files, file_bytes}
use Rattle.tw_plain.specs.Maps.{IsPlainMap}
use Rattle.tw_plain.specs.Plain.{file_lines}
use Rattle.tw_tmap.specs.declared.map_file.HighFile.{HighFile}
use Rattle.tw_tmap.specs.declared.map_file.LowFile.{LowFile}
use Rattle.tw_tmap.specs.declared.map_verdict.MapVerdict.TheVariants.{Yes}
use Rattle.tw_tmap.specs.Checking.{high_told, low_told, map_verdict}
use Rattle.tw_tmap.specs.MapFiles.{high_layout, low_layout}
use Rattle.tw_tmap.specs.Texts.{map_text}
use Rattle.tw_tmap.proofs.MapChecks.{accepted-yes}
use Rattle.tw_words.specs.CommandLine.{command_of}
use Rattle.tw_words.specs.declared.command.Command.{Command}
use Rattle.tw_words.specs.declared.command.Command.TheVariants.{CheckMap}
use Rattle.tw_app.specs.Around.{Around}
use Rattle.tw_app.specs.MapRuns.{AsksMap, IsMapRun}
use Rattle.tw_app.specs.Running.{EndsAllowed, work}
use Rattle.tw_app.proofs.Endings.{done}
use Rattle.tw_app.proofs.MapRuns.{between}
use Rattle.tw_app.proofs.PlainRuns.{same_some, some_of}
use Rattle.tw_app.proofs.PlainWords.{check_map_named, check_map_words}

low_of : Command → List ℕ
low_of (CheckMap low high lines) = low
low_of _ = []

high_of : Command → List ℕ
high_of (CheckMap low high lines) = high
high_of _ = []

lines_of : Command → List ℕ
lines_of (CheckMap low high lines) = lines
lines_of _ = []

module _ (so : (low_bytes high_bytes file : List ℕ) (low : LowFile) (high : HighFile) (l : ℕ) (h : Option ℕ) (upto : ℕ)
    → Spells low_layout low_bytes low → Spells high_layout high_bytes high
    → map_verdict sha256 (map anchor_on (lines_in file)) low high ≡ Yes l h upto
    → IsPlainMap sha256 low_bytes high_bytes (file_lines file) (map_text (Yes l h upto)))
    {D : Type 0} (view : D → DiskView) (a : Around D) (status : ℕ) (run : EndsAllowed view a status) (zeroth : status ≡ 0)
    (low_name high_name lines_name low high lines before : List ℕ) where
  abbrev told : Option Files
  told = a.outside.inputs.told

  abbrev Says : Type 0
  Says = (text : List ℕ) × (a.taken.after ≡ Some (before ++ text)) × IsPlainMap sha256 low high (file_lines lines) text

  by_run : (one : IsMapRun told a.words a.taken.before a.taken.after) → CheckMap one.low_file one.high_file one.anchors_file ≡ CheckMap low_name high_name lines_name
      → file_bytes told low_name ≡ Some low → file_bytes told high_name ≡ Some high → file_bytes told lines_name ≡ Some lines
      → a.taken.before ≡ Some before → Says
  unfolding low_of high_of lines_of
  by_run one command low_told_is high_told_is lines_told taken =
      let low_named : low_name ≡ one.low_file = sym (ap low_of command) in
      let high_named : high_name ≡ one.high_file = sym (ap high_of command) in
      let lines_named : lines_name ≡ one.anchors_file = sym (ap lines_of command) in
      let low_is : low ≡ one.hold.low_held.bytes =
      one.hold.low_held.same low (subst (λ name. file_bytes told name ≡ Some low) low_named low_told_is) in
      let high_is : high ≡ one.hold.high_held.bytes =
      one.hold.high_held.same high (subst (λ name. file_bytes told name ≡ Some high) high_named high_told_is) in
      let lines_are : one.anchors ≡ map anchor_on (lines_in lines) =
      one.has_anchors.same lines (subst (λ name. file_bytes told name ≡ Some lines) lines_named lines_told) in
      let verdict : map_verdict sha256 (map anchor_on (lines_in lines)) one.low one.high ≡ Yes (low_told one.low) (high_told one.high) one.high.top =
      ap (λ (held : List Thread). map_verdict sha256 held one.low one.high) (sym lines_are) ∙ accepted-yes sha256 one.anchors one.low one.high one.accepted in (
        map_text (Yes (low_told one.low) (high_told one.high) one.high.top),
        one.written before taken,
        so low high lines one.low one.high (low_told one.low) (high_told one.high) one.high.top
            (subst (λ bytes. Spells low_layout bytes one.low) (sym low_is) one.hold.low_held.spelled)
            (subst (λ bytes. Spells high_layout bytes one.high) (sym high_is) one.hold.high_held.spelled) verdict,
      )

  module _ (only_now : (d : D) (image : Image) → (view d).left_since (view d).moment image → (view d).may_leave image)
      (as_it_reads : (d : D) (image : Image) → (view d).content ≡ Some image → (view d).may_leave image) where
    pub plain_map : a.words ≡ codes "checkmap" ∷ low_name ∷ high_name ∷ lines_name ∷ []
        → file_bytes told low_name ≡ Some low → file_bytes told high_name ≡ Some high → file_bytes told lines_name ≡ Some lines
        → a.taken.before ≡ Some before → Says
    plain_map are low_told_is high_told_is lines_told taken =
        let is_done = done view only_now as_it_reads a status run zeroth in
        let found = some_of (λ (c : Command). (work view a.outside c).done is_done.0) (command_of a.words) is_done.1 in
        let tail : List (List ℕ) = low_name ∷ high_name ∷ lines_name ∷ [] in
        let asked : CheckMap low_name high_name lines_name ≡ found.0 =
        check_map_words low_name high_name lines_name found.0 (sym (check_map_named tail) ∙ ap command_of (sym are) ∙ found.1) in
        let command : command_of a.words ≡ Some (CheckMap low_name high_name lines_name) = found.1 ∙ ap Some (sym asked) in
        let one = between view a status run zeroth (subst (λ (o : Option Command). MatchOption o ⊥ AsksMap) (sym command) tt) in
        by_run one (same_some _ _ (sym one.is_command ∙ command)) low_told_is high_told_is lines_told taken
