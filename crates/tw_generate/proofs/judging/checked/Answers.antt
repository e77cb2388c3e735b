use Rattle.std.proofs.Common.{◌≡◌, ◌∙◌, List, ℕ, ap, subst, sym}
use Rattle.std.specs.Prelude.{IfOk, Result}
use Rattle.tw_base.specs.declared.history.thread.Thread.{Thread}
use Rattle.tw_base.specs.declared.kinds.failure.ReadFault.{ReadFault}
use Rattle.tw_base.specs.format.Formats.{Spells}
use Rattle.tw_tmap.specs.Checking.{map_verdict}
use Rattle.tw_tmap.specs.MapFiles.{high_codec, high_layout, low_codec, low_layout}
use Rattle.tw_tmap.specs.declared.map_file.HighFile.{HighFile}
use Rattle.tw_tmap.specs.declared.map_file.LowFile.{LowFile}
use Rattle.tw_generate.proofs.Results.{read-only, spelled-by}
use Rattle.tw_generate.proofs.judging.checked.Goals as goal

pub read_whole-requires : goal.read_whole-requires
read_whole-requires g c =
    let files = c.requires.2 in
    read-only (λ (f : LowFile). f) low_layout c.as_slice.result.now files.low_file c.read_low.result
    (subst (λ (bytes : List ℕ). Spells low_layout bytes files.low_file) (sym c.as_slice.ensures) files.low_spelled)
    c.read_low.ensures.read

pub read_whole-requires-2 : goal.read_whole-requires-2
read_whole-requires-2 g c =
    let files = c.requires.2 in
    read-only (λ (f : HighFile). f) high_layout c.as_slice-2.result.now files.high_file c.read_high.result
    (subst (λ (bytes : List ℕ). Spells high_layout bytes files.high_file) (sym c.as_slice-2.ensures) files.high_spelled)
    c.read_high.ensures.read

pub check_map-requires-clause-low : goal.check_map-requires-clause-low
check_map-requires-clause-low g c = subst (λ (r : Result LowFile ReadFault). IfOk r low_codec.Fits) c.in_ok-low.ensures.value
    c.read_low.ensures.fits

pub check_map-requires-clause-high : goal.check_map-requires-clause-high
check_map-requires-clause-high g c = subst (λ (r : Result HighFile ReadFault). IfOk r high_codec.Fits)
    c.in_ok-high.ensures.value c.read_high.ensures.fits

pub bounds_of-requires : goal.bounds_of-requires
bounds_of-requires g c =
    let dig = g.H.Hasher.dig in
    let files = c.requires.2 in
    let low : c.in_ok-low.low ≡ files.low_file =
    c.map_file_laws.ensures.low_once.one_value c.args.low.now c.in_ok-low.low files.low_file
    (spelled-by low_layout c.as_slice.result.now c.args.low.now c.in_ok-low.low c.read_low.result c.as_slice.ensures
    c.in_ok-low.ensures.value c.read_low.ensures.read) files.low_spelled in
    let high : c.in_ok-high.high ≡ files.high_file =
    c.map_file_laws.ensures.high_once.one_value c.args.high.now c.in_ok-high.high files.high_file
    (spelled-by high_layout c.as_slice-2.result.now c.args.high.now c.in_ok-high.high c.read_high.result
    c.as_slice-2.ensures c.in_ok-high.ensures.value c.read_high.ensures.read) files.high_spelled in (
      c.requires.0,
      c.requires.1,
      files.upto,
      c.check_map.ensures.verdict
          ∙ ap (λ (anchors : List Thread). map_verdict dig anchors c.in_ok-low.low c.in_ok-high.high)
          c.as_slice-3.ensures
          ∙ (λ j. map_verdict dig c.args.heads.now (low j) (high j)) ∙ files.is_accepted,
    )

pub returns : goal.returns
returns g c = record {
  low_file = c.in_ok-low.low;
  low_spelled = spelled-by low_layout c.as_slice.result.now c.args.low.now c.in_ok-low.low c.read_low.result
      c.as_slice.ensures c.in_ok-low.ensures.value c.read_low.ensures.read;
  high_file = c.in_ok-high.high;
  high_spelled = spelled-by high_layout c.as_slice-2.result.now c.args.high.now c.in_ok-high.high c.read_high.result
      c.as_slice-2.ensures c.in_ok-high.ensures.value c.read_high.ensures.read;
  upto = c.bounds_of.ensures.0;
  is_accepted = ap (λ (anchors : List Thread). map_verdict g.H.Hasher.dig anchors c.in_ok-low.low c.in_ok-high.high)
      (sym c.as_slice-3.ensures) ∙ sym c.check_map.ensures.verdict ∙ c.bounds_of.ensures.1;
}
