-- The codecs of map files are lawful, and what a file that fits them has.
use Rattle.std.proofs.Common.{◌≡◌, ℕ, ◌-◌, ◌<◌, ◌≤◌, List, refl, arith, lit≤}
use Rattle.std.specs.Prelude.{Bool, true, false, IfOk, Option, Some, None, MatchOption, Result, nat_lt}
use Rattle.std.proofs.lemmas.Bool.{ltb-false, ltb-true}
use Rattle.tw_base.specs.declared.kinds.failure.ReadFault.{ReadFault}
use Rattle.tw_base.specs.declared.kinds.limits.TheConstants.{LAST_STEP}
use Rattle.tw_base.specs.format.Codecs.{Codec, behind, name_codec, nothing, number_codec, optional, pair, present, seen}
use Rattle.tw_base.specs.format.Formats.{ReadsAs}
use Rattle.tw_base.proofs.lemmas.format.CodecLaws.{Lawful, lawful, lawful-behind, lawful-name, lawful-optional}
use Rattle.tw_base.proofs.lemmas.format.CodecLaws.{lawful-pair, lawful-seen}
use Rattle.tw_base.proofs.lemmas.format.TakeLaws.{if_read}
use Rattle.tw_skipproof.specs.Codecs.{opening_codec, path_codec, step_number_codec}
use Rattle.tw_skipproof.proofs.LawfulCodecs.{opening-lawful, path-lawful}
use Rattle.tw_treeproof.specs.Codecs.{gap_codec}
use Rattle.tw_treeproof.proofs.LawfulCodecs.{gap-lawful}
use Rattle.tw_chain.specs.Proofs.{kind_bytes}
use Rattle.tw_tmap.specs.declared.map_file.HighFile.{HighFile}
use Rattle.tw_tmap.specs.declared.map_file.LowFile.{LowFile}
use Rattle.tw_tmap.specs.declared.map_file.LowPart.{LowPart}
use Rattle.tw_tmap.specs.MapFiles.{high_codec, low_codec, low_part_codec}

low_part-lawful : (top step : ℕ) → Lawful (low_part_codec top step)
unfolding low_part_codec
low_part-lawful top step =
    lawful-seen _ _ _ (λ t. refl) (λ p. refl) (lawful-pair (path_codec top step) _ (path-lawful top step) (λ links _.
    lawful-pair (opening_codec 0 step) _ (opening-lawful 0 step (lit≤ tt)) (λ opening _. gap-lawful)))

-- the names and steps with which both files begin, and what stands behind them
front-lawful : {X : Type 0} (rest : (one other : ℕ) → Codec X) → ((one other : ℕ) → Lawful (rest one other))
    → Lawful (pair name_codec (λ service. pair step_number_codec (λ one. pair name_codec (λ peer.
    pair step_number_codec (λ other. rest one other)))))
front-lawful rest laws =
    lawful-pair name_codec _ lawful-name (λ service _. lawful-pair step_number_codec _ (search lawful) (λ one _.
    lawful-pair name_codec _ lawful-name (λ peer _. lawful-pair step_number_codec _ (search lawful) (λ other _.
    laws one other))))

pub low-lawful : Lawful low_codec
unfolding low_codec
low-lawful =
    lawful-behind (kind_bytes 6) _ (lawful-seen _ _ _ (λ t. refl) (λ f. refl)
    (front-lawful (λ step top. optional (nat_lt 1 step) (low_part_codec top (step - 1)))
    (λ step top. lawful-optional (low_part_codec top (step - 1)) (low_part-lawful top (step - 1)) (nat_lt 1 step))))

pub high-lawful : Lawful high_codec
unfolding high_codec
high-lawful =
    lawful-behind (kind_bytes 7) _ (lawful-seen _ _ _ (λ t. refl) (λ f. refl)
    (front-lawful (λ top step. pair (opening_codec 0 top) (λ opening. gap_codec))
    (λ top step. lawful-pair (opening_codec 0 top) _ (opening-lawful 0 top (lit≤ tt)) (λ opening _. gap-lawful))))

-- what is read of one fits it
pub fits-read : {X : Type 0} (c : Codec X) → Lawful c → (bytes : List ℕ) (result : Result X ReadFault)
    → ReadsAs (λ f. f) c.format bytes result → IfOk result c.Fits
fits-read c l bytes result = if_read c l (λ f. f) c.Fits bytes result (λ f fits. fits)

-- ---- the fields

pub record LowPartFits (top step : ℕ) (p : LowPart) : Type 0 where
  pub path : (path_codec top step).Fits p.path.links
  pub opening : (opening_codec 0 step).Fits p.opening
  pub tree : gap_codec.Fits p.shown

low_part-fields : (top step : ℕ) (p : LowPart) → (low_part_codec top step).Fits p → LowPartFits top step p
unfolding low_part_codec seen pair
low_part-fields top step p fits = record { path = fits.0; opening = fits.1.0; tree = fits.1.1 }

-- the step before is shown exactly from step 2 on
abbrev pub BeforeFits : (top step : ℕ) → Option LowPart → Type 0
BeforeFits top step shown = MatchOption shown (step ≤ 1) (λ p. (1 < step) × LowPartFits top (step - 1) p)

before-fields : (top step : ℕ) (b : Bool) → nat_lt 1 step ≡ b → (shown : Option LowPart)
    → (optional b (low_part_codec top (step - 1))).Fits shown → BeforeFits top step shown
unfolding nothing present
before-fields top step true is None fits = absurd fits
before-fields top step true is (Some p) fits = (ltb-true 1 step is, low_part-fields top (step - 1) p fits)
before-fields top step false is None fits = ltb-false 1 step is
before-fields top step false is (Some p) fits = cc

-- a step and a top
pub record StepsFit (step top : ℕ) : Type 0 where
  pub some : 0 < step
  pub step_within : step ≤ LAST_STEP
  pub from_1 : 0 < top
  pub top_within : top ≤ LAST_STEP

steps-fit : (step top : ℕ) → step_number_codec.Fits step → step_number_codec.Fits top → StepsFit step top
unfolding number_codec
steps-fit step top s t =
    record { some = omega (arith, s.0); step_within = s.1; from_1 = omega (arith, t.0); top_within = t.1 }

pub record LowFits (f : LowFile) : Type 0 where
  pub steps : StepsFit f.step f.top
  pub before : BeforeFits f.top f.step f.shown

pub low-fields : (f : LowFile) → low_codec.Fits f → LowFits f
unfolding low_codec behind seen pair
low-fields f fits = record {
  steps = steps-fit f.step f.top fits.1.0 fits.1.1.1.0;
  before = before-fields f.top f.step (nat_lt 1 f.step) refl f.shown fits.1.1.1.1;
}

pub record HighFits (f : HighFile) : Type 0 where
  pub steps : StepsFit f.step f.top
  pub opening : (opening_codec 0 f.top).Fits f.opening
  pub tree : gap_codec.Fits f.shown

pub high-fields : (f : HighFile) → high_codec.Fits f → HighFits f
unfolding high_codec behind seen pair
high-fields f fits = record {
  steps = steps-fit f.step f.top fits.1.1.1.0 fits.1.0;
  opening = fits.1.1.1.1.0;
  tree = fits.1.1.1.1.1;
}
