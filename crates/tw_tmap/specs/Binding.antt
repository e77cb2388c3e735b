-- What accepted map files say of histories.
use Rattle.std.specs.Prelude.{ℕ, List, ◌++◌}
use Rattle.tw_base.specs.declared.history.thread.Thread.{Thread}
use Rattle.tw_base.specs.history.Family.{AllSound, HasThreads, family_texts}
use Rattle.tw_base.specs.history.History.{History}
use Rattle.tw_base.specs.kinds.Clash.{OrClash}
use Rattle.tw_tmap.specs.declared.map_file.HighFile.{HighFile}
use Rattle.tw_tmap.specs.declared.map_file.LowFile.{LowFile}
use Rattle.tw_tmap.specs.declared.map_verdict.MapVerdict.{MapVerdict}
use Rattle.tw_tmap.specs.declared.map_verdict.MapVerdict.TheVariants.{Yes, No, Gap}
use Rattle.tw_tmap.specs.Bounds.{IsBetweenSteps}
use Rattle.tw_tmap.specs.Checking.{map_held, map_texts}

-- where the verdict is Yes, the bounds are those of the histories in every family of sound histories that has the anchors of both
-- tops; or two texts of these histories and of the files clash
abbrev pub BindsMap : (dig : List ℕ → List ℕ) → List Thread → LowFile → HighFile → MapVerdict → Type 0
BindsMap dig anchors low high (Yes l h upto) =
    (family : List History) → AllSound family → HasThreads dig family (map_held anchors low high)
    → OrClash dig (family_texts dig family ++ map_texts dig low high) (IsBetweenSteps family low.service low.step low.peer l h upto)
BindsMap dig anchors low high (No reason) = Unit {0}
BindsMap dig anchors low high Gap = Unit {0}
