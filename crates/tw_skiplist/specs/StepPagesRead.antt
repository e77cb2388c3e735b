-- The page of a step, as it is read.
use Rattle.std.specs.Prelude.{ℕ, List, length, ◌&&◌}
use Rattle.tw_base.specs.declared.kinds.limits.TheConstants.{PAGE_SIZE}
use Rattle.tw_disk.specs.Image.{Image}
use Rattle.tw_disk.specs.Found.{Found, when, ◌>>=◌, bytes_in, spelled}
use Rattle.tw_steppage.specs.declared.fields.StepFields.{StepFields}
use Rattle.tw_steppage.specs.declared.link.StepRef.{StepRef}
use Rattle.tw_steppage.specs.StepBytes.{paged_codec}
use Rattle.tw_steppage.specs.StepPages.{keeps_field_rules, keeps_link_rules}

-- the fields and links that the bytes spell, if they may stand in the page of this number as the page of this step
unfoldable pub step_in : (page step : ℕ) → List ℕ → Found (StepFields × List StepRef)
step_in page step bytes =
    spelled page PAGE_SIZE (paged_codec step) bytes >>= (λ p. when (keeps_field_rules page p.0 && keeps_link_rules page step p.1 (length p.1)) page p)

-- the same of the page of this number
unfoldable pub page_of_step : Image → (page step : ℕ) → Found (StepFields × List StepRef)
page_of_step pages page step = bytes_in pages page >>= step_in page step
