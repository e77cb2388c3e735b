-- What a disk in memory keeps of its calls: for each what undoes it, so that every earlier image follows from what reads give now.
use Rattle.std.specs.Prelude.{◌≡◌, suc, ◌<◌, List, [], ◌∷◌, length, take, slice_set, ◌++◌}
use Rattle.tw_disk.specs.Image.{Image, page_at}
use Rattle.tw_disk.specs.Model.{DeviceCall, Write, WrittenPage, at_rest, after}
use Rattle.tw_disk.specs.Model.{Barrier as BarrierCall}
use Rattle.tw_disk.specs.declared.call.Call.{Call}
use Rattle.tw_disk.specs.declared.call.Call.TheVariants.{Overwrite, Append, Barrier}

-- what reads gave before this call, by what they gave after it
abbrev pub undone : Call → Image → Image
undone (Overwrite page before) image = slice_set image page before
undone (Append page) image = take page image
undone Barrier image = image

-- what reads gave before all these calls, by what they gave after them
abbrev pub earlier : List Call → Image → Image
earlier [] image = image
earlier (call ∷ calls) image = undone call (earlier calls image)

-- the call with its bytes, by what reads gave after it
abbrev pub with_bytes : Call → Image → DeviceCall
with_bytes (Overwrite page before) image = Write page (page_at image page)
with_bytes (Append page) image = Write page (page_at image page)
with_bytes Barrier image = BarrierCall

-- the calls with their bytes, by what reads give after all of them
abbrev pub calls_of : List Call → Image → List DeviceCall
calls_of [] image = []
calls_of (call ∷ calls) image = with_bytes call (earlier calls image) ∷ calls_of calls image

-- the disk after its calls, from what it held before them
abbrev pub written_of : List Call → Image → WrittenPage
written_of calls image = after (at_rest (earlier calls image)) (calls_of calls image)

-- the page of the call is there after it
abbrev pub Fits : Call → Image → Type 0
Fits (Overwrite page before) image = page < length image
Fits (Append page) image = length image ≡ suc page
Fits Barrier image = Unit {0}

-- each call fits what reads gave after it
abbrev pub AllFit : List Call → Image → Type 0
AllFit [] image = Unit {0}
AllFit (call ∷ calls) image = Fits call (earlier calls image) × AllFit calls image

-- the list of kept calls has gained this call, over the same beginning
pub record Gains (call : DeviceCall) (old_calls : List Call) (old : Image) (new_calls : List Call) (new : Image) : Type 0 where
  pub base : earlier new_calls new ≡ earlier old_calls old
  pub calls : calls_of new_calls new ≡ calls_of old_calls old ++ call ∷ []
  pub fits : AllFit old_calls old → AllFit new_calls new
