-- What holds of a disk in memory, whatever its calls were. These lemmas stand in specs/ since the laws of an impl cite them.
use Rattle.std.specs.Prelude.{◌≡◌, ◌+◌, ◌-◌, ℕ, suc, ◌<◌, ◌≤◌, List, [], ◌∷◌, length, Some, refl, slice_set}
use Rattle.std.specs.Coded.{×_prop, Unit-prop, le_prop}
use Rattle.std.proofs.Math.Nat.{ℕ_set}
use Rattle.std.proofs.Common.{arith, subst, sym, ap, ◌∙◌}
use Rattle.std.proofs.Math.Seq.{take-length}
use Rattle.std.proofs.lemmas.List.{get_or-take, get_or-set_other, length-set, length-take, take_all}
use Rattle.tw_disk.specs.Image.{Image, page_at, put}
use Rattle.tw_disk.specs.PutSteps.{length-put_le, page_at-put_below, put-back}
use Rattle.tw_disk.specs.Model.{DeviceCall, Write, Barrier as BarrierCall, WrittenPage, IsUntouched, at_rest, step, after, IsImage, Since}
use Rattle.tw_disk.specs.KeptCalls.{undone, earlier, with_bytes, calls_of, written_of, Fits, AllFit}
use Rattle.tw_disk.specs.declared.call.Call.{Call}
use Rattle.tw_disk.specs.declared.call.Call.TheVariants.{Overwrite, Append, Barrier}

fits-prop : (call : Call) (image : Image) → IsProp (Fits call image)
fits-prop (Overwrite page before) image = le_prop
fits-prop (Append page) image = ℕ_set (length image) (suc page)
fits-prop Barrier image = Unit-prop

pub all_fit-prop : (calls : List Call) (image : Image) → IsProp (AllFit calls image)
all_fit-prop [] image = Unit-prop
all_fit-prop (call ∷ calls) image = ×_prop (fits-prop call (earlier calls image)) (all_fit-prop calls image)

-- what reads give is the settled image but for the pages written since, and no shorter
pub record IsGrown (s : WrittenPage) : Type 0 where
  pub no_shorter : length s.settled ≤ length s.now
  pub others : (k : ℕ) → k < length s.settled → IsUntouched s.loose k → page_at s.settled k ≡ page_at s.now k

grown_step : (s : WrittenPage) (call : DeviceCall) → IsGrown s → IsGrown (step s call)
grown_step s (Write page bytes) is = record {
  no_shorter = omega (arith, is.no_shorter, length-put_le page bytes s.now);
  others = λ k lt untouched. is.others k lt untouched.1 ∙ sym (page_at-put_below page bytes s.now k (omega (arith, lt, is.no_shorter)) untouched.0);
}
grown_step s BarrierCall is = record { no_shorter = omega arith; others = λ k lt untouched. refl }

grown_from : (s : WrittenPage) (calls : List DeviceCall) → IsGrown s → IsGrown (after s calls)
grown_from s [] is = is
grown_from s (call ∷ calls) is = grown_from (step s call) calls (grown_step s call is)

pub grown_after : (base : Image) (calls : List DeviceCall) → IsGrown (after (at_rest base) calls)
grown_after base calls = grown_from (at_rest base) calls (record { no_shorter = omega arith; others = λ k lt untouched. refl })

-- a disk as it reads is one of its images
pub image_now : (s : WrittenPage) → IsGrown s → IsImage s s.now
image_now s is = record { at_least = is.no_shorter; at_most = omega arith; others = λ k lt untouched. refl }

-- this moment is one of those since an earlier one
pub since_now : (crashed_at : ℕ) (base : Image) (calls : List DeviceCall) (t : ℕ) (c : Image) → t ≤ crashed_at + length calls → IsImage (after (at_rest base) calls) c → Since base calls (t - crashed_at) c
since_now crashed_at base calls t c le image = record {
  at = length calls;
  from = omega (arith, le);
  to = omega arith;
  image = subst (λ (l : List DeviceCall). IsImage (after (at_rest base) l) c) (sym (take-length calls)) image;
}

-- since this moment there is no other
pub only_now : (crashed_at : ℕ) (base : Image) (calls : List DeviceCall) (c : Image) → Since base calls (crashed_at + length calls - crashed_at) c → IsImage (after (at_rest base) calls) c
only_now crashed_at base calls c since = subst (λ (l : List DeviceCall). IsImage (after (at_rest base) l) c) (take_all since.at calls (omega (arith, since.from))) since.image

-- a call that fits leads from what was before it to what is after it
call_now : (s : WrittenPage) (call : Call) (image : Image) → s.now ≡ undone call image → Fits call image → (step s (with_bytes call image)).now ≡ image
call_now s (Overwrite page before) image is fits =
    ap (λ (i : Image). put page (page_at image page) i) is
    ∙ put-back page (slice_set image page before) image (omega (arith, length-set image page before, fits)) (omega (arith, length-set image page before, fits)) (λ k lt ne. get_or-set_other image page k before [] ne)
call_now s (Append page) image is fits =
    ap (λ (i : Image). put page (page_at image page) i) is
    ∙ put-back page (undone (Append page) image) image (omega (arith, length-take page image, fits)) (omega (arith, length-take page image, fits)) (λ k lt ne. get_or-take page image k [] (omega (arith, lt, fits, ne)))
call_now s Barrier image is fits = is

now_from : (s : WrittenPage) (calls : List Call) (image : Image) → s.now ≡ earlier calls image → AllFit calls image → (after s (calls_of calls image)).now ≡ image
now_from s [] image is all = is
now_from s (call ∷ calls) image is all = now_from (step s (with_bytes call (earlier calls image))) calls image (call_now s call (earlier calls image) is all.0) all.1

-- the kept calls lead to what reads give
pub now_is : (calls : List Call) (image : Image) → AllFit calls image → (written_of calls image).now ≡ image
now_is calls image all = now_from (at_rest (earlier calls image)) calls image refl all

-- a disk that tells its content tells its page count
pub told_count : (now c : Image) → Some now ≡ Some c → Some (length now) ≡ Some (length c)
told_count now c is = let same : now ≡ c = cc in ap (λ (i : Image). Some (length i)) same

-- a disk as it reads is one of its images
pub told_image : (calls : List Call) (now c : Image) → AllFit calls now → Some now ≡ Some c → IsImage (written_of calls now) c
told_image calls now c all is =
    let same : now ≡ c = cc in
    subst (λ (i : Image). IsImage (written_of calls now) i) (now_is calls now all ∙ same) (image_now (written_of calls now) (grown_after (earlier calls now) (calls_of calls now)))
