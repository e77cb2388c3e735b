-- The kept calls taken off one after another, the last one first.
use Rattle.std.proofs.Common.{◌≡◌, ℕ, List, [], ◌∷◌, ◌++◌, ap, sym, subst, ◌∙◌, refl}
use Rattle.tw_disk.specs.Image.{Image}
use Rattle.tw_disk.specs.Model.{DeviceCall, Write, WrittenPage, step}
use Rattle.tw_disk.specs.Model.{Barrier as BarrierCall}
use Rattle.tw_disk.specs.KeptCalls.{undone, with_bytes, written_of, Fits, AllFit}
use Rattle.tw_disk.proofs.KeptCallLaws.{fits_before, fits_last, gains_call, state}
use Rattle.tw_disk.specs.MemDiskSteps.{now_is}
use Rattle.tw_disk.specs.LooseSteps.{loose_of}
use Rattle.tw_disk.proofs.LooseLaws.{loose_of-overwrite, loose_of-barrier}
use Rattle.tw_disk.specs.declared.call.Call.{Call}
use Rattle.tw_disk.specs.declared.call.Call.TheVariants.{Barrier}

module _ (all calls : List Call) (call : Call) (image : Image) (popped : all ≡ calls ++ call ∷ [])
    (fits : AllFit all image) where
  pub fits_rest : AllFit calls (undone call image)
  fits_rest = fits_before calls call image (subst (λ (l : List Call). AllFit l image) popped fits)

  pub fits_popped : Fits call image
  fits_popped = fits_last calls call image (subst (λ (l : List Call). AllFit l image) popped fits)

  written-pop : written_of all image ≡ step (written_of calls (undone call image)) (with_bytes call image)
  written-pop = state calls (undone call image) all image (with_bytes call image)
      (gains_call calls all call (undone call image) image popped refl fits_popped)

  -- a write leaves what is settled
  pub settled-write : (page : ℕ) (bytes : List ℕ) → with_bytes call image ≡ Write page bytes
      → (written_of calls (undone call image)).settled ≡ (written_of all image).settled
  settled-write page bytes is = sym (ap (λ (s : WrittenPage). s.settled) written-pop
      ∙ ap (λ (d : DeviceCall). (step (written_of calls (undone call image)) d).settled) is)

  -- after a barrier all is settled
  pub settled-barrier : call ≡ Barrier → image ≡ (written_of all image).settled
  settled-barrier is =
      let at : with_bytes call image ≡ BarrierCall = ap (λ (k : Call). with_bytes k image) is in
      let back : undone call image ≡ image = ap (λ (k : Call). undone k image) is in
      sym (ap (λ (s : WrittenPage). s.settled) written-pop
      ∙ ap (λ (d : DeviceCall). (step (written_of calls (undone call image)) d).settled) at ∙ now_is calls
      (undone call image) fits_rest ∙ back)

-- the same for the pages written since the last good barrier
module _ (all calls : List Call) (call : Call) (popped : all ≡ calls ++ call ∷ []) where
  pub loose-pop : (page : ℕ) → ((ps : List ℕ) → loose_of ps (call ∷ []) ≡ page ∷ ps) → loose_of [] all ≡ page ∷ loose_of
      [] calls
  loose-pop page is = ap (λ (l : List Call). loose_of [] l) popped ∙ loose_of-overwrite [] calls call page is

  pub loose-pop_barrier : call ≡ Barrier → loose_of [] all ≡ []
  loose-pop_barrier is = ap (λ (l : List Call). loose_of [] l) popped ∙ ap (λ (k : Call). loose_of [] (calls ++ k ∷ []))
      is ∙ loose_of-barrier [] calls
