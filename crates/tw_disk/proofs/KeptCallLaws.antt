-- What one call of a disk in memory does, where its list of kept calls gains that call.
use Rattle.std.specs.Prelude.{◌≡◌, ◌⊎◌, ℕ, ◌≤◌, List, [], ◌∷◌, ◌++◌, length, refl, suc}
use Rattle.std.proofs.Common.{◌-◌, arith, subst, sym, ap, ◌∙◌, length-append, get_or, take}
use Rattle.std.proofs.lemmas.List.{get_or-append_right}
use Rattle.std.proofs.Math.Seq.{take-append_seam}
use Rattle.tw_disk.specs.Image.{Image, Torn, put, page_at}
use Rattle.tw_disk.specs.Disk.{Only, FollowsByStep}
use Rattle.tw_disk.specs.Model.{DeviceCall, Write, WrittenPage, at_rest, step, after, IsImage, Since}
use Rattle.tw_disk.specs.Model.{Barrier as BarrierCall}
use Rattle.tw_disk.specs.KeptCalls.{undone, earlier, with_bytes, calls_of, written_of, Fits, AllFit, Gains}
use Rattle.tw_disk.specs.declared.call.Call.{Call}
use Rattle.tw_disk.specs.declared.call.Call.TheVariants.{Append}
use Rattle.tw_disk.proofs.Puts.{torn_put}
use Rattle.tw_disk.specs.MemDiskSteps.{grown_after, now_is}
use Rattle.tw_disk.proofs.ModelLaws.{after-push, write_follows, barrier_only, barrier_image, nothing_else_push}
use Rattle.tw_disk.proofs.ModelLaws.{keeps_push, at_rest_only, since_rest, rest_since}

earlier-push : (calls : List Call) (call : Call) (image : Image) → earlier (calls ++ call ∷ []) image ≡ earlier calls
    (undone call image)
earlier-push [] call image = refl
earlier-push (c ∷ calls) call image = ap (λ (i : Image). undone c i) (earlier-push calls call image)

calls_of-push : (calls : List Call) (call : Call) (image : Image) → calls_of (calls ++ call ∷ []) image ≡ calls_of calls
    (undone call image) ++ with_bytes call image ∷ []
calls_of-push [] call image = refl
calls_of-push (c ∷ calls) call image = λ i. with_bytes c (earlier-push calls call image i) ∷ calls_of-push calls call
    image i

pub length-calls_of : (calls : List Call) (image : Image) → length (calls_of calls image) ≡ length calls
length-calls_of [] image = refl
length-calls_of (c ∷ calls) image = ap suc (length-calls_of calls image)

fits-push : (calls : List Call) (call : Call) (image : Image) → AllFit calls (undone call image) → Fits call image
    → AllFit (calls ++ call ∷ []) image
fits-push [] call image all fits = (fits, tt)
fits-push (c ∷ calls) call image all fits =
    (subst (λ (i : Image). Fits c i) (sym (earlier-push calls call image)) all.0, fits-push calls call image all.1 fits)

-- the same the other way round
pub fits_before : (calls : List Call) (call : Call) (image : Image) → AllFit (calls ++ call ∷ []) image
    → AllFit calls (undone call image)
fits_before [] call image all = tt
fits_before (c ∷ calls) call image all =
    (subst (λ (i : Image). Fits c i) (earlier-push calls call image) all.0, fits_before calls call image all.1)

pub fits_last : (calls : List Call) (call : Call) (image : Image) → AllFit (calls ++ call ∷ []) image → Fits call image
fits_last [] call image all = all.0
fits_last (c ∷ calls) call image all = fits_last calls call image all.1

pub gains_call : (calls new_calls : List Call) (call : Call) (old new : Image) → new_calls ≡ calls ++ call ∷ []
    → undone call new ≡ old → Fits call new → Gains (with_bytes call new) calls old new_calls new
gains_call calls new_calls call old new is back fits = record {
  base = ap (λ (l : List Call). earlier l new) is ∙ earlier-push calls call new ∙ ap (λ (i : Image). earlier calls i)
      back;
  calls = ap (λ (l : List Call). calls_of l new) is ∙ calls_of-push calls call new
      ∙ ap (λ (i : Image). calls_of calls i ++ with_bytes call new ∷ []) back;
  fits = λ all. subst (λ (l : List Call). AllFit l new) (sym is)
      (fits-push calls call new (subst (λ (i : Image). AllFit calls i) (sym back) all) fits);
}

module _ (old_calls : List Call) (old : Image) (new_calls : List Call) (new : Image) (call : DeviceCall)
    (gains : Gains call old_calls old new_calls new) where
  pub state : written_of new_calls new ≡ step (written_of old_calls old) call
  state = (λ i. after (at_rest (gains.base i)) (gains.calls i)) ∙ after-push (at_rest (earlier old_calls old))
      (calls_of old_calls old) call

  pub nothing_else : (t : ℕ) (c : Image) → Since (earlier new_calls new) (calls_of new_calls new) t c
      → Since (earlier old_calls old) (calls_of old_calls old) t c ⊎ IsImage (written_of new_calls new) c
  nothing_else t c =
      let base = earlier old_calls old in
      let calls = calls_of old_calls old in
      let P : Image → List DeviceCall → Type 0 = λ b l. Since b l t c → Since base calls t c
      ⊎ IsImage (after (at_rest b) l) c in
      subst (λ (b : Image). P b (calls_of new_calls new)) (sym gains.base) (subst (λ (l : List DeviceCall). P base l)
      (sym gains.calls) (nothing_else_push base calls call t c))

  pub keeps : (t : ℕ) (c : Image) → Since (earlier old_calls old) (calls_of old_calls old) t c
      → Since (earlier new_calls new) (calls_of new_calls new) t c
  keeps t c =
      let base = earlier old_calls old in
      let calls = calls_of old_calls old in
      let P : Image → List DeviceCall → Type 0 = λ b l. Since base calls t c → Since b l t c in
      subst (λ (b : Image). P b (calls_of new_calls new)) (sym gains.base) (subst (λ (l : List DeviceCall). P base l)
      (sym gains.calls) (keeps_push base calls call t c))

  stepped : (c : Image) → IsImage (written_of new_calls new) c → IsImage (step (written_of old_calls old) call) c
  stepped c image = subst (λ (s : WrittenPage). IsImage s c) state image

  pub one_more : length (calls_of new_calls new) ≡ suc (length (calls_of old_calls old))
  one_more = ap length gains.calls ∙ omega (arith, length-append (calls_of old_calls old) (call ∷ []))

  pub one_longer : length new_calls ≡ suc (length old_calls)
  one_longer = sym (length-calls_of new_calls new) ∙ one_more ∙ ap suc (length-calls_of old_calls old)

module _ (old_calls : List Call) (old : Image) (new_calls : List Call) (new : Image) (all : AllFit old_calls old) where
  shorter : length (written_of old_calls old).settled ≤ length (written_of old_calls old).now
  shorter = (grown_after (earlier old_calls old) (calls_of old_calls old)).no_shorter

  pub write_crash : (page : ℕ) (bytes : List ℕ) → Gains (Write page bytes) old_calls old new_calls new
      → page ≤ length old → FollowsByStep (Torn page) (IsImage (written_of old_calls old))
      (IsImage (written_of new_calls new))
  write_crash page bytes gains le c image =
      let s = written_of old_calls old in
      let fits : page ≤ length s.now = omega (arith, ap length (now_is old_calls old all)) in
      write_follows s page (put page bytes s.now) c shorter (torn_put page bytes s.now fits)
      (stepped old_calls old new_calls new (Write page bytes) gains c image)

  pub barrier_durable : Gains BarrierCall old_calls old new_calls new → Only old (IsImage (written_of new_calls new))
  barrier_durable gains c image = barrier_only (written_of old_calls old) c
      (stepped old_calls old new_calls new BarrierCall gains c image) ∙ now_is old_calls old all

  pub barrier_crash : Gains BarrierCall old_calls old new_calls new → (c : Image) → IsImage (written_of new_calls new) c
      → IsImage (written_of old_calls old) c
  barrier_crash gains c image = barrier_image (written_of old_calls old) c shorter
      (stepped old_calls old new_calls new BarrierCall gains c image)

-- a write of a page that was there
pub gains_overwrite : (calls new_calls : List Call) (call : Call) (page : ℕ) (old new : Image) (bytes : List ℕ)
    → new_calls ≡ calls ++ call ∷ [] → undone call new ≡ old → Fits call new → with_bytes call new ≡ Write page bytes
    → Gains (Write page bytes) calls old new_calls new
gains_overwrite calls new_calls call page old new bytes is back fits with =
    subst (λ (d : DeviceCall). Gains d calls old new_calls new) with (gains_call calls new_calls call old new is back
    fits)

-- a write at the count
pub gains_append : (calls new_calls : List Call) (page : ℕ) (old new : Image) (bytes : List ℕ) → new_calls ≡ calls
    ++ (Append page) ∷ [] → new ≡ old ++ bytes ∷ [] → page ≡ length old → Gains (Write (length old) bytes) calls old
    new_calls new
gains_append calls new_calls page old new bytes is added here =
    let size : length new ≡ suc page = ap length added ∙ omega (arith, length-append old (bytes ∷ []), here) in
    let first : take page new ≡ take (length old) (old ++ bytes ∷ []) = λ i. take (here i) (added i) in
    let back : take page new ≡ old = first ∙ take-append_seam old (bytes ∷ []) in
    let start : length old - length old ≡ 0 = omega arith in
    let last : page_at new page ≡ page_at (old ++ bytes ∷ []) (length old) = λ i. page_at (added i) (here i) in
    let read : page_at new page ≡ bytes = last ∙ get_or-append_right old (bytes ∷ []) (length old) (length old) [] refl
    (omega arith) ∙ ap (λ (j : ℕ). get_or (bytes ∷ []) j []) start in
    gains_overwrite calls new_calls (Append page) (length old) old new bytes is back size (λ i. Write (here i) (read i))

-- a disk that keeps no call is at rest: a crash leaves what it reads, now or at any moment since the last crash
pub rested : (calls : List Call) (image c : Image) → calls ≡ [] → IsImage (written_of calls image) c → c ≡ image
rested calls image c none is = at_rest_only image c (subst (λ (l : List Call). IsImage (written_of l image) c) none is)

pub since_rested : (calls : List Call) (image : Image) (t : ℕ) (c : Image) → calls ≡ [] → Since (earlier calls image)
    (calls_of calls image) t c → c ≡ image
since_rested calls image t c none since =
    since_rest image t c (subst (λ (l : List Call). Since (earlier l image) (calls_of l image) t c) none since)

pub rested_since : (calls : List Call) (image : Image) (t : ℕ) (c : Image) → calls ≡ [] → t ≡ 0 → c ≡ image
    → Since (earlier calls image) (calls_of calls image) t c
rested_since calls image t c none start is = subst (λ (l : List Call). Since (earlier l image) (calls_of l image) t c)
    (sym none) (rest_since image t c start is)
