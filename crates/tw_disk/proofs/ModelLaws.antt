-- What holds of a disk after each list of calls.
use Rattle.std.specs.Prelude.{◌≡◌, ◌≢◌, ◌⊎◌, ℕ, zero, suc, ◌<◌, ◌≤◌, min, List, [], ◌∷◌, ◌++◌, length, take, refl}
use Rattle.std.specs.Prelude.{replicate}
use Rattle.std.proofs.Common.{arith, subst, sym, ap, ◌∙◌, length-append, inl, inr}
use Rattle.std.proofs.Math.ListN.{set}
use Rattle.std.proofs.lemmas.Bool.{cases_eq}
use Rattle.std.proofs.lemmas.List.{length-take, length-set, get_or-take, get_or-set_same, get_or-set_other, ext_get_or}
use Rattle.std.proofs.lemmas.List.{take-append-le, take_all}
use Rattle.tw_disk.specs.Image.{Image, Torn, page_at}
use Rattle.tw_disk.specs.Model.{DeviceCall, Barrier, WrittenPage, IsUntouched, at_rest, step, after, IsImage, Since}
use Rattle.tw_disk.specs.Model.{spoilt, outcome}
use Rattle.tw_disk.specs.MemDiskSteps.{IsGrown, grown_after, image_now}

pub after-push : (s : WrittenPage) (calls : List DeviceCall) (call : DeviceCall) → after s (calls ++ call ∷ []) ≡ step
    (after s calls) call
after-push s [] call = refl
after-push s (c ∷ calls) call = after-push (step s c) calls call

-- and so is what it held at the last good barrier
pub image_settled : (s : WrittenPage) → IsGrown s → IsImage s s.settled
image_settled s is = record { at_least = omega arith; at_most = is.no_shorter; others = is.others }

pub length-spoilt : (bytes : List ℕ) (pages : List ℕ) (image : Image) → length (spoilt bytes pages image) ≡ length image
length-spoilt bytes [] image = refl
length-spoilt bytes (page ∷ pages) image = length-spoilt bytes pages (set image page bytes) ∙ length-set image page
    bytes

page_at-spoilt_other : (bytes : List ℕ) (pages : List ℕ) (image : Image) (k : ℕ) → IsUntouched pages k
    → page_at (spoilt bytes pages image) k ≡ page_at image k
page_at-spoilt_other bytes [] image k untouched = refl
page_at-spoilt_other bytes (page ∷ pages) image k untouched = page_at-spoilt_other bytes pages (set image page bytes) k
    untouched.1 ∙ get_or-set_other image page k bytes [] untouched.0

-- any bytes in the pages written since the last good barrier make an image
image_spoilt : (s : WrittenPage) (bytes : List ℕ) → IsGrown s → IsImage s (spoilt bytes s.loose s.now)
image_spoilt s bytes is = record {
  at_least = omega (arith, length-spoilt bytes s.loose s.now, is.no_shorter);
  at_most = omega (arith, length-spoilt bytes s.loose s.now);
  others = λ k lt untouched. page_at-spoilt_other bytes s.loose s.now k untouched;
}

-- each outcome of a crash is one of the images that the model allows
pub outcome_image : (choice : ℕ) (s : WrittenPage) → IsGrown s → IsImage s (outcome choice s)
outcome_image zero s is = image_settled s is
outcome_image (suc zero) s is = image_now s is
outcome_image (suc (suc zero)) s is = image_spoilt s (replicate 4096 0) is
outcome_image (suc (suc (suc more))) s is = image_spoilt s (replicate 4096 1) is

module _ (s : WrittenPage) (page : ℕ) (now : Image) (c : Image) (firm : length s.settled ≤ length s.now)
    (torn : Torn page s.now now) (image : IsImage (record { now = now; settled = s.settled; loose = page ∷ s.loose })
    c) where
  before : Image
  before = take (length s.now) (set c page (page_at s.now page))

  size : length before ≡ min (length s.now) (length c)
  unfolding before
  size = length-take (length s.now) (set c page (page_at s.now page)) ∙ ap (λ (n : ℕ). min (length s.now) n)
      (length-set c page (page_at s.now page))

  other : (k : ℕ) → k < length before → k ≢ page → page_at before k ≡ page_at c k
  unfolding before
  other k lt ne = get_or-take (length s.now) (set c page (page_at s.now page)) k [] (omega (arith, size))
      ∙ get_or-set_other c page k (page_at s.now page) [] ne

  same : page < length before → page_at before page ≡ page_at s.now page
  unfolding before
  same lt = get_or-take (length s.now) (set c page (page_at s.now page)) page [] (omega (arith, size)) ∙ get_or-set_same
      c page (page_at s.now page) [] (omega (arith, size))

  others_of : (k : ℕ) → (k ≡ page) ⊎ (k ≢ page) → k < length before → IsUntouched s.loose k → page_at before k ≡ page_at
      s.now k
  others_of k (inl is) lt untouched = subst (λ (j : ℕ). page_at before j ≡ page_at s.now j) (sym is)
      (same (omega arith))
  others_of k (inr ne) lt untouched = other k lt ne ∙ image.others k (omega (arith, size)) (ne, untouched) ∙ torn.others
      k (omega (arith, size)) ne

  -- a write, whether it was good or not, leaves images that come from those before it
  pub write_follows : (d : Image) × IsImage s d × Torn page d c
  write_follows = (
    before,
    record {
      at_least = omega (arith, size, image.at_least);
      at_most = omega (arith, size);
      others = λ k lt untouched. others_of k (cases_eq k page) lt untouched;
    },
    record {
      no_shorter = omega (arith, size);
      no_longer = omega (arith, size, image.at_most, torn.no_longer);
      others = λ k lt ne. sym (other k lt ne);
    },
  )

-- after a good barrier a crash leaves what a read gives
pub barrier_only : (s : WrittenPage) (c : Image) → IsImage (step s Barrier) c → c ≡ s.now
barrier_only s c image = ext_get_or [] c s.now (omega (arith, image.at_least, image.at_most))
    (λ k lt. image.others k lt tt)

-- and nothing that it might not have left before
pub barrier_image : (s : WrittenPage) (c : Image) → length s.settled ≤ length s.now → IsImage (step s Barrier) c
    → IsImage s c
barrier_image s c firm image =
    record {
      at_least = omega (arith, image.at_least);
      at_most = image.at_most;
      others = λ k lt untouched. image.others k lt tt;
    }

-- one call more, which ends at this moment
module _ (base : Image) (calls : List DeviceCall) (call : DeviceCall) where
  one_longer : length (calls ++ call ∷ []) ≡ suc (length calls)
  one_longer = omega (arith, length-append calls (call ∷ []))

  pub nothing_else_push : (t : ℕ) (c : Image) → Since base (calls ++ call ∷ []) t c → Since base calls t c
      ⊎ IsImage (after (at_rest base) (calls ++ call ∷ [])) c
  nothing_else_push t c since = split (cases_eq since.at (suc (length calls)))
    where
      split : (since.at ≡ suc (length calls)) ⊎ (since.at ≢ suc (length calls)) → Since base calls t c
          ⊎ IsImage (after (at_rest base) (calls ++ call ∷ [])) c
      split (inl is) = inr (subst (λ (l : List DeviceCall). IsImage (after (at_rest base) l) c)
          (take_all since.at (calls ++ call ∷ []) (omega (arith, one_longer))) since.image)
      split (inr ne) = let le : since.at ≤ length calls = omega (arith, one_longer, since.to) in inl (record {
        at = since.at;
        from = since.from;
        to = le;
        image = subst (λ (l : List DeviceCall). IsImage (after (at_rest base) l) c)
            (take-append-le since.at calls (call ∷ []) le) since.image;
      })

  pub keeps_push : (t : ℕ) (c : Image) → Since base calls t c → Since base (calls ++ call ∷ []) t c
  keeps_push t c since = record {
    at = since.at;
    from = since.from;
    to = omega (arith, one_longer, since.to);
    image = subst (λ (l : List DeviceCall). IsImage (after (at_rest base) l) c)
        (sym (take-append-le since.at calls (call ∷ []) since.to)) since.image;
  }

-- a disk that was just crashed has this image alone, at each moment from an earlier one on
pub at_rest_only : (image : Image) (c : Image) → IsImage (at_rest image) c → c ≡ image
at_rest_only image c is = barrier_only (at_rest image) c is

pub since_rest : (image : Image) (t : ℕ) (c : Image) → Since image [] t c → c ≡ image
since_rest image t c since = at_rest_only image c (subst (λ (l : List DeviceCall). IsImage (after (at_rest image) l) c)
    (take_all since.at [] (omega arith)) since.image)

pub rest_since : (image : Image) (t : ℕ) (c : Image) → t ≡ 0 → c ≡ image → Since image [] t c
rest_since image t c start is = record {
  at = 0;
  from = omega (arith, start);
  to = omega arith;
  image = subst (λ (i : Image). IsImage (at_rest image) i) (sym is) (image_now (at_rest image) (grown_after image []));
}
