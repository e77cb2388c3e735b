-- Disks that stand for a state, and runs of calls that keep it.
use Rattle.std.proofs.Common.{◌≡◌, ◌∙◌, ℕ, List, refl, sym, subst, inl, inr, ◌⊎◌, ⊎_elim}
use Rattle.std.specs.Prelude.{Some}
use Rattle.tw_disk.specs.Disk.{DiskView, IsAtRest, LeavesOnly, Reads}
use Rattle.tw_disk.specs.Image.{Image}
use Rattle.tw_disk.proofs.Moments.{goes_on, leaves_weaker, no_call}
use Rattle.tw_pages.specs.Slots.{IsBlank, IsTaken}
use Rattle.tw_pages.specs.declared.open.StoreFault.{StoreFault}
use Rattle.tw_pages.specs.Disks.{Adds, AddsSafe, IsLeft, IsOldOrBegun, KeepsOrAdds, KeepsState, LeavesOldOrOneOf}
use Rattle.tw_pages.specs.Disks.{LeavesOneOf, MayBegin, OneOf, ReadsAsOneOf, ReadsAsState, RestsAtState, Settles}
use Rattle.tw_pages.specs.Disks.{StandsAtState}

module _ {D : Type 0} (view : D → DiskView) where
  -- one run after another
  pub left_on : (old mid new : D) → IsLeft view old mid → IsLeft view mid new → IsLeft view old new
  left_on old mid new first second = (
    second.0 ∙ first.0,
    goes_on (view old) (view mid) (view new) (view old).may_leave first.1
        (leaves_weaker (view mid) (view new) (view mid).may_leave (view old).may_leave
        (λ image left. first.1.now image left) second.1),
  )

  -- no call keeps all
  pub no_call_left : (d : D) → ((image : Image) → (view d).left_since (view d).moment image → (view d).may_leave image)
      → IsLeft view d d
  no_call_left d only_now = (refl, no_call (view d) (view d).may_leave only_now (λ image left. left))

  pub untouched_left : (old new : D) → ((d : D) (image : Image) → (view d).left_since (view d).moment image
      → (view d).may_leave image) → new ≡ old → IsLeft view old new
  untouched_left old new only_now is = subst (λ (d : D). IsLeft view old d) (sym is) (no_call_left old (only_now old))

module _ {S : Type 0} (IsOf : S → Image → Type 0) {D : Type 0} (view : D → DiskView) where
  -- a run that leaves nothing new, over a disk that reads the same at its end, keeps the state
  pub kept_where : (old new : D) → ((s : S) → StandsAtState IsOf view old s → IsLeft view old new)
      → KeepsState IsOf view old new
  kept_where old new leaves = λ s. (
    λ stands. (
      leaves_weaker (view old) (view new) (view old).may_leave (IsOf s) stands.each (leaves s stands).1,
      still s stands,
    ),
    λ rests. record {
      stands = still s rests.stands;
      only = λ image left. rests.only image ((leaves s rests.stands).1.now image left);
    },
  )
    where
      still : (s : S) → StandsAtState IsOf view old s → StandsAtState IsOf view new s
      still s stands = record {
        image = stands.image;
        told = (leaves s stands).0 ∙ stands.told;
        each = λ image left. stands.each image ((leaves s stands).1.now image left);
      }

  pub left_keeps : (old new : D) → IsLeft view old new → KeepsState IsOf view old new
  left_keeps old new left = kept_where old new (λ s stands. left)

  -- the content of a disk that stands for a state stands for it
  module _ (as_it_reads : (d : D) (image : Image) → (view d).content ≡ Some image → (view d).may_leave image) where
    pub content_stands : (d : D) (s : S) (stands : StandsAtState IsOf view d s) → IsOf s stands.image
    content_stands d s stands = stands.each stands.image (as_it_reads d stands.image stands.told)

    pub reads_as : (d : D) (s : S) → StandsAtState IsOf view d s → ReadsAsState IsOf (view d).content s
    reads_as d s stands = record { image = stands.image; told = stands.told; stands = content_stands d s stands }

    -- a disk that rests with the next state reads as it
    pub rests_reads : (d : D) (s next : S) → RestsAtState IsOf view d next → ReadsAsOneOf IsOf view d s next
    rests_reads d s next rests =
        record { image = rests.stands.image; told = rests.stands.told; has = inr (content_stands d next rests.stands) }

    pub rests_begun : (old d : D) (first : S) → RestsAtState IsOf view d first
        → Reads (view d) (IsOldOrBegun IsOf view first old)
    rests_begun old d first rests =
        record {
          image = rests.stands.image;
          told = rests.stands.told;
          has = inr (inr (content_stands d first rests.stands));
        }

    -- what is left as it was might have begun
    pub left_begins : (old new : D) (first : S) → IsLeft view old new → MayBegin IsOf view first old new
    left_begins old new first left = λ image told. (
      leaves_weaker (view old) (view new) (view old).may_leave (IsOldOrBegun IsOf view first old) (λ i was. inl was)
          left.1,
      record { image = image; told = left.0 ∙ told; has = inl (as_it_reads old image told) },
    )

    module _ (taken : (s : S) (image : Image) → IsOf s image → IsTaken image) where
      has_store : (d : D) (s : S) (stands : StandsAtState IsOf view d s) → IsTaken stands.image
      has_store d s stands = taken s stands.image (content_stands d s stands)

      -- a run that keeps a store that is there keeps its state
      pub held_keeps : (old new : D)
          → ((image : Image) → (view old).content ≡ Some image → IsTaken image → ((view new).content ≡ Some image)
          × LeavesOnly (view old) (view new) (view old).may_leave)
          → KeepsState IsOf view old new
      held_keeps old new held = kept_where old new (λ s stands.
          let left = held stands.image stands.told (has_store old s stands) in (left.0 ∙ sym stands.told, left.1))

      pub free_keeps : (old new : D) → ((image : Image) → (view old).content ≡ Some image → IsTaken image → ⊥)
          → KeepsState IsOf view old new
      free_keeps old new free =
          kept_where old new (λ s stands. absurd (free stands.image stands.told (has_store old s stands)))

  -- a disk at rest that stands for a state
  pub own_rest : (d : D) (s : S) → IsAtRest (view d) (IsOf s) → RestsAtState IsOf view d s
  own_rest d s rest = record {
    stands = record {
      image = rest.image;
      told = rest.told;
      each = λ image left. subst (λ (i : Image). IsOf s i) (sym (rest.only image left)) rest.has;
    };
    only = rest.only;
  }

  -- what was left before, or stands for one of two states
  abbrev OldOrOneOf : D → (s next : S) → Image → Type 0
  OldOrOneOf old s next image = (view old).may_leave image ⊎ OneOf IsOf s next image

  pub old_or_one : (old new : D) (s next : S) → LeavesOnly (view old) (view new) (view old).may_leave
      → LeavesOldOrOneOf IsOf view old new s next
  old_or_one old new s next left = leaves_weaker (view old) (view new) (view old).may_leave (OldOrOneOf old s next)
      (λ image was. inl was) left

  pub one_or_old : (old new : D) (s next : S) → LeavesOnly (view old) (view new) (OneOf IsOf s next)
      → LeavesOldOrOneOf IsOf view old new s next
  one_or_old old new s next left = leaves_weaker (view old) (view new) (OneOf IsOf s next) (OldOrOneOf old s next)
      (λ image one. inr one) left

  -- of a disk that stood for the state for good, what was left before stands for it
  pub one_of : (old new : D) (s next : S) → StandsAtState IsOf view old s → LeavesOldOrOneOf IsOf view old new s next
      → LeavesOnly (view old) (view new) (OneOf IsOf s next)
  one_of old new s next stands left =
      leaves_weaker (view old) (view new) (OldOrOneOf old s next) (OneOf IsOf s next)
      (λ image. ⊎_elim (λ was. inl (stands.each image was)) (λ one. one)) left

  pub both_of : (old new : D) (s next : S) → LeavesOldOrOneOf IsOf view old new s next → LeavesOneOf IsOf view old new s
      next
  both_of old new s next left = (left, λ stands. one_of old new s next stands left)

  -- a run before it that left nothing new
  pub joined : (old mid new : D) (s next : S) → LeavesOnly (view old) (view mid) (view old).may_leave
      → LeavesOldOrOneOf IsOf view mid new s next → LeavesOldOrOneOf IsOf view old new s next
  joined old mid new s next run left =
      goes_on (view old) (view mid) (view new) (OldOrOneOf old s next) (old_or_one old mid s next run)
      (leaves_weaker (view mid) (view new) (OldOrOneOf mid s next) (OldOrOneOf old s next)
      (λ image. ⊎_elim (λ was. inl (run.now image was)) (λ one. inr one)) left)

  -- what is left as it was is safe
  pub left_adds : {X : Type 0} (Has : X → Type 0) (Next : X → S → S → Type 0) (old new : D) → IsLeft view old new
      → AddsSafe IsOf view Has Next old new
  left_adds Has Next old new left = λ s. (
    λ reads. inl (left.1, record { image = reads.image; told = left.0 ∙ reads.told; stands = reads.stands }),
    λ stands. inl ((left_keeps old new left s).0 stands).0,
  )

  -- what keeps a state or adds to it, by something that there is, is safe
  module _ (as_it_reads : (d : D) (image : Image) → (view d).content ≡ Some image → (view d).may_leave image)
      {X : Type 0} (Has : X → Type 0) (Next : X → S → S → Type 0) (old new : D) (x : X) (has : Has x) where
    pub keeps_or_adds_safe : KeepsOrAdds IsOf view (Next x) old new → AddsSafe IsOf view Has Next old new
    keeps_or_adds_safe either = λ s. (
      λ reads. let it = either s reads in inr (x, has, it.0, it.1, it.2.1.0, it.2.0),
      λ stands. let it = either s (reads_as as_it_reads old s stands) in inr (x, has, it.0, it.1, it.2.1.1 stands),
    )

    pub adds_safe : Adds IsOf view (Next x) old new → AddsSafe IsOf view Has Next old new
    adds_safe adds = keeps_or_adds_safe (λ s reads. let it = adds s reads in
        (it.0, it.1, (rests_reads as_it_reads new s it.0 it.2.0, it.2.1)))
