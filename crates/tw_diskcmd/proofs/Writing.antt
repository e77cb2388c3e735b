-- What a follower's offer makes of its disk: of the list, and of record and pages whatever these keep.
use Rattle.std.proofs.Common.{◌≡◌, ◌∙◌, ◌⊎◌, ℕ, List, refl, ap, sym, subst, inl, inr, ⊎_elim}
use Rattle.std.specs.Prelude.{Result, Ok, Err}
use Rattle.sha2.specs.Sha256.{sha256}
use Rattle.tw_base.specs.declared.history.thread.Thread.{Thread}
use Rattle.tw_base.specs.format.Formats.{Spells}
use Rattle.tw_disk.specs.Disk.{DiskView, LeavesOnly}
use Rattle.tw_disk.specs.Image.{Image}
use Rattle.tw_disk.proofs.Moments.{leaves_weaker}
use Rattle.tw_pages.specs.Disks.{OneOf, RestsAtState}
use Rattle.tw_pages.specs.Records.{Written, written_record}
use Rattle.tw_pages.proofs.AtRest.{own_rest}
use Rattle.tw_pages.proofs.States.{serves_for_good}
use Rattle.tw_msg.specs.declared.message.Message.{Message}
use Rattle.tw_msg.specs.Messages.{message_layout}
use Rattle.tw_follow.specs.declared.follower.Follower.{Follower}
use Rattle.tw_follow.specs.declared.judging.Offered.TheVariants.{Moves}
use Rattle.tw_base.specs.declared.history.refusal.FollowRefusal.{FollowRefusal}
use Rattle.tw_base.specs.declared.history.refusal.FollowRefusal.TheVariants as follower
use Rattle.tw_follow.specs.declared.root.RootRecord.{RootRecord}
use Rattle.tw_follow.specs.Calls.{OfferSteps, Offers}
use Rattle.tw_follow.specs.Follows.{Follows, IsOver, disk_of, record_of}
use Rattle.tw_follow.specs.HeadLists.{Kept}
use Rattle.tw_follow.specs.Runs.{GoesByMove}
use Rattle.tw_follow.specs.Runs.Move.{Stopped}
use Rattle.tw_follow.specs.Stands.{KeepsList, root_kind}
use Rattle.tw_follow.specs.Writing.{IsMovedBy, record_after}
use Rattle.tw_diskcmd.specs.Steps.{AddsFrom}
use Rattle.tw_diskcmd.proofs.StoreSteps.{refused_adds, rests_as}
use Rattle.tw_text.specs.declared.fault.CommandFault.{CommandFault}
use Rattle.tw_diskcmd.specs.FollowerDisks.{IsFollower, IsImageOfHeads, RestsAtHeads}
use Rattle.tw_diskcmd.specs.FollowerFaults.{fault_of_follower}
use Rattle.tw_diskcmd.specs.Offering.{IsNextBy, IsNextListBy, next_follower_record, next_list}
use Rattle.tw_diskcmd.proofs.Offered.{answered_next, judged-ok, widen as widen_list}

module _ {D H : Type 0} {g : _} {k : _} (view : D → DiskView) (f new : Follower D H g k) (bytes : List ℕ) (m : Message)
    (spells : Spells message_layout bytes m) where
  -- ---- of a list

  module _ (kept : Kept) where
    rests_list : (s : Kept) → Follows sha256 view new s → RestsAtHeads view (disk_of new) s
    rests_list s follows = own_rest IsImageOfHeads view (disk_of new) s (serves_for_good (root_kind sha256) KeepsList view
        new.recorded.store (record_of new) s follows)

    any_list : (next : Kept) → GoesByMove sha256 kept (Stopped bytes) next → LeavesOnly (view (disk_of f))
        (view (disk_of new)) (OneOf IsImageOfHeads kept next)
        → LeavesOnly (view (disk_of f)) (view (disk_of new)) (OneOf IsImageOfHeads kept (next_list kept m))
    any_list next goes left =
        leaves_weaker (view (disk_of f)) (view (disk_of new)) (OneOf IsImageOfHeads kept next)
        (OneOf IsImageOfHeads kept (next_list kept m)) (widen_list bytes m spells kept next goes) left

    abbrev Adds : Result Thread CommandFault → Type 0
    Adds came = AddsFrom IsImageOfHeads view (disk_of f) (disk_of new) (IsNextListBy m) (λ thread. IsNextListBy m) kept came

    pub answered_list : (thread : Thread) → OfferSteps sha256 view bytes f new (Ok thread) kept → Adds (Ok thread)
    answered_list thread made =
        let is = answered_next bytes m spells kept made.next thread made.done.0 in (
          next_list kept m,
          refl,
          rests_list (next_list kept m) (subst (λ (n : Kept). Follows sha256 view new n) is made.done.1),
          any_list made.next made.goes made.any_moment,
        )

    pub refused_list : (r : FollowRefusal) (came : CommandFault) → came ≡ fault_of_follower r → OfferSteps sha256 view
        bytes f new (Err r) kept → Adds (Err came)
    refused_list r came is made =
        refused_adds IsImageOfHeads view (IsNextListBy m) (λ (thread : Thread). IsNextListBy m) follower.DiskFault
        fault_of_follower refl (disk_of f) (disk_of new) kept (next_list kept m) refl
        (any_list made.next made.goes made.any_moment)
        (record {
          image = made.told.image;
          told = made.told.told;
          has = widen_list bytes m spells kept made.next made.goes made.told.image made.told.has;
        }) r came is
        (⊎_elim (λ fault. inl fault) (λ still. inr (rests_list kept still.0)) made.refused)

  -- ---- of record and pages

  module _ (ps : Image) (over : IsOver sha256 view f ps) where
    abbrev w : Written RootRecord
    w = written_record (record_of f) ps

    abbrev after : Written RootRecord
    after = next_follower_record w m

    -- what was committed next is what the message makes of the record
    widen : (next : Written RootRecord) → (next ≡ w) ⊎ IsMovedBy sha256 bytes w next → (i : Image)
        → OneOf IsFollower w next i → OneOf IsFollower w after i
    widen next which i (inl was) = inl was
    widen next (inl same) i (inr now) = inl (subst (λ (v : Written RootRecord). IsFollower v i) same now)
    widen next (inr (thread, judges, is)) i (inr now) =
        inr (subst (λ (v : Written RootRecord). IsFollower v i)
        (is ∙ ap (record_after w) (sym (judged-ok bytes m spells w.root.head (Moves thread) judges))) now)

    any_moment : (next : Written RootRecord) → (next ≡ w) ⊎ IsMovedBy sha256 bytes w next
        → LeavesOnly (view (disk_of f)) (view (disk_of new)) (OneOf IsFollower w next)
        → LeavesOnly (view (disk_of f)) (view (disk_of new)) (OneOf IsFollower w after)
    any_moment next which left = leaves_weaker (view (disk_of f)) (view (disk_of new)) (OneOf IsFollower w next)
        (OneOf IsFollower w after) (widen next which) left

    abbrev Writes : Result Thread CommandFault → Type 0
    Writes came = AddsFrom IsFollower view (disk_of f) (disk_of new) (IsNextBy m) (λ thread. IsNextBy m) w came

    pub answered_writes : (thread : Thread) → Offers sha256 view bytes f new (Ok thread) → Writes (Ok thread)
    answered_writes thread o =
        let c = o.written ps over in
        let is : c.next ≡ after = c.done.0.3 ∙ ap (record_after w)
        (sym (judged-ok bytes m spells w.root.head c.done.0.0 c.done.0.1)) in (
          after,
          refl,
          subst (λ (v : Written RootRecord). RestsAtState IsFollower view (disk_of new) v) is
              (rests_as view (root_kind sha256) new.recorded.store c.next c.done.2),
          any_moment c.next c.is_next c.any_moment,
        )

    pub refused_writes : (r : FollowRefusal) (came : CommandFault) → came ≡ fault_of_follower r
        → Offers sha256 view bytes f new (Err r) → Writes (Err came)
    refused_writes r came is o =
        let c = o.written ps over in
        refused_adds IsFollower view (IsNextBy m) (λ (thread : Thread). IsNextBy m) follower.DiskFault fault_of_follower
        refl (disk_of f) (disk_of new) w after refl
        (any_moment c.next c.is_next c.any_moment)
        (record { image = c.told.image; told = c.told.told; has = widen c.next c.is_next c.told.image c.told.has }) r
        came is
        (⊎_elim (λ fault. inl fault) (λ still. inr (rests_as view (root_kind sha256) new.recorded.store w still.0))
        c.refused)
