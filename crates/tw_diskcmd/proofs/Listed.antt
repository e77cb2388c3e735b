-- From the heads that a follower tells to what the command comes to.
use Rattle.std.proofs.Common.{◌≡◌, ◌≢◌, ◌∙◌, ℕ, List, refl, ap, sym, subst, inl, inr, ◌⊎◌}
use Rattle.std.specs.Prelude.{false, ◌↔◌, Bool, IsTrue, Option, Some, Result, Ok, Err, IfErr, IfOk}
use Rattle.sha2.specs.Sha256.{sha256}
use Rattle.tw_base.specs.declared.history.thread.Thread.{Thread}
use Rattle.tw_base.specs.kinds.Faults.{Rose}
use Rattle.tw_disk.specs.Answers.{AnswersAs}
use Rattle.tw_disk.specs.Found.Found.{Is}
use Rattle.tw_disk.specs.Image.{Image}
use Rattle.tw_pages.specs.declared.open.StoreFault.{StoreFault}
use Rattle.tw_pages.specs.declared.open.StoreFault.TheVariants as store
use Rattle.tw_base.specs.declared.history.refusal.FollowRefusal.{FollowRefusal}
use Rattle.tw_base.specs.declared.history.refusal.FollowRefusal.TheVariants as follower
use Rattle.tw_follow.specs.declared.root.RootRecord.{RootRecord}
use Rattle.tw_follow.specs.HeadLists.{Kept, RiseTo}
use Rattle.tw_follow.specs.HeadPages.{found_heads}
use Rattle.tw_follow.specs.Refusals.{IsFollowerFault, follower_refusals}
use Rattle.tw_follow.specs.Stands.{IsNotOpenedFor, OpensWith}
use Rattle.tw_pages.specs.Records.{written_record}
use Rattle.tw_pages.specs.Records.Served.{Opened, Unopened}
use Rattle.tw_follow.proofs.Answering.{not_both}
use Rattle.tw_follow.proofs.Standing.{stands_opened}
use Rattle.tw_text.specs.declared.fault.CommandFault.{CommandFault}
use Rattle.tw_text.specs.declared.fault.CommandFault.TheVariants as fault
use Rattle.tw_text.specs.declared.refusal.StoreCause.TheVariants.{BadPage}
use Rattle.tw_diskcmd.specs.StoreFaults.{fault_of_store}
use Rattle.tw_diskcmd.specs.FollowerDisks.{ReadsAsHeads, found_disk}
use Rattle.tw_diskcmd.specs.FollowerFaults.{fault_of_follower}
use Rattle.tw_diskcmd.specs.Heads.{HeadsComes, IsListed, TableLists, as_lines, head_lines}
use Rattle.tw_diskcmd.proofs.Landings.{unopened_tells}

-- a follower that was just opened hasn't to be opened anew
pub never_reopened : (is_broken : Bool) → is_broken ≡ false → (r : FollowRefusal)
    → ((◌≡◌ {A = Result (List Thread) FollowRefusal} (Err r) (Err follower.Reopen)) ↔ IsTrue is_broken)
    → r ≢ follower.Reopen
never_reopened is_broken whole r reopen is = not_both is_broken whole (reopen.0 (ap (λ (x : FollowRefusal). Err x) is))

module _ (found : Option Image) (before after : ℕ) where
  -- a follower was opened, with the list that the disk reads as, where it reads as one
  module _ (root : RootRecord) (pages : Option Image) (opens : (image : Image) → found ≡ Some image
      → OpensWith sha256 image root (λ ps. pages ≡ Some ps))
      (lists : (k : Kept) → ReadsAsHeads found k → (ps : Image) × (pages ≡ Some ps)
      × (found_heads ps root ≡ Is k.heads)) where
    is_listed : (result : Result (List ℕ) CommandFault) → TableLists result
        → ((ps : Image) → pages ≡ Some ps → result ≡ as_lines (found_heads ps root)) → IsListed found result
    is_listed result table is = record {
      answer = λ image told. let o = opens image told in
          (Opened (written_record root o.0), o.1, is o.0 o.2);
      table = table;
      list = λ k reads. let own = lists k reads in is own.0 own.1 ∙ ap as_lines own.2;
    }

    -- its lines, or want of memory for them
    pub listed : (heads : List Thread) (lines : Result (List ℕ) CommandFault) → RiseTo root.head heads
        → ((ps : Image) → pages ≡ Some ps → AnswersAs follower_refusals (λ (hs : List Thread). hs) (Ok heads)
        (found_heads ps root))
        → IfOk lines (λ text. text ≡ head_lines heads) → IfErr lines (λ why. why ≡ fault.NoMemory)
        → HeadsComes (found_disk found before after) lines
    listed heads (Ok text) rises answer is memory = is_listed (Ok text) (root.head, (heads, rises, is))
        (λ ps told. ap (λ (x : List ℕ). Ok x) is ∙ sym (ap as_lines (answer ps told)))
    listed heads (Err why) rises answer is memory =
        subst (λ (x : CommandFault). HeadsComes (found_disk found before after) (Err x)) (sym memory) tt

    pub unlisted : (r : FollowRefusal) → ((ps : Image) → pages ≡ Some ps → AnswersAs follower_refusals
        (λ (hs : List Thread). hs) (Err r) (found_heads ps root)) → (r ≡ follower.Reopen) ⊎ IsFollowerFault r
        → r ≢ follower.Reopen → (r ≡ follower.DiskFault → Rose before after)
        → HeadsComes (found_disk found before after) (Err (fault_of_follower r))
    unlisted (follower.BadPage page) answer faults fresh rose = is_listed (Err (fault.Unserved (BadPage page))) tt
        (λ ps told. sym (ap as_lines (answer ps told)))
    unlisted follower.DiskFault answer faults fresh rose = rose refl
    unlisted follower.NoMemory answer faults fresh rose = tt
    unlisted r answer (inl is) fresh rose = absurd (fresh is)
    unlisted r answer (inr is) fresh rose = absurd is

  -- where no follower is opened
  pub unserved : (f : StoreFault) → ((image : Image) → found ≡ Some image → (f ≡ store.DiskFault) ⊎ IsNotOpenedFor
      sha256 image f) → (f ≢ store.Taken) × (f ≢ store.NoMemory)
      → (f ≡ store.DiskFault → Rose before after) → HeadsComes (found_disk found before after) (Err (fault_of_store f))
  unserved f = unopened_tells (λ why. HeadsComes (found_disk found before after) (Err why)) (IsNotOpenedFor sha256) found
      f (λ cause is none. record {
        answer = λ image told. (Unopened f, none image told, ap (λ (x : CommandFault). Err x) (sym is));
        table = tt;
        list = λ k reads. absurd (stands_opened sha256 reads.image k f reads.stands (none reads.image reads.told));
      })
