-- From what a follower answers to a message to what the command comes to, and which list is next.
use Rattle.std.proofs.Common.{◌≡◌, ◌≢◌, ◌∙◌, ℕ, List, refl, ap, sym, subst, inl, inr, ◌⊎◌, ⊎_elim}
use Rattle.std.specs.Prelude.{false, Option, Some, Result, Ok, Err}
use Rattle.sha2.specs.Sha256.{sha256}
use Rattle.tw_base.specs.declared.history.thread.Thread.{Thread}
use Rattle.tw_base.specs.format.Formats.{Spells}
use Rattle.tw_base.specs.kinds.Faults.{Rose}
use Rattle.tw_disk.specs.Image.{Image}
use Rattle.tw_msg.specs.declared.message.Message.{Message}
use Rattle.tw_msg.specs.Messages.{message_layout}
use Rattle.tw_pages.specs.declared.open.StoreFault.{StoreFault}
use Rattle.tw_pages.specs.declared.open.StoreFault.TheVariants as store
use Rattle.tw_follow.specs.declared.judging.Offered.{Offered}
use Rattle.tw_follow.specs.declared.judging.Offered.TheVariants.{Known, Moves}
use Rattle.tw_base.specs.declared.history.refusal.FollowRefusal.{FollowRefusal}
use Rattle.tw_base.specs.declared.history.refusal.FollowRefusal.TheVariants as follower
use Rattle.tw_follow.specs.declared.root.RootRecord.{RootRecord}
use Rattle.tw_follow.specs.HeadLists.{Kept, last_head}
use Rattle.tw_follow.specs.Offers.{AnswersOffer, JudgesOffer, judged_offer}
use Rattle.tw_follow.specs.Runs.{GoesByMove}
use Rattle.tw_follow.specs.Runs.Move.{Answered, Stopped}
use Rattle.tw_follow.specs.Stands.{IsNotOpenedFor, OpensWith, StandsFor, StandsForOneOf}
use Rattle.tw_pages.specs.Records.{written_record}
use Rattle.tw_pages.specs.Records.Served.{Opened, Unopened}
use Rattle.tw_follow.proofs.Offering.{IsOfTable, of-table, one-message}
use Rattle.tw_follow.proofs.Standing.{stands_opened}
use Rattle.tw_text.specs.declared.fault.CommandFault.{CommandFault}
use Rattle.tw_text.specs.declared.fault.CommandFault.TheVariants as fault
use Rattle.tw_text.specs.declared.refusal.StoreCause.{StoreCause}
use Rattle.tw_diskcmd.specs.StoreFaults.{fault_of_store}
use Rattle.tw_diskcmd.proofs.Landings.{unopened_tells}
use Rattle.tw_diskcmd.specs.FollowerDisks.{ReadsAsHeads, found_disk}
use Rattle.tw_diskcmd.specs.FollowerFaults.{fault_of_follower}
use Rattle.tw_diskcmd.specs.Offering.{IsOffered, OfferedMessageComes, TableOffers, list_after, next_list, offer_as_told}
use Rattle.tw_diskcmd.specs.Offering.{offered_to}

module _ (bytes : List ℕ) (m : Message) (spells : Spells message_layout bytes m) where
  -- what becomes of the bytes is what the table says of the message
  of_message : (head : Thread) (n : Message) (r : Result Offered FollowRefusal) → Spells message_layout bytes n
      → judged_offer sha256 head n ≡ r → judged_offer sha256 head m ≡ r
  of_message head n r also is = ap (λ (x : Message). judged_offer sha256 head x) (one-message bytes m n spells also)
      ∙ is

  pub judged-ok : (head : Thread) (offered : Offered) → JudgesOffer sha256 head bytes (Ok offered)
      → judged_offer sha256 head m ≡ Ok offered
  judged-ok head offered j = of_message head j.0 (Ok offered) j.1 j.2

  -- refusals that the table tells
  abbrev IsTold : FollowRefusal → Type 0
  IsTold (follower.Malformed place) = ⊥
  IsTold follower.DiskFault = ⊥
  IsTold follower.NoMemory = ⊥
  IsTold refusal = Unit {0}

  judged-err : (head : Thread) (r : FollowRefusal) → IsTold r → JudgesOffer sha256 head bytes (Err r)
      → judged_offer sha256 head m ≡ Err r
  judged-err head (follower.Malformed place) told j = absurd told
  judged-err head follower.DiskFault told j = absurd told
  judged-err head follower.NoMemory told j = absurd told
  judged-err head r told j = of_message head j.0 (Err r) j.1 j.2

  no_page : (head : Thread) (page : ℕ) → judged_offer sha256 head m ≡ Err (follower.BadPage page) → ⊥
  no_page head page is = subst IsOfTable is (of-table sha256 head m)

  no_reopen : (head : Thread) → judged_offer sha256 head m ≡ Err follower.Reopen → ⊥
  no_reopen head is = subst IsOfTable is (of-table sha256 head m)

  -- ---- what the message comes to

  module _ (found : Option Image) (before after : ℕ) (root : RootRecord) (pages : Option Image)
      (opens : (image : Image) → found ≡ Some image → OpensWith sha256 image root (λ ps. pages ≡ Some ps))
      (list_head : (k : Kept) → ReadsAsHeads found k → last_head sha256 k ≡ root.head) where
    -- an answer of the follower that was opened
    is_offered : (result : Result Thread CommandFault) → result ≡ offered_to root.head m → TableOffers m result
        → IsOffered found m result
    is_offered result is table = record {
      answer = λ image told. let o = opens image told in
          (Opened (written_record root o.0), o.1, is);
      table = table;
      list = λ k reads. is ∙ ap (λ (head : Thread). offered_to head m) (sym (list_head k reads));
    }

    pub answered : (thread : Thread) → AnswersOffer sha256 false root.head bytes (Ok thread)
        → OfferedMessageComes (found_disk found before after) m (Ok thread)
    answered thread t =
        let is : ◌≡◌ {A = Result Thread CommandFault} (Ok thread) (offered_to root.head m) =
        ap (λ (x : Thread). Ok x) t.2 ∙ ap (offer_as_told root.head) (sym (judged-ok root.head t.0 t.1)) in
        is_offered (Ok thread) is (root.head, is)

    told : (r : FollowRefusal) → IsTold r → JudgesOffer sha256 root.head bytes (Err r)
        → ◌≡◌ {A = Result Thread CommandFault} (Err (fault_of_follower r)) (offered_to root.head m)
    told r is j = ap (offer_as_told root.head) (sym (judged-err root.head r is j))

    pub refused : (r : FollowRefusal) → AnswersOffer sha256 false root.head bytes (Err r)
        → (r ≡ follower.DiskFault → Rose before after) → OfferedMessageComes (found_disk found before after) m
        (Err (fault_of_follower r))
    refused (follower.BadPage page) t rose =
        absurd (no_page root.head page (judged-err root.head (follower.BadPage page) tt t))
    refused follower.Reopen t rose = absurd (no_reopen root.head (judged-err root.head follower.Reopen tt t))
    refused (follower.Malformed place) t rose = absurd (t.0 m spells)
    refused follower.DiskFault t rose = rose refl
    refused follower.NoMemory t rose = tt
    refused r t rose = is_offered _ (told r tt t) (root.head, told r tt t)

  -- ---- what it leaves

  -- a list goes on to itself or to the one after the message
  stays_or_next : (k next : Kept) → GoesByMove sha256 k (Stopped bytes) next → (next ≡ k) ⊎ (next ≡ next_list k m)
  stays_or_next k next (inl stay) = inl stay.1
  stays_or_next k next (inr (n, by)) =
      inr (by.adds ∙ ap (list_after k)
      (sym (of_message (last_head sha256 k) n (Ok (Moves n.thread)) by.spelled by.moves)))

  pub answered_next : (k next : Kept) (thread : Thread) → GoesByMove sha256 k (Answered bytes (Ok thread)) next
      → next ≡ next_list k m
  answered_next k next thread (inl stay) = stay.1 ∙ ap (list_after k)
      (sym (judged-ok (last_head sha256 k) Known stay.0.0))
  answered_next k next thread (inr (n, by)) = by.0.adds ∙ ap (list_after k)
      (sym (of_message (last_head sha256 k) n (Ok (Moves n.thread)) by.0.spelled by.0.moves))

  -- what stands for the list or for where it goes stands for it or the next one
  pub widen : (k next : Kept) → GoesByMove sha256 k (Stopped bytes) next → (image : Image) → StandsForOneOf sha256 k
      next image → StandsForOneOf sha256 k (next_list k m) image
  widen k next goes image (inl stands) = inl stands
  widen k next goes image (inr stands) = ⊎_elim (λ is. inl (subst (λ (x : Kept). StandsFor sha256 image x) is stands))
      (λ is. inr (subst (λ (x : Kept). StandsFor sha256 image x) is stands)) (stays_or_next k next goes)

-- a table never tells that nothing is served
pub never_unserved : (m : Message) (head : Thread) (why : StoreCause) → ◌≡◌ {A = Result Thread CommandFault}
    (Err (fault.Unserved why)) (offered_to head m) → ⊥
never_unserved m head why is = by (judged_offer sha256 head m) (of-table sha256 head m) is
  where
    by : (r : Result Offered FollowRefusal) → IsOfTable r → ◌≡◌ {A = Result Thread CommandFault}
        (Err (fault.Unserved why)) (offer_as_told head r) → ⊥
    by (Ok offered) of e = cc
    by (Err (follower.BadPage page)) of e = of
    by (Err follower.DiskFault) of e = of
    by (Err follower.Reopen) of e = of
    by (Err (follower.Malformed place)) of e = of
    by (Err follower.NoMemory) of e = of
    by _ of e = cc

-- where no follower is opened
pub unserved : (found : Option Image) (before after : ℕ) (m : Message) (f : StoreFault)
    → ((image : Image) → found ≡ Some image → (f ≡ store.DiskFault) ⊎ IsNotOpenedFor sha256 image f)
    → (f ≢ store.Taken) × (f ≢ store.NoMemory) → (f ≡ store.DiskFault → Rose before after)
    → OfferedMessageComes (found_disk found before after) m (Err (fault_of_store f))
unserved found before after m f =
    unopened_tells (λ why. OfferedMessageComes (found_disk found before after) m (Err why)) (IsNotOpenedFor sha256) found
    f (λ cause is none. record {
      answer = λ image told. (Unopened f, none image told, ap (λ (x : CommandFault). Err x) (sym is));
      table = tt;
      list = λ k reads. absurd (stands_opened sha256 reads.image k f reads.stands (none reads.image reads.told));
    })
