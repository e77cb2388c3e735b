-- `offer`: what the message of a file makes of a follower, what the command comes to, and what it leaves of the disk.
use Rattle.std.specs.Prelude.{◌≡◌, ℕ, List, Option, Some, Result, Ok, Err}
use Rattle.sha2.specs.Sha256.{sha256}
use Rattle.tw_base.specs.declared.history.thread.Thread.{Thread}
use Rattle.tw_disk.specs.Disk.{DiskView}
use Rattle.tw_disk.specs.Image.{Image}
use Rattle.tw_msg.specs.declared.message.Message.{Message}
use Rattle.tw_outside.specs.Asked.{Asked}
use Rattle.tw_outside.specs.Files.{Files}
use Rattle.tw_pages.specs.Records.{Written}
use Rattle.tw_follow.specs.declared.judging.Offered.{Offered}
use Rattle.tw_follow.specs.declared.judging.Offered.TheVariants.{Moves}
use Rattle.tw_base.specs.declared.history.refusal.FollowRefusal.{FollowRefusal}
use Rattle.tw_follow.specs.declared.root.RootRecord.{RootRecord}
use Rattle.tw_follow.specs.HeadLists.{Kept, last_head, with_head}
use Rattle.tw_follow.specs.Offers.{answer_to, judged_offer}
use Rattle.tw_follow.specs.Stands.{IsServed, root_kind}
use Rattle.tw_follow.specs.Writing.{record_after}
use Rattle.tw_pages.specs.Records.{Served}
use Rattle.tw_pages.specs.Records.Served.{Opened, Unopened}
use Rattle.tw_text.specs.declared.fault.CommandFault.{CommandFault}
use Rattle.tw_text.specs.declared.fault.CommandFault.TheVariants as fault
use Rattle.tw_diskcmd.specs.Comes.{DiskComes}
use Rattle.tw_diskcmd.specs.StoreFaults.{fault_of_store}
use Rattle.tw_diskcmd.specs.Files.{FileComes, IsBadMessageByte, IsMessageIn}
use Rattle.tw_diskcmd.specs.Leaves.{WriteLeaves, WriteSafe}
use Rattle.tw_diskcmd.specs.FollowerDisks.{FoundDisk, IsImageOfHeads, ReadsAsHeads}
use Rattle.tw_diskcmd.specs.FollowerFaults.{fault_of_follower}

-- ---- the message

-- what the table says, as the command's result
abbrev pub offer_as_told : (head : Thread) → Result Offered FollowRefusal → Result Thread CommandFault
offer_as_told head (Ok offered) = Ok (answer_to head offered)
offer_as_told head (Err refusal) = Err (fault_of_follower refusal)

-- the result of the message, where this is the head
abbrev pub offered_to : (head : Thread) → Message → Result Thread CommandFault
offered_to head m = offer_as_told head (judged_offer sha256 head m)

-- of the follower that the disk is served as, or why there is none
abbrev pub offered_over : Message → Served RootRecord → Result Thread CommandFault
offered_over m (Opened w) = offered_to w.root.head m
offered_over m (Unopened why) = Err (fault_of_store why)

-- over whatever disk: it is that of some head, or tells of the disk
abbrev pub TableOffers : Message → Result Thread CommandFault → Type 0
TableOffers m (Err (fault.Unserved cause)) = Unit {0}
TableOffers m result = (head : Thread) × (result ≡ offered_to head m)

-- where what the disk read as is told, the result is that of the follower that it is served as; the table allows it; and where the disk
-- reads as a list of heads, it is that of the list's head
pub record IsOffered (found : Option Image) (m : Message) (result : Result Thread CommandFault) : Type 0 where
  pub answer : (image : Image) → found ≡ Some image → (served : Served RootRecord) × IsServed sha256 image served × (result ≡ offered_over m served)
  pub table : TableOffers m result
  pub list : (kept : Kept) → ReadsAsHeads found kept → result ≡ offered_to (last_head sha256 kept) m

-- what the message comes to
abbrev pub OfferedMessageComes : FoundDisk → Message → Result Thread CommandFault → Type 0
OfferedMessageComes t m result = DiskComes (λ found came. IsOffered found m came) t result

-- what the command comes to: its file isn't read or is none, or its message comes to it
abbrev pub OfferComes : Asked → FoundDisk → (file : List ℕ) → Result Thread CommandFault → Type 0
OfferComes a t file result = FileComes a file IsBadMessageByte (IsMessageIn a.told file) (λ m found came. IsOffered found m came) t result

-- ---- the store, whatever its pages keep

-- the record and pages with the message's thread, where it moves the record's head, and else the same
abbrev pub next_follower_record : Written RootRecord → Message → Written RootRecord
next_follower_record w m = record_after w (judged_offer sha256 w.root.head m)

abbrev pub IsNextBy : Message → (w next : Written RootRecord) → Type 0
IsNextBy m w next = next ≡ next_follower_record w m

-- ---- the disk

-- the list with the message's thread, where it moves the head, and else the same
abbrev pub list_after : Kept → Result Offered FollowRefusal → Kept
list_after kept (Ok (Moves thread)) = with_head kept thread
list_after kept _ = kept

abbrev pub next_list : Kept → Message → Kept
next_list kept m = list_after kept (judged_offer sha256 (last_head sha256 kept) m)

abbrev pub IsNextListBy : Message → (kept next : Kept) → Type 0
IsNextListBy m kept next = next ≡ next_list kept m

module _ {D : Type 0} (view : D → DiskView) (old new : D) (told : Option Files) (file : List ℕ) where
  -- next are the list, and the record and pages, that the file's message makes
  abbrev pub OfferSafe : Type 0
  OfferSafe = WriteSafe (root_kind sha256) IsImageOfHeads view old new (IsMessageIn told file) IsNextListBy IsNextBy

  abbrev pub OfferLeaves : Result Thread CommandFault → Type 0
  OfferLeaves result =
      WriteLeaves (root_kind sha256) IsImageOfHeads view old new (IsMessageIn told file) IsNextListBy IsNextBy (λ m found came. IsOffered found m came)
      (λ m thread. IsNextListBy m) (λ m thread. IsNextBy m) result
