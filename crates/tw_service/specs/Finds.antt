-- What the calls of a service that may add a step find in its pages, whether or not these keep a history.
use Rattle.std.specs.Prelude.{ℕ, ◌++◌, List, Bool, Option, Result, Ok, Err, nat_lt, if◌then◌else◌}
use Rattle.tw_base.specs.declared.history.content.Content.TheVariants.{Events, Received}
use Rattle.tw_base.specs.declared.history.root.Root.{Root}
use Rattle.tw_base.specs.declared.history.thread.Thread.{Thread}
use Rattle.tw_base.specs.history.Entries.{thread_key}
use Rattle.tw_archive.specs.Judging.{found_judgement}
use Rattle.tw_disk.specs.Found.{Found, ◌>>=◌}
use Rattle.tw_disk.specs.Found.Found.{Is, Bad}
use Rattle.tw_disk.specs.Image.{Image}
use Rattle.tw_msg.specs.declared.message.Message.{Message}
use Rattle.tw_msg.specs.declared.receipt.Receipt.{Receipt}
use Rattle.tw_rbtree.specs.declared.fault.TreeFault.{TreeFault}
use Rattle.tw_rbtree.specs.Answers.{found_insert}
use Rattle.tw_skiplist.specs.declared.head.Head.{Head}
use Rattle.tw_skiplist.specs.Appended.{appended}
use Rattle.tw_skiplist.specs.Readings.{found_step}
use Rattle.tw_base.specs.declared.history.refusal.Refusal.{Refusal}
use Rattle.tw_answers.specs.Finds.{unless}
use Rattle.tw_answers.specs.Limits.{append_refusal}
use Rattle.tw_service.specs.declared.receiving.Reception.{Reception}
use Rattle.tw_service.specs.Receiving.{reception}

-- the thread that ends with a head
abbrev pub thread_at : (name : List ℕ) → Head → Thread
thread_at name head = record { from = name; step = head.step; auth = head.auth }

-- the receipt by which the step of this authenticator tells that it received the thread
abbrev pub receipt_of : (name : List ℕ) → (step : ℕ) → (auth : List ℕ) → Thread → Receipt
receipt_of name step auth t = record { by = record { from = name; step = step; auth = auth }; thread = t }

-- the same by the step of a head
abbrev pub receipt_at : (name : List ℕ) → Head → Thread → Receipt
receipt_at name head t = receipt_of name head.step head.auth t

-- whether an insert of the thread's key finds room; where it finds the key, the pages told otherwise before, so they don't fit one another,
-- and the root's page is told
abbrev pub room_in : (root : Root) → Result (Unit {0}) TreeFault → Found (Unit {0})
room_in root (Ok done) = Is done
room_in root (Err fault) = Bad root.page

unfoldable pub found_room : (dig : List ℕ → List ℕ) → Image → (archive : Root) → Thread → Found (Unit {0})
found_room dig pages archive t = found_insert dig pages archive (thread_key t) >>= room_in archive

module _ (dig : List ℕ → List ℕ) (pages : Image) (name : List ℕ) (head : Head) where
  -- what becomes of a message by the archive
  unfoldable pub found_reception : (archive : Root) → (clock : Option ℕ) → Message → (time : Option ℕ) → Found Reception
  found_reception archive clock m time = found_judgement dig pages archive m >>= (λ judgement. Is (reception head.step clock time judgement))

  -- the receipt of the step that received the thread; where it is above the last one, the pages don't fit one another, and the last
  -- step's page is told, which is read last
  unfoldable pub found_receipt : (archived : ℕ) → Thread → Found (Result Receipt Refusal)
  found_receipt archived t =
      if nat_lt head.step archived then Bad head.page
      else (found_step dig pages head archived >>= (λ info. Is (Ok (receipt_of name archived info.auth t))))

  -- the receipt of the next step, which archives the thread at this time, where pages of a tree under this new root stand behind the others
  unfoldable pub found_archived : (archive : Root) → Thread → (time : Option ℕ) → (tree_pages : Image) → (grown : Root) → Found (Result Receipt Refusal)
  found_archived archive t time tree_pages grown =
      found_room dig pages archive t
      >>= (λ room. appended dig (pages ++ tree_pages) head (Received t) grown time >>= (λ next. Is (Ok (receipt_at name next.value t))))

  -- the thread of one more step, of these events and this time, with this archive; `clock` is the greatest time before
  unfoldable pub found_thread : (is_broken : Bool) → (clock : Option ℕ) → (events : List (List ℕ)) → (time : Option ℕ) → (archive : Root) → Found (Result Thread Refusal)
  found_thread is_broken clock events time archive =
      unless (append_refusal is_broken head.step clock events time) (appended dig pages head (Events events) archive time >>= (λ next. Is (Ok (thread_at name next.value))))
