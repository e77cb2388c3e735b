-- The messages and receipts that a history itself has.
use Rattle.std.specs.Prelude.{◌≡◌, ℕ, ◌<◌, ◌≤◌, List, length, Some}
use Rattle.tw_base.specs.declared.history.thread.Thread.{Thread}
use Rattle.tw_base.specs.format.Formats.{Spells}
use Rattle.tw_base.specs.history.Auth.{auth}
use Rattle.tw_base.specs.history.History.{History, step_at, thread_of}
use Rattle.tw_skipproof.specs.HistoryProofs.{IsPathOf}
use Rattle.tw_msg.specs.declared.message.Message.{Message}
use Rattle.tw_msg.specs.declared.receipt.Receipt.{Receipt}
use Rattle.tw_msg.specs.Messages.{message_layout}

module _ (dig : List ℕ → List ℕ) (h : History) where
  -- the history's step, as a thread
  abbrev pub thread_at_step : (step : ℕ) → Thread
  thread_at_step step = record { from = h.name; step = step; auth = auth dig h step }

  -- the message of the last step, of which there is one, since a step that isn't above it: the last step as a thread, and the
  -- history's path from there down to the other step
  pub record IsMessageOf (since : ℕ) (m : Message) : Type 0 where
    pub some : 0 < length h.steps
    pub earlier : since ≤ length h.steps
    pub thread : m.thread ≡ thread_at_step (length h.steps)
    pub at_since : m.since ≡ since
    pub link : IsPathOf dig h m.link.links (length h.steps) since

  -- the bytes spell that message
  abbrev pub MakesMessage : (since : ℕ) → List ℕ → Type 0
  MakesMessage since bytes = (m : Message) × Spells message_layout bytes m × IsMessageOf since m

  -- the receipt of the step that received a thread: that step as a thread, and the one that it received
  pub record IsReceiptOf (step : ℕ) (r : Receipt) : Type 0 where
    pub by : r.by ≡ thread_at_step step
    pub received : thread_of (step_at h step) ≡ Some r.thread
