-- What a service is asked that only reads: what its table says, what is found in its pages, and what a history refuses.
use Rattle.std.specs.Prelude.{ℕ, ◌≤◌, List, length, Bool, false, Option, None, Result, Ok, Err}
use Rattle.tw_base.specs.history.Asking.{entry_with}
use Rattle.tw_base.specs.history.History.{History, events_at}
use Rattle.tw_base.specs.history.Tree.{entries, tree}
use Rattle.tw_disk.specs.Found.{Found, ◌>>=◌}
use Rattle.tw_disk.specs.Found.Found.{Is}
use Rattle.tw_disk.specs.Image.{Image}
use Rattle.tw_msg.specs.declared.message.Message.{Message}
use Rattle.tw_msg.specs.Messages.{message_bytes}
use Rattle.tw_skiplist.specs.declared.head.Head.{Head}
use Rattle.tw_skipproof.specs.declared.path.Path.{Path}
use Rattle.tw_base.specs.declared.history.refusal.Refusal.{Refusal}
use Rattle.tw_answers.specs.Finds.{absence_proof, event_proof, link_proof, path_down, thread_proof, unless, written_found}
use Rattle.tw_answers.specs.Limits.{broken_refusal, event_refusal, has_thread, link_refusal, no_thread, or_else, order_refusal, thread_refusal, top_refusal}
use Rattle.tw_answers.specs.Refusals.{IsHasThread, IsNoEvent, IsNoThread, IsTooLong}
use Rattle.tw_base.specs.declared.history.question.Question.{Question}
use Rattle.tw_base.specs.declared.history.question.Question.TheVariants as ask
use Rattle.tw_service.specs.Exporting.{file_refusal, history_file}
use Rattle.tw_service.specs.Finds.{thread_at}
use Rattle.tw_service.specs.Mapping.{high_file, low_file}
use Rattle.tw_service.specs.Tops.{top_or_last}

-- ---- the table

-- what the table says of a service of so many steps, before a page is read
unfoldable pub question_refusal : (is_broken : Bool) (last : ℕ) → Question → Option Refusal
question_refusal b last (ask.Event step index top) = order_refusal b last step (top_or_last top last)
question_refusal b last (ask.Thread step key top) = order_refusal b last step (top_or_last top last)
question_refusal b last (ask.Absent step key top) = order_refusal b last step (top_or_last top last)
question_refusal b last (ask.Link step top) = link_refusal b last step (top_or_last top last)
question_refusal b last (ask.Low step peer top) = order_refusal b last step (top_or_last top last)
question_refusal b last (ask.High step peer top) = top_refusal b last (top_or_last top last)
question_refusal b last (ask.ThreadOut since) = thread_refusal b last since
question_refusal b last ask.Export = broken_refusal b

-- where it says nothing, the steps are in this order
abbrev pub AreInOrder : (last : ℕ) → Question → Type 0
AreInOrder last (ask.Event step index top) = (1 ≤ step) × (step ≤ top_or_last top last) × (top_or_last top last ≤ last)
AreInOrder last (ask.Thread step key top) = (1 ≤ step) × (step ≤ top_or_last top last) × (top_or_last top last ≤ last)
AreInOrder last (ask.Absent step key top) = (1 ≤ step) × (step ≤ top_or_last top last) × (top_or_last top last ≤ last)
AreInOrder last (ask.Link step top) = (1 ≤ top_or_last top last) × (step ≤ top_or_last top last) × (top_or_last top last ≤ last)
AreInOrder last (ask.Low step peer top) = (1 ≤ step) × (step ≤ top_or_last top last) × (top_or_last top last ≤ last)
AreInOrder last (ask.High step peer top) = (1 ≤ top_or_last top last) × (top_or_last top last ≤ last)
AreInOrder last (ask.ThreadOut since) = (1 ≤ last) × (since ≤ last)
AreInOrder last ask.Export = Unit {0}

-- the refusals besides, which pages tell
abbrev pub Besides : Question → Refusal → Type 0
Besides (ask.Event step index top) why = IsNoEvent why
Besides (ask.Thread step key top) why = IsNoThread why
Besides (ask.Absent step key top) why = IsHasThread why
Besides ask.Export why = IsTooLong why
Besides _ why = ⊥

-- what a history says of them
unfoldable pub pages_refusal : History → Question → Option Refusal
pages_refusal h (ask.Event step index top) = event_refusal (length (events_at h step)) index
pages_refusal h (ask.Thread step key top) = no_thread (entry_with (entries (tree h step)) key)
pages_refusal h (ask.Absent step key top) = has_thread (entry_with (entries (tree h step)) key)
pages_refusal h ask.Export = file_refusal h
pages_refusal h _ = None

-- the whole table
abbrev pub history_refusal : History → Question → Option Refusal
history_refusal h q = or_else (question_refusal false (length h.steps) q) (pages_refusal h q)

-- ---- what is found

-- the message that tells a head with this path
abbrev pub told_message : (name : List ℕ) → Head → (since : ℕ) → Path → Message
told_message name head since link = record { thread = thread_at name head; since = since; link = link }

-- what is found of a path, as what is found of its message
abbrev pub told_as : (name : List ℕ) → Head → (since : ℕ) → Result Path Refusal → Found (Result Message Refusal)
told_as name head since (Ok link) = Is (Ok (told_message name head since link))
told_as name head since (Err refusal) = Is (Err refusal)

module _ (dig : List ℕ → List ℕ) (pages : Image) (name : List ℕ) (head : Head) where
  -- the message of the last step, with the path that is found, and its bytes
  unfoldable pub message_told : (since : ℕ) → Found (Result Message Refusal)
  message_told since = path_down dig pages head since >>= told_as name head since

  unfoldable pub message_found : (since : ℕ) → Found (Result (List ℕ) Refusal)
  message_found since = message_told since >>= written_found message_bytes

  abbrev pub told_answer : (is_broken : Bool) → (since : ℕ) → Found (Result Message Refusal)
  told_answer is_broken since = unless (thread_refusal is_broken head.step since) (message_told since)

  -- the bytes that are found, where the table says nothing, or a refusal that pages tell
  unfoldable pub found_bytes : Question → Found (Result (List ℕ) Refusal)
  found_bytes (ask.Event step index top) = event_proof dig pages name head step index (top_or_last top head.step)
  found_bytes (ask.Thread step key top) = thread_proof dig pages name head step key (top_or_last top head.step)
  found_bytes (ask.Absent step key top) = absence_proof dig pages name head step key (top_or_last top head.step)
  found_bytes (ask.Link step top) = link_proof dig pages name head step (top_or_last top head.step)
  found_bytes (ask.Low step peer top) = low_file dig pages head step peer (top_or_last top head.step) name
  found_bytes (ask.High step peer top) = high_file dig pages head step peer (top_or_last top head.step) name
  found_bytes (ask.ThreadOut since) = message_found since
  found_bytes ask.Export = history_file dig pages name head

  abbrev pub found_answer : (is_broken : Bool) → Question → Found (Result (List ℕ) Refusal)
  found_answer is_broken q = unless (question_refusal is_broken head.step q) (found_bytes q)
