-- A history: a service's name and its steps, numbered from 1.
use Rattle.std.specs.Prelude.{ℕ, suc, zero, List, [], ◌∷◌, ◌++◌, slice_get, Option, Some, None, option_and_then, nat_le, if◌then◌else◌}
use Rattle.std.specs.Option.{option_to_list}
use Rattle.tw_base.specs.declared.history.content.Content.{Content}
use Rattle.tw_base.specs.declared.history.content.Content.TheVariants.{Events, Received}
use Rattle.tw_base.specs.declared.history.thread.Thread.{Thread}
use Rattle.tw_base.specs.declared.history.thread.Entry.{Entry}

-- a node of the archive's trees: the numbers of its sides (0 the empty tree), and of the step whose thread it has
pub record Node : Type 0 where
  pub left : ℕ
  pub entry : ℕ
  pub right : ℕ

-- what a step records (events, or the thread of another service), the time that its maker claims, if any, the nodes that it
-- adds to the archive, and the number of the archive's root after it
pub record Step : Type 0 where
  pub content : Content
  pub time : Option ℕ
  pub fresh : List Node
  pub root : ℕ

pub record History : Type 0 where
  pub name : List ℕ
  pub steps : List Step

abbrev pub step_at : History → ℕ → Option Step
step_at h zero = None
step_at h (suc i) = slice_get h.steps i

abbrev pub events_of : Option Step → List (List ℕ)
events_of None = []
events_of (Some s) = content_events s.content
  where
    content_events : Content → List (List ℕ)
    content_events (Events events) = events
    content_events (Received _) = []

abbrev pub thread_of : Option Step → Option Thread
thread_of None = None
thread_of (Some s) = content_thread s.content
  where
    content_thread : Content → Option Thread
    content_thread (Events _) = None
    content_thread (Received t) = Some t

abbrev pub time_of : Option Step → Option ℕ
time_of None = None
time_of (Some s) = s.time

abbrev pub fresh_of : Option Step → List Node
fresh_of None = []
fresh_of (Some s) = s.fresh

abbrev pub root_of : Option Step → ℕ
root_of None = 0
root_of (Some s) = s.root

-- the events of step i; a step that received a thread has none
abbrev pub events_at : History → ℕ → List (List ℕ)
events_at h i = events_of (step_at h i)

-- the time of step i, where it has one
abbrev pub time_at : History → ℕ → Option ℕ
time_at h i = time_of (step_at h i)

-- the thread that step i received, with i
abbrev pub entry_at : History → ℕ → Option Entry
entry_at h i = option_and_then (λ t. Some (record { thread = t; archived = i })) (thread_of (step_at h i))

-- the same, of the steps up to i alone
unfoldable pub entry_to : History → (i : ℕ) → ℕ → Option Entry
entry_to h i k = if nat_le k i then entry_at h k else None

-- what the steps up to i received, in their order
unfoldable pub received : History → ℕ → List Entry
received h zero = []
received h (suc i) = received h i ++ option_to_list (entry_at h (suc i))

-- the times of the steps up to i that have one, in their order
unfoldable pub times : History → ℕ → List ℕ
times h zero = []
times h (suc i) = times h i ++ option_to_list (time_at h (suc i))

-- the history with one more step
abbrev pub plus : History → Step → History
plus h s = record { name = h.name; steps = h.steps ++ s ∷ [] }
