-- The schedule of three services that a number makes, and the histories that it leads to.
use Rattle.std.specs.Prelude.{◌≡◌, ℕ, suc, zero, ◌%◌, ◌==◌, List, [], ◌∷◌, ◌++◌, length, codes, find, reverse, None, if◌then◌else◌}
use Rattle.std.specs.Option.{option_map_or}
use Rattle.std.specs.Str.{bytes_eq}
use Rattle.tw_base.specs.history.History.{History, received}
use Rattle.tw_base.specs.kinds.Names.{padded_name}
use Rattle.tw_msg.specs.HistoryMessages.{IsMessageOf}
use Rattle.tw_msg.specs.declared.message.Message.{Message}
use Rattle.tw_msg.specs.declared.receipt.Receipt.{Receipt}
use Rattle.tw_base.specs.declared.history.thread.Entry.{Entry}
use Rattle.tw_service.specs.EventStep.{with_events_at}
use Rattle.tw_service.specs.Machine.{IsStepOf}
use Rattle.tw_service.specs.Machine.Call.{Receive}
use Rattle.tw_service.specs.Machine.Reply.{OfReceipt}
use Rattle.tw_service.specs.Stands.{no_history}
use Rattle.tw_generate.specs.Draws.{after_step, step_events}

pub data Who : Type 0 where
  Alpha : Who
  Beta : Who
  Gamma : Who

-- a service appends a step of these events; or one tells its last step to another one, by a message since the last step of it that this one has archived
pub data ScheduledAct : Type 0 where
  Appends : Who → (events : List (List ℕ)) → ScheduledAct
  Tells : (from to : Who) → ScheduledAct

-- ---- the schedule

abbrev pub all_append : (alpha beta gamma : List (List ℕ)) → List ScheduledAct
all_append alpha beta gamma = Appends Alpha alpha ∷ Appends Beta beta ∷ Appends Gamma gamma ∷ []

abbrev pub all_tell : List ScheduledAct
all_tell = Tells Alpha Beta ∷ Tells Alpha Gamma ∷ Tells Beta Alpha ∷ Tells Beta Gamma ∷ Tells Gamma Alpha ∷ Tells Gamma Beta ∷ []

-- the round of this number, from 1 on: each appends a step of events that are drawn, and in each fiftieth round each tells the others its last step
abbrev pub round_of_acts : (state number : ℕ) → List ScheduledAct
round_of_acts x number =
    all_append (step_events x) (step_events (after_step x)) (step_events (after_step (after_step x)))
    ++ (if number % 50 == 0 then all_tell else [])

-- the state after so many rounds
unfoldable pub after_rounds : (number rounds : ℕ) → ℕ
after_rounds number zero = number
after_rounds number (suc n) = after_step (after_step (after_step (after_rounds number n)))

unfoldable pub rounds_of : (number rounds : ℕ) → List ScheduledAct
rounds_of number zero = []
rounds_of number (suc n) = rounds_of number n ++ round_of_acts (after_rounds number n) (suc n)

-- so many rounds, and then a step of one event, the three bytes `end`, of each
abbrev pub end_event : List (List ℕ)
end_event = codes "end" ∷ []

abbrev pub schedule : (number rounds : ℕ) → List ScheduledAct
schedule number rounds = rounds_of number rounds ++ all_append end_event end_event end_event

-- ---- the histories

pub record Trio : Type 0 where
  pub alpha : History
  pub beta : History
  pub gamma : History

abbrev pub trio_history : Who → Trio → History
trio_history Alpha t = t.alpha
trio_history Beta t = t.beta
trio_history Gamma t = t.gamma

abbrev pub with_history : Who → History → Trio → Trio
with_history Alpha h t = record t { alpha = h }
with_history Beta h t = record t { beta = h }
with_history Gamma h t = record t { gamma = h }

abbrev pub alpha_name : List ℕ
alpha_name = padded_name (codes "alpha")

abbrev pub beta_name : List ℕ
beta_name = padded_name (codes "beta")

abbrev pub gamma_name : List ℕ
gamma_name = padded_name (codes "gamma")

-- at the start none has a step
abbrev pub no_steps : Trio
no_steps = record { alpha = no_history alpha_name; beta = no_history beta_name; gamma = no_history gamma_name }

-- the step of the last thread of the service among the entries, 0 where there is none
abbrev pub last_received_step : (from : List ℕ) → List Entry → ℕ
last_received_step from es = option_map_or (λ (e : Entry). e.thread.step) (find (λ (e : Entry). bytes_eq e.thread.from from) (reverse es)) 0

-- the last step of the service that the history has archived
abbrev pub last_heard : History → (from : List ℕ) → ℕ
last_heard h from = last_received_step from (received h (length h.steps))

module _ (dig : List ℕ → List ℕ) where
  -- a service receives the message of another one's last step, since the last step of it that this one has archived, and answers a receipt; one
  -- that is known is answered, too
  pub record Hears (from to next : History) : Type 0 where
    pub message : Message
    pub is_message : IsMessageOf dig from (last_heard to from.name) message
    pub receipt : Receipt
    pub receives : IsStepOf dig to (Receive message None) (OfReceipt receipt) next

  abbrev pub IsDone : ScheduledAct → Trio → Trio → Type 0
  IsDone (Appends who events) t next = next ≡ with_history who (with_events_at (trio_history who t) events None) t
  IsDone (Tells from to) t next = (h : History) × Hears (trio_history from t) (trio_history to t) h × (next ≡ with_history to h t)

  -- the acts lead from one three histories to others
  unfoldable pub LeadTo : List ScheduledAct → Trio → Trio → Type 0
  LeadTo [] t end = t ≡ end
  LeadTo (act ∷ acts) t end = (next : Trio) × IsDone act t next × LeadTo acts next end
