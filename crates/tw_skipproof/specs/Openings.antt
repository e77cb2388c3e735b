-- What an opening of a step computes, and what it binds.
use Rattle.std.specs.Prelude.{◌≡◌, ℕ, ◌-◌, ◌<◌, ◌^◌, List, [], ◌∷◌, length, IfSome}
use Rattle.tw_base.specs.kinds.Texts.{step_datum_text, link_text, authenticator_text}
use Rattle.tw_base.specs.kinds.Bytes.{HasBytes}
use Rattle.tw_base.specs.kinds.Digests.{AllDigests}
use Rattle.tw_base.specs.events.EventTree.{event_root}
use Rattle.tw_base.specs.history.History.{History, events_at, time_at}
use Rattle.tw_base.specs.history.Tree.{tree}
use Rattle.tw_base.specs.kinds.Levels.{top_level}
use Rattle.tw_base.specs.history.Auth.{auth, tree_label}
use Rattle.tw_skipproof.specs.declared.opening.Opening.{Opening}

-- the step has an opening with so many labels: one for each level from 1 on
abbrev pub IsOpeningAt : ℕ → Opening → Type 0
IsOpeningAt step o = (0 < step) × (length o.others ≡ top_level step)

-- the texts that the opening stands for, computed upwards
module _ (dig : List ℕ → List ℕ) (step : ℕ) (o : Opening) where
  abbrev pub opening_datum_text : List ℕ
  opening_datum_text = step_datum_text o.event_root o.archive_root o.count o.time

  abbrev pub opening_link_text : List ℕ
  opening_link_text = link_text step 0 (dig opening_datum_text) o.prev

  abbrev pub opening_auth_text : List ℕ
  opening_auth_text = authenticator_text step (dig opening_link_text ∷ o.others)

  -- the authenticator of the step that the opening computes
  unfoldable pub opening_auth : List ℕ
  opening_auth = dig opening_auth_text

  unfoldable pub opening_texts : List (List ℕ)
  opening_texts = opening_datum_text ∷ opening_link_text ∷ opening_auth_text ∷ []

-- the opening's fields are those of the history's step
pub record Binds (dig : List ℕ → List ℕ) (h : History) (step : ℕ) (o : Opening) : Type 0 where
  pub event_root : event_root dig (events_at h step) ≡ o.event_root
  pub archive_root : tree_label dig (tree h step) ≡ o.archive_root
  pub count : length (events_at h step) ≡ o.count
  pub time : time_at h step ≡ o.time
  pub prev : auth dig h (step - 1) ≡ o.prev

-- the widths that the fields of an opening have; its digests are bytes
pub record HasOpeningSizes (o : Opening) : Type 0 where
  pub event_root : HasBytes 32 o.event_root
  pub archive_root : HasBytes 32 o.archive_root
  pub count : o.count < 2 ^ 32
  pub time : IfSome o.time (λ time. time < 2 ^ 64)
  pub prev : HasBytes 32 o.prev
  pub others : AllDigests o.others
