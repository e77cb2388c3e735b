-- Histories of several services, the threads that they have, and their texts.
use Rattle.std.specs.Prelude.{◌≡◌, ℕ, ◌≤◌, List, [], ◌∷◌, ◌++◌, length, Option, Some, None, if◌then◌else◌}
use Rattle.std.specs.Str.{bytes_eq}
use Rattle.tw_base.specs.declared.history.thread.Thread.{Thread}
use Rattle.tw_base.specs.kinds.Lists.{Each}
use Rattle.tw_base.specs.history.History.{History}
use Rattle.tw_base.specs.history.Sound.{IsSound}
use Rattle.tw_base.specs.history.Auth.{auth}
use Rattle.tw_base.specs.history.HistoryTexts.{history_texts}

-- the family's history of the service, the first of that name
abbrev pub history_of : List History → (service : List ℕ) → Option History
history_of [] service = None
history_of (h ∷ family) service = if bytes_eq h.name service then Some h else history_of family service

abbrev pub HasHistory : List History → (service : List ℕ) → History → Type 0
HasHistory family service h = history_of family service ≡ Some h

abbrev pub AllSound : List History → Type 0
AllSound family = Each IsSound family

-- the family's history of the thread's service has this authenticator at this step
abbrev pub HasThread : (List ℕ → List ℕ) → List History → Thread → Type 0
HasThread dig family t = (h : History) × HasHistory family t.from h × (t.step ≤ length h.steps) × (auth dig h t.step ≡ t.auth)

abbrev pub HasThreads : (List ℕ → List ℕ) → List History → List Thread → Type 0
HasThreads dig family threads = Each (HasThread dig family) threads

-- the texts of the histories, one after another
abbrev pub family_texts : (List ℕ → List ℕ) → List History → List (List ℕ)
family_texts dig [] = []
family_texts dig (h ∷ family) = history_texts dig h ++ family_texts dig family
