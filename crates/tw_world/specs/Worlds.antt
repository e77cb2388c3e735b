-- Worlds: what several services, the messages between them, the files made of them and the anchors held are between two lines of a schedule.
use Rattle.std.specs.Prelude.{ℕ, suc, zero, ◌+◌, ◌-◌, List, [], ◌∷◌, ◌++◌, length, map, replicate, slice_get, slice_set, Bool, false, not, Option, Some, None, option_and_then, if◌then◌else◌}
use Rattle.std.specs.List.{filter}
use Rattle.std.specs.Str.{bytes_eq}
use Rattle.tw_base.specs.declared.history.thread.Key.{Key}
use Rattle.tw_base.specs.declared.history.thread.Thread.{Thread}
use Rattle.tw_base.specs.history.History.{History}

-- a service: its history; for each step, from the first on, the place of the line that made it; and whether a crash waits for its next
-- append or delivery
pub record Member : Type 0 where
  pub history : History
  pub births : List ℕ
  pub waits : Bool

-- what became of a message: it has these bytes; its line was refused; or it was dropped
pub data Mail : Type 0 where
  Made : (bytes : List ℕ) → Mail
  Unmade : Mail
  Dropped : Mail

pub record World : Type 0 where
  pub members : List Member  -- in the order in which they were made
  pub hostile : List (List ℕ)  -- the names that lie
  pub messages : List Mail  -- by their numbers, from 1 on
  pub files : List (Option (List ℕ))  -- by their numbers, from 1 on; none where it wasn't made
  pub anchors : List Thread  -- one a service
  pub place : ℕ  -- of the next line in the schedule, counted from 0

abbrev pub no_world : World
no_world = record { members = []; hostile = []; messages = []; files = []; anchors = []; place = 0 }

-- ---- what is there

-- what has this number, counted from 1
abbrev pub numbered : {X : Type 0} → List X → (number : ℕ) → Option X
numbered xs zero = None
numbered xs (suc index) = slice_get xs index

abbrev pub histories_of : List Member → List History
histories_of members = map (λ (m : Member). m.history) members

-- the histories of the services
abbrev pub family : World → List History
family w = histories_of w.members

abbrev pub member_of : List Member → (name : List ℕ) → Option Member
member_of [] name = None
member_of (m ∷ members) name = if bytes_eq m.history.name name then Some m else member_of members name

-- the place of the line that made the service's step
abbrev pub born_of : List Member → Key → Option ℕ
born_of members key = option_and_then (λ (m : Member). numbered m.births key.step) (member_of members key.from)

abbrev pub born : World → Key → Option ℕ
born w key = born_of w.members key

-- ---- what a line makes of a world

-- one line more was told
abbrev pub after_line : World → World
after_line w = record w { place = w.place + 1 }

-- the member in place of the one of its name
abbrev pub put_member : List Member → Member → List Member
put_member [] one = []
put_member (m ∷ members) one = if bytes_eq m.history.name one.history.name then one ∷ members else m ∷ put_member members one

abbrev pub with_member : World → Member → World
with_member w m = record w { members = put_member w.members m }

-- a service more, which has no step
abbrev pub with_service : World → (name : List ℕ) → World
with_service w name = record w { members = w.members ++ record { history = record { name = name; steps = [] }; births = []; waits = false } ∷ [] }

abbrev pub with_hostile : World → (name : List ℕ) → World
with_hostile w name = record w { hostile = w.hostile ++ name ∷ [] }

abbrev pub with_message : World → Mail → World
with_message w mail = record w { messages = w.messages ++ mail ∷ [] }

-- the message of this number, from 1 on, can't be used again
abbrev pub without_message : World → (number : ℕ) → World
without_message w number = record w { messages = slice_set w.messages (number - 1) Dropped }

abbrev pub with_file : World → Option (List ℕ) → World
with_file w file = record w { files = w.files ++ file ∷ [] }

-- the thread in place of an anchor of its service
abbrev pub with_anchor : World → Thread → World
with_anchor w t = record w { anchors = filter (λ (a : Thread). not (bytes_eq a.from t.from)) w.anchors ++ t ∷ [] }

-- the service goes on with this history, of which the steps that are new are born at this line; a crash that waited is over
abbrev pub moved : World → Member → History → World
moved w m h = with_member w (record {
  history = h;
  births = m.births ++ replicate (length h.steps - length m.history.steps) w.place;
  waits = false;
})
