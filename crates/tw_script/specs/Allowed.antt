-- What the lines of a script have made so far, and which line may follow them.
use Rattle.std.specs.Prelude.{ℕ, ◌+◌, ◌-◌, List, [], ◌∷◌, ◌++◌, length, slice_index_or, slice_set, Bool, true, false, not, ◌&&◌, nat_le, nat_lt}
use Rattle.std.specs.List.{list_all, list_any}
use Rattle.std.specs.Str.{bytes_eq}
use Rattle.tw_script.specs.Injected.{is_own_or_none}
use Rattle.tw_script.specs.declared.limits.TheConstants.{MOST_SCRIPT_NAMES}
use Rattle.tw_script.specs.declared.line.Line.{Line}
use Rattle.tw_script.specs.declared.line.Line.TheVariants.{Service, Hostile, Append, Send, Inject, Deliver, Lose, Crash, Prove, Join, Anchor, Verify}
use Rattle.tw_script.specs.declared.made.Declared.{Declared}
use Rattle.tw_script.specs.declared.made.Made.{Made}

-- ---- what lines make

abbrev pub nothing_made : Made
nothing_made = record { names = []; messages = []; files = 0 }

-- a name more
abbrev pub with_name : Made → (name : List ℕ) → (hostile : Bool) → Made
with_name made name hostile = record made { names = made.names ++ record { name = name; hostile = hostile } ∷ [] }

-- a message more, which is there
abbrev pub with_made_message : Made → Made
with_made_message made = record made { messages = made.messages ++ true ∷ [] }

-- the message isn't there any more
abbrev pub without_made_message : Made → (message : ℕ) → Made
without_made_message made message = record made { messages = slice_set made.messages (message - 1) false }

-- a file more
abbrev pub with_made_file : Made → Made
with_made_file made = record made { files = made.files + 1 }

-- what there is once the line stands: a line that is refused when the script runs has its number all the same
unfoldable pub made_by : Made → Line → Made
made_by made (Service name) = with_name made name false
made_by made (Hostile name) = with_name made name true
made_by made (Append service events) = made
made_by made (Send service since) = with_made_message made
made_by made (Inject name bytes) = with_made_message made
made_by made (Deliver message service) = made
made_by made (Lose message) = without_made_message made message
made_by made (Crash service call choice) = made
made_by made (Prove service asked) = with_made_file made
made_by made (Join files) = with_made_file made
made_by made (Anchor service step) = made
made_by made (Verify file) = made

-- ---- what a line may use

-- a name that no line made, and one of at most 64
abbrev pub is_name_free : Made → (name : List ℕ) → Bool
is_name_free made name = nat_lt (length made.names) MOST_SCRIPT_NAMES && not (list_any (λ (d : Declared). bytes_eq d.name name) made.names)

-- the name of a service
abbrev pub is_service : Made → (name : List ℕ) → Bool
is_service made name = list_any (λ (d : Declared). bytes_eq d.name name && not d.hostile) made.names

-- a hostile name
abbrev pub is_hostile : Made → (name : List ℕ) → Bool
is_hostile made name = list_any (λ (d : Declared). bytes_eq d.name name && d.hostile) made.names

-- the number of a message, counted from 1, that a line made and none dropped
abbrev pub is_message : Made → (message : ℕ) → Bool
is_message made message =
    nat_le 1 message && nat_le message (length made.messages) && slice_index_or made.messages (message - 1) false

-- the number of a file, counted from 1, that a line made
abbrev pub is_file : Made → (file : ℕ) → Bool
is_file made file = nat_le 1 file && nat_le file made.files

-- ---- which line may follow

unfoldable pub may_follow : Made → Line → Bool
may_follow made (Service name) = is_name_free made name
may_follow made (Hostile name) = is_name_free made name
may_follow made (Append service events) = is_service made service
may_follow made (Send service since) = is_service made service
may_follow made (Inject name bytes) = is_hostile made name && is_own_or_none name bytes
may_follow made (Deliver message service) = is_message made message && is_service made service
may_follow made (Lose message) = is_message made message
may_follow made (Crash service call choice) = is_service made service
may_follow made (Prove service asked) = is_service made service
may_follow made (Join files) = list_all (is_file made) files
may_follow made (Anchor service step) = is_service made service
may_follow made (Verify file) = is_file made file
