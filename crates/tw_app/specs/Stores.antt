-- Which store words ask for.
use Rattle.std.specs.Prelude.{◌≡◌, ℕ, List, [], Option, Some, None, MatchOption, slice_index_or}
use Rattle.std.specs.Option.{option_map}
use Rattle.tw_base.specs.declared.history.question.Question.{Question}
use Rattle.tw_words.specs.CommandLine.{command_of}
use Rattle.tw_words.specs.declared.command.Command.{Command}
use Rattle.tw_words.specs.declared.command.Command.TheVariants.{Init, Append, Receive, Watch, Offer, Heads}
use Rattle.tw_app.specs.Commands.{question_of}
use Rattle.tw_app.specs.declared.store.Store.{Store}
use Rattle.tw_app.specs.declared.store.StoreAccess.{StoreAccess}
use Rattle.tw_app.specs.declared.store.StoreAccess.TheVariants.{Read, Write}

-- what a command does with the store of its folder: one that asks a service a question reads it
abbrev pub access_of : Command → Option StoreAccess
access_of (Init name) = Some Write
access_of (Append file time) = Some Write
access_of (Receive file time) = Some Write
access_of (Watch name) = Some Write
access_of (Offer file) = Some Write
access_of Heads = Some Read
access_of command = option_map (λ (q : Question). Read) (question_of command)

-- what the command of the words does with the store of its folder: none where they have no form, or one whose command works on none
abbrev pub IsAccessOf : (words : List (List ℕ)) → Option StoreAccess → Type 0
IsAccessOf words None = MatchOption (command_of words) (Unit {0}) (λ command. access_of command ≡ None)
IsAccessOf words (Some access) = MatchOption (command_of words) ⊥ (λ command. access_of command ≡ Some access)

-- the store that the words ask for: that of their command, in the folder that the second word names
abbrev pub IsStoreOf : (words : List (List ℕ)) → Option Store → Type 0
IsStoreOf words None = IsAccessOf words None
IsStoreOf words (Some store) = IsAccessOf words (Some store.access) × (store.folder.now ≡ slice_index_or words 1 [])
