-- What reading words answered.
use Rattle.std.proofs.Common.{◌≡◌, ℕ, List, refl, subst, sym, ◌∙◌}
use Rattle.std.specs.Prelude.{Option, Some, None, Result, Ok, IfSome, IfNone, IsErrAnd, MatchOption, MatchResult}
use Rattle.tw_disk.specs.Disk.{DiskView}
use Rattle.tw_disk.specs.Image.{Image}
use Rattle.tw_words.specs.CommandLine.{IsBadWord, command_of}
use Rattle.tw_words.specs.declared.command.Command.{Command}
use Rattle.tw_words.specs.declared.words.WordFault.{WordFault}
use Rattle.tw_words.specs.declared.words.WordFault.TheVariants.{NoMemory}
use Rattle.tw_app.specs.declared.outcome.Outcome.{Outcome}
use Rattle.tw_app.specs.declared.outcome.Outcome.TheVariants.{Undone}
use Rattle.tw_text.specs.declared.fault.CommandFault.TheVariants.{NoMemory as NoMemoryFault}
use Rattle.tw_app.specs.Around.{Outside}
use Rattle.tw_app.specs.Outcomes.{TakesMemory}
use Rattle.tw_app.specs.Running.{HasOutcome, HaveNoForm, IsDiskUntouched, work}
use Rattle.tw_app.proofs.Commands.{rows}

abbrev asOk : Command → Result Command WordFault
asOk c = Ok c

pub read_command : (words : List (List ℕ)) (c : Command) → IfSome (command_of words)
    (λ command. MatchResult (asOk c) (λ d. d ≡ command) (λ e. e ≡ NoMemory))
    → IfNone (command_of words) (IsErrAnd (asOk c) (IsBadWord words)) → command_of words ≡ Some c
read_command words c some none = by (command_of words) refl some none
  where
    by : (o : Option Command) → command_of words ≡ o → IfSome o (λ command. MatchResult (asOk c) (λ d. d ≡ command)
        (λ e. e ≡ NoMemory)) → IfNone o (IsErrAnd (asOk c) (IsBadWord words)) → command_of words ≡ Some c
    by None is some none = absurd none
    by (Some d) is some none = is ∙ (λ i. Some (sym some i))

module _ {D : Type 0} (view : D → DiskView)
    (only_now : (d : D) (image : Image) → (view d).left_since (view d).moment image → (view d).may_leave image)
    (as_it_reads : (d : D) (image : Image) → (view d).content ≡ Some image → (view d).may_leave image) (o : Outside D)
    (words : List (List ℕ)) where
  abbrev HasAt : Outcome → Option Command → Type 0
  HasAt outcome option = MatchOption option (HaveNoForm words outcome × IsDiskUntouched view o)
      (λ c. (work view o c).does outcome)

  -- what the words' command comes to, the words come to
  pub has_outcome : (c : Command) → command_of words ≡ Some c → (outcome : Outcome) → (work view o c).does outcome
      → HasOutcome view o words outcome
  has_outcome c is outcome does = subst (HasAt outcome) (sym is) does

  -- want of memory is free, for the command and for its text
  pub no_memory_outcome : IsDiskUntouched view o → HasOutcome view o words (Undone NoMemoryFault)
  no_memory_outcome same = by (command_of words)
    where
      by : (option : Option Command) → HasAt (Undone NoMemoryFault) option
      by None = (tt, same)
      by (Some c) = (rows view only_now as_it_reads o c).untouched same

  pub no_text_outcome : (outcome : Outcome) → TakesMemory outcome → HasOutcome view o words outcome
      → HasOutcome view o words (Undone NoMemoryFault)
  no_text_outcome outcome takes has = by (command_of words) has
    where
      by : (option : Option Command) → HasAt outcome option → HasAt (Undone NoMemoryFault) option
      by None has = (tt, has.1)
      by (Some c) has = (rows view only_now as_it_reads o c).memory outcome takes has
