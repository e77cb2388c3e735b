-- What a run comes to whose words are of a command, or ask for something, and what it then tells.
use Rattle.std.proofs.Common.{◌≡◌, ℕ, refl, subst, ⊎_elim}
use Rattle.std.specs.Prelude.{Option, Some, None, MatchOption}
use Rattle.tw_base.specs.kinds.Faults.{Rose}
use Rattle.tw_disk.specs.Disk.{DiskView}
use Rattle.tw_words.specs.CommandLine.{command_of}
use Rattle.tw_words.specs.declared.command.Command.{Command}
use Rattle.tw_app.specs.declared.outcome.Outcome.{Outcome}
use Rattle.tw_app.specs.Around.{Around, Writes}
use Rattle.tw_app.specs.Outcomes.{status_of, text_of}
use Rattle.tw_app.specs.Running.{EndsAllowed, HaveNoForm, IsDiskUntouched, work}
use Rattle.tw_app.specs.Statuses.{AreWordsOf}

module _ {D : Type 0} (view : D → DiskView) (a : Around D) where
  -- the words come to this outcome, where this is the command that they are of
  abbrev pub HasAt : Outcome → Option Command → Type 0
  HasAt outcome option = MatchOption option (HaveNoForm a.words outcome × IsDiskUntouched view a.outside)
      (λ c. (work view a.outside c).does outcome)

  module _ (status : ℕ) (run : EndsAllowed view a status) where
    pub comes_by : (c : Command) → command_of a.words ≡ Some c → (work view a.outside c).does run.0
    comes_by c is = subst (HasAt run.0) is run.1.has

    pub asked_for : {Q : Type 0} (Asks : Command → Type 0) → AreWordsOf Asks a.words → ((c : Command)
        → command_of a.words ≡ Some c → Asks c → (work view a.outside c).does run.0 → Q) → Q
    asked_for {Q} Asks asks then = by (command_of a.words) refl asks
      where
        by : (option : Option Command) → command_of a.words ≡ option → MatchOption option ⊥ Asks → Q
        by None is asks = absurd asks
        by (Some c) is asks = then c is asks (comes_by c is)

    -- the status and the text are the outcome's, where the sink didn't fail
    pub told_as : ((status ≡ 4) × Rose a.sink_faults.before a.sink_faults.after → ⊥) → (outcome : Outcome)
        → run.0 ≡ outcome → (status ≡ status_of outcome) × Writes a (text_of outcome)
    told_as whole outcome is =
        subst (λ (o : Outcome). (status ≡ status_of o) × Writes a (text_of o)) is
        (⊎_elim (λ ends. ends) (λ cut. absurd (whole (cut.0, cut.2))) run.1.ends)
