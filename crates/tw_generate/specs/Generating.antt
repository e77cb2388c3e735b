-- What is generated from a number.
use Rattle.std.specs.Prelude.{◌≡◌, ℕ, List}
use Rattle.tw_base.specs.history.History.{History}
use Rattle.tw_disk.specs.Disk.{DiskView, IsAtRest}
use Rattle.tw_service.specs.Stands.{StandsFor}
use Rattle.tw_generate.specs.Schedules.{LeadTo, Trio, no_steps, schedule}
use Rattle.tw_generate.specs.Line.{summary_line}
use Rattle.tw_generate.specs.Summing.{IsSummaryOf}
use Rattle.tw_generate.specs.declared.summary.Summary.{Summary}

module _ (dig : List ℕ → List ℕ) where
  -- the disk stands for the history, at rest
  abbrev pub IsHeld : DiskView → History → Type 0
  IsHeld disk h = IsAtRest disk (λ image. StandsFor dig image h.name h)

  -- the schedule of the number leads to three histories, whose summary is the text, and for which the disks stand
  pub record IsGenerated (number rounds : ℕ) (text : List ℕ) (alpha beta gamma : DiskView) : Type 0 where
    pub histories : Trio
    pub leads : LeadTo dig (schedule number rounds) no_steps histories
    pub told : Summary
    pub is_told : IsSummaryOf dig histories rounds told
    pub text_is : text ≡ summary_line told
    pub held_alpha : IsHeld alpha histories.alpha
    pub held_beta : IsHeld beta histories.beta
    pub held_gamma : IsHeld gamma histories.gamma
