-- The lines of a script that do what the acts of a schedule do, and the worlds to which they lead.
use Rattle.std.specs.Prelude.{◌≡◌, ℕ, suc, List, [], ◌∷◌, ◌++◌}
use Rattle.tw_base.specs.kinds.Lists.{Each}
use Rattle.tw_script.specs.declared.line.Line.{Line}
use Rattle.tw_script.specs.declared.line.Line.TheVariants.{Service, Append, Send, Deliver}
use Rattle.tw_generate.specs.Schedules.{ScheduledAct, Trio, Who, alpha_name, beta_name, gamma_name}
use Rattle.tw_generate.specs.Schedules.ScheduledAct.{Appends, Tells}
use Rattle.tw_generate.specs.Schedules.Who.{Alpha, Beta, Gamma}
use Rattle.tw_generate.specs.Summing.{trio_family}
use Rattle.tw_world.specs.Hosts.{claims_none}
use Rattle.tw_world.specs.Runs.{RunsLines}
use Rattle.tw_world.specs.Worlds.{World, family, no_world}
use Rattle.tw_world.specs.declared.told.Answer.TheVariants.{Archived, Done, Sent, Stepped}
use Rattle.tw_world.specs.declared.told.Told.{Told}
use Rattle.tw_world.specs.declared.told.Told.TheVariants.{Plain}

abbrev pub who_name : Who → List ℕ
who_name Alpha = alpha_name
who_name Beta = beta_name
who_name Gamma = gamma_name

-- the lines that make the three services
abbrev pub service_lines : List Line
service_lines = Service alpha_name ∷ Service beta_name ∷ Service gamma_name ∷ []

-- the lines do what the acts do, where so many messages were made before: a service appends the events; or a service sends the next message,
-- of its last step since some step, and that message is delivered to the other one
unfoldable pub AreLinesOf : (sent : ℕ) → List ScheduledAct → List Line → Type 0
AreLinesOf sent [] lines = lines ≡ []
AreLinesOf sent (Appends who events ∷ acts) lines = (more : List Line) × (lines ≡ Append (who_name who) events ∷ more) × AreLinesOf sent acts more
AreLinesOf sent (Tells from to ∷ acts) lines =
    (since : ℕ) × ((more : List Line) × (lines ≡ Send (who_name from) since ∷ Deliver (suc sent) (who_name to) ∷ more) × AreLinesOf (suc sent) acts more)

-- the line wasn't refused, and no crash came: it made a service, a step or a message, or it is answered by a receipt
abbrev pub IsLineTaken : Told → Type 0
IsLineTaken (Plain Done) = Unit {0}
IsLineTaken (Plain (Stepped step)) = Unit {0}
IsLineTaken (Plain (Sent number)) = Unit {0}
IsLineTaken (Plain (Archived step)) = Unit {0}
IsLineTaken _ = ⊥

-- lines that make the three services, and then do what the acts do, lead to a world of these histories; each line is taken, and no time is claimed
pub record IsScriptRunOf (dig : List ℕ → List ℕ) (acts : List ScheduledAct) (t : Trio) : Type 0 where
  pub lines : List Line
  pub told : List Told
  pub end : World
  pub are : AreLinesOf 0 acts lines
  pub runs : RunsLines dig claims_none no_world (service_lines ++ lines) told end
  pub taken : Each IsLineTaken told
  pub histories : family end ≡ trio_family t
