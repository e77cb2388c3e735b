-- The law, from those of schedules, worlds and messages.
use Rattle.tw_generate.specs.Schedules.{schedule}
use Rattle.tw_laws.proofs.ActBytes.{schedule-bytes}
use Rattle.tw_laws.proofs.ActLines.{is-run}
use Rattle.tw_laws.proofs.scheduled.scheduled_laws.Goals as goal
use Rattle.tw_world.specs.Hosts.{claims_none}

pub returns : goal.returns
returns g c = record {
  runs = λ number rounds t led.
      is-run g.H.Hasher.dig _ (λ w is. c.world_laws.ensures.sound claims_none w is)
      c.history_message_laws.ensures.spelled
      (schedule number rounds) t led.1 (c.generate_laws.ensures.goes number rounds led.0)
      (schedule-bytes number rounds);
}
