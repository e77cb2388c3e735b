use Rattle.tw_pages.specs.Runs.{end_of}
use Rattle.tw_pages.specs.Runs.State.{Closed}
use Rattle.tw_pages.proofs.Wavering.{ends, wavers_at}
use Rattle.tw_pages.proofs.running.run_laws.Goals as goal

pub returns : goal.returns
returns g c = record {
  runs = λ disk run s wavers leads.
      let w = g.W.Running in
      let d = g.W.Over.Disk in
      let end = ends d.view w.values w.is_of w.goes_on w.serves w.holds w.shows w.tells g.met.W.Running.laws
      g.met.W.Over.Disk.only_now (Closed disk) run s wavers leads in (
        end.now,
        end.goes_on,
        wavers_at d.view w.values w.is_of w.goes_on w.serves w.holds w.shows w.tells g.met.W.Running.laws
            g.met.W.Over.Disk.only_now (end_of (Closed disk) run) end.now end.is,
        end.tells,
      );
}
