use Rattle.tw_history.proofs.StopLaws.{handed-on, stops-more}
use Rattle.tw_history.proofs.stops.pass_to.Goals as goal

pub loop-at-preserved : goal.loop-at-preserved
loop-at-preserved g c =
    let h = c.args.history.now in
    let next = c.next_stop-next.result in
    record {
      inside = c.next_stop-next.ensures.within;
      passed = c.in_ok-pass_steps.ensures.passed;
      stops = stops-more g.T.Transcript.dig h c.args.asked.now c.loop-at.stops.items c.push.new.self.items c.loop-at.at
          next c.auth_passed.result c.loop-at.invariant.stops
          c.next_stop-next.ensures.beyond (c.auth_passed.ensures g.T.Transcript.dig h next
          c.in_ok-pass_steps.ensures.passed) c.next_stop-next.ensures.between c.in_ok-push.ensures.items;
      took = handed-on g.T.Transcript.dig h g.T.Transcript.took _ _ _ 0 c.loop-at.at next c.loop-at.invariant.took
          c.in_ok-pass_steps.ensures.took;
    }
