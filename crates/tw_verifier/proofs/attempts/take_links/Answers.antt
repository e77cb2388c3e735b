use Rattle.std.proofs.Common.{◌≡◌, ℕ, ◌+◌, ◌-◌, List, [], ◌∷◌, ◌++◌, length, take, drop, ap, arith}
use Rattle.std.proofs.lemmas.List.{length-drop, take_rest}
use Rattle.tw_base.specs.format.Formats.{Format}
use Rattle.tw_skipproof.specs.declared.path.Link.{Link}
use Rattle.tw_skipproof.specs.Paths.{hop}
use Rattle.tw_verifier.specs.declared.judgement.Judgement.{Judgement}
use Rattle.tw_verifier.specs.Stages.{path_of}
use Rattle.tw_verifier.proofs.LinkRuns.{behind-on, link-behind}
use Rattle.tw_verifier.proofs.attempts.take_links.Goals as goal

pub loop-at-preserved : goal.loop-at-preserved
loop-at-preserved c =
    let held = c.args.held.now in
    let size = c.loop-at.size in
    let after = c.take_link.new.at in
    let left : List ℕ = take (length held - size) (drop size held) in
    let is : left ≡ drop size held = take_rest held size in
    record {
      small = omega (arith, c.next_step-at.ensures.less, c.loop-at.invariant.small);
      within = omega (arith, c.in-Ok.ensures.2, ap length is, length-drop size held, c.loop-at.invariant.within);
      behind = λ (next : List Link → Format Judgement).
          rw (c.in_ok-push-in-Ok.ensures.ok, c.next_step-at.ensures.value)
          (behind-on (path_of c.args.links c.args.from c.args.to next) (path_of c.loop-at.links c.loop-at.at c.args.to
          next)
          (path_of (c.loop-at.links ++ c.in-Ok.link ∷ []) (hop c.loop-at.at c.args.to) c.args.to next) held left size
          after is (c.loop-at.invariant.behind next)
          (link-behind c.loop-at.links c.loop-at.at c.args.to next left after c.in-Ok.link c.in-Ok.ensures.0
          c.loop-at-test.true));
    }
