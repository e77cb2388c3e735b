use Rattle.std.proofs.Common.{ℕ, List, arith}
use Rattle.std.proofs.lemmas.Result.{err_from_is_err_and}
use Rattle.tw_base.proofs.lemmas.format.TakeLaws.{EachTaken, each-ends, each-fails, each-more}
use Rattle.tw_skipproof.specs.declared.path.Link.{Link}
use Rattle.tw_skipproof.specs.declared.path.Path.{Path}
use Rattle.tw_skipproof.specs.Paths.{greedy_steps, hop}
use Rattle.tw_skipproof.proofs.GreedySteps.{greedy_steps-more, greedy_steps-none}
use Rattle.tw_skipproof.specs.Codecs.{link_bytes, link_codec, path_codec}
use Rattle.tw_skipproof.proofs.LawfulCodecs.{link-lawful}
use Rattle.tw_skipproof.proofs.reading.take_path.Goals as goal

pub returns-in_err-take_link : goal.returns-in_err-take_link
unfolding path_codec
returns-in_err-take_link c =
    let p = err_from_is_err_and c.from_residual.result c.from_residual.ensures.1 in
    rw (p.1, p.2)
    (each-fails link_bytes link_codec link-lawful _ (λ l. l) (λ (p : Path). p.links) c.args.bytes.now c.args.at.now
    c.loop-step.at c.take_link.new.at c.take_link.new.at _ (greedy_steps (hop c.loop-step.step c.args.to) c.args.to)
    c.loop-step.step c.loop-step.links
    (rw (greedy_steps-more c.loop-step.step c.args.to c.loop-step-test.true) at c.loop-step.invariant.taken)
    c.in_err-take_link.ensures)

pub loop-step-preserved : goal.loop-step-preserved
loop-step-preserved c =
    let P : List Link → ℕ → Type 0 = λ links step. EachTaken link_bytes link_codec c.args.bytes.now c.args.at.now
    (greedy_steps c.args.from c.args.to) (greedy_steps step c.args.to) links c.take_link.new.at in
    record {
      within = omega (arith, c.in_ok-take_link.ensures.2);
      small = omega (arith, c.next_step-step.ensures.less, c.loop-step.invariant.small);
      taken =
          rw (c.in_ok-push.ensures.ok, c.next_step-step.ensures.value)
          (each-more link_bytes link_codec link-lawful c.args.bytes.now c.args.at.now c.loop-step.at _
          (greedy_steps (hop c.loop-step.step c.args.to) c.args.to) c.loop-step.step c.loop-step.links
          c.take_link.new.at c.in_ok-take_link.field-0
          (rw (greedy_steps-more c.loop-step.step c.args.to c.loop-step-test.true) at c.loop-step.invariant.taken)
          c.in_ok-take_link.ensures.0 c.in_ok-take_link.ensures.1);
    }

pub returns : goal.returns
unfolding path_codec
returns c =
    let all = each-ends link_bytes link_codec c.args.bytes.now c.args.at.now c.loop-step.at
    (greedy_steps c.args.from c.args.to) c.loop-step.links
    (rw (greedy_steps-none c.loop-step.step c.args.to c.loop-step-test.false) at c.loop-step.invariant.taken) in
    (all.0, all.1, c.loop-step.invariant.within)
