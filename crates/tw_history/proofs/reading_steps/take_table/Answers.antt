use Rattle.std.proofs.Common.{◌≡◌, ℕ, ◌+◌, ◌-◌, List, [], subst, sym, arith, refl}
use Rattle.std.proofs.lemmas.Result.{err_from_is_err_and}
use Rattle.tw_base.specs.history.History.{Step as StepMeant}
use Rattle.tw_base.specs.history.HistoryCodec.{step_codec}
use Rattle.tw_base.specs.history.Limits.{IsTimeWithinLimits}
use Rattle.tw_base.proofs.lemmas.history.HistoryCodecLaws.{step-lawful}
use Rattle.tw_base.proofs.lemmas.format.TakeLaws.{ManyTaken, many-begins, many-ends, many-fails, many-more}
use Rattle.tw_history.specs.declared.reading_steps.Table.{Table}
use Rattle.tw_history.specs.declared.step.Step.{Step}
use Rattle.tw_history.specs.Tables.{IsInRange, added_behind, step_of, steps_of_table}
use Rattle.tw_history.proofs.TableLaws.{length-steps_of_table}
use Rattle.tw_history.proofs.TableReading.{each_further, one_left, steps_further}
use Rattle.tw_history.proofs.reading_steps.take_table.Goals as goal

pub returns-in_err-take_step-clause-takes : goal.returns-in_err-take_step-clause-takes
returns-in_err-take_step-clause-takes c =
    let p = err_from_is_err_and c.from_residual-in_err-take_step.result c.from_residual-in_err-take_step.ensures.1 in
    let xs = steps_of_table c.loop-i.steps c.loop-i.nodes in
    let t = one_left step_codec c.args.bytes.now c.args.at.now c.args.count c.loop-i._i c.loop-i.at xs
    (omega (arith, c.loop-i-test.true)) c.loop-i.invariant.taken in
    rw (p.1, p.2)
    (many-fails step_codec step-lawful _ (λ (s : Step). step_of s (added_behind c.loop-i.nodes c.take_step.new.nodes))
    (λ (t : Table). steps_of_table t.steps t.nodes) c.args.bytes.now c.args.at.now c.loop-i.at c.take_step.new.at
    c.take_step.new.at c.args.count _ xs
    t c.in_err-take_step.ensures.takes)

pub loop-i-preserved : goal.loop-i-preserved
loop-i-preserved c =
    let xs = steps_of_table c.loop-i.steps c.loop-i.nodes in
    let t = one_left step_codec c.args.bytes.now c.args.at.now c.args.count c.loop-i._i c.loop-i.at xs
    (omega (arith, c.loop-i-test.true)) c.loop-i.invariant.taken in
    let s = c.in_ok-take_step.field-0 in
    let read = c.in_ok-take_step.ensures in
    let pushed = c.in_ok-push.ensures.ok in
    let further = steps_further c.loop-i.steps c.push.new.self c.loop-i.nodes c.take_step.new.nodes s
    c.loop-i.invariant.counted pushed read.kept read.count in
    let P : List StepMeant → Type 0 = λ ys. ManyTaken step_codec c.args.bytes.now c.args.at.now c.args.count
    (c.args.count - (c.loop-i._i + 1)) ys c.take_step.new.at in
    record {
      within = omega (arith, read.takes.2);
      taken = subst P (sym further.taken)
          (many-more step_codec step-lawful c.args.bytes.now c.args.at.now c.loop-i.at c.args.count _ xs
          c.take_step.new.at (step_of s (added_behind c.loop-i.nodes c.take_step.new.nodes)) t read.takes.0
          read.takes.1);
      counted = further.counted;
      contents = each_further (λ s. IsInRange s.content) c.loop-i.steps c.push.new.self s pushed
          c.loop-i.invariant.contents read.content;
      times = each_further (λ s. IsTimeWithinLimits s.time) c.loop-i.steps c.push.new.self s pushed
          c.loop-i.invariant.times read.time;
      entries = read.entries;
    }

pub returns : goal.returns
returns c =
    let xs = steps_of_table c.loop-i.steps c.loop-i.nodes in
    let P : ℕ → Type 0 = λ left. ManyTaken step_codec c.args.bytes.now c.args.at.now c.args.count left xs c.loop-i.at in
    let none : c.args.count - c.loop-i._i ≡ 0 = omega (arith, c.loop-i-test.false) in
    let all = subst P none c.loop-i.invariant.taken in
    let ends = many-ends step_codec c.args.bytes.now c.args.at.now c.loop-i.at c.args.count xs all in
    record {
      takes = (ends.0, ends.1, c.loop-i.invariant.within);
      table = record {
        counted = c.loop-i.invariant.counted;
        few = omega (arith, all.count, length-steps_of_table c.loop-i.steps c.loop-i.nodes, c.requires.few);
        contents = c.loop-i.invariant.contents;
        times = c.loop-i.invariant.times;
        entries = c.loop-i.invariant.entries;
      };
    }

pub loop-i-init : goal.loop-i-init
loop-i-init c =
    let P : ℕ → Type 0 = λ left. ManyTaken step_codec c.args.bytes.now c.args.at.now c.args.count left []
    c.args.at.now in
    rw (c.in_ok-steps.ensures, c.new-nodes.ensures) record {
      within = c.requires.within;
      taken = subst P (let e : c.args.count ≡ c.args.count - 0 = omega arith in e)
          (many-begins step_codec c.args.bytes.now c.args.at.now c.args.count);
      counted = refl;
      contents = tt;
      times = tt;
      entries = tt;
    }
