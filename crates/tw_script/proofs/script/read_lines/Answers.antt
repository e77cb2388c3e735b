use Rattle.std.proofs.Common.{sym, ◌∙◌}
use Rattle.tw_script.proofs.ReadingSteps.{all-read, begun, next-line, next-skipped, stops-at}
use Rattle.tw_script.proofs.script.read_lines.Goals as goal

pub loop-text-init : goal.loop-text-init
loop-text-init c =
    begun c.args.bytes.now c.new-made.result c.new-script.result c.new-texts.result.more c.new-texts.result.text.now
    c.new-made.ensures c.new-script.ensures
    c.new-texts.ensures.more c.new-texts.ensures.text c.requires

pub returns-in-Err : goal.returns-in-Err
returns-in-Err c =
    rw c.fault_at.ensures
    (stops-at c.loop-text.invariant c.in-Some.ensures c.in-Err.stop c.next_line.new.made
    (sym c.is_skipped.ensures ∙ c.if-not-is_skipped.true) c.in-Err.ensures)

pub loop-text-preserved-in-Continue-1 : goal.loop-text-preserved-in-Continue-1
loop-text-preserved-in-Continue-1 c =
    rw (c.in_ok-push.ensures.ok, c.in-Ok.ensures.1)
    (next-line c.loop-text.invariant c.in-Some.ensures c.in-Ok.line
    (sym c.is_skipped.ensures ∙ c.if-not-is_skipped.true) c.in-Ok.ensures.0)

pub loop-text-preserved : goal.loop-text-preserved
loop-text-preserved c =
    next-skipped c.loop-text.invariant c.in-Some.ensures (sym c.is_skipped.ensures ∙ c.if-not-is_skipped.false)

pub returns : goal.returns
returns c = all-read c.loop-text.invariant c.in_default.ensures
