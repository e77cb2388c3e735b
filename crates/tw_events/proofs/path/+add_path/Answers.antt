use Rattle.std.proofs.Common.{◌++◌, arith, ap, sym, ◌∙◌}
use Rattle.std.proofs.lemmas.List.{append-nil}
use Rattle.tw_events.proofs.Steps.{appended-left, appended-right, path-one}
use Rattle.tw_events.proofs.path.+add_path.Goals as goal

pub returns-then-events-eq1 : goal.returns-then-events-eq1
returns-then-events-eq1 g t c =
    sym (append-nil c.args.path.now) ∙ ap (λ x. c.args.path.now ++ x)
    (sym (path-one g.H.Hasher.dig c.args.events.now c.args.index c.if-events-eq1.true))

pub returns-in_ok-push : goal.returns-in_ok-push
returns-in_ok-push g t c =
    appended-left g.H.Hasher.dig c.args.events.now c.split_at.result.0.now c.split_at.result.1.now c.args.path.now
    c.add_path.new.path c.push.new.self
    c.left_count-half.result c.args.index c.event_root.result (omega arith) c.left_count-half.ensures.value
    c.split_at.ensures.front c.split_at.ensures.back
    c.if-index-half.true c.in_ok-add_path.ensures c.event_root.ensures c.in_ok-push.ensures.ok

pub returns-in_ok-push-2 : goal.returns-in_ok-push-2
returns-in_ok-push-2 g t c =
    appended-right g.H.Hasher.dig c.args.events.now c.split_at.result.0.now c.split_at.result.1.now c.args.path.now
    c.add_path-else-index-half.new.path
    c.push-else-index-half.new.self c.left_count-half.result c.args.index c.event_root-else-index-half.result
    (omega arith) c.left_count-half.ensures.value
    c.split_at.ensures.front c.split_at.ensures.back c.if-index-half.false c.in_ok-add_path-2.ensures
    c.event_root-else-index-half.ensures c.in_ok-push-2.ensures.ok
