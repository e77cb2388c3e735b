use Rattle.std.proofs.Common.{◌≡◌, ℕ, ◌+◌, ◌-◌, ◌<◌, ◌^◌, List, [], ◌∷◌, length, map, subst, sym, ap, arith}
use Rattle.std.proofs.Common.{length-append}
use Rattle.std.proofs.lemmas.Result.{err_from_is_err_and}
use Rattle.tw_base.specs.history.History.{Node as NodeMeant}
use Rattle.tw_base.specs.history.HistoryCodec.{node_codec}
use Rattle.tw_base.proofs.lemmas.history.HistoryCodecLaws.{node-lawful}
use Rattle.tw_base.proofs.lemmas.format.TakeLaws.{ManyTaken, many-begins, many-ends, many-fails, many-more}
use Rattle.tw_history.specs.Tables.{added_behind, node_of}
use Rattle.tw_history.proofs.TableReading.{added-none, added-push, each_further, nodes-push, one_left}
use Rattle.tw_history.proofs.reading_steps.take_nodes.Goals as goal

pub returns-in_err-take_node-clause-takes : goal.returns-in_err-take_node-clause-takes
returns-in_err-take_node-clause-takes c =
    let p = err_from_is_err_and c.from_residual.result c.from_residual.ensures.1 in
    let xs = map node_of (added_behind c.args.nodes.now c.loop-i.nodes) in
    let t = one_left node_codec c.args.bytes.now c.args.at.now c.args.count c.loop-i._i c.loop-i.at xs
    (omega (arith, c.loop-i-test.true)) c.loop-i.invariant.taken in
    rw (p.1, p.2)
    (many-fails {Z = Unit {0}} node_codec node-lawful _ node_of (λ _. []) c.args.bytes.now c.args.at.now c.loop-i.at
    c.take_node.new.at c.take_node.new.at c.args.count _ xs t c.in_err-take_node.ensures.takes)

pub loop-i-preserved : goal.loop-i-preserved
loop-i-preserved c =
    let xs = map node_of (added_behind c.args.nodes.now c.loop-i.nodes) in
    let t = one_left node_codec c.args.bytes.now c.args.at.now c.args.count c.loop-i._i c.loop-i.at xs
    (omega (arith, c.loop-i-test.true)) c.loop-i.invariant.taken in
    let n = c.in_ok-take_node.field-0 in
    let pushed = c.in_ok-push.ensures.ok in
    let P : List NodeMeant → Type 0 = λ ys. ManyTaken node_codec c.args.bytes.now c.args.at.now c.args.count
    (c.args.count - (c.loop-i._i + 1)) ys c.take_node.new.at in
    record {
      within = omega (arith, c.in_ok-take_node.ensures.takes.2);
      taken = subst P (sym (nodes-push c.args.nodes.now c.loop-i.nodes c.push.new.self n c.loop-i.invariant.kept
          pushed))
          (many-more node_codec node-lawful c.args.bytes.now c.args.at.now c.loop-i.at c.args.count _ xs
          c.take_node.new.at (node_of n) t c.in_ok-take_node.ensures.takes.0 c.in_ok-take_node.ensures.takes.1);
      kept = (added-push c.args.nodes.now c.loop-i.nodes c.push.new.self n c.loop-i.invariant.kept pushed).1;
      count = omega (arith, ap length pushed, length-append c.loop-i.nodes (n ∷ []), c.loop-i.invariant.count);
      entries = each_further (λ n. n.entry < 2 ^ 64) c.loop-i.nodes c.push.new.self n pushed c.loop-i.invariant.entries
          c.in_ok-take_node.ensures.entry;
    }

pub returns-clause-takes : goal.returns-clause-takes
returns-clause-takes c =
    let xs = map node_of (added_behind c.args.nodes.now c.loop-i.nodes) in
    let P : ℕ → Type 0 = λ left. ManyTaken node_codec c.args.bytes.now c.args.at.now c.args.count left xs c.loop-i.at in
    let none : c.args.count - c.loop-i._i ≡ 0 = omega (arith, c.loop-i-test.false) in
    let all = many-ends node_codec c.args.bytes.now c.args.at.now c.loop-i.at c.args.count xs
    (subst P none c.loop-i.invariant.taken) in
    (all.0, all.1, c.loop-i.invariant.within)

pub loop-i-init : goal.loop-i-init
loop-i-init c =
    let none = added-none c.args.nodes.now in
    let P : ℕ → Type 0 = λ left. ManyTaken node_codec c.args.bytes.now c.args.at.now c.args.count left []
    c.args.at.now in
    let Q : List NodeMeant → Type 0 = λ xs. ManyTaken node_codec c.args.bytes.now c.args.at.now c.args.count
    (c.args.count - 0) xs c.args.at.now in
    record {
      within = c.requires.within;
      taken = subst Q (sym (ap (map node_of) none.0))
          (subst P (let e : c.args.count ≡ c.args.count - 0 = omega arith in e) (many-begins node_codec c.args.bytes.now
          c.args.at.now c.args.count));
      kept = none.1;
      count = omega arith;
      entries = c.requires.entries;
    }
