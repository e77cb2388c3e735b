use Rattle.std.proofs.Common.{◌∙◌, ◌+◌, ◌≤◌, ℕ, Ok, List, length, ap, subst, sym, arith}
use Rattle.std.specs.Prelude.{IsTrue}
use Rattle.tw_outside.specs.Files.{TellsBytes}
use Rattle.tw_filecmd.proofs.SameNames.{still_same}
use Rattle.tw_filecmd.proofs.FedPieces.{fed_all, fed_broken, fed_few, fed_told}
use Rattle.tw_filecmd.proofs.feeding.feed_file.Goals as goal
use Rattle.tw_filecmd.proofs.feeding.feed_file.Goals.{then-came-eq0-via-then-came-eq0}
use Rattle.tw_filecmd.proofs.feeding.feed_file.Goals.{then-came-eq0-via-else-came-eq0+then-broken}

pub returns-then-came-eq0-clause-fed : goal.returns-then-came-eq0-clause-fed
returns-then-came-eq0-clause-fed g c =
    let told = g.I.Inputs.told c.args.inputs.now in
    let front =
    fed_told c.loop-came.invariant.kept (c.in-Ok.ensures.fed c.args.anchors.now c.args.strict) c.loop-came.invariant.fed in
    elim c.then-came-eq0.branch [
      | then-came-eq0-via-then-came-eq0 w ↦
          let none : (bytes : List ℕ) → TellsBytes told c.args.proof.now bytes → length bytes ≤ c.loop-came.at
          + c.in-Ok.came =
          λ bytes tells.
          let end = c.in-Ok.ensures.end (ap Ok w.if-came-eq0.true) bytes
          (subst (λ t. TellsBytes t c.args.proof.now bytes) (sym c.loop-came.invariant.kept) tells) in
          omega (arith, end) in
          fed_all told c.args.proof.now c.args.anchors.now c.args.strict c.feed_piece.new.verifier _ front none
      | then-came-eq0-via-else-came-eq0+then-broken w ↦
          fed_broken told c.args.proof.now c.args.anchors.now c.args.strict c.feed_piece.new.verifier _ front
          (λ pieces fed unspent. (w.broken.ensures.exact c.args.anchors.now c.args.strict pieces fed unspent).0
          w.if-broken.true)
    ]

pub loop-came-preserved : goal.loop-came-preserved
loop-came-preserved g c =
    let told = g.I.Inputs.told c.args.inputs.now in
    let front =
    fed_told c.loop-came.invariant.kept (c.in-Ok.ensures.fed c.args.anchors.now c.args.strict) c.loop-came.invariant.fed in
    record {
      kept = c.in-Ok.ensures.kept ∙ c.loop-came.invariant.kept;
      same_names = still_same g.I.Inputs.may_ask c.loop-came.invariant.same_names c.in-Ok.ensures.same_names;
      later = omega (arith, c.in-Ok.ensures.later, c.loop-came.invariant.later);
      few =
          fed_few told c.args.proof.now c.args.anchors.now c.args.strict c.feed_piece.new.verifier _ front
          (λ pieces fed unspent isnt.
          let is : IsTrue c.broken.result =
          (c.broken.ensures.exact c.args.anchors.now c.args.strict pieces fed unspent).1 isnt in
          cc);
      fed = front;
    }
