use Rattle.std.proofs.Common.{◌∙◌, ◌+◌, ◌≤◌, ◌≡◌, ℕ, Ok, List, false, length, ap, refl, subst, sym, arith}
use Rattle.std.specs.Prelude.{IsTrue}
use Rattle.tw_outside.specs.Files.{TellsBytes}
use Rattle.tw_filecmd.proofs.SameNames.{still_same}
use Rattle.tw_reachcmd.specs.Fronts.{IsFedOf}
use Rattle.tw_reachcmd.proofs.KeptFronts.{far_all, far_broken, fed_of_few, fed_of_nothing, fed_of_told}
use Rattle.tw_reachcmd.proofs.fronts.feed_front.Goals as goal
use Rattle.tw_reachcmd.proofs.fronts.feed_front.Goals.{then-came-eq0-via-then-came-eq0}
use Rattle.tw_reachcmd.proofs.fronts.feed_front.Goals.{then-came-eq0-via-else-came-eq0+then-broken}

pub loop-came-init : goal.loop-came-init
loop-came-init g c =
    let told = g.I.Inputs.told c.args.inputs.now in
    let begun = c.in_ok-fed in
    let none : length begun.fed.bytes.items ≡ 0 = ap (λ (bytes : List ℕ). length bytes) begun.ensures.bytes in
    record {
      kept = refl;
      same_names = λ other. (λ may. may, λ may. may);
      later = omega arith;
      few = omega (arith, none, begun.fed.bytes.ok.0);
      fed =
          subst (λ (front : List ℕ). IsFedOf told c.args.proof.now c.args.anchors.now begun.fed.verifier front)
          (sym begun.ensures.bytes)
          (fed_of_nothing told c.args.proof.now c.args.anchors.now begun.fed.verifier begun.ensures.verifier);
    }

pub returns-then-came-eq0-clause-front : goal.returns-then-came-eq0-clause-front
returns-then-came-eq0-clause-front g c =
    let told = g.I.Inputs.told c.args.inputs.now in
    let before = c.loop-came.fed in
    let after = c.feed.new.self in
    let count : ℕ = length before.bytes.items in
    let front =
    fed_of_told (g.I.Inputs.told c.loop-came.inputs) told c.args.proof.now c.args.anchors.now before.verifier
    after.verifier
    before.bytes.items after.bytes.items c.loop-came.invariant.kept (c.in-Ok.ensures.fed c.args.anchors.now)
    c.loop-came.invariant.fed in
    elim c.then-came-eq0.branch [
      | then-came-eq0-via-then-came-eq0 w ↦
          let none : (bytes : List ℕ) → TellsBytes told c.args.proof.now bytes → length bytes ≤ count =
          λ bytes tells.
          let end = c.in-Ok.ensures.end (ap Ok w.if-came-eq0.true) bytes
          (subst (λ t. TellsBytes t c.args.proof.now bytes) (sym c.loop-came.invariant.kept) tells) in
          omega (arith, end, before.bytes.ok.0) in
          let longer : length after.bytes.items ≡ count + c.in-Ok.came =
          omega (arith, c.in-Ok.ensures.count, before.bytes.ok.0, after.bytes.ok.0) in
          let size : length after.bytes.items ≡ count = omega (arith, longer, w.if-came-eq0.true) in
          far_all told c.args.proof.now c.args.anchors.now after.verifier after.bytes.items front count size none
      | then-came-eq0-via-else-came-eq0+then-broken w ↦
          far_broken told c.args.proof.now c.args.anchors.now after.verifier after.bytes.items front
          (λ pieces fed unspent. (w.broken.ensures.exact c.args.anchors.now false pieces fed unspent).0
          w.if-broken.true)
    ]

pub returns-then-came-eq0-clause-fed : goal.returns-then-came-eq0-clause-fed
returns-then-came-eq0-clause-fed g c =
    let front =
    fed_of_told (g.I.Inputs.told c.loop-came.inputs) (g.I.Inputs.told c.args.inputs.now) c.args.proof.now
    c.args.anchors.now c.loop-came.fed.verifier
    c.feed.new.self.verifier c.loop-came.fed.bytes.items c.feed.new.self.bytes.items c.loop-came.invariant.kept
    (c.in-Ok.ensures.fed c.args.anchors.now) c.loop-came.invariant.fed in
    front.fed

pub loop-came-preserved : goal.loop-came-preserved
loop-came-preserved g c =
    let told = g.I.Inputs.told c.args.inputs.now in
    let front =
    fed_of_told (g.I.Inputs.told c.loop-came.inputs) told c.args.proof.now c.args.anchors.now c.loop-came.fed.verifier
    c.feed.new.self.verifier c.loop-came.fed.bytes.items c.feed.new.self.bytes.items c.loop-came.invariant.kept
    (c.in-Ok.ensures.fed c.args.anchors.now) c.loop-came.invariant.fed in
    record {
      kept = c.in-Ok.ensures.kept ∙ c.loop-came.invariant.kept;
      same_names = still_same g.I.Inputs.may_ask c.loop-came.invariant.same_names c.in-Ok.ensures.same_names;
      later = omega (arith, c.in-Ok.ensures.later, c.loop-came.invariant.later);
      few =
          let few : length c.feed.new.self.bytes.items ≤ 4430818 =
          fed_of_few told c.args.proof.now c.args.anchors.now c.feed.new.self.verifier c.feed.new.self.bytes.items front
          (λ pieces fed unspent isnt.
          let is : IsTrue c.broken.result =
          (c.broken.ensures.exact c.args.anchors.now false pieces fed unspent).1 isnt in
          cc) in
          omega (arith, few, c.feed.new.self.bytes.ok.0);
      fed = front;
    }
