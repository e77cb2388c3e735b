use Rattle.std.proofs.Common.{◌≡◌, ◌≤◌, ◌++◌, ℕ, false, length, take, drop, subst, arith}
use Rattle.std.proofs.lemmas.Grind.{common_steps}
use Rattle.std.proofs.lemmas.List.{take-append-le}
use Rattle.tw_reachcmd.proofs.KeptFronts.{fed_of_more}
use Rattle.tw_reachcmd.proofs.fronts.Fed.feed.Goals as goal

pub returns-clause-fed : goal.returns-clause-fed
returns-clause-fed g c anchors before =
    let front = c.args.self.now.bytes.items in
    let came = c.in_ok-came.came in
    let read = c.read.new.into in
    let fits : came ≤ length read = omega (arith, c.in_ok-came.ensures.within) in
    let grown : c.extend_from_slice.new.self.items ≡ front ++ take came read =
    grind (arith, common_steps, c.in_ok-extend_from_slice.ensures.items, take-append-le) in
    let at : c.len-at.result ≡ length front = grind (arith, common_steps, c.len-at.ensures) in
    fed_of_more (g.I.Inputs.told c.args.inputs.now) c.args.proof.now anchors c.args.self.now.verifier c.feed.new.self
    front
    c.extend_from_slice.new.self.items _ read came (c.in_ok-feed.ensures.fed anchors false front before.fed)
    c.in_ok-feed.ensures.unspent fits (grind (arith, common_steps, take-append-le)) grown
    (λ bytes tells.
    let Given : ℕ → Type 0 = λ k. take came read ≡ take came (drop k bytes) in
    subst Given at (c.in_ok-came.ensures.came bytes tells).given)
    before
