use Rattle.std.proofs.Common.{◌≡◌, ℕ, ◌-◌, List, [], subst, arith}
use Rattle.std.proofs.lemmas.Result.{err_from_is_err_and}
use Rattle.tw_base.specs.declared.history.tree_proof.Ancestor.{Ancestor}
use Rattle.tw_base.proofs.lemmas.format.TakeLaws.{ManyTaken, many-begins, many-ends, many-fails, many-more}
use Rattle.tw_treeproof.specs.Codecs.{ancestor_codec}
use Rattle.tw_treeproof.proofs.LawfulCodecs.{ancestor-lawful, one_left}
use Rattle.tw_treeproof.proofs.reading.take_ancestors.Goals as goal

pub loop-i-init : goal.loop-i-init
loop-i-init c =
    let P : ℕ → Type 0 = λ left. ManyTaken ancestor_codec c.args.bytes.now c.args.at.now c.args.count left []
    c.args.at.now in
    record {
      within = c.requires;
      taken = rw c.new-ancestors.ensures (subst P (let s : c.args.count ≡ c.args.count - 0 = omega arith in s)
          (many-begins ancestor_codec c.args.bytes.now c.args.at.now c.args.count));
    }

pub returns-in_err-take_ancestor : goal.returns-in_err-take_ancestor
returns-in_err-take_ancestor c =
    let p = err_from_is_err_and c.from_residual.result c.from_residual.ensures.1 in
    let t = one_left ancestor_codec c.args.bytes.now c.args.at.now c.args.count c.loop-i._i c.loop-i.at
    c.loop-i.ancestors (omega (arith, c.loop-i-test.true)) c.loop-i.invariant.taken in
    rw (p.1, p.2)
    (many-fails ancestor_codec ancestor-lawful _ (λ (a : Ancestor). a) (λ (up : List Ancestor). up) c.args.bytes.now
    c.args.at.now c.loop-i.at c.take_ancestor.new.at c.take_ancestor.new.at c.args.count _ c.loop-i.ancestors t
    c.in_err-take_ancestor.ensures)

pub loop-i-preserved : goal.loop-i-preserved
loop-i-preserved c =
    let t = one_left ancestor_codec c.args.bytes.now c.args.at.now c.args.count c.loop-i._i c.loop-i.at
    c.loop-i.ancestors (omega (arith, c.loop-i-test.true)) c.loop-i.invariant.taken in
    record {
      within = omega (arith, c.in_ok-take_ancestor.ensures.2);
      taken =
          rw c.in_ok-push.ensures.ok
          (many-more ancestor_codec ancestor-lawful c.args.bytes.now c.args.at.now c.loop-i.at c.args.count _
          c.loop-i.ancestors c.take_ancestor.new.at c.in_ok-take_ancestor.field-0 t c.in_ok-take_ancestor.ensures.0
          c.in_ok-take_ancestor.ensures.1);
    }

pub returns : goal.returns
returns c =
    let P : ℕ → Type 0 = λ left. ManyTaken ancestor_codec c.args.bytes.now c.args.at.now c.args.count left
    c.loop-i.ancestors c.loop-i.at in
    let none : c.args.count - c.loop-i._i ≡ 0 = omega (arith, c.loop-i-test.false) in
    let all = many-ends ancestor_codec c.args.bytes.now c.args.at.now c.loop-i.at c.args.count c.loop-i.ancestors
    (subst P none c.loop-i.invariant.taken) in
    (all.0, all.1, c.loop-i.invariant.within)
