use Rattle.std.proofs.Common.{◌≡◌, ℕ, suc, ◌+◌, ◌-◌, ◌≤◌, List, [], length, ap, subst, arith}
use Rattle.std.proofs.lemmas.Result.{err_from_is_err_and}
use Rattle.arrayvec.specs.declared.array_vec.ArrayVec.{ArrayVec}
use Rattle.tw_base.specs.format.Codecs.{Codec}
use Rattle.tw_base.proofs.lemmas.format.TakeLaws.{ManyTaken, many-begins, many-ends, many-fails, many-more}
use Rattle.tw_rbnode.proofs.reading.take_many.Goals as goal

-- one more is left
one_left : {X : Type 0} (codec : Codec X) (bytes : List ℕ) (start n i at : ℕ) (xs : List X) → i + 1 ≤ n
    → ManyTaken codec bytes start n (n - i) xs at → ManyTaken codec bytes start n (suc (n - (i + 1))) xs at
one_left codec bytes start n i at xs l t = let P : ℕ → Type 0 = λ left. ManyTaken codec bytes start n left xs at in
    subst P (let s : n - i ≡ suc (n - (i + 1)) = omega (arith, l) in s) t

pub take-requires : goal.take-requires
take-requires g c = c.loop-i.invariant.within

pub push-requires : goal.push-requires
push-requires g c = omega (arith, c.loop-i.invariant.room, c.loop-i-test.true, c.requires.few)

pub returns-in_err-take-clause-takes : goal.returns-in_err-take-clause-takes
returns-in_err-take-clause-takes g c =
    let t = one_left g.T.Taken.codec c.args.bytes.now c.args.at.now c.args.count c.loop-i._i c.loop-i.at
    c.loop-i.all.items (omega (arith, c.loop-i-test.true)) c.loop-i.invariant.taken in
    let p = err_from_is_err_and c.from_residual.result c.from_residual.ensures.1 in
    rw (p.1, p.2)
    (many-fails g.T.Taken.codec c.requires.lawful _ (λ x. x) (λ (all : ArrayVec g.row.T.Denot g.row.N (Unit {0})).
    all.items) c.args.bytes.now c.args.at.now c.loop-i.at c.take.new.at c.take.new.at c.args.count _ c.loop-i.all.items
    t c.in_err-take.ensures.takes)

pub loop-i-preserved : goal.loop-i-preserved
loop-i-preserved g c =
    let t = one_left g.T.Taken.codec c.args.bytes.now c.args.at.now c.args.count c.loop-i._i c.loop-i.at
    c.loop-i.all.items (omega (arith, c.loop-i-test.true)) c.loop-i.invariant.taken in
    let took = c.in_ok-take.ensures.takes in
    record {
      within = took.2;
      room = omega (arith, c.push.ensures.len, c.loop-i.invariant.room);
      taken = rw c.push.ensures.items (many-more g.T.Taken.codec c.requires.lawful c.args.bytes.now c.args.at.now
          c.loop-i.at c.args.count _ c.loop-i.all.items c.take.new.at c.in_ok-take.field-0 t took.0 took.1);
    }

pub returns-clause-takes : goal.returns-clause-takes
returns-clause-takes g c =
    let P : ℕ → Type 0 = λ left. ManyTaken g.T.Taken.codec c.args.bytes.now c.args.at.now c.args.count left
    c.loop-i.all.items c.loop-i.at in
    let none : c.args.count - c.loop-i._i ≡ 0 = omega (arith, c.loop-i-test.false) in
    let all = many-ends g.T.Taken.codec c.args.bytes.now c.args.at.now c.loop-i.at c.args.count c.loop-i.all.items
    (subst P none c.loop-i.invariant.taken) in
    (all.0, all.1, c.loop-i.invariant.within)

pub loop-i-init : goal.loop-i-init
loop-i-init g c =
    let P : ℕ → Type 0 = λ left. ManyTaken g.T.Taken.codec c.args.bytes.now c.args.at.now c.args.count left []
    c.args.at.now in
    record {
      within = c.requires.within;
      room = ap length c.new-all.ensures;
      taken = rw c.new-all.ensures (subst P (let s : c.args.count ≡ c.args.count - 0 = omega arith in s)
          (many-begins g.T.Taken.codec c.args.bytes.now c.args.at.now c.args.count));
    }
