use Rattle.std.proofs.Common.{◌≡◌, ℕ, suc, ◌+◌, ◌-◌, ◌≤◌, List, [], subst, arith}
use Rattle.std.proofs.lemmas.Result.{err_from_is_err_and}
use Rattle.tw_base.specs.format.Codecs.{Codec, sized_codec}
use Rattle.tw_base.proofs.lemmas.format.CodecLaws.{lawful-sized}
use Rattle.tw_base.proofs.lemmas.format.TakeLaws.{ManyTaken, many-begins, many-ends, many-fails, many-more}
use Rattle.tw_base.proofs.format.event_taking.take_event_list.Goals as goal

-- one more is left
one_left : (e : Codec (List ℕ)) (bytes : List ℕ) (start n i at : ℕ) (xs : List (List ℕ)) → i + 1 ≤ n
    → ManyTaken e bytes start n (n - i) xs at → ManyTaken e bytes start n (suc (n - (i + 1))) xs at
one_left e bytes start n i at xs l t = let P : ℕ → Type 0 = λ left. ManyTaken e bytes start n left xs at in
    subst P (let s : n - i ≡ suc (n - (i + 1)) = omega (arith, l) in s) t

pub returns-in_err-take_sized : goal.returns-in_err-take_sized
returns-in_err-take_sized c =
    let p = err_from_is_err_and c.from_residual-in_err-take_sized.result c.from_residual-in_err-take_sized.ensures.1 in
    let e = sized_codec 4 0 c.args.most in
    let t = one_left e c.args.bytes.now c.args.at.now c.args.count c.loop-i._i c.loop-i.at c.loop-i.events
    (omega (arith, c.loop-i-test.true)) c.loop-i.invariant.taken in
    rw (p.1, p.2)
    (many-fails e (lawful-sized 4 0 c.args.most (omega arith) c.requires.fits) _ (λ b. b) (λ events. events)
    c.args.bytes.now c.args.at.now c.loop-i.at c.take_sized.new.at c.take_sized.new.at c.args.count _ c.loop-i.events t
    c.in_err-take_sized.ensures)

pub loop-i-preserved : goal.loop-i-preserved
loop-i-preserved c =
    let e = sized_codec 4 0 c.args.most in
    let t = one_left e c.args.bytes.now c.args.at.now c.args.count c.loop-i._i c.loop-i.at c.loop-i.events
    (omega (arith, c.loop-i-test.true)) c.loop-i.invariant.taken in
    record {
      within = omega (arith, c.in_ok-take_sized.ensures.2);
      taken = rw c.in_ok-push.ensures.ok
          (many-more e (lawful-sized 4 0 c.args.most (omega arith) c.requires.fits) c.args.bytes.now c.args.at.now
          c.loop-i.at c.args.count _ c.loop-i.events c.take_sized.new.at c.in_ok-take_sized.field-0 t
          c.in_ok-take_sized.ensures.0 c.in_ok-take_sized.ensures.1);
    }

pub returns : goal.returns
returns c =
    let e = sized_codec 4 0 c.args.most in
    let P : ℕ → Type 0 = λ left. ManyTaken e c.args.bytes.now c.args.at.now c.args.count left c.loop-i.events
    c.loop-i.at in
    let none : c.args.count - c.loop-i._i ≡ 0 = omega (arith, c.loop-i-test.false) in
    let all = many-ends e c.args.bytes.now c.args.at.now c.loop-i.at c.args.count c.loop-i.events
    (subst P none c.loop-i.invariant.taken) in
    (all.0, all.1, c.loop-i.invariant.within)

pub loop-i-init : goal.loop-i-init
loop-i-init c =
    let e = sized_codec 4 0 c.args.most in
    let P : ℕ → Type 0 = λ left. ManyTaken e c.args.bytes.now c.args.at.now c.args.count left [] c.args.at.now in
    record {
      within = c.requires.within;
      taken = rw c.in_ok-events.ensures (subst P (let s : c.args.count ≡ c.args.count - 0 = omega arith in s)
          (many-begins e c.args.bytes.now c.args.at.now c.args.count));
    }
