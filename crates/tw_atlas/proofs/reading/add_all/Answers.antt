use Rattle.std.proofs.Common.{ℕ, ◌-◌, List, drop, take, length, subst, arith}
use Rattle.std.specs.Prelude.{Ok, Err}
use Rattle.std.proofs.lemmas.List.{length-take}
use Rattle.tw_atlas.specs.ReceiptSteps.{AddsNext}
use Rattle.tw_atlas.proofs.ReceiptLaws.{next-size, read-fails, read-more, rest-of, smaller}
use Rattle.tw_atlas.proofs.reading.add_all.Goals as goal

pub loop-at-smaller : goal.loop-at-smaller
loop-at-smaller c = let taken = next-size _ _ _ _ c.in-Ok.ensures.adds in smaller (length c.args.bytes.now) c.loop-at.at
    c.in-Ok.taken c.loop-at-test.true taken.0

pub loop-at-preserved : goal.loop-at-preserved
loop-at-preserved c =
    read-more c.args.bytes.now c.args.hops.now c.loop-at.hops c.add_next.new.hops c.loop-at.at c.in-Ok.taken
    c.loop-at.invariant
    (subst (λ (rest : List ℕ). AddsNext rest c.loop-at.hops c.add_next.new.hops (Ok c.in-Ok.taken))
    (rest-of c.args.bytes.now c.loop-at.at) c.in-Ok.ensures.adds)

pub later-requires : goal.later-requires
later-requires c =
    let rest : List ℕ = take (length c.args.bytes.now - c.loop-at.at) (drop c.loop-at.at c.args.bytes.now) in (
      length rest,
      c.in-Err.ensures.within,
      omega (
        arith,
        length-take (length c.args.bytes.now - c.loop-at.at) (drop c.loop-at.at c.args.bytes.now),
        c.loop-at-test.true,
      ),
    )

pub returns-in-Err-clause-adds : goal.returns-in-Err-clause-adds
returns-in-Err-clause-adds c =
    read-fails c.args.bytes.now c.args.hops.now c.loop-at.hops c.add_next.new.hops c.add_next.new.hops c.loop-at.at
    c.in-Err.fault c.later.result c.loop-at.invariant c.requires c.loop-at-test.true
    (subst (λ (rest : List ℕ). AddsNext rest c.loop-at.hops c.add_next.new.hops (Err c.in-Err.fault))
    (rest-of c.args.bytes.now c.loop-at.at) c.in-Err.ensures.adds) c.later.ensures
