use Rattle.std.proofs.Common.{◌≡◌, ℕ, ◌+◌, List, subst}
use Rattle.std.specs.Prelude.{Result}
use Rattle.tw_base.specs.declared.history.thread.Thread.{Thread}
use Rattle.tw_base.specs.history.History.{History}
use Rattle.tw_adopt.specs.declared.adopted.AdoptFault.{AdoptFault}
use Rattle.tw_adopt.specs.declared.receiving.Receiving.{Receiving}
use Rattle.tw_adopt.specs.Hearing.{IsHeard}
use Rattle.tw_adopt.proofs.HearingLaws.{heard-all, heard-fault, heard-more}
use Rattle.tw_adopt.proofs.hearing.hear_all.Goals as goal

-- what is heard of the bytes, as it is of the same ones in the list
same_heard : (dig : List ℕ → List ℕ) (anchors : List Thread) (h : History) (number : ℕ) (bytes own : List ℕ)
    → bytes ≡ own → (r s : Result Receiving AdoptFault) → r ≡ s → IsHeard dig anchors h number bytes r
    → IsHeard dig anchors h number own s
same_heard dig anchors h number bytes own here r s is heard =
    subst (λ b. IsHeard dig anchors h number b s) here (subst (IsHeard dig anchors h number bytes) is heard)

pub loop-index-preserved : goal.loop-index-preserved
loop-index-preserved g c =
    heard-more g.H.Hasher.dig c.args.anchors.now c.args.history.now c.args.proofs.now c.loop-index.index
    c.index-proofs-index.result c.loop-index.shown.items c.push.new.self.items c.in-Ok.one
    c.loop-index-test.true c.loop-index.invariant c.index-proofs-index.is
    (same_heard g.H.Hasher.dig c.args.anchors.now c.args.history.now (c.loop-index.index + 1) _ _ c.as_slice.ensures
    _ _ c.in-Ok.is c.in_ok-one.ensures) c.in_ok-push-in-Ok.ensures.items

pub returns-in-Err : goal.returns-in-Err
returns-in-Err g c =
    heard-fault g.H.Hasher.dig c.args.anchors.now c.args.history.now c.args.proofs.now c.loop-index.index
    c.index-proofs-index.result c.loop-index.shown.items c.in-Err.fault
    c.loop-index-test.true c.loop-index.invariant c.index-proofs-index.is
    (same_heard g.H.Hasher.dig c.args.anchors.now c.args.history.now (c.loop-index.index + 1) _ _ c.as_slice.ensures
    _ _ c.in-Err.is c.in_ok-one.ensures)

pub returns : goal.returns
returns g c = heard-all g.H.Hasher.dig c.args.anchors.now c.args.history.now c.args.proofs.now c.loop-index.index
    c.loop-index.shown.items c.loop-index-test.false c.loop-index.invariant
