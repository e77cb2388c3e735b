use Rattle.std.proofs.Common.{◌≡◌, arith}
use Rattle.tw_base.proofs.lemmas.kinds.ByteLemmas.{AreBytes-from}
use Rattle.tw_skiplist.proofs.Copying.{front-more, no-front, tested-events, tested-none}
use Rattle.tw_skiplist.proofs.Spelling.{ended, no_event, not_ended}
use Rattle.tw_skiplist.proofs.event_pages.are_events.Goals as goal
use Rattle.tw_skiplist.proofs.event_pages.are_events.Goals.{then-at-bytes-via-then-at-bytes}
use Rattle.tw_skiplist.proofs.event_pages.are_events.Goals.{then-at-bytes-via-else-at-bytes+then-at-count}

pub loop-index-init : goal.loop-index-init
loop-index-init c = no-front c.args.bytes.now

pub loop-index-preserved : goal.loop-index-preserved
loop-index-preserved c = front-more c.args.bytes.now c.loop-index.at c.in-Some.size c.loop-index.index
    c.loop-index.invariant c.in-Some.ensures

pub returns-in_default : goal.returns-in_default
returns-in_default c = λ page. tested-none c.args.bytes.now c.args.count (λ es spells.
    let inv = c.loop-index.invariant in
    no_event c.args.bytes.now c.args.count c.loop-index.at c.loop-index.index inv.events es inv.so_far inv.within
    inv.count inv.sizes spells (omega (arith, c.loop-index-test.true))
    (omega (arith, c.loop-index-test.true)) c.in_default.ensures) page

pub returns-then-count-gt-MOST_EVENTS : goal.returns-then-count-gt-MOST_EVENTS
returns-then-count-gt-MOST_EVENTS c = λ page. tested-none c.args.bytes.now c.args.count (λ es spells.
    omega (arith, spells.count_is, spells.limits.are.count, c.if-count-gt-MOST_EVENTS.true)) page

pub returns-then-at-bytes : goal.returns-then-at-bytes
returns-then-at-bytes c = λ page. tested-none c.args.bytes.now c.args.count (λ es spells.
    let inv = c.loop-index.invariant in
    let done : c.loop-index.index ≡ c.args.count = omega (arith, c.loop-index-test.false, c.loop-index.auto.index-end)
    in
    not_ended c.args.bytes.now c.args.count c.loop-index.at c.loop-index.index inv.events es inv.so_far inv.within
    inv.count inv.sizes spells (omega (arith, done)) done (λ end fits. elim c.then-at-bytes.branch [
      | then-at-bytes-via-then-at-bytes w ↦ w.if-at-bytes.true end
      | then-at-bytes-via-else-at-bytes+then-at-count w ↦ omega (arith, w.if-at-count.true, fits)
    ])) page

pub returns : goal.returns
returns c = λ page.
    let inv = c.loop-index.invariant in
    let done : c.loop-index.index ≡ c.args.count = omega (arith, c.loop-index-test.false, c.loop-index.auto.index-end)
    in
    tested-events c.args.bytes.now c.args.count inv.events (ended c.args.bytes.now c.args.count c.loop-index.at
    c.loop-index.index inv.events inv.so_far inv.count inv.sizes done (omega (arith, c.if-at-bytes.false))
    (omega (arith, c.if-count-gt-MOST_EVENTS.false)) (omega (arith, c.if-at-count.false))
    (AreBytes-from c.args.bytes.now (λ i. omega (arith, c.type_inv.bytes i)))) page
