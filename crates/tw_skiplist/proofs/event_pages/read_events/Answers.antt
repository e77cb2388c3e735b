use Rattle.std.proofs.Common.{◌≡◌, ◌+◌, ◌-◌, ℕ, List, ap, sym, ◌∙◌, arith, subst, length, take, drop}
use Rattle.std.proofs.lemmas.List.{length_push}
use Rattle.tw_steppage.specs.StepBytes.{stream}
use Rattle.tw_base.proofs.lemmas.kinds.ByteLemmas.{AreBytes-from}
use Rattle.tw_skiplist.proofs.EventWords.{found-events, found-none}
use Rattle.tw_skiplist.proofs.Spelling.{AllShort, ended, more_sizes, more_taken, no_event, not_ended}
use Rattle.tw_skiplist.proofs.event_pages.read_events.Goals as goal
use Rattle.tw_skiplist.proofs.event_pages.read_events.Goals.{then-at-bytes-via-then-at-bytes}
use Rattle.tw_skiplist.proofs.event_pages.read_events.Goals.{then-at-bytes-via-else-at-bytes+then-at-count}

pub returns-in_default-clause-answer : goal.returns-in_default-clause-answer
returns-in_default-clause-answer c = λ page. found-none c.args.bytes.now c.args.count (λ es spells.
    let inv = c.loop-index.invariant in
    no_event c.args.bytes.now c.args.count c.loop-index.at c.loop-index.index c.loop-index.events es inv.so_far
    inv.within inv.count inv.sizes spells (omega (arith, c.loop-index-test.true))
    (omega (arith, c.loop-index-test.true)) c.in_default.ensures) page

pub loop-index-preserved : goal.loop-index-preserved
loop-index-preserved c =
    let inv = c.loop-index.invariant in
    let bytes = c.args.bytes.now in
    let at = c.loop-index.at in
    let size = c.in-Some.size in
    let event = c.in_ok-event.event in
    let has = c.in-Some.ensures in
    let event_is : event ≡ take size (drop (at + 4) bytes) =
    c.in_ok-event.ensures ∙ ap (λ (n : ℕ). take n (drop (at + 4) bytes)) (let e : (at + 4 + size) - (at + 4) ≡ size =
    omega arith in e) in
    let pushed = c.in_ok-push.ensures.ok in
    record {
      so_far = ap stream pushed ∙ more_taken bytes at size c.loop-index.events event inv.so_far has event_is;
      within = omega (arith, has.room);
      count = ap (λ (es : List (List ℕ)). length es) pushed ∙ length_push c.loop-index.events event
          ∙ omega (arith, inv.count);
      sizes = subst AllShort (sym pushed) (more_sizes bytes at size c.loop-index.events event inv.so_far has event_is
          inv.sizes);
    }

pub returns-then-count-gt-MOST_EVENTS-clause-answer : goal.returns-then-count-gt-MOST_EVENTS-clause-answer
returns-then-count-gt-MOST_EVENTS-clause-answer c = λ page. found-none c.args.bytes.now c.args.count (λ es spells.
    omega (arith, spells.count_is, spells.limits.are.count, c.if-count-gt-MOST_EVENTS.true)) page

pub returns-then-at-bytes-clause-answer : goal.returns-then-at-bytes-clause-answer
returns-then-at-bytes-clause-answer c = λ page. found-none c.args.bytes.now c.args.count (λ es spells.
    let inv = c.loop-index.invariant in
    let done : c.loop-index.index ≡ c.args.count = omega (arith, c.loop-index-test.false, c.loop-index.auto.index-end)
    in
    not_ended c.args.bytes.now c.args.count c.loop-index.at c.loop-index.index c.loop-index.events es inv.so_far
    inv.within inv.count inv.sizes spells (omega (arith, done)) done (λ end fits. elim c.then-at-bytes.branch [
      | then-at-bytes-via-then-at-bytes w ↦ w.if-at-bytes.true end
      | then-at-bytes-via-else-at-bytes+then-at-count w ↦ omega (arith, w.if-at-count.true, fits)
    ])) page

pub returns : goal.returns
returns c =
    let inv = c.loop-index.invariant in
    let done : c.loop-index.index ≡ c.args.count = omega (arith, c.loop-index-test.false, c.loop-index.auto.index-end)
    in
    let spells = ended c.args.bytes.now c.args.count c.loop-index.at c.loop-index.index c.loop-index.events inv.so_far
    inv.count inv.sizes done (omega (arith, c.if-at-bytes.false)) (omega (arith, c.if-count-gt-MOST_EVENTS.false))
    (omega (arith, c.if-at-count.false)) (AreBytes-from c.args.bytes.now (λ i. omega (arith, c.type_inv.bytes i))) in
    record {
      answer = λ page. found-events c.args.bytes.now c.args.count c.loop-index.events spells page;
      limits = (spells.limits, spells.count_is);
    }
