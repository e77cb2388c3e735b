use Rattle.std.proofs.Common.{◌≡◌, ◌+◌, ◌-◌, ◌^◌, ◌<◌, ℕ, suc, zero, List, [], ◌∷◌, get_or, refl, ap, sym, ◌∙◌, arith}
use Rattle.std.proofs.Common.{false, true}
use Rattle.std.specs.Prelude.{◌==◌, length}
use Rattle.tw_steppage.specs.declared.link.StepRef.{StepRef}
use Rattle.tw_steppage.specs.StepPages.{keeps_link_rules, lies_below, link_at_level, no_ref}
use Rattle.tw_steppage.proofs.Rules.{and_false, both_true, link_rules-first, link_rules-more, link_rules-no}
use Rattle.tw_steppage.proofs.page.keeps_link_rules.Goals as goal

-- within a list the item that is asked for past its end doesn't matter
same_item : (xs : List StepRef) (i : ℕ) (one other : StepRef) → i < length xs → get_or xs i one ≡ get_or xs i other
same_item [] i one other l = absurd (omega arith)
same_item (x ∷ xs) zero one other l = refl
same_item (x ∷ xs) (suc i) one other l = same_item xs i one other (omega arith)

pub loop-level-init : goal.loop-level-init
loop-level-init c = link_rules-first c.args.page c.args.step c.args.links.now

pub returns-then-not-lies_below : goal.returns-then-not-lies_below
returns-then-not-lies_below c =
    let page = c.args.page in
    let step = c.args.step in
    let links = c.args.links.now in
    let level = c.loop-level.level in
    let more : level + 1 + (length links - (level + 1)) ≡ length links = omega (arith, c.loop-level-test.true) in
    let own : lies_below (step == 2 ^ level) (link_at_level links level).page page ≡ false =
    ap (λ (x : StepRef). lies_below (step == 2 ^ level) x.page page)
    (same_item links level no_ref c.index-links-level.result (omega (arith, c.loop-level-test.true)))
    ∙ ap (λ (n : ℕ). lies_below (step == n) (get_or links level c.index-links-level.result).page page)
    (sym c.power_of_two.ensures) ∙ sym c.if-not-lies_below.ensures in
    sym (
    ap (keeps_link_rules page step links) (sym more)
    ∙ link_rules-no page step links (level + 1) (length links - (level + 1)) (link_rules-more page step links level
    ∙ and_false (keeps_link_rules page step links level) _ own))

pub loop-level-preserved : goal.loop-level-preserved
loop-level-preserved c =
    let page = c.args.page in
    let step = c.args.step in
    let links = c.args.links.now in
    let level = c.loop-level.level in
    let own : lies_below (step == 2 ^ level) (link_at_level links level).page page ≡ true =
    ap (λ (x : StepRef). lies_below (step == 2 ^ level) x.page page)
    (same_item links level no_ref c.index-links-level.result (omega (arith, c.loop-level-test.true)))
    ∙ ap (λ (n : ℕ). lies_below (step == n) (get_or links level c.index-links-level.result).page page)
    (sym c.power_of_two.ensures) ∙ sym c.if-not-lies_below.ensures in
    link_rules-more page step links level ∙ both_true (keeps_link_rules page step links level) _ c.loop-level.invariant
    own
