use Rattle.std.proofs.Common.{◌≡◌, ◌≢◌, ℕ, ◌+◌, List, ◌∷◌, [], ◌++◌, length, ◌∙◌, sym, ap, subst, refl, true, false}
use Rattle.std.proofs.Common.{eqb, eqb-true}
use Rattle.std.specs.List.{after_first, before_first, AllPairs}
use Rattle.tw_base.specs.declared.history.thread.Thread.{Thread}
use Rattle.tw_msg.specs.AnchorsFile.{lines, is_line_feed, line_may_follow, anchor_on, IsFirstBadLine}
use Rattle.tw_msg.proofs.LineLaws.{lines-first, lines-empty, length-some}
use Rattle.tw_msg.proofs.Reading.{IsRead, read_on, all_read, different-good, first_bad_line, not_true}
use Rattle.tw_msg.proofs.anchors.read_anchors.Goals as goal

-- where bytes are left, the next line stands where it is read
next_read : (all : List (List ℕ)) (bytes line after : List ℕ) (anchors : List Thread) → IsRead all (lines bytes) anchors
    → eqb (length bytes) 0 ≡ false → line ≡ before_first is_line_feed bytes → after ≡ after_first is_line_feed bytes
    → IsRead all (line ∷ lines after) anchors
next_read all bytes line after anchors before some here behind =
    let first : lines bytes ≡ line ∷ lines after =
    lines-first bytes (length-some (length bytes) some) ∙ (λ i. sym here i ∷ lines (sym behind i)) in
    subst (λ rest. IsRead all rest anchors) first before

pub returns-in_default-clause-bad : goal.returns-in_default-clause-bad
returns-in_default-clause-bad c =
    let all = lines c.args.bytes.now in
    let line = c.split_at_first.result.0.now in
    let after = c.split_at_first.result.1.now in
    let anchors = c.loop-rest.anchors in
    let before = next_read all c.loop-rest.rest.now line after anchors c.loop-rest.invariant
    (sym c.is_empty.ensures ∙ c.loop-rest-test.true) c.split_at_first.ensures.before c.split_at_first.ensures.after in
    let bad : line_may_follow anchors line ≡ false = not_true (line_may_follow anchors line) (λ holds.
    let wrong : false ≡ true = c.in_default.ensures.some.1
    (subst (λ found. line_may_follow found line ≡ true) (sym c.as_slice.ensures) holds) in cc) in
    subst (λ n. IsFirstBadLine all (n + 1)) (sym c.len.ensures) (first_bad_line all (lines after) line anchors before
    bad)

pub loop-rest-preserved : goal.loop-rest-preserved
loop-rest-preserved c =
    let all = lines c.args.bytes.now in
    let line = c.split_at_first.result.0.now in
    let rest = lines c.split_at_first.result.1.now in
    let before = next_read all c.loop-rest.rest.now line c.split_at_first.result.1.now c.loop-rest.anchors
    c.loop-rest.invariant (sym c.is_empty.ensures ∙ c.loop-rest-test.true) c.split_at_first.ensures.before
    c.split_at_first.ensures.after in
    let follows : line_may_follow c.loop-rest.anchors line ≡ true =
    subst (λ found. line_may_follow found line ≡ true) c.as_slice.ensures (c.in-Some.ensures.some.0 refl) in
    let more : c.push.new.self ≡ c.loop-rest.anchors ++ anchor_on line ∷ [] =
    c.in_ok-push.ensures.ok ∙ ap (λ a. c.loop-rest.anchors ++ a ∷ []) c.in-Some.ensures.value in
    subst (IsRead all rest) (sym more) (read_on all rest line c.loop-rest.anchors before follows)

pub returns : goal.returns
returns c =
    let all = lines c.args.bytes.now in
    let none = lines-empty c.loop-rest.rest.now (eqb-true (length c.loop-rest.rest.now) 0
    (sym c.is_empty.ensures ∙ c.loop-rest-test.false)) in
    let through = all_read all c.loop-rest.anchors (subst (λ rest. IsRead all rest c.loop-rest.anchors) none
    c.loop-rest.invariant) in
    record {
      anchors = through.anchors_are;
      good = through.good;
      few = through.few;
      services = subst (AllPairs (λ a b. a.from ≢ b.from)) (sym through.anchors_are) (different-good all through.good);
      bad = tt;
    }
