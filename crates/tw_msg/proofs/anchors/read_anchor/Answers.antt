use Rattle.std.proofs.Common.{◌≡◌, ◌∙◌, sym, ap, subst, refl, true, false, IsSome}
use Rattle.std.specs.List.{before_first, after_first}
use Rattle.tw_base.specs.declared.kinds.limits.TheConstants.{LAST_STEP}
use Rattle.tw_base.specs.kinds.Names.{is_name_text}
use Rattle.tw_text.specs.Words.{is_number_within, is_digest}
use Rattle.tw_msg.specs.AnchorsFile.{is_blank, step_word, digest_word}
use Rattle.tw_msg.proofs.Reading.{anchor-words, words-anchor}
use Rattle.tw_msg.proofs.anchors.read_anchor.Goals as goal

pub returns-in_err-step-clause-some : goal.returns-in_err-step-clause-some
returns-in_err-step-clause-some c =
    let line = c.args.line.now in
    let step_is : c.split_at_first-2.result.0.now ≡ step_word line =
    c.split_at_first-2.ensures.before ∙ ap (λ rest. before_first is_blank rest) c.split_at_first.ensures.after in (
      λ some. let wrong : false ≡ true = subst (λ o. IsSome o) c.from_residual-in_err-step.ensures some in absurd (cc),
      λ holds. let wrong : false ≡ true = c.in_err-step.ensures.some.1
          (subst (λ word. is_number_within 1 LAST_STEP word ≡ true) (sym step_is) (anchor-words line holds).1) in
          absurd (cc),
    )

pub returns-clause-some : goal.returns-clause-some
returns-clause-some c =
    let line = c.args.line.now in
    let step_is : c.split_at_first-2.result.0.now ≡ step_word line =
    c.split_at_first-2.ensures.before ∙ ap (λ rest. before_first is_blank rest) c.split_at_first.ensures.after in
    let digest_is : c.split_at_first-2.result.1.now ≡ digest_word line =
    c.split_at_first-2.ensures.after ∙ ap (λ rest. after_first is_blank rest) c.split_at_first.ensures.after in (
      λ _. words-anchor line
          (subst (λ word. is_name_text word ≡ true) c.split_at_first.ensures.before (c.in_ok-from.ensures.some.0 refl))
          (subst (λ word. is_number_within 1 LAST_STEP word ≡ true) step_is (c.in_ok-step.ensures.some.0 refl))
          (subst (λ word. is_digest word ≡ true) digest_is (c.in_ok-auth.ensures.some.0 refl)),
      λ _. refl,
    )
