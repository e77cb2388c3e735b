use Rattle.std.proofs.Common.{◌≡◌, IfOk, List, ℕ, ◌++◌, ◌∙◌, false, ap, sym, subst}
use Rattle.std.specs.Prelude.{codes}
use Rattle.serde_json.specs.Data.{Data, no_members, object}
use Rattle.serde_json.specs.View.{view}
use Rattle.serde_json.specs.Written.{compact_text, has_float}
use Rattle.tw_base.specs.declared.history.thread.Key.{Key}
use Rattle.tw_text.specs.Summaries.{replayed_of_values, with_services}
use Rattle.tw_text.proofs.SummaryLaws.{replayed-whole}
use Rattle.tw_text.proofs.summary.print_replayed.Goals as goal

pub print_value-requires : goal.print_value-requires
print_value-requires c =
    let of : Data → Data = replayed_of_values c.args.accepted c.args.none c.args.refused c.args.rejected in
    let P : Data → Type 0 = λ d. has_float d ≡ false in
    subst P (sym (c.in_ok-value.ensures ∙ ap of (c.in_ok-steps.ensures
    ∙ ap (λ (ks : List Key). object (with_services no_members ks)) c.as_slice.ensures)))
    (replayed-whole c.args.accepted c.args.none c.args.refused c.args.rejected c.args.services.now)

pub returns : goal.returns
returns c =
    let of : Data → Data = replayed_of_values c.args.accepted c.args.none c.args.refused c.args.rejected in
    let P : Data → Type 0 = λ d. IfOk c.print_value.result (λ (text : List ℕ). text ≡ compact_text d ++ codes "\n") in
    subst P (c.in_ok-value.ensures ∙ ap of (c.in_ok-steps.ensures
    ∙ ap (λ (ks : List Key). object (with_services no_members ks)) c.as_slice.ensures)) c.print_value.ensures
