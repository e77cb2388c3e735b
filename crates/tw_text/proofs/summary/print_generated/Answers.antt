use Rattle.std.proofs.Common.{◌≡◌, IfOk, List, ℕ, ◌++◌, false, sym, subst}
use Rattle.std.specs.Prelude.{codes}
use Rattle.serde_json.specs.Data.{Data}
use Rattle.serde_json.specs.Written.{compact_text, has_float}
use Rattle.tw_text.proofs.SummaryLaws.{generated-whole}
use Rattle.tw_text.proofs.summary.print_generated.Goals as goal

pub print_value-requires : goal.print_value-requires
print_value-requires c = let P : Data → Type 0 = λ d. has_float d ≡ false in subst P (sym c.in_ok-value.ensures)
    (generated-whole c.args.stands c.args.high c.args.hops c.args.low c.args.steps c.args.threads)

pub returns : goal.returns
returns c = let P : Data → Type 0 = λ d. IfOk c.print_value.result (λ (text : List ℕ). text ≡ compact_text d ++ codes
    "\n") in subst P c.in_ok-value.ensures c.print_value.ensures
