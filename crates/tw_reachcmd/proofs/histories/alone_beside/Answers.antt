use Rattle.std.proofs.Common.{◌≡◌, ◌∙◌, refl, subst, sym}
use Rattle.std.specs.Prelude.{None}
use Rattle.tw_base.specs.history.Family.{history_of}
use Rattle.tw_reachcmd.proofs.HistoryFiles.{none_of, some_of}
use Rattle.tw_reachcmd.proofs.histories.alone_beside.Goals as goal

pub returns-in_ok-bad_byte : goal.returns-in_ok-bad_byte
returns-in_ok-bad_byte c = (
  c.in_ok-bad_byte.ensures,
  subst (λ service. history_of c.args.before.now service ≡ None → ⊥) c.service.ensures
      (some_of c.args.before.now c.service.result.now (sym c.has_service.ensures ∙ c.if-has_service.true)),
)

pub returns-else-has_service : goal.returns-else-has_service
returns-else-has_service c = (
  refl,
  subst (λ service. history_of c.args.before.now service ≡ None) c.service.ensures
      (none_of c.args.before.now c.service.result.now (sym c.has_service.ensures ∙ c.if-has_service.false)),
)
