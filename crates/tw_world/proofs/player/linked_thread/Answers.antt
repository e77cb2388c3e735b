use Rattle.std.proofs.Common.{refl, rules, subst}
use Rattle.tw_base.specs.format.Formats.{Spells}
use Rattle.tw_chain.specs.Proofs.{proof_layout}
use Rattle.tw_chain.specs.declared.proof.Proof.{Proof}
use Rattle.tw_world.proofs.ToldLines.{read-linked}
use Rattle.tw_world.proofs.player.linked_thread.Goals as goal
use Rattle.tw_world.proofs.player.linked_thread.Goals.{in_default-via-in-Err+in_default}
use Rattle.tw_world.proofs.player.linked_thread.Goals.{in_default-via-in-Ok+in_default}

pub returns-in-Ok-Linked : goal.returns-in-Ok-Linked
returns-in-Ok-Linked c = (
  c.in-Ok-Linked.link,
  subst (λ (p : Proof). Spells proof_layout c.args.bytes.now p) c.in-Ok-Linked.field-0-is c.in-Ok-Linked.ensures,
  refl,
)

pub unreachable-requires : goal.unreachable-requires
unreachable-requires c =
    let read = read-linked c.args.bytes.now c.requires.0 c.read_proof.result c.requires.1 c.read_proof.ensures in
    elim c.in_default.branch [
      | in_default-via-in-Ok+in_default w ↦ search rules
      | in_default-via-in-Err+in_default w ↦ search rules
    ]
