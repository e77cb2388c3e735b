use Rattle.std.proofs.Common.{sym, ap, subst, ◌∙◌}
use Rattle.tw_contradict.specs.Linking.{IsJoining, joining_by}
use Rattle.tw_contradict.proofs.Judgements.{not-empty, read-joining, read-small}
use Rattle.tw_contradict.proofs.linking.joining_of.Goals as goal

pub judge_link-requires : goal.judge_link-requires
judge_link-requires g c = rw c.link_of.ensures (read-small c.args.link.now c.in-Ok.proof c.in-Ok.ensures)

pub returns-in-Ok : goal.returns-in-Ok
returns-in-Ok g c =
    subst (IsJoining g.H.Hasher.dig c.args.one.now c.args.other.now c.args.link.now)
    (sym (c.judge_link.ensures ∙ ap (joining_by g.H.Hasher.dig c.args.one.now c.args.other.now) c.link_of.ensures))
    (read-joining g.H.Hasher.dig c.args.one.now c.args.other.now c.args.link.now
    (not-empty c.args.link.now (sym c.is_empty.ensures ∙ c.if-is_empty.false)) c.in-Ok.proof c.in-Ok.ensures)
