use Rattle.std.proofs.Common.{subst, sym}
use Rattle.tw_archive.specs.Judging.{IsJudgementFor}
use Rattle.tw_archive.proofs.Judged.{is-told}
use Rattle.tw_archive.proofs.judging.judge_in.Goals as goal

pub returns-clause-told : goal.returns-clause-told
returns-clause-told g c =
    subst (IsJudgementFor g.H.Hasher.dig c.args.message.now) (sym c.judge.ensures)
    (is-told g.H.Hasher.dig c.in_ok-known.known c.in_ok-last.last c.args.message.now c.in_ok-known.ensures.entry
    c.in_ok-last.ensures.entry)
