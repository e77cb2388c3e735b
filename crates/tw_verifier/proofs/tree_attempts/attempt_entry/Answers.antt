use Rattle.std.proofs.Common.{refl, sym}
use Rattle.tw_base.specs.declared.history.thread.Entry.{Entry as AnyEntry}
use Rattle.tw_base.specs.history.EntryCodec.{entry_codec}
use Rattle.tw_base.proofs.lemmas.history.EntryCodecLaws.{entry-lawful}
use Rattle.tw_pieces.proofs.SegmentLaws.{attempts-ended, attempts-missed}
use Rattle.tw_verifier.specs.declared.stage.Stage.TheVariants.{Entry, Tree}
use Rattle.tw_verifier.specs.Stages.{behind_entry, rest}
use Rattle.tw_verifier.proofs.StageLaws.{entry-goes, entry-nothing, entry-within}
use Rattle.tw_verifier.proofs.tree_attempts.attempt_entry.Goals as goal

pub asked_by-requires : goal.asked_by-requires
asked_by-requires c = entry-within c.in-Ok.entry c.in-Ok.ensures.takes.1

pub returns-in-Ok : goal.returns-in-Ok
returns-in-Ok c = λ dig anchors.
    attempts-ended (rest dig anchors) entry_codec entry-lawful (behind_entry dig anchors c.args.shower) entry-nothing
    (Entry c.args.shower) (Tree c.asked_by.result) c.args.held.now
    c.take_entry.new.at c.in-Ok.entry refl (sym (c.asked_by.ensures dig anchors)) c.in-Ok.ensures.takes.0

pub returns-in-Err : goal.returns-in-Err
returns-in-Err c = λ dig anchors.
    attempts-missed (rest dig anchors) entry_codec entry-lawful (behind_entry dig anchors c.args.shower)
    (λ entry fits. entry-goes dig anchors c.args.shower entry) (λ (e : AnyEntry). e)
    (Entry c.args.shower) c.args.held.now c.take_entry.new.at c.in-Err.fault c.missed.result refl c.in-Err.ensures.takes
    c.missed.ensures
