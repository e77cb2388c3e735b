use Rattle.std.proofs.Common.{length, sym}
use Rattle.std.proofs.lemmas.List.{length-map}
use Rattle.tw_history.proofs.WritingLaws.{step_put}
use Rattle.tw_export.specs.Exporting.{step_with}
use Rattle.tw_export.specs.NodeNumbers.{numbered_node}
use Rattle.tw_export.specs.Told.{archive_so_far, numbers_in}
use Rattle.tw_export.proofs.received.put_step.Goals as goal

pub returns : goal.returns
returns c =
    step_put (step_with (archive_so_far c.args.archive.now) c.args.recorded.now c.args.content.now c.args.nodes.now
    c.args.root) c.args.text.now _ _ _ _ (length c.args.nodes.now)
    (sym (length-map c.args.nodes.now (numbered_node (numbers_in c.args.archive.now.pages) c.args.archive.now.count)))
    c.in_ok-put_recorded.ensures.0 c.in_ok-put_last_bytes.ensures.ok c.in_ok-put_nodes.ensures
    c.in_ok-put_last_bytes-2.ensures.ok
