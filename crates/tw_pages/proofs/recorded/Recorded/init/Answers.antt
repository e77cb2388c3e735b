use Rattle.std.proofs.Common.{◌∙◌}
use Rattle.tw_pages.proofs.Begun.{leaves_new, rests_new, tells_new}
use Rattle.tw_pages.proofs.recorded.Recorded.init.Goals as goal

pub returns-in-Ok-clause-rests : goal.returns-in-Ok-clause-rests
returns-in-Ok-clause-rests g c = λ i told.
    rests_new (g.R.Record.kind g.H.Hasher.dig) c.args.root c.requires.first c.requires.begun c.as_slice.result.now
    (c.as_slice.ensures.value ∙ c.bytes-bytes.ensures.bytes) g.D.Disk.view c.in-Ok.store (c.in-Ok.ensures.made i told)

pub returns-in-Ok-clause-any_moment : goal.returns-in-Ok-clause-any_moment
returns-in-Ok-clause-any_moment g c = λ i told.
    leaves_new (g.R.Record.kind g.H.Hasher.dig) c.args.root c.requires.first c.requires.begun c.as_slice.result.now
    (c.as_slice.ensures.value ∙ c.bytes-bytes.ensures.bytes) (g.D.Disk.view c.args.disk) _
    (c.in-Ok.ensures.any_moment i told)

pub returns-in-Err-clause-any_moment_err : goal.returns-in-Err-clause-any_moment_err
returns-in-Err-clause-any_moment_err g c = λ i told.
    leaves_new (g.R.Record.kind g.H.Hasher.dig) c.args.root c.requires.first c.requires.begun c.as_slice.result.now
    (c.as_slice.ensures.value ∙ c.bytes-bytes.ensures.bytes) (g.D.Disk.view c.args.disk) _
    (c.in-Err.ensures.any_moment_err i told)

pub returns-in-Err-clause-told : goal.returns-in-Err-clause-told
returns-in-Err-clause-told g c = λ i told.
    tells_new (g.R.Record.kind g.H.Hasher.dig) c.args.root c.requires.first c.requires.begun c.as_slice.result.now
    (c.as_slice.ensures.value ∙ c.bytes-bytes.ensures.bytes) (g.D.Disk.view c.args.disk) _
    (c.in-Err.ensures.told i told)
