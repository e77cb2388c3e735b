use Rattle.std.proofs.Common.{◌∙◌, ◌∷◌, [], subst}
use Rattle.tw_base.specs.kinds.Lists.{Each}
use Rattle.tw_base.proofs.lemmas.kinds.ListLemmas.{Each-map}
use Rattle.tw_outside.specs.Asked.{asked}
use Rattle.tw_outside.specs.Files.{IsReadTo, IsThere}
use Rattle.tw_filecmd.proofs.AnchorFronts.{file_limit}
use Rattle.tw_reachcmd.specs.AdoptReading.{AreReadTo}
use Rattle.tw_reachcmd.proofs.AdoptFiles.{read-some, refuses_history, short_file, takes}
use Rattle.tw_reachcmd.proofs.adopting.adopt_files.Goals as goal

pub read_proofs-requires-clause-more : goal.read_proofs-requires-clause-more
read_proofs-requires-clause-more g c =
    Each-map (g.I.Inputs.may_ask c.args.inputs.now) (g.I.Inputs.may_ask c.read_all-2.new.inputs) c.args.more.now
    (λ other may. (c.in_ok-lines.ensures.same_names other).1 ((c.in_ok-bytes.ensures.same_names other).1 may))
    c.requires.more

pub take_under-requires-clause-short : goal.take_under-requires-clause-short
take_under-requires-clause-short g c = short_file c.in_ok-bytes.bytes.items c.in-Ok.read c.in-Ok.ensures

pub take_under-requires-clause-some : goal.take_under-requires-clause-some
take_under-requires-clause-some g c =
    read-some (g.I.Inputs.told c.read_all-2.new.inputs) file_limit c.args.proof.now c.args.more.now
    c.in_ok-proofs.proofs c.in_ok-proofs.ensures.read

pub returns-in-Ok : goal.returns-in-Ok
returns-in-Ok g c =
    let told = g.I.Inputs.told c.args.inputs.now in
    let bytes = c.in_ok-bytes in
    let lines = c.in_ok-lines in
    let proofs = c.in_ok-proofs in
    let same = lines.ensures.kept ∙ bytes.ensures.kept in
    takes (asked told (g.I.Inputs.faults c.args.inputs.now) (g.I.Inputs.faults c.read_proofs.new.inputs))
    c.args.history.now c.args.anchors.now
    (c.args.proof.now ∷ c.args.more.now) bytes.bytes.items c.as_slice.result.now bytes.ensures.there bytes.ensures.read
    (subst (λ t. IsThere t c.args.anchors.now) bytes.ensures.kept lines.ensures.there)
    (subst (λ t. Each (IsThere t) (c.args.proof.now ∷ c.args.more.now)) same proofs.ensures.there)
    c.in-Ok.read c.in-Ok.ensures proofs.proofs c.take_under.result
    (λ all tells. c.as_slice.ensures.value ∙ (subst (λ t. IsReadTo t c.args.anchors.now file_limit lines.lines.items)
    bytes.ensures.kept lines.ensures.read) all tells)
    (subst (λ t. AreReadTo t file_limit (c.args.proof.now ∷ c.args.more.now) proofs.proofs) same proofs.ensures.read)
    c.take_under.ensures

pub returns : goal.returns
returns g c =
    let told = g.I.Inputs.told c.args.inputs.now in
    let bytes = c.in_ok-bytes in
    let lines = c.in_ok-lines in
    let proofs = c.in_ok-proofs in
    refuses_history (asked told (g.I.Inputs.faults c.args.inputs.now) (g.I.Inputs.faults c.read_proofs.new.inputs))
    c.args.history.now c.args.anchors.now
    (c.args.proof.now ∷ c.args.more.now) bytes.bytes.items [] bytes.ensures.there bytes.ensures.read
    (subst (λ t. IsThere t c.args.anchors.now) bytes.ensures.kept lines.ensures.there)
    (subst (λ t. Each (IsThere t) (c.args.proof.now ∷ c.args.more.now)) (lines.ensures.kept ∙ bytes.ensures.kept)
    proofs.ensures.there)
    c.in-Err.fault c.in-Err.ensures
