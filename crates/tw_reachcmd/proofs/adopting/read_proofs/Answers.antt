use Rattle.std.proofs.Common.{◌∷◌, [], subst, sym}
use Rattle.tw_base.specs.kinds.Lists.{Each}
use Rattle.tw_base.proofs.lemmas.kinds.ListLemmas.{Each-map}
use Rattle.tw_outside.specs.Files.{IsThere}
use Rattle.tw_filecmd.specs.declared.limits.TheConstants.{FILE_READ}
use Rattle.tw_reachcmd.specs.AdoptReading.{AreReadTo}
use Rattle.tw_reachcmd.proofs.adopting.read_proofs.Goals as goal

pub put_files-requires : goal.put_files-requires
put_files-requires g c =
    Each-map (g.I.Inputs.may_ask c.args.inputs.now) (g.I.Inputs.may_ask c.read_all.new.inputs) c.args.more.now
    (λ other may. (c.read_all.ensures.same_names other).1 may) c.requires.more

pub returns-in-Ok-clause-there : goal.returns-in-Ok-clause-there
returns-in-Ok-clause-there g c = (
  c.in_ok-bytes.ensures.there,
  subst (λ t. Each (IsThere t) c.args.more.now) c.in_ok-bytes.ensures.kept c.in-Ok.ensures.there,
)

pub returns-in-Ok-clause-read : goal.returns-in-Ok-clause-read
returns-in-Ok-clause-read g c =
    let told = g.I.Inputs.told c.args.inputs.now in
    let now = g.I.Inputs.told c.read_all.new.inputs in
    let same = c.in_ok-bytes.ensures.kept in
    subst (λ t. AreReadTo t FILE_READ (c.args.proof.now ∷ c.args.more.now) c.put_files.new.proofs) same
    (c.in-Ok.ensures.read (c.args.proof.now ∷ [])
    (subst (λ ps. AreReadTo now FILE_READ (c.args.proof.now ∷ []) ps) (sym c.in_ok-proofs.ensures)
    (subst (λ t. AreReadTo t FILE_READ (c.args.proof.now ∷ []) (c.in_ok-bytes.bytes.items ∷ [])) (sym same)
    (c.in_ok-bytes.ensures.read, tt))))
