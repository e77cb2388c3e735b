use Rattle.std.proofs.Common.{◌≡◌, ◌∙◌, ◌+◌, ◌∷◌, [], ◌++◌, List, ℕ, take, subst, sym, arith}
use Rattle.std.proofs.lemmas.Grind.{common_steps}
use Rattle.std.proofs.lemmas.List.{take_more}
use Rattle.tw_outside.specs.Files.{IsReadTo, IsThere}
use Rattle.tw_filecmd.proofs.SameNames.{still_same}
use Rattle.tw_filecmd.specs.Parts.{ArePartsRead}
use Rattle.tw_filecmd.specs.declared.limits.TheConstants.{FILE_READ}
use Rattle.tw_filecmd.proofs.parts.read_parts.Goals as goal

pub loop-file-preserved : goal.loop-file-preserved
loop-file-preserved g c =
    let now = g.I.Inputs.told c.loop-file.inputs in
    let file : List ℕ = c.as_str-in-loop-file.result.now in
    let same : c.as_str.result.now ≡ file = cc in
    let there : IsThere now file = subst (λ f. IsThere now f) same c.in_ok-bytes.ensures.there in
    let read : IsReadTo now file FILE_READ c.as_slice.result.now =
    subst (λ f. IsReadTo now f FILE_READ c.as_slice.result.now) same (λ bytes tells. c.as_slice.ensures.value
    ∙ c.in_ok-bytes.ensures.read bytes tells) in
    let more : take (c.loop-file.file-index + 1) c.args.files.now ≡ take c.loop-file.file-index c.args.files.now ++ file
    ∷ [] =
    grind (arith, common_steps, take_more) in
    let next : ArePartsRead now (take c.loop-file.file-index c.args.files.now) c.loop-file.parts.proofs
    c.loop-file.parts.bad
    → ArePartsRead now (take (c.loop-file.file-index + 1) c.args.files.now) c.add.new.self.proofs c.add.new.self.bad =
    λ are. subst (λ fs. ArePartsRead now fs c.add.new.self.proofs c.add.new.self.bad) (sym more)
    (c.in_ok-add.ensures now (take c.loop-file.file-index c.args.files.now) there read are) in
    record {
      kept = c.in_ok-bytes.ensures.kept ∙ c.loop-file.invariant.kept;
      same_names = still_same g.I.Inputs.may_ask c.loop-file.invariant.same_names c.in_ok-bytes.ensures.same_names;
      later = omega (arith, c.in_ok-bytes.ensures.later, c.loop-file.invariant.later);
      read =
          subst (λ t. ArePartsRead t (take c.loop-file.file-index c.args.files.now) c.loop-file.parts.proofs
          c.loop-file.parts.bad
          → ArePartsRead t (take (c.loop-file.file-index + 1) c.args.files.now) c.add.new.self.proofs
          c.add.new.self.bad)
          c.loop-file.invariant.kept next c.loop-file.invariant.read;
    }
