use Rattle.std.proofs.Common.{◌≡◌, ◌∙◌, ◌+◌, ◌∷◌, [], ◌++◌, List, ℕ, take, subst, sym, arith}
use Rattle.std.proofs.lemmas.Grind.{common_steps}
use Rattle.std.proofs.lemmas.List.{take_more}
use Rattle.tw_base.specs.kinds.Lists.{Each}
use Rattle.tw_base.proofs.lemmas.kinds.ListLemmas.{Each-append}
use Rattle.tw_outside.specs.Files.{IsReadTo, IsThere}
use Rattle.tw_filecmd.proofs.SameNames.{still_same}
use Rattle.tw_reachcmd.proofs.gathering.read_files.Goals as goal

pub loop-file-preserved : goal.loop-file-preserved
loop-file-preserved g c =
    let told = g.I.Inputs.told c.args.inputs.now in
    let now = g.I.Inputs.told c.loop-file.inputs in
    let same_told : now ≡ told = c.loop-file.invariant.kept in
    let room : ℕ = g.G.Gathers.room_of c.loop-file.into in
    let file : List ℕ = c.as_str-in-loop-file.result.now in
    let same : c.as_str.result.now ≡ file = cc in
    let there : IsThere told file = subst (λ t. IsThere t file) same_told
    (subst (λ f. IsThere now f) same c.in_ok-bytes.ensures.there) in
    let read : IsReadTo told file room c.as_slice.result.now =
    subst (λ t. IsReadTo t file room c.as_slice.result.now) same_told
    (subst (λ f. IsReadTo now f room c.as_slice.result.now) same
    (subst (λ n. IsReadTo now c.as_str.result.now n c.as_slice.result.now) c.room.ensures
    (λ bytes tells. c.as_slice.ensures.value ∙ c.in_ok-bytes.ensures.read bytes tells))) in
    let more : take (c.loop-file.file-index + 1) c.args.files.now ≡ take c.loop-file.file-index c.args.files.now ++ file
    ∷ [] =
    grind (arith, common_steps, take_more) in
    record {
      kept = c.in_ok-bytes.ensures.kept ∙ c.loop-file.invariant.kept;
      same_names = still_same g.I.Inputs.may_ask c.loop-file.invariant.same_names c.in_ok-bytes.ensures.same_names;
      later = omega (arith, c.in_ok-bytes.ensures.later, c.loop-file.invariant.later);
      holds = c.in_ok-add.ensures.holds;
      there =
          subst (λ fs. Each (IsThere told) fs) (sym more)
          (Each-append (IsThere told) (take c.loop-file.file-index c.args.files.now) (file ∷ [])
          c.loop-file.invariant.there (there, tt));
      read = λ begun.
          subst (λ fs. g.G.Gathers.reads told fs c.add.new.self) (sym more)
          (c.in_ok-add.ensures.read told (take c.loop-file.file-index c.args.files.now) read
          (c.loop-file.invariant.read begun));
    }
