use Rattle.std.proofs.Common.{◌≡◌, ◌∙◌, ◌+◌, ◌∷◌, [], ◌++◌, List, ℕ, take, ap, append_assoc, subst, sym, arith}
use Rattle.std.proofs.lemmas.Grind.{common_steps}
use Rattle.std.proofs.lemmas.List.{take_more}
use Rattle.tw_base.specs.kinds.Lists.{Each}
use Rattle.tw_base.proofs.lemmas.kinds.ListLemmas.{Each-append}
use Rattle.tw_outside.specs.Files.{IsReadTo, IsThere}
use Rattle.tw_filecmd.proofs.SameNames.{still_same}
use Rattle.tw_filecmd.specs.declared.limits.TheConstants.{FILE_READ}
use Rattle.tw_reachcmd.specs.AdoptReading.{AreReadTo}
use Rattle.tw_reachcmd.proofs.AdoptFiles.{read-snoc}
use Rattle.tw_reachcmd.proofs.adopting.put_files.Goals as goal

pub loop-file-preserved : goal.loop-file-preserved
loop-file-preserved g c =
    let told = g.I.Inputs.told c.args.inputs.now in
    let now = g.I.Inputs.told c.loop-file.inputs in
    let same_told : now ≡ told = c.loop-file.invariant.kept in
    let file : List ℕ = c.as_str.result.now in
    let bytes : List ℕ = c.in_ok-bytes.bytes.items in
    let there : IsThere told file = subst (λ t. IsThere t file) same_told c.in_ok-bytes.ensures.there in
    let read : IsReadTo told file FILE_READ bytes = subst (λ t. IsReadTo t file FILE_READ bytes) same_told
    c.in_ok-bytes.ensures.read in
    let files : List (List ℕ) = take c.loop-file.file-index c.args.files.now in
    let more : take (c.loop-file.file-index + 1) c.args.files.now ≡ files ++ file ∷ [] =
    grind (arith, common_steps, take_more) in
    record {
      kept = c.in_ok-bytes.ensures.kept ∙ c.loop-file.invariant.kept;
      same_names = still_same g.I.Inputs.may_ask c.loop-file.invariant.same_names c.in_ok-bytes.ensures.same_names;
      later = omega (arith, c.in_ok-bytes.ensures.later, c.loop-file.invariant.later);
      there =
          subst (λ fs. Each (IsThere told) fs) (sym more) (Each-append (IsThere told) files (file ∷ [])
          c.loop-file.invariant.there (there, tt));
      read = λ before begun.
          let grown : List (List ℕ) = c.loop-file.proofs ++ bytes ∷ [] in
          let all : c.push.new.self ≡ grown = c.in_ok-push.ensures.ok ∙ ap (λ b. c.loop-file.proofs ++ b ∷ [])
          c.from_vec.ensures in
          let names : before ++ take (c.loop-file.file-index + 1) c.args.files.now ≡ (before ++ files) ++ file ∷ [] =
          ap (λ fs. before ++ fs) more ∙ sym (append_assoc before files (file ∷ [])) in
          subst (λ fs. AreReadTo told FILE_READ fs c.push.new.self) (sym names)
          (subst (λ ps. AreReadTo told FILE_READ ((before ++ files) ++ file ∷ []) ps) (sym all)
          (read-snoc told FILE_READ (before ++ files) c.loop-file.proofs file bytes
          (c.loop-file.invariant.read before begun) read));
    }
