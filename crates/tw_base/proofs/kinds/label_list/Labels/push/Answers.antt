use Rattle.std.proofs.Common.{◌∷◌, [], ◌++◌, true, false}
use Rattle.std.specs.Prelude.{is_ok, if◌then◌else◌}
use Rattle.tw_base.specs.kinds.Digests.{AllDigests}
use Rattle.tw_base.proofs.lemmas.kinds.Joined.{AllDigests-push}
use Rattle.tw_base.proofs.kinds.label_list.Labels.push.Goals as goal

pub invariant_of-self : goal.invariant_of-self
invariant_of-self c =
    let more = AllDigests-push _ c.args.label c.self.invariant c.see_digest.ensures in
    rw c.push.ensures.items (elim (is_ok c.push.result) as
    (λ t. AllDigests (if t then c.self.inside.items.items ++ c.args.label ∷ [] else c.self.inside.items.items)) [
      | true ↦ more
      | false ↦ c.self.invariant
    ])
