use Rattle.std.proofs.Common.{◌∙◌}
use Rattle.tw_base.proofs.lemmas.format.FieldLaws.{name_text-is}
use Rattle.tw_base.proofs.kinds.name.Name.text.Goals as goal

pub returns-clause-letters : goal.returns-clause-letters
returns-clause-letters c = rw c.without_zeros.ensures (name_text-is c.self.inside.bytes c.self.invariant).0

pub returns-clause-name : goal.returns-clause-name
returns-clause-name c = rw c.without_zeros.ensures ((name_text-is c.self.inside.bytes c.self.invariant).1
    ∙ c.self.view_is)
