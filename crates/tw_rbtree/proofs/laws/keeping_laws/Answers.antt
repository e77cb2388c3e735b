use Rattle.tw_rbtree.specs.Standing.{HasNamed, any_page}
use Rattle.tw_rbtree.proofs.Keeping.{root-once, stands-any, stands-kept, stands-once, stands-unnamed}
use Rattle.tw_rbtree.proofs.laws.keeping_laws.Goals as goal

pub returns-clause-kept : goal.returns-clause-kept
returns-clause-kept g c = λ ps more root t stands. stands-kept g.H.Hasher.dig any_page ps more root t stands

pub returns-clause-kept_named : goal.returns-clause-kept_named
returns-clause-kept_named g c = λ ps more named root t stands. stands-kept g.H.Hasher.dig (HasNamed named) ps more root
    t stands

pub returns-clause-any : goal.returns-clause-any
returns-clause-any g c = λ ps named root t stands. stands-any g.H.Hasher.dig (HasNamed named) ps root t stands

pub returns-clause-unnamed : goal.returns-clause-unnamed
returns-clause-unnamed g c = λ ps named root t none stands. stands-unnamed g.H.Hasher.dig named ps none root t stands

pub returns-clause-once : goal.returns-clause-once
returns-clause-once g c = λ ps root s t one other. stands-once g.H.Hasher.dig any_page ps root s t one other

pub returns-clause-page : goal.returns-clause-page
returns-clause-page g c = λ ps page s t one other. root-once g.H.Hasher.dig any_page ps page s t one other
