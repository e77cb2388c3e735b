use Rattle.tw_rbtree.specs.Standing.{HasNamed}
use Rattle.tw_rbtree.proofs.Keeping.{stands-any}
use Rattle.tw_archive.proofs.Growing.{archived-keeps, archived-sound, grown-nodes, grown-tree}
use Rattle.tw_archive.proofs.Keeping.{forest-count, keeps-on, kept-named, numbered-next, stands-at}
use Rattle.tw_archive.proofs.Numbers.{number-up_to}
use Rattle.tw_archive.proofs.Resting.{events-keep}
use Rattle.tw_archive.proofs.RootPages.{no-page, own-page}
use Rattle.tw_archive.proofs.SameNodes.{same-fresh, same-root}
use Rattle.tw_archive.proofs.laws.kept_tree_laws.Goals as goal

pub returns-clause-count : goal.returns-clause-count
returns-clause-count g c = λ ps h step_page archive keeps k within. forest-count g.H.Hasher.dig ps h step_page archive
    keeps k within

pub returns-clause-low : goal.returns-clause-low
returns-clause-low g c = λ ps step_page archive k page. number-up_to g.H.Hasher.dig ps step_page archive k page

pub returns-clause-trees : goal.returns-clause-trees
returns-clause-trees g c = λ ps h step_page archive keeps k within label. stands-at g.H.Hasher.dig ps h step_page
    archive keeps k within label

pub returns-clause-root_page : goal.returns-clause-root_page
returns-clause-root_page g c = λ ps h step_page archive keeps sound k within. (
  no-page g.H.Hasher.dig ps h step_page archive keeps sound (λ named root t stands. stands-any g.H.Hasher.dig
      (HasNamed named) ps root t stands) k within,
  own-page g.H.Hasher.dig ps h step_page archive keeps sound (λ named root t stands. stands-any g.H.Hasher.dig
      (HasNamed named) ps root t stands) k within,
)

pub returns-clause-one : goal.returns-clause-one
returns-clause-one g c = λ ps h other_history one_page other_page one other kept too count pages roots k within. (
  same-fresh g.H.Hasher.dig ps h other_history one_page other_page one other kept too count pages roots k within,
  same-root g.H.Hasher.dig ps h other_history one_page other_page one other kept too count pages roots k within,
)

pub returns-clause-next : goal.returns-clause-next
returns-clause-next g c = λ ps more h s step_page next_page archive next_archive keeps pages roots last.
    keeps-on g.H.Hasher.dig ps h step_page archive keeps more next_page next_archive pages roots s
    (kept-named g.H.Hasher.dig ps more) last

pub returns-clause-events : goal.returns-clause-events
returns-clause-events g c =
    λ ps more h s step_page next_page archive next_archive keeps pages roots none fresh same root_is older label.
    events-keep g.H.Hasher.dig ps more h s step_page next_page archive next_archive keeps pages roots none fresh same
    root_is older label

pub returns-clause-numbers : goal.returns-clause-numbers
returns-clause-numbers g c = λ ps more h step_page next_page archive next_archive keeps pages roots k within.
    numbered-next g.H.Hasher.dig ps h step_page archive keeps more next_page next_archive pages roots k within

pub returns-clause-grown : goal.returns-clause-grown
returns-clause-grown g c = λ ps more h step_page archive root grown t time keeps has.
    let nodes = grown-nodes g.H.Hasher.dig ps more h step_page archive root grown t time keeps has in (
      nodes.0,
      nodes.1,
      grown-tree g.H.Hasher.dig ps more h step_page archive root grown t time keeps has nodes.0 nodes.1,
    )

pub returns-clause-archived : goal.returns-clause-archived
returns-clause-archived g c =
    λ ps more h step_page next_page archive next_archive root grown t time nodes keeps has is pages roots root_is. (
      archived-keeps g.H.Hasher.dig ps more h step_page archive root grown t time keeps has nodes is next_page
          next_archive
          pages roots root_is,
      archived-sound g.H.Hasher.dig ps more h step_page archive root grown t time keeps has nodes is next_page
          next_archive
          pages roots root_is,
    )
