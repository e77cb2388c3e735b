use Rattle.tw_base.specs.history.Tree.{entries}
use Rattle.tw_rbtree.specs.Ways.{end_of_way, nowhere}
use Rattle.tw_rbtree.proofs.RootWays.{after-found, before-found, root-way, so-found, with-found}
use Rattle.tw_rbtree.proofs.PageLaws.{is-root, root-is}
use Rattle.tw_rbtree.proofs.Fullness.{insert-finds}
use Rattle.tw_rbtree.proofs.Latest.{latest}
use Rattle.tw_rbtree.proofs.StandingLaws.{root-key, stands-ranges}
use Rattle.tw_rbtree.proofs.laws.standing_laws.Goals as goal

pub returns-clause-page : goal.returns-clause-page
returns-clause-page g c = λ ps page p. (is-root g.H.Hasher.dig ps page p, root-is g.H.Hasher.dig ps page p)

pub returns-clause-get : goal.returns-clause-get
returns-clause-get g c = λ ps root t key stands. with-found g.H.Hasher.dig ps root t key stands

pub returns-clause-before : goal.returns-clause-before
returns-clause-before g c = λ ps root t key stands. before-found g.H.Hasher.dig ps root t key stands

pub returns-clause-after : goal.returns-clause-after
returns-clause-after g c = λ ps root t key stands. after-found g.H.Hasher.dig ps root t key stands

pub returns-clause-path : goal.returns-clause-path
returns-clause-path g c = λ ps root t ask stands.
    let w = root-way g.H.Hasher.dig ps ask root t stands in
    (w.stops, w.found, so-found g.H.Hasher.dig ps root t ask (end_of_way nowhere w.stops) w.tells, w.proof)

pub returns-clause-present : goal.returns-clause-present
returns-clause-present g c = λ ps root e. root-key e g.H.Hasher.dig ps root

pub returns-clause-ranges : goal.returns-clause-ranges
returns-clause-ranges g c = λ ps root t stands. stands-ranges g.H.Hasher.dig ps root t stands

pub returns-clause-latest : goal.returns-clause-latest
returns-clause-latest g c = λ ps root t name e stands there same. latest (entries t) stands.rising
    (stands-ranges g.H.Hasher.dig ps root t stands) name e there same

pub returns-clause-room : goal.returns-clause-room
returns-clause-room g c = λ ps root t key stands few. insert-finds g.H.Hasher.dig ps root t key stands few
