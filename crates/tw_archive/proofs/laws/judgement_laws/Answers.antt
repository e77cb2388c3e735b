use Rattle.std.proofs.Common.{◌≡◌, List, ℕ}
use Rattle.tw_base.specs.declared.history.thread.Entry.{Entry}
use Rattle.tw_base.specs.history.Limits.{IsEntryInRange}
use Rattle.tw_base.specs.history.Tree.{IsRising, entries}
use Rattle.tw_base.specs.kinds.Lists.{Each, In}
use Rattle.tw_rbtree.proofs.Latest.{latest}
use Rattle.tw_archive.proofs.Accepting.{accepts, forks, knows}
use Rattle.tw_archive.proofs.Causes.{judged-accepted, judged-forked, judged-known}
use Rattle.tw_archive.proofs.Judged.{judgement-found, last-found}
use Rattle.tw_archive.proofs.Peers.{IsLatest, last-is, without-last}
use Rattle.tw_archive.specs.Judging.{peer_end}
use Rattle.tw_archive.proofs.laws.judgement_laws.Goals as goal

latest_of : (es : List Entry) → IsRising es → Each IsEntryInRange es → (peer : List ℕ) (e : Entry) → In e es
    → e.thread.from ≡ peer → IsLatest peer es e
latest_of es rising ranges peer e there same = latest es rising ranges peer e there same

pub returns-clause-found_last : goal.returns-clause-found_last
returns-clause-found_last g c = λ ps root t peer stands. last-found g.H.Hasher.dig ps root (entries t) peer
    (λ key. c.standing_laws.ensures.before ps root t key stands)

pub returns-clause-found : goal.returns-clause-found
returns-clause-found g c = λ ps root t m stands.
    judgement-found g.H.Hasher.dig ps root (entries t) m (λ key. c.standing_laws.ensures.get ps root t key stands)
    (λ e there same. c.standing_laws.ensures.latest ps root t m.thread.from e stands there same)
    (last-found g.H.Hasher.dig ps root (entries t) m.thread.from (λ key. c.standing_laws.ensures.before ps root t key
    stands))

pub returns-clause-last : goal.returns-clause-last
returns-clause-last g c = λ es peer e rising ranges is.
    last-is peer es (latest_of es rising ranges peer) e
    (λ below. (c.asking_laws.ensures.below es (peer_end peer) e rising below).has) is

pub returns-clause-no_last : goal.returns-clause-no_last
returns-clause-no_last g c = λ es peer rising ranges none. without-last peer es (latest_of es rising ranges peer) none

pub returns-clause-knows : goal.returns-clause-knows
returns-clause-knows g c = λ es m e rising there same. knows g.H.Hasher.dig es m e rising there same

pub returns-clause-forks : goal.returns-clause-forks
returns-clause-forks g c = λ es m e rising there key other. forks g.H.Hasher.dig es m e rising there key other

pub returns-clause-known : goal.returns-clause-known
returns-clause-known g c = λ es m archived is. judged-known g.H.Hasher.dig es m archived is

pub returns-clause-forked : goal.returns-clause-forked
returns-clause-forked g c = λ es m step kept offered is. judged-forked g.H.Hasher.dig es m step kept offered is

pub returns-clause-accepted : goal.returns-clause-accepted
returns-clause-accepted g c = λ es m rising ranges linked is. judged-accepted g.H.Hasher.dig es m
    (latest_of es rising ranges m.thread.from) linked is

pub returns-clause-accepts : goal.returns-clause-accepts
returns-clause-accepts g c = λ es h since m rising ranges is at kept more.
    accepts g.H.Hasher.dig es h since m is (c.history_message_laws.ensures.leads h since m is)
    (latest_of es rising ranges h.name) at kept more
