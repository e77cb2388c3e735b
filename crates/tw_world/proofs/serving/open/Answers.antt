use Rattle.tw_world.proofs.AnsweredCalls.{if-ok}
use Rattle.tw_world.proofs.Opened.{opened-only}
use Rattle.tw_world.proofs.Resting.{same-image}
use Rattle.tw_world.proofs.serving.open.Goals as goal

pub returns-clause-serves : goal.returns-clause-serves
returns-clause-serves c = if-ok c.service_of.result _ _ (λ service is. λ h stands.
    let served = rw is at c.open.ensures.served in
    served stands.image h.name h stands.told stands.has) c.service_of.ensures.service

pub returns-clause-whole : goal.returns-clause-whole
returns-clause-whole c = if-ok c.service_of.result _ _ (λ service is. rw is at c.open.ensures.whole)
    c.service_of.ensures.service

pub returns-clause-opens : goal.returns-clause-opens
returns-clause-opens c = if-ok c.service_of.result _ _ (λ service is.
    let same = rw is at c.open.ensures.unchanged in
    let since = rw is at c.open.ensures.any_moment in
    (same-image _ _ same, since)) c.service_of.ensures.service

pub service_of-requires : goal.service_of-requires
service_of-requires c =
    let stands = c.requires.1 in
    opened-only _ _ c.open.result (c.open.ensures.served stands.image c.requires.0.name c.requires.0 stands.told
    stands.has)
