use Rattle.tw_skiplist.proofs.KeptAppended.{grown}
use Rattle.tw_skiplist.proofs.KeptEvents.{events_are}
use Rattle.tw_skiplist.proofs.KeptReadings.{events_found, here_found, link_found, path_found, proof_found, step_found}
use Rattle.tw_skiplist.proofs.RecordLaws.{content_found, records_found}
use Rattle.tw_skiplist.proofs.laws.reading_laws.Goals as goal

pub returns-clause-step : goal.returns-clause-step
returns-clause-step g c = λ ps h head i keeps some order. step_found g.H.Hasher.dig
    (λ text. (g.met.H.Hasher.size text, g.met.H.Hasher.bytes text)) ps h head keeps i some order

pub returns-clause-here : goal.returns-clause-here
returns-clause-here g c = λ ps h head link i keeps some order at page. here_found g.H.Hasher.dig
    (λ text. (g.met.H.Hasher.size text, g.met.H.Hasher.bytes text)) ps h head keeps link i some order at page

pub returns-clause-link : goal.returns-clause-link
returns-clause-link g c = λ ps h head n i keeps order below. link_found g.H.Hasher.dig
    (λ text. (g.met.H.Hasher.size text, g.met.H.Hasher.bytes text)) ps h head keeps n i order below

pub returns-clause-path : goal.returns-clause-path
returns-clause-path g c = λ ps h head n i keeps order below. path_found g.H.Hasher.dig
    (λ text. (g.met.H.Hasher.size text, g.met.H.Hasher.bytes text)) ps h head keeps n i order below

pub returns-clause-proof : goal.returns-clause-proof
returns-clause-proof g c = λ ps h head top i keeps some order below. proof_found g.H.Hasher.dig
    (λ text. (g.met.H.Hasher.size text, g.met.H.Hasher.bytes text)) ps h head keeps top i some order below

pub returns-clause-events_of : goal.returns-clause-events_of
returns-clause-events_of g c = events_are

pub returns-clause-events : goal.returns-clause-events
returns-clause-events g c = λ ps h head i keeps some order. events_found g.H.Hasher.dig
    (λ text. (g.met.H.Hasher.size text, g.met.H.Hasher.bytes text)) ps h head keeps i some order

pub returns-clause-records : goal.returns-clause-records
returns-clause-records g c = λ ps h head keeps. records_found g.H.Hasher.dig
    (λ text. (g.met.H.Hasher.size text, g.met.H.Hasher.bytes text)) ps h head keeps

pub returns-clause-content : goal.returns-clause-content
returns-clause-content g c = λ ps h head i s keeps some order there. content_found g.H.Hasher.dig
    (λ text. (g.met.H.Hasher.size text, g.met.H.Hasher.bytes text)) ps h head keeps i s some order there

pub returns-clause-appended : goal.returns-clause-appended
returns-clause-appended g c = λ ps h head content archive time keeps short.
    let own = grown g.H.Hasher.dig (λ text. (g.met.H.Hasher.size text, g.met.H.Hasher.bytes text)) ps h head keeps
    content archive time short in
    (own.more, own.new, own.is, own.keeps)
