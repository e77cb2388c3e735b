use Rattle.std.proofs.Common.{None, refl}
use Rattle.tw_service.proofs.Archived.{archived-is}
use Rattle.tw_service.specs.Machine.{Makes}
use Rattle.tw_service.specs.Questions.{found_bytes, pages_refusal}
use Rattle.tw_service.proofs.Questions.{held, held_all}
use Rattle.tw_service.proofs.Receptions.{receipt_kept, reception_kept}
use Rattle.tw_service.proofs.KeptAnswers.{beyond, in_range, kept_link, kept_path, kept_thread}
use Rattle.tw_service.proofs.KeptThreads.{thread_is}
use Rattle.tw_service.proofs.WholePages.{tree_at}
use Rattle.tw_laws.proofs.TreeSizes.{few-above}
use Rattle.tw_laws.proofs.services.finding_laws.Goals as goal

pub returns-clause-thread : goal.returns-clause-thread
returns-clause-thread g c = λ ps h r events time whole room limits within none short.
    kept_thread g.H.Hasher.dig (λ text. (g.met.H.Hasher.size text, g.met.H.Hasher.bytes text)) ps h r events time whole
    room limits within none short

pub returns-clause-path : goal.returns-clause-path
returns-clause-path g c = λ ps h head since keeps order. kept_path g.H.Hasher.dig
    (λ text. (g.met.H.Hasher.size text, g.met.H.Hasher.bytes text)) ps h head since keeps order

pub returns-clause-link : goal.returns-clause-link
returns-clause-link g c = λ ps h head step top keeps sound order some below.
    kept_link g.H.Hasher.dig (λ text. (g.met.H.Hasher.size text, g.met.H.Hasher.bytes text)) ps h head step top keeps
    sound order some below

pub returns-clause-event : goal.returns-clause-event
returns-clause-event g c = λ ps h head step index top keeps sound some order below inside.
    let own = in_range g.H.Hasher.dig (λ text. (g.met.H.Hasher.size text, g.met.H.Hasher.bytes text)) ps h head keeps
    sound h.name refl step index top some order below inside in
    (own.bytes, own.is, own.makes)

pub returns-clause-no_event : goal.returns-clause-no_event
returns-clause-no_event g c = λ ps h head step index top keeps sound some order below past.
    beyond g.H.Hasher.dig (λ text. (g.met.H.Hasher.size text, g.met.H.Hasher.bytes text)) ps h head keeps sound h.name
    refl step index top some order below past

pub returns-clause-received : goal.returns-clause-received
returns-clause-received g c = λ ps h r m time whole. reception_kept g.H.Hasher.dig ps h r whole m h.name time

pub returns-clause-receipt : goal.returns-clause-receipt
returns-clause-receipt g c = λ ps h r m archived whole is.
    receipt_kept g.H.Hasher.dig ps h r whole m (λ text. (g.met.H.Hasher.size text, g.met.H.Hasher.bytes text)) h.name
    archived is

pub returns-clause-archived : goal.returns-clause-archived
returns-clause-archived g c = λ ps h r t time tree_pages grown whole sound may.
    archived-is g.H.Hasher.dig (λ text. (g.met.H.Hasher.size text, g.met.H.Hasher.bytes text)) ps h r whole sound t time
    may h.name tree_pages grown

pub returns-clause-asked : goal.returns-clause-asked
returns-clause-asked g c = λ ps h r q whole sound may names order.
    held_all (found_bytes g.H.Hasher.dig ps h.name r.head q) (Makes g.H.Hasher.dig h q) (pages_refusal h q)
    (held g.H.Hasher.dig (λ text. (g.met.H.Hasher.size text, g.met.H.Hasher.bytes text)) ps h r whole sound h.name refl
    q may names order)

pub returns-clause-no_thread : goal.returns-clause-no_thread
returns-clause-no_thread g c = λ ps h r step key top whole sound some order below is.
    thread_is g.H.Hasher.dig (λ text. (g.met.H.Hasher.size text, g.met.H.Hasher.bytes text)) ps h r whole sound h.name
    refl step key top some order below None is

pub returns-clause-few : goal.returns-clause-few
returns-clause-few g c = λ ps h r whole step ask within.
    few-above g.H.Hasher.dig ps _ _ ask (tree_at g.H.Hasher.dig ps h r whole step within)
