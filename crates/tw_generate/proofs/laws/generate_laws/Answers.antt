-- Each law, from what stands wherever acts lead.
use Rattle.std.proofs.Common.{◌≢◌, ◌∙◌, ap, refl, subst, sym, arith}
use Rattle.tw_base.specs.declared.history.thread.Thread.{Thread}
use Rattle.tw_base.specs.history.Tree.{entries, tree}
use Rattle.tw_base.proofs.lemmas.history.Trees.{tree-rises}
use Rattle.tw_join.specs.Joining.{joined_proof}
use Rattle.tw_join.specs.Joining.Taken.{Nothing}
use Rattle.tw_service.specs.Machine.{Makes, last_thread}
use Rattle.tw_service.proofs.ReceivingLaws.{accept-archives, archive-ranges, known-known}
use Rattle.tw_generate.specs.Schedules.Who.{Alpha, Gamma}
use Rattle.tw_generate.specs.Summing.{high_side, last, low_side, trio_family, trio_heads}
use Rattle.tw_generate.proofs.Accepted.{head-found}
use Rattle.tw_generate.proofs.Acts.{played-stands}
use Rattle.tw_generate.proofs.AskedParts.{asked, asked-parts}
use Rattle.tw_generate.proofs.Claimed.{accepted-told, accepted-verdict, claim-accepted, parts-are}
use Rattle.tw_generate.proofs.Ends.{all-heard, some-steps}
use Rattle.tw_generate.proofs.NotRefused.{schedule-goes}
use Rattle.tw_generate.proofs.Parts.{made-of}
use Rattle.tw_generate.proofs.SixParts.{parts-join, whole}
use Rattle.tw_generate.proofs.Standing.{AllHad, each-who}
use Rattle.tw_generate.proofs.laws.generate_laws.Goals as goal

pub returns-clause-goes : goal.returns-clause-goes
returns-clause-goes g c = λ number rounds short.
    let dig = g.H.Hasher.dig in
    let laws = c.judgement_laws.ensures in
    schedule-goes dig laws.last laws.no_last
    (λ h peer since m time sound other is at kept more room. accept-archives dig h m time
    (subst (λ (thread : Thread). thread.from ≢ h.name) (sym is.thread) other)
    (laws.accepts (entries (tree h (last h))) peer since m (tree-rises h sound (last h))
    (archive-ranges h sound (last h)) is at kept more) room)
    (λ h m time e sound other there same. known-known dig h m time e.archived other
    (laws.knows (entries (tree h (last h))) m e (tree-rises h sound (last h)) there same))
    number rounds short

pub returns-clause-sound : goal.returns-clause-sound
returns-clause-sound g c = λ number rounds t led. (played-stands g.H.Hasher.dig number rounds t led.0 led.1).sound

pub returns-clause-present : goal.returns-clause-present
returns-clause-present g c = λ number rounds t who step e led is.
    each-who g.H.Hasher.dig (AllHad g.H.Hasher.dig (trio_family t)) who t (played-stands g.H.Hasher.dig number rounds t
    led.0 led.1).had step e is

pub returns-clause-found : goal.returns-clause-found
returns-clause-found g c = λ number rounds t led enough.
    let heard = all-heard g.H.Hasher.dig number rounds t led enough in
    (heard.first.of_alpha, heard.of_beta, heard.first.is_of_alpha, heard.is_of_beta)

pub returns-clause-asked : goal.returns-clause-asked
returns-clause-asked g c = λ number rounds t led. asked g.H.Hasher.dig number rounds t led

pub returns-clause-asked_parts : goal.returns-clause-asked_parts
returns-clause-asked_parts g c = λ number rounds t of_alpha of_beta led first_alpha first_beta. asked-parts
    g.H.Hasher.dig number rounds t led of_alpha of_beta first_alpha first_beta

pub returns-clause-joined : goal.returns-clause-joined
returns-clause-joined g c = λ number rounds t of_alpha of_beta parts led first_alpha first_beta are.
    let dig = g.H.Hasher.dig in
    let six = parts-are dig c.proof_laws.ensures.once t _ (played-stands dig number rounds t led.0 led.1)
    (some-steps dig number rounds t led) of_alpha of_beta parts first_alpha first_beta are in
    (whole six.six, ap (joined_proof Nothing 1) six.are ∙ parts-join six.six six.fit)

pub returns-clause-accepted : goal.returns-clause-accepted
returns-clause-accepted g c = λ number rounds t bytes led is.
    let dig = g.H.Hasher.dig in
    let stand = played-stands dig number rounds t led.0 led.1 in
    let some = some-steps dig number rounds t led in
    accepted-verdict dig c.proof_laws.ensures.once t _ stand some bytes
    (claim-accepted dig c.proof_laws.ensures.once t _ stand some c.joining_laws.ensures.joined
    c.joining_laws.ensures.joined_spelled c.completeness_laws.ensures.own rounds bytes is)

pub returns-clause-mapped : goal.returns-clause-mapped
unfolding Makes
returns-clause-mapped g c = λ number rounds t low_bytes high_bytes led is_low is_high.
    let dig = g.H.Hasher.dig in
    let stand = played-stands dig number rounds t led.0 led.1 in
    let some = some-steps dig number rounds t led in
    let low = made-of dig t.alpha (low_side t) low_bytes is_low in
    let high = made-of dig t.gamma (high_side t) high_bytes is_high in
    record {
      low_file = low.0;
      low_spelled = low.1;
      high_file = high.0;
      high_spelled = high.1;
      upto = last t.gamma;
      is_accepted = c.map_laws.ensures.own t.alpha t.gamma (last t.alpha) (last t.alpha) (last t.gamma) low.0 high.0
          (trio_heads dig t) stand.sound.0 stand.sound.1.1.0 (some Alpha) (omega arith)
          (omega arith) (some Gamma) (omega arith) low.2 high.2
          (last_thread dig t.alpha, head-found dig Alpha t stand.names, refl)
          (last_thread dig t.gamma, head-found dig Gamma t stand.names, refl);
    }

pub returns-clause-audited : goal.returns-clause-audited
returns-clause-audited g c = λ number rounds t bytes result led is audit.
    let dig = g.H.Hasher.dig in
    let stand = played-stands dig number rounds t led.0 led.1 in
    let some = some-steps dig number rounds t led in
    let a = claim-accepted dig c.proof_laws.ensures.once t _ stand some c.joining_laws.ensures.joined
    c.joining_laws.ensures.joined_spelled c.completeness_laws.ensures.own rounds bytes is in
    accepted-told dig c.proof_laws.ensures.once t _ stand some bytes a result
    (c.audit_laws.ensures.means (trio_family t) (trio_heads dig t) bytes a.proof result stand.sound a.spells audit)
