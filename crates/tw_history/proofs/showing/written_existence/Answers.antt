use Rattle.std.proofs.Common.{◌<◌, ◌≤◌, ap, length, subst, ◌∙◌}
use Rattle.std.proofs.lemmas.Result.{IfOk-weaker}
use Rattle.tw_base.specs.declared.kinds.limits.TheConstants.{MOST_EVENTS, MOST_EVENT_BYTES}
use Rattle.tw_base.specs.events.EventParts.{event_part}
use Rattle.tw_base.specs.format.Formats.{Spells}
use Rattle.tw_base.specs.kinds.Lists.{Each}
use Rattle.tw_skipproof.specs.declared.existence.ExistenceProof.{ExistenceProof}
use Rattle.tw_skipproof.specs.Existence.{IsExistenceInRange, existence_layout}
use Rattle.tw_skipproof.specs.HistoryProofs.{IsExistenceOf, MakesExistence}
use Rattle.tw_skipproof.specs.Existence.{IsShaped}
use Rattle.tw_skipproof.proofs.ExistenceOf.{IsShaped-made, in_range-few}
use Rattle.tw_history.proofs.showing.written_existence.Goals as goal

pub returns : goal.returns
returns g c =
    let proof : ExistenceProof = record { at = c.in_ok-at.at; event = c.in_ok-event.event } in
    let is : IsExistenceOf g.H.Hasher.dig c.args.history.now c.args.step c.args.index
    (length c.args.history.now.steps) proof = record {
      at = c.in_ok-at.ensures.part;
      inside = subst (λ events. c.args.index < length events) c.requires.events c.requires.index;
      event = c.in_ok-event.ensures.part ∙ ap (λ events. event_part g.H.Hasher.dig events c.args.index)
          c.requires.events;
    } in
    let limits : IsExistenceInRange proof = in_range-few g.H.Hasher.dig c.args.history.now c.args.step c.args.index
    (length c.args.history.now.steps) proof is
    c.requires.inside c.in_ok-at.ensures.few (subst (λ events. length events ≤ MOST_EVENTS) c.requires.events
    c.requires.few)
    (subst (Each (λ event. length event ≤ MOST_EVENT_BYTES)) c.requires.events c.requires.small)
    c.in_ok-at.ensures.time in
    let shaped : IsShaped proof = IsShaped-made g.H.Hasher.dig c.args.history.now c.args.step c.args.index
    (length c.args.history.now.steps) proof is
    c.requires.inside in
    IfOk-weaker c.write_existence.result (λ bytes. IsExistenceInRange proof → IsShaped proof → Spells existence_layout
    bytes proof)
    (MakesExistence g.H.Hasher.dig c.args.history.now c.args.step c.args.index (length c.args.history.now.steps))
    (λ bytes spelled. (proof, spelled limits shaped, is)) c.write_existence.ensures.spelled
