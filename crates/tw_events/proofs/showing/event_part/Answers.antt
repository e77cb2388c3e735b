use Rattle.std.proofs.Common.{ap, sym, ◌∙◌, List, ℕ}
use Rattle.std.proofs.lemmas.Option.{slice_get-get_or}
use Rattle.std.specs.Prelude.{Some}
use Rattle.tw_events.proofs.showing.event_part.Goals as goal

pub returns-clause-checks : goal.returns-clause-checks
returns-clause-checks g c =
    let is = c.in_ok-event.ensures ∙ c.as_slice.ensures ∙ c.index-events-index.is in
    c.in_ok-path.ensures.checks c.in_ok-event.event (slice_get-get_or c.args.events.now c.args.index
    c.index-events-index.result c.requires.inside ∙ ap (λ (e : List ℕ). Some e) (sym is))
