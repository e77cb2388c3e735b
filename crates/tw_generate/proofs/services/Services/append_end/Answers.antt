use Rattle.std.proofs.Common.{◌≡◌, ◌∙◌, List, [], ◌∷◌, ◌++◌, ℕ, ap, subst, sym}
use Rattle.std.specs.Prelude.{OnOk}
use Rattle.tw_generate.specs.Playing.{LeadsByActs}
use Rattle.tw_generate.specs.Schedules.{all_append, end_event}
use Rattle.tw_generate.specs.Unrefused.{CanPlay}
use Rattle.tw_generate.proofs.services.Services.append_end.Goals as goal

pub returns : goal.returns
returns g c =
    let events : c.push.new.self ≡ end_event =
    c.in_ok-push.ensures.ok ∙ ap (λ (es : List (List ℕ)). es ++ c.in_ok-from_slice.field-0 ∷ []) c.new-events.ensures
    ∙ ap (λ (e : List ℕ). e ∷ []) c.in_ok-from_slice.ensures in
    subst (λ (es : List (List ℕ)). OnOk c.append_all.result (LeadsByActs g.H.Hasher.dig g.D.Disk.view
    (all_append es es es) c.args.self.now c.append_all.new.self)) events c.append_all.ensures

pub append_all-requires : goal.append_all-requires
append_all-requires g c =
    let events : c.push.new.self ≡ end_event =
    c.in_ok-push.ensures.ok ∙ ap (λ (es : List (List ℕ)). es ++ c.in_ok-from_slice.field-0 ∷ []) c.new-events.ensures
    ∙ ap (λ (e : List ℕ). e ∷ []) c.in_ok-from_slice.ensures in
    subst (λ (es : List (List ℕ)). CanPlay g.H.Hasher.dig g.D.Disk.view (all_append es es es) c.args.self.now)
    (sym events) c.requires
