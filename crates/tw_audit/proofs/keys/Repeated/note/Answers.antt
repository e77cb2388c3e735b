use Rattle.std.proofs.Common.{◌≡◌, Bool, true, false, ◌∙◌}
use Rattle.std.specs.Prelude.{cond}
use Rattle.tw_audit.proofs.keys.Repeated.note.Goals as goal

stays : (b new old : Bool) → new ≡ cond b true old → old ≡ true → new ≡ true
stays true new old is has = is
stays false new old is has = is ∙ has

pub returns-in_ok-insert-clause-kept : goal.returns-in_ok-insert-clause-kept
returns-in_ok-insert-clause-kept c = λ k has. stays _ _ _ (c.in_ok-insert.ensures.updates.0 k) has
