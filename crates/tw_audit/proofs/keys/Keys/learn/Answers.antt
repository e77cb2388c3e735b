use Rattle.std.proofs.Common.{◌≡◌, ℕ, List, ◌⊎◌, refl, subst}
use Rattle.std.specs.Prelude.{Some}
use Rattle.tw_audit.specs.KeyLists.{known_at}
use Rattle.tw_audit.specs.declared.keys.Keys.{Keys}
use Rattle.tw_audit.proofs.TableLaws.{either_place}
use Rattle.tw_audit.proofs.keys.Keys.learn.Goals as goal

pub returns-clause-known : goal.returns-clause-known
returns-clause-known c = λ k.
    let new : Keys =
    record {
      alloc = c.args.self.now.alloc;
      keys = c.args.self.now.keys;
      known = c.insert.new.self;
      spent = c.args.self.now.spent;
    } in
    subst (λ (t : List ℕ). (known_at new k ≡ known_at c.args.self.now k) ⊎ (known_at new k ≡ Some t))
    c.in_ok-text.ensures
    (either_place _ _ _ _ _ (c.in_ok-insert.ensures.updates.0 k) refl)
