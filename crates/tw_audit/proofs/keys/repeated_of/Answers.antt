use Rattle.std.proofs.Common.{◌≡◌, ◌+◌, ◌-◌, [], get_or, true, ap, sym, ◌∙◌, subst, arith, inl, inr}
use Rattle.std.specs.BTreeSet.{contains}
use Rattle.std.specs.Cmp.Lexicographic.{slice_cmp}
use Rattle.std.specs.Ordering.{nat_cmp}
use Rattle.std.proofs.lemmas.Bool.{cases_lt}
use Rattle.tw_audit.proofs.keys.repeated_of.Goals as goal

pub loop-i-preserved : goal.loop-i-preserved
loop-i-preserved c = λ k less same.
    elim (cases_lt (k + 1) c.loop-i.i) [
      | inl before ↦ c.in_ok-note.ensures.kept (get_or c.args.keys.now (k + 1) []) (c.loop-i.invariant k before same)
      | inr past ↦
          let at : k + 1 ≡ c.loop-i.i = omega (arith, less, past) in
          let behind : c.loop-i.i - 1 ≡ k = omega (arith, at) in
          subst (λ j. contains (slice_cmp nat_cmp) c.note.new.self.keys (get_or c.args.keys.now j []) ≡ true) (sym at)
          (c.in_ok-note.ensures.same (ap (λ j. get_or c.args.keys.now j []) behind ∙ same
          ∙ ap (λ j. get_or c.args.keys.now j []) at))
    ]
