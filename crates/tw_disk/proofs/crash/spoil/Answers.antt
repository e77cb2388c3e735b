use Rattle.std.proofs.Common.{ℕ, [], List, length, replicate, ap, ◌∙◌, subst, sym, arith}
use Rattle.std.proofs.Math.ListN.{set}
use Rattle.std.proofs.lemmas.List.{length-set}
use Rattle.tw_disk.specs.Model.{spoilt}
use Rattle.tw_disk.specs.LooseSteps.{loose_of, AllBelow}
use Rattle.tw_disk.proofs.Unwinding.{loose-pop, loose-pop_barrier}
use Rattle.tw_disk.proofs.crash.spoil.Goals as goal

pub index_mut-requires : goal.index_mut-requires
index_mut-requires c =
    let more = loose-pop _ _ c.in-Some.call c.in-Some.ensures.items c.in-Some-page_written.page
    c.in-Some-page_written.ensures in
    let below = subst (λ (ps : List ℕ). AllBelow (length c.loop-call.pages.items) ps) more c.loop-call.invariant.below
    in
    omega (arith, below.0)

pub returns-in_default-page_written : goal.returns-in_default-page_written
returns-in_default-page_written c =
    let none = loose-pop_barrier _ _ c.in-Some.call c.in-Some.ensures.items c.in_default-page_written.ensures in
    ap (λ (ps : List ℕ). spoilt (replicate 4096 c.args.byte) ps c.loop-call.pages.items) (sym none)
    ∙ c.loop-call.invariant.rest

pub loop-call-preserved : goal.loop-call-preserved
loop-call-preserved c =
    let image = c.loop-call.pages.items in
    let more = loose-pop _ _ c.in-Some.call c.in-Some.ensures.items c.in-Some-page_written.page
    c.in-Some-page_written.ensures in
    let below = subst (λ (ps : List ℕ). AllBelow (length image) ps) more c.loop-call.invariant.below in
    record {
      below = subst (λ (n : ℕ). AllBelow n (loose_of [] c.pop.new.self.items))
          (sym (length-set image c.in-Some-page_written.page c.all_of.result)) below.1;
      rest = ap (λ (b : List ℕ). spoilt (replicate 4096 c.args.byte) (loose_of [] c.pop.new.self.items)
          (set image c.in-Some-page_written.page b)) c.all_of.ensures
          ∙ ap (λ (ps : List ℕ). spoilt (replicate 4096 c.args.byte) ps image) (sym more) ∙ c.loop-call.invariant.rest;
    }
