use Rattle.std.proofs.Common.{◌≡◌, ℕ, [], ap, sym, ◌∙◌, arith, replicate}
use Rattle.tw_disk.specs.Model.{outcome, spoilt, at_rest}
use Rattle.tw_disk.specs.KeptCalls.{written_of, earlier}
use Rattle.tw_disk.proofs.LooseLaws.{loose_below, loose_is}
use Rattle.tw_disk.specs.LooseSteps.{loose_of}
use Rattle.tw_disk.specs.MemDiskSteps.{now_is}
use Rattle.tw_disk.proofs.crash.leave.Goals as goal

pub spoil-requires : goal.spoil-requires
spoil-requires c = loose_below c.args.calls.now.items c.args.pages.now.items c.requires.fits

pub spoil-requires-in_default : goal.spoil-requires-in_default
spoil-requires-in_default c = loose_below c.args.calls.now.items c.args.pages.now.items c.requires.fits

pub returns-in-1 : goal.returns-in-1
returns-in-1 c =
    let s = written_of c.args.calls.now.items c.args.pages.now.items in
    sym (now_is c.args.calls.now.items c.args.pages.now.items c.requires.fits) ∙ ap (λ (n : ℕ). outcome n s)
    (sym c.in-1.is)

pub returns-in-2 : goal.returns-in-2
returns-in-2 c =
    let s = written_of c.args.calls.now.items c.args.pages.now.items in
    let loose : s.loose ≡ loose_of [] c.args.calls.now.items =
    loose_is (at_rest (earlier c.args.calls.now.items c.args.pages.now.items)) c.args.calls.now.items
    c.args.pages.now.items in
    let is : c.args.choice ≡ 2 = omega arith in
    c.spoil.ensures ∙ (λ i. spoilt (replicate 4096 0) (sym loose i)
    (sym (now_is c.args.calls.now.items c.args.pages.now.items c.requires.fits) i)) ∙ ap (λ (n : ℕ). outcome n s)
    (sym is)

pub returns-in_default : goal.returns-in_default
returns-in_default c =
    let s = written_of c.args.calls.now.items c.args.pages.now.items in
    let loose : s.loose ≡ loose_of [] c.args.calls.now.items =
    loose_is (at_rest (earlier c.args.calls.now.items c.args.pages.now.items)) c.args.calls.now.items
    c.args.pages.now.items in
    let is : c.args.choice ≡ 3 = omega arith in
    c.spoil-in_default.ensures ∙ (λ i. spoilt (replicate 4096 1) (sym loose i)
    (sym (now_is c.args.calls.now.items c.args.pages.now.items c.requires.fits) i)) ∙ ap (λ (n : ℕ). outcome n s)
    (sym is)
