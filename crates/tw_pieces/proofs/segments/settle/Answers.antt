use Rattle.std.proofs.Common.{◌≡◌, ℕ, ◌+◌, ◌-◌, List, [], ◌++◌, length, take, drop, refl, ap, sym, ◌∙◌, subst, arith}
use Rattle.std.specs.Prelude.{Err}
use Rattle.tw_base.specs.declared.kinds.failure.ReadFault.TheVariants.{Malformed}
use Rattle.std.proofs.lemmas.List.{length-drop, take_rest}
use Rattle.tw_pieces.specs.Resuming.{GoesInPieces}
use Rattle.tw_pieces.proofs.PieceLaws.{behind-nothing, settles-broken, settles-front, settles-on}
use Rattle.tw_pieces.proofs.segments.settle.Goals as goal

slice_is : (bytes held : List ℕ) (at : ℕ) → bytes ≡ held → take (length bytes - at) (drop at bytes) ≡ drop at held
slice_is bytes held at e = take_rest bytes at ∙ ap (drop at) e

pub loop-held-preserved : goal.loop-held-preserved
loop-held-preserved g c =
    let i = c.loop-held.invariant in
    let found = rw c.in-Ended.is at c.in_ok-next.ensures in
    let on = settles-on g.S.Segments.rest (g.S.Segments.rest c.args.state) (g.S.Segments.rest c.args.state) []
    c.loop-held.held c.loop-held.at 0 c.loop-held.state refl
    (behind-nothing (g.S.Segments.rest c.args.state)) i.within i.taken (g.S.Segments.rest c.in-Ended.next) _
    c.in-Ended.size (slice_is _ c.loop-held.held c.loop-held.at c.as_slice.ensures) found in
    record { same = i.same; within = on.0; taken = on.1 }

pub overflow_add-result : goal.overflow_add-result
overflow_add-result g c = omega (arith, c.requires, c.loop-held.invariant.within, ap length c.loop-held.invariant.same)

pub returns-in-Front : goal.returns-in-Front
returns-in-Front g c = λ whole before counts b.
    let i = c.loop-held.invariant in
    let found = rw c.in-Front.is at c.in_ok-next.ensures in
    rw (sym i.same)
    (settles-front g.S.Segments.rest whole (g.S.Segments.rest c.args.state) before c.loop-held.held c.loop-held.at
    c.args.taken c.loop-held.state counts b i.within i.taken
    _ _ refl (slice_is _ c.loop-held.held c.loop-held.at c.as_slice.ensures) c.in_ok-held-in-Front.ensures found)

pub overflow_add-result-in-Broken-2 : goal.overflow_add-result-in-Broken-2
overflow_add-result-in-Broken-2 g c =
    let found = rw c.in-Broken.is at c.in_ok-next.ensures in
    let slice = slice_is _ c.loop-held.held c.loop-held.at c.as_slice.ensures in
    omega (
      arith,
      c.requires,
      c.loop-held.invariant.within,
      ap length c.loop-held.invariant.same,
      found.0,
      ap length slice,
      length-drop c.loop-held.at c.loop-held.held,
    )

pub returns-in-Broken : goal.returns-in-Broken
returns-in-Broken g c = λ whole before counts b.
    let i = c.loop-held.invariant in
    let found = rw c.in-Broken.is at c.in_ok-next.ensures in
    let P : List ℕ → Type 0 = λ held. GoesInPieces g.S.Segments.rest whole (before ++ held)
    (Err (Malformed (c.args.taken + (c.loop-held.at + c.in-Broken.place)))) in
    subst P i.same
    (settles-broken g.S.Segments.rest whole (g.S.Segments.rest c.args.state) before c.loop-held.held c.loop-held.at
    c.args.taken c.loop-held.state counts b i.within i.taken
    _ c.in-Broken.place (c.args.taken + (c.loop-held.at + c.in-Broken.place)) refl
    (slice_is _ c.loop-held.held c.loop-held.at c.as_slice.ensures) found)
