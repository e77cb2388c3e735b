use Rattle.std.proofs.Common.{◌<◌, ◌++◌, ◌∷◌, [], ap, ◌∙◌, subst, sym, refl, length, arith}
use Rattle.tw_disk.specs.Image.{Image}
use Rattle.tw_disk.specs.KeptCalls.{AllFit, written_of}
use Rattle.tw_disk.specs.declared.call.Call.{Call}
use Rattle.tw_disk.specs.declared.call.Call.TheVariants.{Overwrite, Append, Barrier}
use Rattle.tw_disk.proofs.Unwinding.{fits_rest, fits_popped, settled-write, settled-barrier}
use Rattle.tw_disk.proofs.crash.unwind.Goals as goal

pub index_mut-requires : goal.index_mut-requires
index_mut-requires c =
    let popped = c.in-Some.ensures.items ∙ ap (λ (k : Call). c.pop.new.self.items ++ k ∷ []) c.in-Overwrite.is in
    let fits : c.in-Overwrite.page < length c.loop-call.pages.items = fits_popped _ _
    (Overwrite c.in-Overwrite.page c.in-Overwrite.before) c.loop-call.pages.items popped c.loop-call.invariant.fits in
    omega (arith, fits)

pub loop-call-preserved-in-Overwrite : goal.loop-call-preserved-in-Overwrite
loop-call-preserved-in-Overwrite c =
    let call = Overwrite c.in-Overwrite.page c.in-Overwrite.before in
    let image = c.loop-call.pages.items in
    let popped = c.in-Some.ensures.items ∙ ap (λ (k : Call). c.pop.new.self.items ++ k ∷ []) c.in-Overwrite.is in
    record {
      fits = fits_rest _ _ call image popped c.loop-call.invariant.fits;
      settled = settled-write _ _ call image popped c.loop-call.invariant.fits _ _ refl ∙ c.loop-call.invariant.settled;
    }

pub loop-call-preserved : goal.loop-call-preserved
loop-call-preserved c =
    let call = Append c.in-Append.page in
    let image = c.loop-call.pages.items in
    let popped = c.in-Some.ensures.items ∙ ap (λ (k : Call). c.pop.new.self.items ++ k ∷ []) c.in-Append.is in
    let back = sym c.truncate.ensures.items in
    record {
      fits = subst (λ (i : Image). AllFit c.pop.new.self.items i) back
          (fits_rest _ _ call image popped c.loop-call.invariant.fits);
      settled = ap (λ (i : Image). (written_of c.pop.new.self.items i).settled) (sym back) ∙ settled-write _ _ call
          image popped c.loop-call.invariant.fits _ _ refl ∙ c.loop-call.invariant.settled;
    }

pub returns-in-Barrier : goal.returns-in-Barrier
returns-in-Barrier c =
    let popped = c.in-Some.ensures.items ∙ ap (λ (k : Call). c.pop.new.self.items ++ k ∷ []) c.in-Barrier.is in
    settled-barrier _ _ Barrier c.loop-call.pages.items popped c.loop-call.invariant.fits refl
    ∙ c.loop-call.invariant.settled
