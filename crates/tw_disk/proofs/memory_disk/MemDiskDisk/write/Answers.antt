use Rattle.std.proofs.Common.{◌-◌, Some, ℕ, length, ap, ◌∙◌, inr, subst, sym, arith}
use Rattle.std.specs.Prelude.{Result, Ok, Err, OnOk}
use Rattle.tw_disk.specs.Image.{Image, Torn}
use Rattle.tw_disk.specs.Model.{Write}
use Rattle.tw_disk.proofs.Puts.{torn_put}
use Rattle.tw_disk.specs.PutSteps.{length-put}
use Rattle.tw_disk.proofs.KeptCallLaws.{one_more, one_longer, nothing_else, keeps, write_crash}
use Rattle.tw_disk.proofs.memory_disk.MemDiskDisk.write.Goals as goal

on_ok : {T E P : Type 0} (r : Result T E) → P → OnOk r P
on_ok (Ok x) is = is
on_ok (Err e) is = tt

pub invariant_of-self-in-Ok : goal.invariant_of-self-in-Ok
invariant_of-self-in-Ok c = record {
  counted =
      omega (
        arith,
        c.in-Ok.ensures.counted,
        one_longer _ _ _ _ (Write c.args.page c.args.from.now) c.in-Ok.ensures.gains,
      );
  calls_fit = c.in-Ok.ensures.gains.fits c.args.self.now.calls_fit;
}

pub returns-in-Ok-clause-torn : goal.returns-in-Ok-clause-torn
returns-in-Ok-clause-torn c =
    subst (λ (i : Image). Torn c.args.page c.args.self.now.pages.items i) (sym c.in-Ok.ensures.pages)
    (torn_put c.args.page c.args.from.now c.args.self.now.pages.items c.requires)

pub returns-in-Ok-clause-grown : goal.returns-in-Ok-clause-grown
returns-in-Ok-clause-grown c = on_ok c.answer.result (ap (λ (n : ℕ). Some n) (ap length c.in-Ok.ensures.pages
    ∙ length-put c.args.page c.args.from.now c.args.self.now.pages.items c.requires))

pub returns-in-Ok-clause-count : goal.returns-in-Ok-clause-count
returns-in-Ok-clause-count c =
    inr (ap (λ (n : ℕ). Some n) (ap length c.in-Ok.ensures.pages ∙ length-put c.args.page c.args.from.now
    c.args.self.now.pages.items c.requires))

pub returns-in-Ok-clause-room : goal.returns-in-Ok-clause-room
returns-in-Ok-clause-room c =
    omega (
      arith,
      ap length c.in-Ok.ensures.pages,
      length-put c.args.page c.args.from.now c.args.self.now.pages.items c.requires,
    )

pub returns-in-Ok-clause-crash : goal.returns-in-Ok-clause-crash
returns-in-Ok-clause-crash c = write_crash _ _ _ _ c.args.self.now.calls_fit c.args.page c.args.from.now
    c.in-Ok.ensures.gains c.requires

pub returns-in-Ok-clause-time : goal.returns-in-Ok-clause-time
returns-in-Ok-clause-time c =
    let call = Write c.args.page c.args.from.now in
    let gains = c.in-Ok.ensures.gains in
    record {
      later = omega (arith, one_more _ _ _ _ call gains);
      nothing_else = λ t i le. nothing_else _ _ _ _ call gains (t - c.args.self.now.crashed_at) i;
      keeps = λ t i le. keeps _ _ _ _ call gains (t - c.args.self.now.crashed_at) i;
    }
