use Rattle.std.proofs.Common.{◌≡◌, ◌+◌, ◌-◌, length, refl, sym, subst, ap, inr, arith}
use Rattle.tw_disk.specs.Image.{Image}
use Rattle.tw_disk.specs.Model.{IsImage}
use Rattle.tw_disk.specs.KeptCalls.{written_of, earlier, calls_of}
use Rattle.tw_disk.proofs.ModelLaws.{outcome_image}
use Rattle.tw_disk.specs.MemDiskSteps.{grown_after}
use Rattle.tw_disk.proofs.KeptCallLaws.{length-calls_of, rested, since_rested, rested_since}
use Rattle.tw_disk.proofs.memory_disk.MemDisk.crash.Goals as goal

pub returns-clause-image : goal.returns-clause-image
returns-clause-image c =
    let calls = c.args.self.now.calls.items in
    let pages = c.args.self.now.pages.items in
    subst (λ (i : Image). IsImage (written_of calls pages) i) (sym c.leave.ensures)
    (outcome_image c.args.choice (written_of calls pages) (grown_after (earlier calls pages) (calls_of calls pages)))

pub returns-clause-rests : goal.returns-clause-rests
returns-clause-rests c = record {
  image = c.leave.new.pages.items;
  told = refl;
  only = λ i left. rested c.clear.new.self.items c.leave.new.pages.items i c.clear.ensures.items left;
  has = returns-clause-image c;
}

pub returns-clause-moment : goal.returns-clause-moment
returns-clause-moment c =
    omega (
      arith,
      c.len.ensures,
      ap length c.clear.ensures.items,
      length-calls_of c.args.self.now.calls.items c.args.self.now.pages.items,
      length-calls_of c.clear.new.self.items c.leave.new.pages.items,
    )

pub returns-clause-since : goal.returns-clause-since
returns-clause-since c = λ t i le.
    let calls = c.clear.new.self.items in
    let pages = c.leave.new.pages.items in
    let crashed_at = c.args.self.now.crashed_at + c.len.result in
    let now : t - crashed_at ≡ 0 = omega (arith, le, ap length c.clear.ensures.items, length-calls_of calls pages) in (
      λ since. since_rested calls pages (t - crashed_at) i c.clear.ensures.items since,
      λ is. rested_since calls pages (t - crashed_at) i c.clear.ensures.items now is,
    )

pub returns-clause-leaves : goal.returns-clause-leaves
returns-clause-leaves c =
    let calls = c.clear.new.self.items in
    let pages = c.leave.new.pages.items in
    let crashed_at = c.args.self.now.crashed_at + c.len.result in
    let left = λ (i : Image) (is : i ≡ pages). subst
    (λ (j : Image). IsImage (written_of c.args.self.now.calls.items c.args.self.now.pages.items) j) (sym is)
    (returns-clause-image c) in
    record {
      later = omega (arith, returns-clause-moment c);
      now = λ i is. left i (rested calls pages i c.clear.ensures.items is);
      each = λ i since. left i (since_rested calls pages _ i c.clear.ensures.items since);
      before = λ t i le since. inr (left i (since_rested calls pages (t - crashed_at) i c.clear.ensures.items since));
    }
