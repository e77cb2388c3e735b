use Rattle.std.proofs.Common.{◌≡◌, ◌≤◌, ◌+◌, ◌-◌, length, drop, replicate, ap, sym, ◌∙◌, arith}
use Rattle.std.proofs.lemmas.List.{drop-drop, drop-replicate, length-take-le}
use Rattle.std.proofs.lemmas.Slice.{drop-put_mid}
use Rattle.tw_base.proofs.format.page_bytes.PageFront.put.Goals as goal

pub invariant_of-self : goal.invariant_of-self
invariant_of-self c =
    let s = c.self.inside in
    let n = length c.args.bytes.now in
    let filled : s.filled ≤ length s.page = omega (arith, c.self.told, c.self.invariant.0) in
    let size : length c.args.self.now ≡ s.filled = ap length (sym c.self.view_is) ∙ length-take-le s.filled s.page
    filled in
    let room : s.filled + n ≤ 4096 = omega (arith, size, c.requires) in (
      room,
      drop-put_mid s.filled (s.filled + n - s.filled) s.page c.copy_from_slice.new.self (s.filled + n) (omega arith)
          filled (omega (arith, ap length c.copy_from_slice.ensures.after))
          ∙ sym (drop-drop n s.filled s.page) ∙ ap (drop n) c.self.invariant.1 ∙ drop-replicate n (4096 - s.filled) 0
          ∙ ap (λ k. replicate k 0) (omega (arith, room)),
    )
