use Rattle.std.proofs.Common.{◌≡◌, ◌≤◌, ℕ, List, length, take, drop, ap, ◌∙◌, arith, length-drop}
use Rattle.std.specs.Int.{from_be_bytes, w64}
use Rattle.std.proofs.lemmas.List.{take_rest, length-take-le}
use Rattle.std.proofs.lemmas.Nat.{be_bytes_8}
use Rattle.tw_base.proofs.lemmas.kinds.ByteLemmas.{AreBytes-at, AreBytes-drop, AreBytes-from, AreBytes-take}
use Rattle.tw_base.proofs.format.fields.eight_at.Goals as goal

pub returns-in-Some : goal.returns-in-Some
returns-in-Some c =
    let rest = drop c.args.at c.args.bytes.now in
    let same : c.in-Some.eight.now ≡ take 8 rest = c.in-Some.ensures.cases.same ∙ ap (take 8)
    (take_rest c.args.bytes.now c.args.at) in
    let room : 8 ≤ length rest =
    omega (arith, c.in-Some.ensures.cases.enough, ap length (take_rest c.args.bytes.now c.args.at)) in
    let bytes = AreBytes-at (take 8 rest) (AreBytes-take 8 rest (AreBytes-drop c.args.at c.args.bytes.now
    (AreBytes-from c.args.bytes.now (λ i. omega (arith, c.type_inv.bytes i))))) in (
      omega (arith, room, length-drop c.args.at c.args.bytes.now, c.requires),
      be_bytes_8 (take 8 rest) c.from_be_bytes.result (length-take-le 8 rest room) bytes
          (c.from_be_bytes.ensures ∙ ap (λ (bs : List ℕ). from_be_bytes w64 bs) same),
    )
