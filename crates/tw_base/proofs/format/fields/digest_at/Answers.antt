use Rattle.std.proofs.Common.{length, take, ◌∙◌, ap, arith}
use Rattle.std.proofs.lemmas.List.{take_rest, length-take-le}
use Rattle.tw_base.proofs.lemmas.format.FieldLaws.{bytes-read}
use Rattle.tw_base.proofs.format.fields.digest_at.Goals as goal

pub returns : goal.returns
returns c =
    bytes-read 32 c.args.bytes.now c.in-Some.digest.now c.args.at (λ i. omega (arith, c.type_inv.bytes i)) c.requires
    (c.in-Some.ensures.cases.same ∙ ap (take 32) (take_rest c.args.bytes.now c.args.at))

pub invariant_of-result : goal.invariant_of-result
invariant_of-result c = ap length (c.in-Some.ensures.cases.same) ∙ length-take-le 32 _ c.in-Some.ensures.cases.enough
