use Rattle.tw_generate.proofs.Parts.{proof-made}
use Rattle.tw_generate.proofs.claiming.add_part.Goals as goal

pub answered-requires-clause-may : goal.answered-requires-clause-may
answered-requires-clause-may g c = c.requires.may

pub answered-requires-clause-takes : goal.answered-requires-clause-takes
answered-requires-clause-takes g c = (c.requires.history, c.requires.plays, c.requires.goes)

pub proof_of-requires : goal.proof_of-requires
proof_of-requires g c =
    let can = c.requires in
    proof-made g.H.Hasher.dig can.history c.args.question c.in_ok-bytes.bytes can.asks
    (c.in_ok-bytes.ensures.asked can.history can.plays).1

pub returns : goal.returns
returns g c = λ h plays.
    let told = c.in_ok-bytes.ensures.asked h plays in (
      told.0,
      (
        c.in_ok-proof_of.field-0,
        (c.in_ok-bytes.bytes, told.1, c.in_ok-proof_of.ensures),
        c.in_ok-push.ensures.ok,
      ),
    )
