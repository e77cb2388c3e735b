use Rattle.std.proofs.Common.{◌≡◌, [], ◌∷◌, ◌++◌, refl, add-one}
use Rattle.std.specs.List.{flat_map}
use Rattle.tw_chain.specs.Accepting.{hop_from}
use Rattle.tw_chain.specs.Checks.{hop_checks, opening_root}
use Rattle.tw_chain.specs.Passing.{carried_by}
use Rattle.tw_verifier.proofs.chain.Chain.with_hop.Goals as goal

pub returns : goal.returns
returns g c =
    let hops : c.push.new.self ≡ c.args.self.hops ++ hop_from c.args.self.known.from c.args.hop ∷ [] =
    cc (c.in_ok-push.ensures.ok, c.hop_from.ensures) in
    let ok = rw c.in_ok-carry.was at (c.carry.ensures c.args.self.part c.args.self.known.step
    (opening_root c.args.self.opening)) in
    let carried : c.carry.new.carried ≡ c.args.self.carried ++ flat_map carried_by
    (hop_checks c.args.self.part c.args.self.known.step (opening_root c.args.self.opening) c.args.hop) = ok in
    rw (c.with_hop_checks-found.ensures, hops, carried, add-one) refl
