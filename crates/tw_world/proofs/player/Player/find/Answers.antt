use Rattle.std.proofs.Common.{◌≡◌, ◌<◌, ◌≤◌, ℕ, suc, zero, List, [], ◌∷◌, drop, length, ap, sym, ◌∙◌, subst, arith}
use Rattle.std.proofs.lemmas.Slice.Eq.{bytes_eq-Decides}
use Rattle.std.specs.Str.{bytes_eq}
use Rattle.tw_world.specs.OnDisks.{IsFirst}
use Rattle.tw_world.specs.declared.host.Host.{Host}
use Rattle.tw_world.proofs.Following.{first-behind, first-here, first-later, first-of}
use Rattle.tw_world.proofs.player.Player.find.Goals as goal

pub returns-then-eq : goal.returns-then-eq
returns-then-eq c =
    let hosts : List Host = c.args.self.now.hosts.items in
    let host : Host = c.index.result.now in
    let within : c.loop-at.at < length hosts =
    omega (arith, c.loop-at-test.true, c.len-at-end.ensures, c.args.self.now.hosts.ok.0) in
    let same : host.name ≡ c.args.name.now = (bytes_eq-Decides host.name c.args.name.now).0 (sym c.if-eq.ensures) in (
      within,
      first-here hosts c.args.name.now c.loop-at.at host within (ap (λ (x : Host). x.name) (sym c.index.ensures) ∙ same)
          c.loop-at.invariant.0,
    )

pub loop-at-preserved : goal.loop-at-preserved
loop-at-preserved c =
    let hosts : List Host = c.args.self.now.hosts.items in
    let host : Host = c.index.result.now in
    let within : c.loop-at.at < length hosts =
    omega (arith, c.loop-at-test.true, c.len-at-end.ensures, c.args.self.now.hosts.ok.0) in
    let other = ap (λ (x : Host). bytes_eq x.name c.args.name.now) (sym c.index.ensures) ∙ sym c.if-eq.ensures in (
      first-later hosts c.args.name.now c.loop-at.at host within other c.loop-at.invariant.0,
      first-behind hosts c.args.name.now c.loop-at.at host within other c.loop-at.invariant.1,
    )

pub loop-at-init : goal.loop-at-init
loop-at-init c =
    let has = c.requires in
    let hosts : List Host = c.args.self.now.hosts.items in (
      λ k first. subst (IsFirst hosts c.args.name.now) (omega arith) first,
      first-of hosts has.0.members c.args.name.now has.1.hosts has.2,
    )

-- behind the last service there is none
none-left : (hosts : List Host) (name : List ℕ) (i : ℕ) → length hosts ≤ i → (k : ℕ) × IsFirst (drop i hosts) name k → ⊥
none-left [] name zero past there = there.1
none-left [] name (suc i) past there = there.1
none-left (x ∷ hosts) name zero past there = absurd (omega (arith, past))
none-left (x ∷ hosts) name (suc i) past there = none-left hosts name i (omega (arith, past)) there

pub unreachable-requires : goal.unreachable-requires
unreachable-requires c = none-left c.args.self.now.hosts.items c.args.name.now c.loop-at.at
    (omega (arith, c.loop-at-test.false)) c.loop-at.invariant.1
