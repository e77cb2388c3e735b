use Rattle.std.proofs.Common.{nat_lt, false, ◌∙◌, ◌≡◌, ◌≤◌, ◌<◌, ◌++◌, ℕ, length, take, drop, subst, arith}
use Rattle.std.proofs.lemmas.Grind.{common_steps}
use Rattle.std.proofs.lemmas.List.{take-append-le}
use Rattle.tw_outside.proofs.Fronts.{front_grows, front_at_end, front_at_limit, full_of_not-less}
use Rattle.tw_outside.proofs.reading.read_piece.Goals as goal

pub returns-then-came-gt0-clause-front : goal.returns-then-came-gt0-clause-front
returns-then-came-gt0-clause-front g c front bytes told =
    let fits : c.in_ok-came.came ≤ length c.read.new.into = omega (arith, c.in_ok-came.ensures.within) in
    let grown : c.extend_from_slice.new.self.items ≡ c.args.all.now.items ++ take c.in_ok-came.came c.read.new.into =
    grind (arith, common_steps, c.in_ok-extend_from_slice.ensures.items, take-append-le) in
    let at : c.len-before.result ≡ length c.args.all.now.items = grind (arith, common_steps, c.len-before.ensures) in
    let Given : ℕ → Type 0 = λ k. take c.in_ok-came.came c.read.new.into ≡ take c.in_ok-came.came (drop k bytes) in
    front_grows bytes c.args.all.now.items c.read.new.into _ c.in_ok-came.came (front bytes told) fits
    (subst Given at (c.in_ok-came.ensures.came bytes told).given) grown

pub returns-then-came-gt0-clause-end : goal.returns-then-came-gt0-clause-end
returns-then-came-gt0-clause-end g c is front bytes told =
    let stopped : nat_lt c.len.result c.args.limit ≡ false = cc in
    let within : c.len.result ≤ c.args.limit = grind (arith, common_steps) in
    let size : length c.extend_from_slice.new.self.items ≡ c.len.result = grind (arith, common_steps, c.len.ensures) in
    let full : length c.extend_from_slice.new.self.items ≡ c.args.limit = size ∙ full_of_not-less _ _ within stopped in
    front_at_limit bytes _ c.args.limit (returns-then-came-gt0-clause-front g c front bytes told) full

pub returns-else-came-gt0-clause-end : goal.returns-else-came-gt0-clause-end
returns-else-came-gt0-clause-end g c is front bytes told =
    let at : c.len-before.result ≡ length c.args.all.now.items = grind (arith, common_steps, c.len-before.ensures) in
    let same : c.extend_from_slice.new.self.items ≡ c.args.all.now.items =
    grind (arith, common_steps, c.in_ok-extend_from_slice.ensures.items) in
    let room : length c.args.all.now.items < c.args.limit → 0 < length c.read.new.into =
    λ below. grind (arith, common_steps, at, c.min-room.ensures, c.read.auto.into) in
    let none : length c.args.all.now.items < c.args.limit → length bytes ≤ length c.args.all.now.items =
    λ below. omega (arith, at, ((c.in_ok-came.ensures.came bytes told).ends (room below)).0 (omega arith)) in
    same ∙ front_at_end bytes c.args.all.now.items c.args.limit (front bytes told) (omega (arith, at)) none
