use Rattle.std.proofs.Common.{List, ℕ, subst}
use Rattle.tw_script.specs.declared.line.Line.TheVariants.{Join}
use Rattle.tw_world.specs.Players.{FilesJoinTo, KeepsHosts, PlayerFollows, PlaysLine}
use Rattle.tw_world.specs.Runs.{IsFiled, IsNotFiled}
use Rattle.tw_world.specs.Worlds.{World}
use Rattle.tw_world.specs.declared.told.Answer.{Answer}
use Rattle.tw_world.specs.declared.told.Told.{Told}
use Rattle.tw_world.proofs.AnsweredCalls.{if-ok}
use Rattle.tw_world.proofs.GivenProofs.{joined-text}
use Rattle.tw_world.proofs.ToldLines.{told-filed, told-not_filed}
use Rattle.tw_world.proofs.player.Player.join.Goals as goal

pub returns-in-Ok : goal.returns-in-Ok
returns-in-Ok c =
    let old = c.args.self.now in
    let new = c.add_file.new.self in
    let numbers = c.args.numbers.now in
    let bytes : List ℕ = c.in-Ok.bytes in
    if-ok c.add_file.result
    (λ (told : Told). (w : World) → PlayerFollows old w → (next : World) × IsFiled w bytes told next × PlayerFollows new
    next × KeepsHosts old new)
    (PlaysLine old new (Join numbers))
    (λ told made w f may.
    let filed = made w f in
    let join = subst (FilesJoinTo w numbers) c.in-Ok.is (c.in_ok-bytes.ensures w f may.1) in
    (filed.0, told-filed w numbers bytes told filed.0 may.0 join filed.1, filed.2, filed.3))
    c.add_file.ensures

pub returns-in-Err : goal.returns-in-Err
returns-in-Err c =
    let old = c.args.self.now in
    let new = c.add_none.new.self in
    let numbers = c.args.numbers.now in
    let why : Answer = c.in-Err.why in
    if-ok c.add_none.result
    (λ (told : Told). (w : World) → PlayerFollows old w → (next : World) × IsNotFiled w why told next × PlayerFollows
    new next × KeepsHosts old new)
    (PlaysLine old new (Join numbers))
    (λ told made w f may.
    let filed = made w f in
    let join = subst (FilesJoinTo w numbers) c.in-Err.is (c.in_ok-bytes.ensures w f may.1) in
    (filed.0, told-not_filed w numbers why told filed.0 may.0 join filed.1, filed.2, filed.3))
    c.add_none.ensures

pub add_file-requires : goal.add_file-requires
add_file-requires c =
    let can = c.requires in
    let numbers = c.args.numbers.now in
    joined-text can.0 numbers c.in-Ok.bytes
    (subst (FilesJoinTo can.0 numbers) c.in-Ok.is (c.in_ok-bytes.ensures can.0 can.1 can.2.1))
