use Rattle.std.proofs.Common.{ℕ, List, subst}
use Rattle.std.specs.Prelude.{Result}
use Rattle.tw_base.specs.declared.history.refusal.Refusal.{Refusal}
use Rattle.tw_script.specs.declared.line.Line.TheVariants.{Prove}
use Rattle.tw_service.specs.Machine.Reply.{OfBytes, Refused}
use Rattle.tw_world.specs.Hosts.{GivesReply}
use Rattle.tw_world.specs.Players.{KeepsHosts, PlayerFollows, PlaysLine}
use Rattle.tw_world.specs.Runs.{IsFiled, IsNotFiled}
use Rattle.tw_world.specs.Worlds.{World}
use Rattle.tw_world.specs.declared.told.Answer.TheVariants as answer
use Rattle.tw_world.specs.declared.told.Told.{Told}
use Rattle.tw_world.proofs.AnsweredCalls.{if-ok}
use Rattle.tw_world.proofs.GivenOn.{asked-still}
use Rattle.tw_world.proofs.GivenProofs.{proof-given}
use Rattle.tw_world.proofs.player.Player.prove.Goals as goal

pub returns-in-Ok : goal.returns-in-Ok
returns-in-Ok c =
    let old = c.args.self.now in
    let mid = c.ask.new.self in
    let new = c.add_file.new.self in
    let name = c.args.service.now in
    let bytes : List ℕ = c.in-Ok.bytes in
    if-ok c.add_file.result
    (λ (told : Told). (w : World) → PlayerFollows mid w → (next : World) × IsFiled w bytes told next
    × PlayerFollows new next × KeepsHosts mid new)
    (PlaysLine old new (Prove name c.args.asked.now))
    (λ told made w f may.
    let given = c.in_ok-bytes.ensures w f in
    let gives = subst (λ (r : Result (List ℕ) Refusal). GivesReply given.0.history c.args.asked.now r) c.in-Ok.is given.2
    in
    let filed = made w given.3 in (
      filed.0,
      (given.0, given.1, (OfBytes bytes, gives, filed.1)),
      filed.2,
      asked-still name old.hosts.items mid.hosts.items new.hosts.items given.4 filed.3,
    ))
    c.add_file.ensures

pub returns-in-Err : goal.returns-in-Err
returns-in-Err c =
    let old = c.args.self.now in
    let mid = c.ask.new.self in
    let new = c.add_none.new.self in
    let name = c.args.service.now in
    let refusal : Refusal = c.in-Err.refusal in
    if-ok c.add_none.result
    (λ (told : Told). (w : World) → PlayerFollows mid w → (next : World)
    × IsNotFiled w (answer.Refused refusal) told next × PlayerFollows new next × KeepsHosts mid new)
    (PlaysLine old new (Prove name c.args.asked.now))
    (λ told made w f may.
    let given = c.in_ok-bytes.ensures w f in
    let gives = subst (λ (r : Result (List ℕ) Refusal). GivesReply given.0.history c.args.asked.now r) c.in-Err.is
    given.2 in
    let filed = made w given.3 in (
      filed.0,
      (given.0, given.1, (Refused refusal, gives, filed.1)),
      filed.2,
      asked-still name old.hosts.items mid.hosts.items new.hosts.items given.4 filed.3,
    ))
    c.add_none.ensures

pub ask-requires-clause-there : goal.ask-requires-clause-there
ask-requires-clause-there c = let can = c.requires.may in (can.0, can.1, can.2.1)

pub add_file-requires : goal.add_file-requires
add_file-requires c =
    let can = c.requires.may in
    let given = c.in_ok-bytes.ensures can.0 can.1 in
    let gives = subst (λ (r : Result (List ℕ) Refusal). GivesReply given.0.history c.args.asked.now r) c.in-Ok.is given.2
    in
    proof-given given.0.history c.args.asked.now c.in-Ok.bytes can.2.0 gives
