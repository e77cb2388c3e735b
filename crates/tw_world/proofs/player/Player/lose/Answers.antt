use Rattle.std.proofs.Common.{◌<◌, length, arith, refl}
use Rattle.tw_world.specs.Players.{mail_kept}
use Rattle.tw_world.specs.Worlds.{after_line, without_message}
use Rattle.tw_world.proofs.Follows.{message-kept, message-lost, message-there, message-within}
use Rattle.tw_world.proofs.ToldLines.{told-lost}
use Rattle.tw_world.proofs.player.Player.lose.Goals as goal

pub returns : goal.returns
returns c w f may =
    let old = c.args.self.now in
    let at = c.index_of-index.ensures in
    let index = c.index_of-index.result in
    let within : index < length old.messages.items = omega (arith, at.0, c.len.ensures, old.messages.ok.0) in
    let there = message-there old w index c.index.result.now f within c.index.ensures in (
      after_line (without_message w c.args.number),
      told-lost w c.args.number index (mail_kept c.index.result.now) c.loss_answer-answer.result at.1 there
          c.loss_answer-answer.ensures,
      record {
        hosts = f.hosts;
        messages = message-lost old w index c.args.number f at.1;
        files = f.files;
        proofs = f.proofs;
        anchors = f.anchors;
      },
      refl,
    )

pub index_of-index-requires : goal.index_of-index-requires
index_of-index-requires c =
    let can = c.requires in
    let old = c.args.self.now in
    let within = message-within old can.0 c.args.number can.1 can.2 in
    (within.0, omega (arith, within.1, c.len.ensures, old.messages.ok.0))

pub loss_answer-answer-requires : goal.loss_answer-answer-requires
loss_answer-answer-requires c =
    let can = c.requires in
    let old = c.args.self.now in
    let at = c.index_of-index.ensures in
    let index = c.index_of-index.result in
    let within : index < length old.messages.items = omega (arith, at.0, c.len.ensures, old.messages.ok.0) in
    message-kept old can.0 index c.args.number c.index.result.now can.1 within c.index.ensures at.1 can.2
