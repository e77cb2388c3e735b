use Rattle.tw_base.proofs.lemmas.format.TakeLaws.{takes-whole}
use Rattle.tw_msg.specs.Messages.{message_codec}
use Rattle.tw_msg.proofs.MessageCodec.{message-lawful}
use Rattle.tw_msg.proofs.message.read_message.Goals as goal

pub returns : goal.returns
returns c = takes-whole message_codec message-lawful (λ m. m) c.args.bytes.now _ _ _ c.take_message-read.ensures
    c.whole_to.ensures
