use Rattle.tw_base.proofs.lemmas.format.PutLaws.{put-whole}
use Rattle.tw_msg.specs.Messages.{message_codec}
use Rattle.tw_msg.proofs.MessageCodec.{message-lawful}
use Rattle.tw_msg.proofs.message.write_message.Goals as goal

pub returns-clause-spelled : goal.returns-clause-spelled
returns-clause-spelled c = λ is.
    (put-whole message_codec message-lawful c.args.message.now _ _ c.new-bytes.ensures
    (c.in_ok-put_message.ensures.ok, c.in_ok-put_message.ensures.fits is)).1
