use Rattle.std.proofs.Common.{arith}
use Rattle.tw_base.proofs.lemmas.format.CodecLaws.{spelled-fits, unambiguous}
use Rattle.tw_base.proofs.lemmas.format.CodecSizes.{word-size}
use Rattle.tw_skipproof.proofs.Greedy.{few_links}
use Rattle.tw_msg.specs.Messages.{message_codec}
use Rattle.tw_msg.proofs.MessageCodec.{message-fits, message-lawful, message-most, message-within}
use Rattle.tw_msg.proofs.message.message_laws.Goals as goal

pub returns-clause-once : goal.returns-clause-once
returns-clause-once c = unambiguous message_codec message-lawful

pub returns-clause-shape : goal.returns-clause-shape
returns-clause-shape c = λ bytes m s. message-within m (spelled-fits message_codec message-lawful bytes m s)

pub returns-clause-word : goal.returns-clause-word
returns-clause-word c = λ m linked thread sizes. message-lawful.spells m (message-fits m linked thread sizes)

pub returns-clause-size : goal.returns-clause-size
returns-clause-size c = word-size message_codec message-lawful 53828 message-most

pub returns-clause-links : goal.returns-clause-links
returns-clause-links c = λ bytes m digits s below.
    let linked = (message-within m (spelled-fits message_codec message-lawful bytes m s)).0 in
    let short = linked.step.1 in
    few_links m.link.links m.thread.step m.since digits (omega (arith, short)) below linked.link
