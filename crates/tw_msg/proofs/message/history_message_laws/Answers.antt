use Rattle.std.proofs.Common.{◌∙◌}
use Rattle.tw_base.proofs.lemmas.format.CodecLaws.{spelled-fits}
use Rattle.tw_skipproof.proofs.PathBinding.{climb-binds}
use Rattle.tw_msg.specs.Messages.{message_codec}
use Rattle.tw_msg.proofs.MessageCodec.{message-lawful, message-within}
use Rattle.tw_msg.proofs.OwnMessages.{leads-own, message-one, message-spelled, message-there}
use Rattle.tw_msg.proofs.message.history_message_laws.Goals as goal

pub returns-clause-there : goal.returns-clause-there
returns-clause-there g c = λ h since some order. message-there g.H.Hasher.dig h since some order

pub returns-clause-one : goal.returns-clause-one
returns-clause-one g c = λ h since m n is also. message-one g.H.Hasher.dig h since m n is also

pub returns-clause-leads : goal.returns-clause-leads
returns-clause-leads g c = λ h since m is. leads-own g.H.Hasher.dig h since m is

pub returns-clause-spelled : goal.returns-clause-spelled
returns-clause-spelled g c = λ h since m sound is. message-spelled g.H.Hasher.dig h g.met.H.Hasher.size
    g.met.H.Hasher.bytes sound since m is

pub returns-clause-binds : goal.returns-clause-binds
returns-clause-binds g c = λ h bytes m kept sound s are within same leads.
    let is = message-within m (spelled-fits message_codec message-lawful bytes m s) in
    climb-binds g.H.Hasher.dig g.met.H.Hasher.size g.met.H.Hasher.bytes h m.link.links m.thread.step m.since kept sound
    are is.2 leads.shape is.0.since within
    (leads.reaches ∙ same)
