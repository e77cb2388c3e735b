use Rattle.std.proofs.Common.{subst, refl, Err}
use Rattle.tw_base.specs.format.Formats.{ReadsAs}
use Rattle.tw_base.specs.declared.kinds.failure.ReadFault.{ReadFault}
use Rattle.tw_msg.specs.Messages.{message_layout}
use Rattle.tw_msg.specs.declared.message.Message.{Message}
use Rattle.tw_script.proofs.InjectedLaws.{message-none, message-spelled}
use Rattle.tw_script.proofs.made.is_own_or_none.Goals as goal

pub returns-in-Ok : goal.returns-in-Ok
returns-in-Ok c = rw (message-spelled c.args.bytes.now c.in-Ok.message c.in-Ok.ensures) c.eq.ensures

pub returns-in-Err-Malformed : goal.returns-in-Err-Malformed
returns-in-Err-Malformed c =
    let nothing = subst (λ (fault : ReadFault). ReadsAs (λ (m : Message). m) message_layout c.args.bytes.now
    (Err fault)) c.in-Err-Malformed.field-0-is c.in-Err-Malformed.ensures in
    rw (message-none c.args.bytes.now nothing.0) refl
