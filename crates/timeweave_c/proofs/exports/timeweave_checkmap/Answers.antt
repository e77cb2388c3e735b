use Rattle.std.proofs.Common.{inl, inr, refl}
use Rattle.tw_text.specs.declared.fault.CommandFault.TheVariants.{NoMemory}
use Rattle.timeweave_c.proofs.WithoutMemory.{without_memory}
use Rattle.timeweave_c.proofs.exports.timeweave_checkmap.Goals as goal

pub returns-in-Err : goal.returns-in-Err
returns-in-Err c =
    without_memory
    (inr (record { fault = NoMemory; unjudged = inl tt; status_is = c.tell_no_memory.ensures.status; text_is = refl }))
    c.tell_no_memory.ensures.size c.tell_no_memory.ensures.text
