-- Want of memory, as each function that C calls tells it.
use Rattle.std.proofs.Common.{◌≡◌, ℕ, List, length}
use Rattle.tw_text.specs.declared.fault.CommandFault.TheVariants.{NoMemory}
use Rattle.tw_text.specs.Faults.{fault_text}
use Rattle.timeweave_c.specs.Answers.{AnswersByText}
use Rattle.timeweave_c.specs.Buffers.{put_in}

pub without_memory :
    {AreTold : (status : ℕ) (text : List ℕ) → Type 0} {before after : List ℕ} {size status : ℕ}
    → AreTold status (fault_text NoMemory) → size ≡ length (fault_text NoMemory)
    → after ≡ put_in (fault_text NoMemory) before → AnswersByText AreTold before after size status
without_memory told size_is after_is =
    record { text = fault_text NoMemory; told = told; size_is = size_is; after_is = after_is }
