-- What is told of files: the status and the text of a verdict on their bytes, or those of why there is none.
use Rattle.std.specs.Prelude.{◌≡◌, ℕ, List}
use Rattle.tw_text.specs.declared.fault.CommandFault.{CommandFault}
use Rattle.tw_text.specs.Faults.{fault_status, fault_text}

-- a verdict that is so, with its status and its text
pub record TellsJudged {V : Type 0} (IsSo : V → Type 0) (status_of : V → ℕ) (text_of : V → List ℕ) (status : ℕ) (text : List ℕ) : Type 0 where
  pub verdict : V
  pub judged : IsSo verdict
  pub status_is : status ≡ status_of verdict
  pub text_is : text ≡ text_of verdict

-- a fault that is so, with its status and its text
pub record TellsWhy (IsSo : CommandFault → Type 0) (status : ℕ) (text : List ℕ) : Type 0 where
  pub fault : CommandFault
  pub unjudged : IsSo fault
  pub status_is : status ≡ fault_status fault
  pub text_is : text ≡ fault_text fault
