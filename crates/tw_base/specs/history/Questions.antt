-- What may be asked of a service.
use Rattle.tw_base.specs.declared.history.question.Question.{Question}
use Rattle.tw_base.specs.declared.history.question.Question.TheVariants as ask
use Rattle.tw_base.specs.history.Limits.{IsStep}
use Rattle.tw_base.specs.kinds.Names.{IsName}

-- a peer's step that is asked for is one
abbrev pub MayAsk : Question → Type 0
MayAsk (ask.Thread step key top) = IsStep key.step
MayAsk (ask.Absent step key top) = IsStep key.step
MayAsk (ask.High step peer top) = IsStep step
MayAsk _ = Unit {0}

-- a peer that is asked for has a name
abbrev pub HasNames : Question → Type 0
HasNames (ask.Thread step key top) = IsName key.from
HasNames (ask.Absent step key top) = IsName key.from
HasNames (ask.Low step peer top) = IsName peer
HasNames (ask.High step peer top) = IsName peer
HasNames _ = Unit {0}
