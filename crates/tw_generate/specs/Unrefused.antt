-- Services that play histories which refuse no call, so that a call on them fails by the disk or by want of memory alone.
use Rattle.std.specs.Prelude.{◌≡◌, ℕ, List}
use Rattle.tw_base.specs.declared.history.refusal.Refusal.{Refusal}
use Rattle.tw_base.specs.declared.history.refusal.Refusal.TheVariants.{DiskFault, NoMemory, TooLong}
use Rattle.tw_base.specs.declared.history.question.Question.{Question}
use Rattle.tw_base.specs.declared.history.question.Question.TheVariants as ask
use Rattle.tw_base.specs.history.History.{History}
use Rattle.tw_base.specs.history.Questions.{MayAsk}
use Rattle.tw_disk.specs.Disk.{DiskView}
use Rattle.tw_service.specs.Machine.{Call}
use Rattle.tw_service.specs.Machine.Call.{Ask}
use Rattle.tw_service.specs.declared.service.Service.{Service}
use Rattle.tw_generate.specs.Coming.{AllCanBeDone, CanTell, IsLedTo, IsNotRefused}
use Rattle.tw_generate.specs.Playing.{AllPlay, ArePlaying, PlaysHistory}
use Rattle.tw_generate.specs.Schedules.{Hears, ScheduledAct, Trio, last_heard}
use Rattle.tw_generate.specs.declared.services.Services.{Services}

-- a fault of the disk, or want of memory
abbrev pub IsFailure : Refusal → Type 0
IsFailure DiskFault = Unit {0}
IsFailure NoMemory = Unit {0}
IsFailure _ = ⊥

-- or that a file would be too long
abbrev pub IsFileFailure : Refusal → Type 0
IsFileFailure (TooLong bytes) = Unit {0}
IsFileFailure DiskFault = Unit {0}
IsFileFailure NoMemory = Unit {0}
IsFileFailure _ = ⊥

-- the answer to the question is a proof of an event, of a thread or of a link
abbrev pub AsksProof : Question → Type 0
AsksProof (ask.Event step index top) = Unit {0}
AsksProof (ask.Thread step key top) = Unit {0}
AsksProof (ask.Link step top) = Unit {0}
AsksProof _ = ⊥

module _ {D H : Type 0} {g : _} {k : _} (dig : List ℕ → List ℕ) (view : D → DiskView) where
  -- the service plays a history that doesn't refuse the call
  abbrev pub TakesCall : Call → Service D H g k → Type 0
  TakesCall call service = (h : History) × PlaysHistory dig view service h × IsNotRefused dig h call

  -- the service plays a history whose answer to the question is a proof
  pub record CanProve (q : Question) (service : Service D H g k) : Type 0 where
    pub history : History
    pub plays : PlaysHistory dig view service history
    pub may : MayAsk q
    pub asks : AsksProof q
    pub goes : IsNotRefused dig history (Ask q)

  -- the services play histories of which the one can tell its last step to the other, whose last archived step of it is known
  abbrev pub CanHear : (from to : Service D H g k) (last : ℕ) → Type 0
  CanHear from to last = (a : History) × (b : History) × PlaysHistory dig view from a × PlaysHistory dig view to b × (last ≡ last_heard b a.name) × CanTell dig a b

  -- the same of two others: it can tell the one, and, having told it, the other one
  pub record CanHearBoth (from one other : Service D H g k) (one_heard other_heard : ℕ) : Type 0 where
    pub teller : History
    pub first : History
    pub second : History
    pub plays : PlaysHistory dig view from teller
    pub plays_first : PlaysHistory dig view one first
    pub plays_second : PlaysHistory dig view other second
    pub first_is : one_heard ≡ last_heard first teller.name
    pub second_is : other_heard ≡ last_heard second teller.name
    pub can_first : CanTell dig teller first
    pub can_second : (h : History) → Hears dig teller first h → CanTell dig teller second

  -- the services play histories from which all acts can be done
  abbrev pub CanPlay : List ScheduledAct → Services D H g k → Type 0
  CanPlay acts services = (t : Trio) × ArePlaying dig view services t × AllCanBeDone dig acts t

  -- the services play these histories, to which the number's schedule of so many rounds leads
  abbrev pub HavePlayed : (number rounds : ℕ) → Trio → Services D H g k → Type 0
  HavePlayed number rounds t services = AllPlay dig view services t × IsLedTo dig number rounds t
