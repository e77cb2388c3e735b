-- The histories of an audit: which files hold them, and which is the first that doesn't.
use Rattle.std.specs.Prelude.{◌≡◌, ◌≢◌, ◌⊎◌, ℕ, ◌-◌, ◌<◌, ◌≤◌, List, [], ◌∷◌, ◌++◌, length, Option, None}
use Rattle.tw_base.specs.declared.kinds.limits.TheConstants.{MOST_HISTORY_BYTES}
use Rattle.tw_base.specs.format.Formats.{IsPlace, Spells, SpellsNothing}
use Rattle.tw_base.specs.history.Family.{history_of}
use Rattle.tw_base.specs.history.History.{History}
use Rattle.tw_base.specs.history.HistoryCodec.{history_layout}
use Rattle.tw_base.specs.history.Sound.{IsSound}
use Rattle.tw_base.specs.kinds.Lists.{Each, In}
use Rattle.tw_history.specs.Rules.{IsFirstBroken}
use Rattle.tw_outside.specs.Files.{Files, IsThere}
use Rattle.tw_text.specs.declared.refusal.BadInput.{BadInput}
use Rattle.tw_text.specs.declared.refusal.BadInput.TheVariants.{BadByte, BadLine, Unsound}
use Rattle.tw_reachcmd.specs.Held.{TellAll}

-- ---- one file, beside the histories before it, which left so many bytes of the limit

-- the bytes spell a sound history of a service that none of those before is of, and are no more than were left
pub record IsHistoryBeside (left : ℕ) (before : List History) (bytes : List ℕ) (h : History) : Type 0 where
  pub short : length bytes ≤ left
  pub spelled : Spells history_layout bytes h
  pub sound : IsSound h
  pub alone : history_of before h.name ≡ None

-- the place at which the bytes are none: the number of those left, where they are more than that; else that of the first byte at
-- which no history file goes on; else that of the name, byte 4, where they spell a sound history of a service that one before is of
abbrev pub IsBadByteBeside : (left : ℕ) → (before : List History) → (bytes : List ℕ) → (place : ℕ) → Type 0
IsBadByteBeside left before bytes place =
    ((left < length bytes) × (place ≡ left))
    ⊎ ((length bytes ≤ left) × SpellsNothing history_layout bytes × IsPlace history_layout bytes place)
    ⊎ ((length bytes ≤ left) × ((h : History) × Spells history_layout bytes h × IsSound h × (history_of before h.name ≢ None)) × (place ≡ 4))

-- why they are none: at this place; or they spell a history of which this is the first step that breaks a rule, and the first rule
-- that it breaks
abbrev pub IsBadBeside : (left : ℕ) → (before : List History) → (file bytes : List ℕ) → BadInput → Type 0
IsBadBeside left before file bytes (BadByte named place) = (named ≡ file) × IsBadByteBeside left before bytes place
IsBadBeside left before file bytes (Unsound named step rule) =
    (named ≡ file) × (length bytes ≤ left) × ((h : History) × Spells history_layout bytes h × IsFirstBroken h step rule)
IsBadBeside left before file bytes (BadLine named number) = ⊥

-- it is said of one of these files
abbrev pub IsOfFiles : (files : List (List ℕ)) → BadInput → Type 0
IsOfFiles files (BadByte named place) = In named files
IsOfFiles files (Unsound named step rule) = In named files
IsOfFiles files (BadLine named number) = ⊥

-- ---- several, one after another

-- each spells its history
abbrev pub AreHistories : (left : ℕ) → (before : List History) → (all : List (List ℕ)) → List History → Type 0
AreHistories left before [] [] = Unit {0}
AreHistories left before (bytes ∷ all) (h ∷ family) =
    IsHistoryBeside left before bytes h × AreHistories (left - length bytes) (before ++ h ∷ []) all family
AreHistories left before _ _ = ⊥

-- the first that spells none is bad for this reason
abbrev pub HasBadHistory : (left : ℕ) → (before : List History) → (files all : List (List ℕ)) → BadInput → Type 0
HasBadHistory left before (file ∷ files) (bytes ∷ all) bad =
    IsBadBeside left before file bytes bad
    ⊎ ((h : History) × IsHistoryBeside left before bytes h × HasBadHistory (left - length bytes) (before ++ h ∷ []) files all bad)
HasBadHistory left before _ _ bad = ⊥

-- ---- the files of an audit

module _ (told : Option Files) (files : List (List ℕ)) where
  -- all are there; where the inputs tell their bytes, each is the file of its history, all together no longer than the limit
  pub record HoldHistories (family : List History) : Type 0 where
    pub there : Each (IsThere told) files
    pub are : (all : List (List ℕ)) → TellAll told files all → AreHistories MOST_HISTORY_BYTES [] all family

  -- all are there, and the reason is of one of them; where the inputs tell their bytes, the first that isn't one is bad for it
  pub record HoldNoHistories (bad : BadInput) : Type 0 where
    pub there : Each (IsThere told) files
    pub of_files : IsOfFiles files bad
    pub is_bad : (all : List (List ℕ)) → TellAll told files all → HasBadHistory MOST_HISTORY_BYTES [] files all bad
