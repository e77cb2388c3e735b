-- The files of histories, one after another.
use Rattle.std.proofs.Common.{◌≡◌, ◌∙◌, ℕ, ◌+◌, ◌-◌, ◌<◌, ◌≤◌, List, [], ◌∷◌, ◌++◌, length, take, refl, ap, sym, subst}
use Rattle.std.proofs.Common.{arith, append_assoc, append-nil, inl, inr}
use Rattle.std.specs.Prelude.{Ok, Err, Result, Option, Some, None, is_some, true, false, Bool, IfSome, ◌||◌}
use Rattle.std.specs.Prelude.{if◌then◌else◌}
use Rattle.std.specs.List.{list_any}
use Rattle.std.specs.Str.{bytes_eq}
use Rattle.std.proofs.lemmas.List.{length-take}
use Rattle.tw_base.specs.declared.kinds.limits.TheConstants.{MOST_HISTORY_BYTES}
use Rattle.tw_base.specs.format.Formats.{Spells}
use Rattle.tw_base.specs.history.Family.{AllSound, history_of}
use Rattle.tw_base.specs.history.History.{History}
use Rattle.tw_base.specs.history.HistoryCodec.{history_layout}
use Rattle.tw_base.specs.history.Sound.{IsSound}
use Rattle.tw_base.proofs.lemmas.kinds.ListLemmas.{Each-append, In-left, In-right}
use Rattle.tw_history.specs.Refusals.{ReadsHistory}
use Rattle.tw_history.specs.Rules.{IsFirstBroken}
use Rattle.tw_history.specs.declared.fault.HistoryFault.{HistoryFault}
use Rattle.tw_history.specs.declared.fault.HistoryFault.TheVariants as fault
use Rattle.tw_outside.specs.Files.{Files, IsReadTo}
use Rattle.tw_text.specs.declared.refusal.BadInput.{BadInput}
use Rattle.tw_text.specs.declared.refusal.BadInput.TheVariants.{BadByte, BadLine, Unsound}
use Rattle.tw_text.specs.declared.fault.CommandFault.TheVariants.{Unreadable}
use Rattle.tw_filecmd.specs.Faults.{fault_of_history}
use Rattle.tw_filecmd.proofs.FormatFronts.{whole_below}
use Rattle.tw_reachcmd.specs.declared.histories.Family.{Family}
use Rattle.tw_reachcmd.specs.declared.histories.HistoryRefusal.{HistoryRefusal}
use Rattle.tw_reachcmd.specs.declared.histories.HistoryRefusal.TheVariants.{Bad, NoMemory}
use Rattle.tw_reachcmd.proofs.TellingAll.{ends_with}
use Rattle.tw_reachcmd.specs.Held.{TellAll}
use Rattle.tw_reachcmd.specs.Histories.{AreHistories, HasBadHistory, IsBadBeside, IsBadByteBeside, IsHistoryBeside}
use Rattle.tw_reachcmd.specs.Histories.{IsOfFiles}
use Rattle.tw_reachcmd.specs.Reading.{AreHistoriesRead, AreSoFar, IsAloneBeside, IsReadBeside}
use Rattle.tw_reachcmd.specs.Reading.{left_by}

-- ---- a service that one of them is of

abbrev is_of : (service : List ℕ) → History → Bool
is_of service h = bytes_eq h.name service

pub none_of : (family : List History) (service : List ℕ) → list_any (is_of service) family ≡ false
    → history_of family service ≡ None
none_of [] service is = refl
none_of (h ∷ family) service is = by (bytes_eq h.name service) is (none_of family service)
  where
    by : (b : Bool) → (b || list_any (is_of service) family) ≡ false → (list_any (is_of service) family ≡ false
        → history_of family service ≡ None)
        → (if b then Some h else history_of family service) ≡ None
    by true is later = cc
    by false is later = later is

pub some_of : (family : List History) (service : List ℕ) → list_any (is_of service) family ≡ true
    → history_of family service ≡ None → ⊥
some_of [] service is none = cc
some_of (h ∷ family) service is none = by (bytes_eq h.name service) is none (some_of family service)
  where
    by : (b : Bool) → (b || list_any (is_of service) family) ≡ true → (if b then Some h else history_of family service)
        ≡ None
        → (list_any (is_of service) family ≡ true → history_of family service ≡ None → ⊥) → ⊥
    by true is none later = cc
    by false is none later = later is none

-- ---- bytes that hold no history beside others

pub refused_beside : (left : ℕ) (before : List History) (file bytes : List ℕ) (why : HistoryFault)
    (bad : BadInput) → left ≤ MOST_HISTORY_BYTES
    → length bytes ≤ left → ReadsHistory bytes (Err why) → Unreadable bad ≡ fault_of_history file why
    → IsBadBeside left before file bytes bad
refused_beside left before file bytes (fault.TooLong count) bad few short read is =
    absurd (let long = read.0 in omega (arith, few, short, long))
refused_beside left before file bytes (fault.Malformed place) bad few short read is =
    subst (λ (b : BadInput). IsBadBeside left before file bytes b) (let same : BadByte file place ≡ bad = cc in same)
    (refl, inr (inl (short, read.1, read.2)))
refused_beside left before file bytes (fault.Unsound step rule) bad few short read is =
    subst (λ (b : BadInput). IsBadBeside left before file bytes b)
    (let same : Unsound file step rule ≡ bad = cc in same) (refl, short, read.1)
refused_beside left before file bytes fault.NoMemory bad few short read is = absurd cc

pub alone_comes : (left : ℕ) (before : List History) (file bytes : List ℕ) (h : History)
    (r : Result History HistoryRefusal) → length bytes ≤ left
    → Spells history_layout bytes h → IsSound h → IsAloneBeside before file h r → IsReadBeside left before file bytes r
alone_comes left before file bytes h (Ok same) short spelled sound is =
    subst (λ g. IsHistoryBeside left before bytes g) (sym is.0)
    (record { short = short; spelled = spelled; sound = sound; alone = is.1 })
alone_comes left before file bytes h (Err (Bad bad)) short spelled sound is =
    subst (λ (b : BadInput). IsBadBeside left before file bytes b) (sym is.0)
    (refl, inr (inr (short, (h, spelled, sound, is.1), refl)))
alone_comes left before file bytes h (Err NoMemory) short spelled sound is = tt

-- before the first file
pub nothing_read : (told : Option Files) (f : Family) → f.histories ≡ [] → f.bad ≡ None → f.left ≡ MOST_HISTORY_BYTES
    → AreHistoriesRead told [] f
nothing_read told f none fine all_left = record {
  sound = subst (λ hs. AllSound hs) (sym none) tt;
  few = omega (arith, all_left);
  of_files = subst (λ (bad : Option BadInput). IfSome bad (IsOfFiles [])) (sym fine) tt;
  so_far = of;
}
  where
    of : (all : List (List ℕ)) → TellAll told [] all → (f.left ≡ left_by MOST_HISTORY_BYTES all) × AreSoFar [] all
        f.histories f.bad
    of [] tells = (
      all_left,
      subst (λ (bad : Option BadInput). AreSoFar [] [] f.histories bad) (sym fine)
          (subst (λ hs. AreHistories MOST_HISTORY_BYTES [] [] hs) (sym none) tt),
    )
    of (bytes ∷ all) tells = absurd tells

-- ---- what was read of one file, and the file

module _ (left : ℕ) (read bytes : List ℕ) (is : read ≡ take (left + 1) bytes) where
  left_same : left - length read ≡ left - length bytes
  left_same = omega (arith, ap length is, length-take (left + 1) bytes)

  longer : left < length read → left < length bytes
  longer more = omega (arith, ap length is, length-take (left + 1) bytes, more)

  whole : length read ≤ left → read ≡ bytes
  whole short = whole_below (left + 1) read bytes is (omega (arith, short))

  beside_of_file : (before : List History) (h : History) → IsHistoryBeside left before read h → IsHistoryBeside left
      before bytes h
  beside_of_file before h beside = subst (λ b. IsHistoryBeside left before b h) (whole beside.short) beside

  bad_byte_of_file : (before : List History) (place : ℕ) → IsBadByteBeside left before read place → IsBadByteBeside left
      before bytes place
  bad_byte_of_file before place (inl more) = inl (longer more.0, more.1)
  bad_byte_of_file before place (inr (inl none)) = subst (λ b. IsBadByteBeside left before b place) (whole none.0)
      (inr (inl none))
  bad_byte_of_file before place (inr (inr second)) = subst (λ b. IsBadByteBeside left before b place) (whole second.0)
      (inr (inr second))

  bad_of_file : (before : List History) (file : List ℕ) (bad : BadInput) → IsBadBeside left before file read bad
      → IsBadBeside left before file bytes bad
  bad_of_file before file (BadByte named place) is_bad = (is_bad.0, bad_byte_of_file before place is_bad.1)
  bad_of_file before file (Unsound named step rule) is_bad =
      let of_bytes : (length bytes ≤ left) × ((h : History) × Spells history_layout bytes h × IsFirstBroken h step
      rule) =
      subst (λ (b : List ℕ). (length b ≤ left) × ((h : History) × Spells history_layout b h × IsFirstBroken h step
      rule)) (whole is_bad.1) (is_bad.1, is_bad.2) in
      (is_bad.0, of_bytes.0, of_bytes.1)
  bad_of_file before file (BadLine named number) is_bad = absurd is_bad

of_last : (left : ℕ) (before : List History) (files : List (List ℕ)) (file bytes : List ℕ) (bad : BadInput)
    → IsBadBeside left before file bytes bad
    → IsOfFiles (files ++ file ∷ []) bad
of_last left before files file bytes (BadByte named place) is = In-right named files (file ∷ []) (inl is.0)
of_last left before files file bytes (Unsound named step rule) is = In-right named files (file ∷ []) (inl is.0)
of_last left before files file bytes (BadLine named number) is = absurd is

of_more : (files : List (List ℕ)) (file : List ℕ) (bad : Option BadInput) → IfSome bad (IsOfFiles files)
    → IfSome bad (IsOfFiles (files ++ file ∷ []))
of_more files file None is = tt
of_more files file (Some (BadByte named place)) is = In-left named files (file ∷ []) is
of_more files file (Some (Unsound named step rule)) is = In-left named files (file ∷ []) is
of_more files file (Some (BadLine named number)) is = absurd is

-- ---- one file more

left_by-snoc : (left : ℕ) (all : List (List ℕ)) (bytes : List ℕ) → left_by left (all ++ bytes ∷ []) ≡ left_by left all
    - length bytes
left_by-snoc left [] bytes = refl
left_by-snoc left (first ∷ all) bytes = left_by-snoc (left - length first) all bytes

histories-snoc : (left : ℕ) (before : List History) (all : List (List ℕ)) (family : List History) (bytes : List ℕ)
    (h : History)
    → AreHistories left before all family → IsHistoryBeside (left_by left all) (before ++ family) bytes h
    → AreHistories left before (all ++ bytes ∷ []) (family ++ h ∷ [])
histories-snoc left before [] [] bytes h are beside =
    (subst (λ b. IsHistoryBeside left b bytes h) (append-nil before) beside, tt)
histories-snoc left before [] (g ∷ family) bytes h are beside = absurd are
histories-snoc left before (first ∷ all) [] bytes h are beside = absurd are
histories-snoc left before (first ∷ all) (g ∷ family) bytes h are beside = (
  are.0,
  histories-snoc (left - length first) (before ++ g ∷ []) all family bytes h are.1
      (subst (λ b. IsHistoryBeside (left_by (left - length first) all) b bytes h)
      (sym (append_assoc before (g ∷ []) family)) beside),
)

module _ (told : Option Files) where
  bad-snoc : (left : ℕ) (before : List History) (files all : List (List ℕ)) (family : List History)
      (file bytes : List ℕ) (bad : BadInput)
      → TellAll told files all → AreHistories left before all family → IsBadBeside (left_by left all) (before ++ family)
      file bytes bad
      → HasBadHistory left before (files ++ file ∷ []) (all ++ bytes ∷ []) bad
  bad-snoc left before [] [] [] file bytes bad tells are is_bad =
      inl (subst (λ b. IsBadBeside left b file bytes bad) (append-nil before) is_bad)
  bad-snoc left before [] [] (g ∷ family) file bytes bad tells are is_bad = absurd are
  bad-snoc left before [] (first ∷ all) family file bytes bad tells are is_bad = absurd tells
  bad-snoc left before (name ∷ files) [] family file bytes bad tells are is_bad = absurd tells
  bad-snoc left before (name ∷ files) (first ∷ all) [] file bytes bad tells are is_bad = absurd are
  bad-snoc left before (name ∷ files) (first ∷ all) (g ∷ family) file bytes bad tells are is_bad =
      inr (
        g,
        are.0,
        bad-snoc (left - length first) (before ++ g ∷ []) files all family file bytes bad tells.1 are.1
            (subst (λ b. IsBadBeside (left_by (left - length first) all) b file bytes bad)
            (sym (append_assoc before (g ∷ []) family)) is_bad),
      )

  bad-more : (left : ℕ) (before : List History) (files all : List (List ℕ)) (file bytes : List ℕ) (bad : BadInput)
      → HasBadHistory left before files all bad → HasBadHistory left before (files ++ file ∷ []) (all ++ bytes ∷ []) bad
  bad-more left before [] all file bytes bad has = absurd has
  bad-more left before (name ∷ files) [] file bytes bad has = absurd has
  bad-more left before (name ∷ files) (first ∷ all) file bytes bad (inl here) = inl here
  bad-more left before (name ∷ files) (first ∷ all) file bytes bad (inr later) =
      inr (later.0, later.1, bad-more (left - length first) (before ++ later.0 ∷ []) files all file bytes bad later.2)

  -- of what was read alike, the same is known
  pub known_of : (fs : List (List ℕ)) (old new : Family) → old.histories ≡ new.histories → old.bad ≡ new.bad
      → old.left ≡ new.left → AreHistoriesRead told fs old → AreHistoriesRead told fs new
  known_of fs old new histories bad left are = record {
    sound = subst (λ hs. AllSound hs) histories are.sound;
    few = subst (λ k. k ≤ MOST_HISTORY_BYTES) left are.few;
    of_files = subst (λ (b : Option BadInput). IfSome b (IsOfFiles fs)) bad are.of_files;
    so_far = λ all tells.
        let far = are.so_far all tells in (
          sym left ∙ far.0,
          subst (λ (b : Option BadInput). AreSoFar fs all new.histories b) bad (subst (λ hs. AreSoFar fs all hs old.bad)
              histories far.1),
        );
  }

  -- ---- what is known of the files read so far

  module _ (files : List (List ℕ)) (file read : List ℕ) (f : Family) (is_read : IsReadTo told file (f.left + 1) read)
      (are : AreHistoriesRead told files f) where
    abbrev left_after : ℕ
    left_after = f.left - length read

    -- of all files what they left, and what is so of them by the last one
    over : (P : (all : List (List ℕ)) → Type 0) → ((front : List (List ℕ)) (bytes : List ℕ) → TellAll told files front
        → read ≡ take (f.left + 1) bytes → P (front ++ bytes ∷ []))
        → (all : List (List ℕ)) → TellAll told (files ++ file ∷ []) all → (left_after ≡ left_by MOST_HISTORY_BYTES all)
        × P all
    over P by all tells =
        let e = ends_with told files all file tells in
        let is : read ≡ take (f.left + 1) e.bytes = is_read e.bytes e.tells in
        let known = are.so_far e.front e.tells_front in
        let same : left_after ≡ left_by MOST_HISTORY_BYTES (e.front ++ e.bytes ∷ []) =
        left_same f.left read e.bytes is ∙ ap (λ k. k - length e.bytes) known.0
        ∙ sym (left_by-snoc MOST_HISTORY_BYTES e.front e.bytes) in
        subst (λ xs. (left_after ≡ left_by MOST_HISTORY_BYTES xs) × P xs) (sym e.is)
        (same, by e.front e.bytes e.tells_front is)

    few_after : f.left - length read ≤ MOST_HISTORY_BYTES
    few_after = omega (arith, are.few)

    -- behind a file that holds none
    pub read_behind : is_some f.bad ≡ true → AreHistoriesRead told (files ++ file ∷ [])
        (record { histories = f.histories; bad = f.bad; left = f.left - length read })
    read_behind is =
        record {
          sound = are.sound;
          few = few_after;
          of_files = of_more files file f.bad are.of_files;
          so_far = over (λ all. AreSoFar (files ++ file ∷ []) all f.histories f.bad) by;
        }
      where
        by : (front : List (List ℕ)) (bytes : List ℕ) → TellAll told files front → read ≡ take (f.left + 1) bytes
            → AreSoFar (files ++ file ∷ []) (front ++ bytes ∷ []) f.histories f.bad
        by front bytes tells same = of f.bad is (are.so_far front tells).1
          where
            of : (bad : Option BadInput) → is_some bad ≡ true → AreSoFar files front f.histories bad
                → AreSoFar (files ++ file ∷ []) (front ++ bytes ∷ []) f.histories bad
            of None is far = cc
            of (Some bad) is far = bad-more MOST_HISTORY_BYTES [] files front file bytes bad far

    so_far_none : is_some f.bad ≡ false → (front : List (List ℕ)) → TellAll told files front
        → (f.left ≡ left_by MOST_HISTORY_BYTES front) × AreHistories MOST_HISTORY_BYTES [] front f.histories
    so_far_none is front tells = of f.bad is (are.so_far front tells)
      where
        of : (bad : Option BadInput) → is_some bad ≡ false → (f.left ≡ left_by MOST_HISTORY_BYTES front)
            × AreSoFar files front f.histories bad
            → (f.left ≡ left_by MOST_HISTORY_BYTES front) × AreHistories MOST_HISTORY_BYTES [] front f.histories
        of None is far = far
        of (Some bad) is far = cc

    -- one that holds a history
    pub read_history : is_some f.bad ≡ false → (h : History) → IsHistoryBeside f.left f.histories read h
        → AreHistoriesRead told (files ++ file ∷ [])
        (record { histories = f.histories ++ h ∷ []; bad = f.bad; left = f.left - length read })
    read_history is h beside = record {
      sound = Each-append IsSound f.histories (h ∷ []) are.sound (beside.sound, tt);
      few = few_after;
      of_files = of_more files file f.bad are.of_files;
      so_far = over (λ all. AreSoFar (files ++ file ∷ []) all (f.histories ++ h ∷ []) f.bad) by;
    }
      where
        by : (front : List (List ℕ)) (bytes : List ℕ) → TellAll told files front → read ≡ take (f.left + 1) bytes
            → AreSoFar (files ++ file ∷ []) (front ++ bytes ∷ []) (f.histories ++ h ∷ []) f.bad
        by front bytes tells same = of f.bad is
          where
            known : (f.left ≡ left_by MOST_HISTORY_BYTES front) × AreHistories MOST_HISTORY_BYTES [] front f.histories
            known = so_far_none is front tells

            of : (bad : Option BadInput) → is_some bad ≡ false → AreSoFar (files ++ file ∷ []) (front ++ bytes ∷ [])
                (f.histories ++ h ∷ []) bad
            of None is =
                histories-snoc MOST_HISTORY_BYTES [] front f.histories bytes h known.1
                (subst (λ k. IsHistoryBeside k f.histories bytes h) known.0
                (beside_of_file f.left read bytes same f.histories h beside))
            of (Some bad) is = cc

    -- the first that holds none
    pub read_bad : is_some f.bad ≡ false → (bad : BadInput) → IsBadBeside f.left f.histories file read bad
        → AreHistoriesRead told (files ++ file ∷ [])
        (record { histories = f.histories; bad = Some bad; left = f.left - length read })
    read_bad is bad is_bad = record {
      sound = are.sound;
      few = few_after;
      of_files = of_last f.left f.histories files file read bad is_bad;
      so_far = over (λ all. HasBadHistory MOST_HISTORY_BYTES [] (files ++ file ∷ []) all bad) by;
    }
      where
        by : (front : List (List ℕ)) (bytes : List ℕ) → TellAll told files front → read ≡ take (f.left + 1) bytes
            → HasBadHistory MOST_HISTORY_BYTES [] (files ++ file ∷ []) (front ++ bytes ∷ []) bad
        by front bytes tells same =
            let known = so_far_none is front tells in
            bad-snoc MOST_HISTORY_BYTES [] files front f.histories file bytes bad tells known.1
            (subst (λ k. IsBadBeside k f.histories file bytes bad) known.0
            (bad_of_file f.left read bytes same f.histories file bad is_bad))
