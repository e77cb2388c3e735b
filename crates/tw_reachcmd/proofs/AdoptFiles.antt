-- From what was read of a history, anchors and proofs to what taking over the history comes to.
use Rattle.std.proofs.Common.{◌≡◌, ℕ, suc, ◌+◌, ◌<◌, ◌≤◌, List, [], ◌∷◌, ◌++◌, length, take, drop, refl, ap, sym, subst}
use Rattle.std.proofs.Common.{arith, inl, inr, false}
use Rattle.std.specs.Prelude.{◌≢◌, Option, Some, Result, Ok, Err}
use Rattle.std.proofs.lemmas.List.{length-take}
use Rattle.sha2.specs.Sha256.{sha256}
use Rattle.sha2.proofs.Facts256.{length-sha256}
use Rattle.tw_base.specs.declared.history.thread.Thread.{Thread}
use Rattle.tw_base.specs.declared.kinds.limits.TheConstants.{MOST_HISTORY_BYTES}
use Rattle.tw_base.specs.format.Formats.{IsPlace, Spells, SpellsNothing}
use Rattle.tw_base.specs.history.History.{History}
use Rattle.tw_base.specs.history.HistoryCodec.{history_bytes, history_codec, history_layout}
use Rattle.tw_base.specs.history.Sound.{IsSound}
use Rattle.tw_base.specs.kinds.HasherSteps.{bytes-sha256}
use Rattle.tw_base.specs.kinds.Lists.{Each}
use Rattle.tw_base.proofs.lemmas.format.CodecLaws.{written-as}
use Rattle.tw_base.proofs.lemmas.history.HistoryCodecLaws.{history-lawful}
use Rattle.tw_outside.specs.Asked.{Asked}
use Rattle.tw_outside.specs.Files.{Files, IsReadTo, IsThere}
use Rattle.tw_text.specs.declared.fault.CommandFault.{CommandFault}
use Rattle.tw_text.specs.declared.fault.CommandFault.TheVariants as command
use Rattle.tw_text.specs.declared.refusal.BadInput.{BadInput}
use Rattle.tw_text.specs.declared.refusal.BadInput.TheVariants.{BadByte, BadLine, Unsound}
use Rattle.tw_chain.specs.declared.proof.Proof.{Proof}
use Rattle.tw_chain.specs.declared.verdict.Verdict.TheVariants.{No}
use Rattle.tw_base.specs.declared.history.report.Reason.{Reason}
use Rattle.tw_chain.specs.Proofs.{proof_layout}
use Rattle.tw_chain.specs.Reasons.{IsVerdict}
use Rattle.tw_chain.proofs.ProofSizes.{proof-size}
use Rattle.tw_adopt.specs.declared.adopted.AdoptFault.{AdoptFault}
use Rattle.tw_adopt.specs.declared.adopted.AdoptFault.TheVariants.{Part, Stranger, Differs, NoMemory}
use Rattle.tw_adopt.specs.declared.adopted.Adopted.{Adopted}
use Rattle.tw_adopt.specs.declared.receiving.Receiving.{Receiving}
use Rattle.tw_adopt.specs.Adopting.{AreGood, IsAdoptFault, IsAdoption, IsFirstFault, IsGood, IsOther, ShowsNoReceiving}
use Rattle.tw_adopt.specs.Adopting.{ShowsReceiving, furthest}
use Rattle.tw_adopt.proofs.AdoptionLaws.{adoption-binds}
use Rattle.tw_adopt.proofs.Fronts.{short-first_steps}
use Rattle.tw_filecmd.specs.Showing.{BreaksRule, IsBadByte, IsHistoryFileOf, OfHistory}
use Rattle.tw_filecmd.proofs.AnchorFronts.{file_limit}
use Rattle.tw_filecmd.proofs.FormatFronts.{whole_below, whole_or_broken, word_is_whole}
use Rattle.tw_filecmd.proofs.ProofFronts.{verdict_behind}
use Rattle.tw_reachcmd.specs.declared.adopting.Taken.{Taken}
use Rattle.tw_reachcmd.specs.declared.adopting.Taken.TheVariants.{File, Fault}
use Rattle.tw_reachcmd.specs.Adopting.{AdoptComes, IsAdoptionTaken, IsTakenOf}
use Rattle.tw_reachcmd.specs.AdoptReading.{AreReadTo, IsHistoryIn, TakenIs, TakenUnder}
use Rattle.tw_reachcmd.specs.Anchors.{AreAnchorsOf}
use Rattle.tw_reachcmd.specs.Held.{TellAll}
use Rattle.tw_reachcmd.specs.Histories.{IsBadBeside, IsBadByteBeside}
use Rattle.tw_reachcmd.proofs.EvidenceFiles.{anchors_held, bad_line_of}

-- ---- files, one after another

module _ (told : Option Files) (limit : ℕ) where
  -- one file more
  pub read-snoc : (files read : List (List ℕ)) (file bytes : List ℕ) → AreReadTo told limit files read
      → IsReadTo told file limit bytes
      → AreReadTo told limit (files ++ file ∷ []) (read ++ bytes ∷ [])
  read-snoc [] [] file bytes are is = (is, tt)
  read-snoc [] (one ∷ read) file bytes are is = absurd are
  read-snoc (first ∷ files) [] file bytes are is = absurd are
  read-snoc (first ∷ files) (one ∷ read) file bytes are is = (are.0, read-snoc files read file bytes are.1 is)

  -- of each file something was read
  pub read-count : (files read : List (List ℕ)) → AreReadTo told limit files read → length read ≡ length files
  read-count [] [] are = refl
  read-count [] (bytes ∷ read) are = absurd are
  read-count (file ∷ files) [] are = absurd are
  read-count (file ∷ files) (bytes ∷ read) are = ap suc (read-count files read are.1)

  -- where there is a file, something was read
  pub read-some : (file : List ℕ) (files read : List (List ℕ)) → AreReadTo told limit (file ∷ files) read
      → 0 < length read
  read-some file files [] are = absurd are
  read-some file files (bytes ∷ read) are = omega arith

-- ---- what was read of a proof's file says what all of it says

proof-short : (word : List ℕ) (p : Proof) → Spells proof_layout word p → length word < file_limit
proof-short word p spelled = let size = proof-size word p spelled in omega (arith, size)

module _ (anchors : List Thread) (h : History) where
  module _ (front bytes : List ℕ) (read : front ≡ take file_limit bytes) where
    whole : (p : Proof) → Spells proof_layout front p → front ≡ bytes
    whole p spelled = word_is_whole proof_layout file_limit proof-short front bytes read p spelled

    shows_of : (r : Receiving) → ShowsReceiving sha256 anchors h front r → ShowsReceiving sha256 anchors h bytes r
    shows_of r shows = subst (λ (b : List ℕ). ShowsReceiving sha256 anchors h b r) (whole shows.0.0 shows.0.1) shows

    good_of : (r : Receiving) → IsGood sha256 anchors h front r → IsGood sha256 anchors h bytes r
    good_of r good = (shows_of r good.0, good.1)

    other_of : (step : ℕ) (held : List ℕ) (found : Option (List ℕ)) → IsOther sha256 anchors h front step held found
        → IsOther sha256 anchors h bytes step held found
    other_of step held found is = record {
      shown = is.shown;
      shows = shows_of is.shown is.shows;
      step_is = is.step_is;
      held_is = is.held_is;
      found_is = is.found_is;
      differs = is.differs;
    }

    rejected_of : (reason : Reason) → IsVerdict sha256 anchors false front (No reason) → IsVerdict sha256 anchors false
        bytes (No reason)
    rejected_of reason is = elim (whole_or_broken proof_layout file_limit proof-short front bytes read) [
      | inl all ↦ subst (λ (b : List ℕ). IsVerdict sha256 anchors false b (No reason)) all is
      | inr broken ↦
          subst (λ (b : List ℕ). IsVerdict sha256 anchors false b (No reason)) broken.1
          (verdict_behind front (drop file_limit bytes) broken.0 sha256 anchors false (No reason) is)
    ]

    fault_of : (number : ℕ) (fault : AdoptFault) → IsAdoptFault sha256 anchors h number front fault
        → IsAdoptFault sha256 anchors h number bytes fault
    fault_of number (Part n reason) is = (is.0, rejected_of reason is.1)
    fault_of number (Stranger n) is =
        (is.0, subst (λ (b : List ℕ). ShowsNoReceiving sha256 anchors h b) (whole is.1.0.0 is.1.0.1) is.1)
    fault_of number (Differs n step held found) is = (is.0, other_of step held found is.1)
    fault_of number NoMemory is = is

  module _ (told : Option Files) where
    good_all : (files read all : List (List ℕ)) (shown : List Receiving) → AreReadTo told file_limit files read
        → TellAll told files all
        → AreGood sha256 anchors h read shown → AreGood sha256 anchors h all shown
    good_all [] [] [] shown are tells good = good
    good_all [] [] (bytes ∷ all) shown are tells good = absurd tells
    good_all [] (front ∷ read) all shown are tells good = absurd are
    good_all (file ∷ files) [] all shown are tells good = absurd are
    good_all (file ∷ files) (front ∷ read) [] shown are tells good = absurd tells
    good_all (file ∷ files) (front ∷ read) (bytes ∷ all) [] are tells good = absurd good
    good_all (file ∷ files) (front ∷ read) (bytes ∷ all) (r ∷ shown) are tells good =
        (good_of front bytes (are.0 bytes tells.0) r good.0, good_all files read all shown are.1 tells.1 good.1)

    fault_all : (number : ℕ) (files read all : List (List ℕ)) (fault : AdoptFault) → AreReadTo told file_limit files
        read → TellAll told files all
        → IsFirstFault sha256 anchors h number read fault → IsFirstFault sha256 anchors h number all fault
    fault_all number [] [] [] fault are tells is = is
    fault_all number [] [] (bytes ∷ all) fault are tells is = absurd tells
    fault_all number [] (front ∷ read) all fault are tells is = absurd are
    fault_all number (file ∷ files) [] all fault are tells is = absurd are
    fault_all number (file ∷ files) (front ∷ read) [] fault are tells is = absurd tells
    fault_all number (file ∷ files) (front ∷ read) (bytes ∷ all) fault are tells (inl here) =
        inl (fault_of front bytes (are.0 bytes tells.0) number fault here)
    fault_all number (file ∷ files) (front ∷ read) (bytes ∷ all) fault are tells (inr later) =
        inr (
          later.0,
          good_of front bytes (are.0 bytes tells.0) later.0 later.1,
          fault_all (number + 1) files read all fault are.1 tells.1 later.2,
        )

    -- what comes of the proofs that were read is what all that their files hold comes to
    taken_of : (files read : List (List ℕ)) (taken : Taken) → IsSound h → AreReadTo told file_limit files read
        → TakenIs anchors h read (Ok taken)
        → IsAdoptionTaken told anchors files taken h
    taken_of files read (Fault fault) sound are is = λ all tells. fault_all 1 files read all fault are tells is
    taken_of files read (File bytes) sound are is = record {
      adopted = is.0;
      file = is.1;
      answers = answers;
      binds = λ all tells. adoption-binds sha256 anchors h length-sha256 bytes-sha256 sound all (Ok is.0)
          (answers all tells);
    }
      where
        answers : (all : List (List ℕ)) → TellAll told files all → IsAdoption sha256 anchors h all (Ok is.0)
        answers all tells = (is.2.0, is.2.1, good_all files read all (is.2.0 ∷ is.2.1) are tells is.2.2, is.2.3)

-- what a fault tells of so many proofs, counted from this number on
abbrev IsWithin : (number count : ℕ) → AdoptFault → Type 0
IsWithin number count (Part n reason) = (number ≤ n) × (n < number + count)
IsWithin number count (Stranger n) = (number ≤ n) × (n < number + count)
IsWithin number count (Differs n step held found) = (number ≤ n) × (n < number + count) × (found ≢ Some held)
IsWithin number count NoMemory = ⊥

module _ (anchors : List Thread) (h : History) where
  within-one : (number count : ℕ) (bytes : List ℕ) (fault : AdoptFault) → IsAdoptFault sha256 anchors h number bytes
      fault → IsWithin number (suc count) fault
  within-one number count bytes (Part n reason) is =
      (let at = is.0 in omega (arith, at), let at = is.0 in omega (arith, at))
  within-one number count bytes (Stranger n) is =
      (let at = is.0 in omega (arith, at), let at = is.0 in omega (arith, at))
  within-one number count bytes (Differs n step held found) is =
      (let at = is.0 in omega (arith, at), let at = is.0 in omega (arith, at), is.1.differs)
  within-one number count bytes NoMemory is = is

  within-more : (number count : ℕ) (fault : AdoptFault) → IsWithin (number + 1) count fault
      → IsWithin number (suc count) fault
  within-more number count (Part n reason) is =
      (let low = is.0 in omega (arith, low), let high = is.1 in omega (arith, high))
  within-more number count (Stranger n) is =
      (let low = is.0 in omega (arith, low), let high = is.1 in omega (arith, high))
  within-more number count (Differs n step held found) is =
      (let low = is.0 in omega (arith, low), let high = is.1 in omega (arith, high), is.2)
  within-more number count NoMemory is = is

  within-all : (number : ℕ) (proofs : List (List ℕ)) (fault : AdoptFault) → IsFirstFault sha256 anchors h number proofs
      fault → IsWithin number (length proofs) fault
  within-all number [] fault is = absurd is
  within-all number (bytes ∷ proofs) fault (inl here) = within-one number (length proofs) bytes fault here
  within-all number (bytes ∷ proofs) fault (inr later) = within-more number (length proofs) fault
      (within-all (number + 1) proofs fault later.2)

  told_of : (proofs : List (List ℕ)) (taken : Taken) (count : ℕ) → length proofs ≡ count → TakenIs anchors h proofs
      (Ok taken) → IsTakenOf count taken
  told_of proofs (File bytes) count size is = tt
  told_of proofs (Fault fault) count size is = by fault (within-all 1 proofs fault is)
    where
      by : (fault : AdoptFault) → IsWithin 1 (length proofs) fault → IsTakenOf count (Fault fault)
      by (Part n reason) of = (let low = of.0 in omega (arith, low), let high = of.1 in omega (arith, high, size))
      by (Stranger n) of = (let low = of.0 in omega (arith, low), let high = of.1 in omega (arith, high, size))
      by (Differs n step held found) of =
          (let low = of.0 in omega (arith, low), let high = of.1 in omega (arith, high, size), of.2)
      by NoMemory of = of

-- the file of what is taken over is no longer than the history's
pub short_taken : (anchors : List Thread) (h : History) (proofs : List (List ℕ)) (a : Adopted)
    → length (history_bytes h) ≤ MOST_HISTORY_BYTES
    → IsAdoption sha256 anchors h proofs (Ok a) → length (history_bytes a.history) ≤ MOST_HISTORY_BYTES
short_taken anchors h proofs a short is =
    let step : ℕ = (furthest is.0 is.1).entry.thread.step in
    let less = short-first_steps h step in
    subst (λ (b : Adopted). length (history_bytes b.history) ≤ MOST_HISTORY_BYTES) (sym is.3)
    (omega (arith, less, short))

-- under the anchors of lines; want of memory is free there as well
pub under_lines : (file lines : List ℕ) (h : History) (proofs : List (List ℕ)) (held : List Thread)
    (r : Result Taken CommandFault) → AreAnchorsOf lines held
    → TakenIs held h proofs r → TakenUnder file lines h proofs r
under_lines file lines h proofs held (Ok taken) are is = (held, are, is)
under_lines file lines h proofs held (Err command.NoMemory) are is = tt
under_lines file lines h proofs held _ are is = absurd is

-- ---- the history

-- the file that spells a history is no longer than the limit
pub short_file : (bytes : List ℕ) (h : History) → IsHistoryFileOf bytes h → length (history_bytes h)
    ≤ MOST_HISTORY_BYTES
short_file bytes h is = subst (λ (b : List ℕ). length b ≤ MOST_HISTORY_BYTES) (written-as history_codec history-lawful
    bytes h is.spelled) is.short

-- beside none before it
pub none_beside : (file bytes : List ℕ) (bad : BadInput) → IsBadBeside MOST_HISTORY_BYTES [] file bytes bad
    → IsHistoryIn file bytes (Err (command.Unreadable bad))
none_beside file bytes (BadByte named place) is = (is.0, by is.1)
  where
    by : IsBadByteBeside MOST_HISTORY_BYTES [] bytes place → IsBadByte bytes place
    by (inl long) = inl long
    by (inr (inl none)) = inr none
    by (inr (inr taken)) = absurd (taken.1.3 refl)
none_beside file bytes (Unsound named step rule) is = (is.0, (is.1, is.2))
none_beside file bytes (BadLine named number) is = absurd is

module _ (read bytes : List ℕ) (is : read ≡ take (MOST_HISTORY_BYTES + 1) bytes) where
  all_read : length read ≤ MOST_HISTORY_BYTES → read ≡ bytes
  all_read short = whole_below (MOST_HISTORY_BYTES + 1) read bytes is (omega (arith, short))

  byte_of_file : (place : ℕ) → IsBadByte read place → IsBadByte bytes place
  byte_of_file place (inl long) =
      inl (let more = long.0 in omega (arith, ap length is, length-take (MOST_HISTORY_BYTES + 1) bytes, more), long.1)
  byte_of_file place (inr none) =
      inr (subst (λ (b : List ℕ). (length b ≤ MOST_HISTORY_BYTES) × SpellsNothing history_layout b
      × IsPlace history_layout b place) (all_read none.0) none)

  rule_of_file : (step rule : ℕ) → BreaksRule read step rule → BreaksRule bytes step rule
  rule_of_file step rule breaks = subst (λ (b : List ℕ). BreaksRule b step rule) (all_read breaks.0) breaks

-- ---- the command

module _ (a : Asked) (history anchors : List ℕ) (proofs : List (List ℕ)) (bytes lines : List ℕ)
    (there : IsThere a.told history)
    (read : IsReadTo a.told history (MOST_HISTORY_BYTES + 1) bytes) (anchors_there : IsThere a.told anchors)
    (each : Each (IsThere a.told) proofs) where
  -- the history's file holds none
  pub refuses_history : (fault : CommandFault) → IsHistoryIn history bytes (Err fault) → AdoptComes a history anchors
      proofs (Err fault)
  refuses_history (command.Unreadable (BadByte named place)) is =
      (is.0, (there, (anchors_there, each)), λ all tells. byte_of_file bytes all (read all tells) place is.1)
  refuses_history (command.Unreadable (Unsound named step rule)) is =
      (is.0, (there, (anchors_there, each)), λ all tells. rule_of_file bytes all (read all tells) step rule is.1)
  refuses_history command.NoMemory is = tt
  refuses_history _ is = absurd is

  module _ (h : History) (is_file : IsHistoryFileOf bytes h) where
    of_history : (P : History → Type 0) → P h → OfHistory a.told history P
    of_history P holds = record {
      there = there;
      holds = λ all tells. (
        h,
        subst (λ (b : List ℕ). IsHistoryFileOf b h) (all_read bytes all (read all tells) is_file.short) is_file,
        holds,
      );
    }

    -- it holds one
    pub takes : (given : List (List ℕ)) (r : Result Taken CommandFault) → IsReadTo a.told anchors file_limit lines
        → AreReadTo a.told file_limit proofs given
        → TakenUnder anchors lines h given r → AdoptComes a history anchors proofs r
    takes given (Ok taken) anchors_read are comes = (
      comes.0,
      anchors_held a.told anchors lines anchors_there anchors_read comes.0 comes.1,
      each,
      of_history (IsAdoptionTaken a.told comes.0 proofs taken) (taken_of comes.0 h a.told proofs given taken
          is_file.sound are comes.2),
      told_of comes.0 h given taken (length proofs) (read-count a.told file_limit proofs given are) comes.2,
    )
    takes given (Err (command.Unreadable (BadLine named number))) anchors_read are is = (
      is.0,
      bad_line_of a.told anchors lines anchors_there anchors_read history number there is.1,
      each,
      of_history (λ g. Unit {0}) tt,
    )
    takes given (Err command.NoMemory) anchors_read are is = tt
    takes given _ anchors_read are is = absurd is
