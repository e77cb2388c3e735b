-- The files of receipts, one after another.
use Rattle.std.proofs.Common.{◌≡◌, ◌∙◌, ℕ, ◌+◌, ◌-◌, ◌<◌, ◌≤◌, List, [], ◌∷◌, ◌++◌, length, take, drop, refl, ap, sym}
use Rattle.std.proofs.Common.{subst, arith, inl, inr, ◌⊎◌}
use Rattle.std.specs.Prelude.{Option, Some, None, Result, Ok, Err, IfErr, IfOk, is_some, true, false}
use Rattle.std.proofs.lemmas.Bool.{cases_lt}
use Rattle.std.proofs.lemmas.List.{length-append, length-take, length-take-le, take-append-drop, take_all}
use Rattle.tw_base.specs.declared.history.report.Hop.{Hop}
use Rattle.tw_base.specs.declared.history.thread.Key.{Key}
use Rattle.tw_base.specs.declared.kinds.failure.InputFault.{InputFault as ReadingFault}
use Rattle.tw_base.specs.declared.kinds.failure.InputFault.TheVariants.{Failed, NoMemory as WantedMemory}
use Rattle.tw_base.specs.declared.kinds.failure.ReadFault.TheVariants.{Malformed}
use Rattle.tw_base.specs.kinds.Faults.{Rose}
use Rattle.tw_base.specs.kinds.Lists.{Each}
use Rattle.tw_base.proofs.lemmas.kinds.ListLemmas.{In-left, In-right}
use Rattle.tw_base.specs.format.Formats.{Spells}
use Rattle.tw_outside.specs.Asked.{Asked}
use Rattle.tw_outside.specs.Files.{Files, IsReadTo, IsThere}
use Rattle.tw_text.specs.Faults.{fault_of_input}
use Rattle.tw_text.specs.declared.fault.CommandFault.{CommandFault}
use Rattle.tw_text.specs.declared.fault.CommandFault.TheVariants.{InputFault, NoMemory, Unreadable}
use Rattle.tw_text.specs.declared.refusal.BadInput.{BadInput}
use Rattle.tw_text.specs.declared.refusal.BadInput.TheVariants.{BadByte, BadLine, Unsound}
use Rattle.tw_msg.specs.declared.receipt.Receipt.{Receipt}
use Rattle.tw_msg.specs.Receipts.{receipt_layout}
use Rattle.tw_msg.proofs.ReceiptCodec.{receipt-lawful, receipt-size}
use Rattle.tw_atlas.specs.declared.limits.TheConstants.{MOST_RECEIPTS}
use Rattle.tw_atlas.specs.ReceiptFiles.{AddsHops, AreReceipts, GoesNoFurther, IsBadAt, IsFull, room}
use Rattle.tw_atlas.proofs.ReceiptFileLaws.{bad-front, file-size}
use Rattle.tw_atlas.proofs.ReceiptLaws.{receipts-size}
use Rattle.tw_filecmd.proofs.AnchorFronts.{file_limit}
use Rattle.tw_filecmd.proofs.FormatFronts.{whole_below}
use Rattle.tw_reachcmd.specs.declared.atlas.Receipts.{Receipts}
use Rattle.tw_reachcmd.specs.Held.{TellAll}
use Rattle.tw_reachcmd.specs.Atlas.{AreHops, AtlasComes, HasBadReceipts}
use Rattle.tw_reachcmd.specs.ReadingReceipts.{AreHopsSoFar, AreReceiptsRead, HopsCome}
use Rattle.tw_reachcmd.proofs.TellingAll.{ends_with}

-- ---- what was read of one file, and the file

-- files of receipts have few bytes
size_of : (most : ℕ) (bytes : List ℕ) (receipts : List Receipt) → most ≤ MOST_RECEIPTS → AreReceipts most bytes receipts
    → length bytes < file_limit
size_of most bytes receipts few are = let size = file-size most bytes receipts are in omega (arith, size, are.few, few)

room_few : (hops : List Hop) → room hops ≤ MOST_RECEIPTS
room_few hops = omega arith

module _ (read bytes : List ℕ) (is : read ≡ take file_limit bytes) where
  -- what is added of it is of the file
  added_of_file : (before after : List Hop) → AddsHops read before after (Ok tt) → AddsHops bytes before after (Ok tt)
  added_of_file before after adds =
      let short = size_of (room before) read adds.0 (room_few before) adds.1 in
      subst (λ b. AddsHops b before after (Ok tt)) (whole_below file_limit read bytes is short) adds

word-size : (word : List ℕ) (r : Receipt) → Spells receipt_layout word r → length word ≡ 116
word-size word r spelled = let is = receipt-lawful.words word r spelled in ap length is.0 ∙ receipt-size r is.1

-- the bad byte stands not far behind the receipts
behind_few : (most : ℕ) (receipts : List Receipt) (rest : List ℕ) (behind : ℕ) → IsFull most receipts rest behind
    ⊎ GoesNoFurther most receipts rest behind → behind ≤ 116
behind_few most receipts rest behind (inl full) = let first = full.first in omega (arith, first)
behind_few most receipts rest behind (inr stops) =
    let front = stops.is_place.good in
    let size = word-size (take behind rest ++ front.0) front.1 front.2 in
    omega (arith, size, length-append (take behind rest) front.0, length-take-le behind rest stops.is_place.within)

few_of : (most : ℕ) (receipts : List Receipt) (rest : List ℕ) (behind : ℕ) → IsFull most receipts rest behind
    ⊎ GoesNoFurther most receipts rest behind
    → length receipts ≤ most
few_of most receipts rest behind (inl full) = let all = full.all in omega (arith, all)
few_of most receipts rest behind (inr stops) = let room = stops.room in omega (arith, room)

module _ (read bytes : List ℕ) (is : read ≡ take file_limit bytes) where
  -- where more was in the file than was read, it is bad where what was read is
  bad_longer : (before : List Hop) (place : ℕ) → file_limit < length bytes → IsBadAt (room before) read place
      → IsBadAt (room before) bytes place
  bad_longer before place longer bad =
      let size : length read ≡ file_limit = ap length is ∙ length-take-le file_limit bytes (omega (arith, longer)) in
      let counted = receipts-size bad.receipts bad.begins.spelled in
      let few = few_of (room before) bad.receipts bad.rest bad.behind bad.bad in
      let near = behind_few (room before) bad.receipts bad.rest bad.behind bad.bad in
      let first = bad.place_is in
      let rooms = room_few before in
      let within : place < length read = omega (arith, size, counted, few, near, first, rooms) in
      subst (λ (bs : List ℕ). IsBadAt (room before) bs place) (ap (λ front. front ++ drop file_limit bytes) is
      ∙ take-append-drop file_limit bytes)
      (bad-front (room before) read (drop file_limit bytes) place bad within)

  bad_of_file : (before after : List Hop) (place : ℕ) → AddsHops read before after (Err (Malformed place))
      → AddsHops bytes before before (Err (Malformed place))
  bad_of_file before after place bad = elim (cases_lt file_limit (length bytes)) [
    | inl longer ↦ (
      (λ receipts are. let short = size_of (room before) bytes receipts (room_few before) are in
          omega (arith, short, longer)),
      bad_longer before place longer bad.1,
    )
    | inr fits ↦ subst (λ b. AddsHops b before before (Err (Malformed place))) (is ∙ take_all file_limit bytes fits) bad
  ]

-- ---- one file more

hops-snoc : (before : List Hop) (all : List (List ℕ)) (hops next : List Hop) (bytes : List ℕ) → AreHops before all hops
    → AddsHops bytes hops next (Ok tt)
    → AreHops before (all ++ bytes ∷ []) next
hops-snoc before [] hops next bytes are adds = (next, subst (λ hs. AddsHops bytes hs next (Ok tt)) are adds, refl)
hops-snoc before (first ∷ all) hops next bytes are adds = (are.0, are.1, hops-snoc are.0 all hops next bytes are.2 adds)

module _ (told : Option Files) where
  bad-snoc : (before : List Hop) (files all : List (List ℕ)) (hops : List Hop) (file bytes : List ℕ) (place : ℕ)
      → TellAll told files all
      → AreHops before all hops → AddsHops bytes hops hops (Err (Malformed place))
      → HasBadReceipts before (files ++ file ∷ []) (all ++ bytes ∷ []) file place
  bad-snoc before [] [] hops file bytes place tells are bad =
      inl (refl, subst (λ hs. AddsHops bytes hs hs (Err (Malformed place))) are bad)
  bad-snoc before [] (first ∷ all) hops file bytes place tells are bad = absurd tells
  bad-snoc before (name ∷ files) [] hops file bytes place tells are bad = absurd tells
  bad-snoc before (name ∷ files) (first ∷ all) hops file bytes place tells are bad =
      inr (are.0, are.1, bad-snoc are.0 files all hops file bytes place tells.1 are.2 bad)

  bad-more : (before : List Hop) (files all : List (List ℕ)) (file bytes named : List ℕ) (place : ℕ)
      → HasBadReceipts before files all named place → HasBadReceipts before (files ++ file ∷ []) (all ++ bytes ∷ [])
      named place
  bad-more before [] all file bytes named place has = absurd has
  bad-more before (name ∷ files) [] file bytes named place has = absurd has
  bad-more before (name ∷ files) (first ∷ all) file bytes named place (inl here) = inl here
  bad-more before (name ∷ files) (first ∷ all) file bytes named place (inr later) =
      inr (later.0, later.1, bad-more later.0 files all file bytes named place later.2)

  module _ (files : List (List ℕ)) (file read : List ℕ) (is_read : IsReadTo told file file_limit read) where
    -- behind one that isn't as it has to be
    pub receipts_behind : (hops : List Hop) (bad : Option BadInput) → is_some bad ≡ true → AreHopsSoFar told files hops
        bad → AreHopsSoFar told (files ++ file ∷ []) hops bad
    receipts_behind hops None is are = cc
    receipts_behind hops (Some (BadByte named place)) is are = (
      In-left named files (file ∷ []) are.0,
      λ all tells.
          let e = ends_with told files all file tells in
          subst (λ xs. HasBadReceipts [] (files ++ file ∷ []) xs named place) (sym e.is)
          (bad-more [] files e.front file e.bytes named place (are.1 e.front e.tells_front)),
    )
    receipts_behind hops (Some (BadLine named number)) is are = absurd are
    receipts_behind hops (Some (Unsound named step rule)) is are = absurd are

    -- one that is
    pub receipts_added : (hops next : List Hop) (bad : Option BadInput) → is_some bad ≡ false → AddsHops read hops next
        (Ok tt)
        → AreHopsSoFar told files hops bad → AreHopsSoFar told (files ++ file ∷ []) next bad
    receipts_added hops next None is adds are = λ all tells.
        let e = ends_with told files all file tells in
        let of_bytes = added_of_file read e.bytes (is_read e.bytes e.tells) hops next adds in
        subst (λ xs. AreHops [] xs next) (sym e.is) (hops-snoc [] e.front hops next e.bytes (are e.front e.tells_front)
        of_bytes)
    receipts_added hops next (Some bad) is adds are = cc

    -- the first that isn't
    pub receipts_bad : (hops after : List Hop) (bad : Option BadInput) (place : ℕ) (came : BadInput)
        → is_some bad ≡ false
        → AddsHops read hops after (Err (Malformed place)) → came ≡ BadByte file place
        → AreHopsSoFar told files hops bad → AreHopsSoFar told (files ++ file ∷ []) after (Some came)
    receipts_bad hops after None place came is none told_as are =
        subst (λ (b : BadInput). AreHopsSoFar told (files ++ file ∷ []) after (Some b)) (sym told_as) (
          In-right file files (file ∷ []) (inl refl),
          λ all tells.
              let e = ends_with told files all file tells in
              let of_bytes = bad_of_file read e.bytes (is_read e.bytes e.tells) hops after place none in
              subst (λ xs. HasBadReceipts [] (files ++ file ∷ []) xs file place) (sym e.is)
              (bad-snoc [] files e.front hops file e.bytes place e.tells_front (are e.front e.tells_front) of_bytes),
        )
    receipts_bad hops after (Some bad) place came is none told_as are = cc

-- before the first file
pub nothing_read : (told : Option Files) (r : Receipts) → r.hops ≡ [] → r.bad ≡ None → AreReceiptsRead told [] r
nothing_read told r none fine = subst (λ (bad : Option BadInput). AreHopsSoFar told [] r.hops bad) (sym fine) of
  where
    of : (all : List (List ℕ)) → TellAll told [] all → AreHops [] all r.hops
    of [] tells = none
    of (bytes ∷ all) tells = absurd tells

-- ---- the command

pub hops_come : (a : Asked) (files : List (List ℕ)) (r : Receipts) (result : Result (List Hop) CommandFault)
    → Each (IsThere a.told) files
    → length r.hops ≤ MOST_RECEIPTS → AreReceiptsRead a.told files r
    → IfOk result (λ hops. (hops ≡ r.hops) × (r.bad ≡ None))
    → IfErr result (λ fault. (bad : BadInput) × (r.bad ≡ Some bad) × (fault ≡ Unreadable bad)) → HopsCome a files result
hops_come a files r (Ok hops) there few read ok err = (
  record {
    there = there;
    are = subst (λ hs. (all : List (List ℕ)) → TellAll a.told files all → AreHops [] all hs) (sym ok.0)
        (subst (λ (bad : Option BadInput). AreHopsSoFar a.told files r.hops bad) ok.1 read);
  },
  subst (λ hs. length hs ≤ MOST_RECEIPTS) (sym ok.0) few,
)
hops_come a files r (Err fault) there few read ok err =
    subst (λ (f : CommandFault). HopsCome a files (Err f)) (sym err.2)
    (by err.0 (subst (λ (bad : Option BadInput). AreHopsSoFar a.told files r.hops bad) err.1 read))
  where
    by : (bad : BadInput) → AreHopsSoFar a.told files r.hops (Some bad) → HopsCome a files (Err (Unreadable bad))
    by (BadByte named place) far = record { there = there; of_files = far.0; is_bad = far.1 }
    by (BadLine named number) far = absurd far
    by (Unsound named step rule) far = absurd far

pub hops_failed : (a : Asked) (files : List (List ℕ)) (fault : ReadingFault) (came : CommandFault)
    → (fault ≡ Failed → (files ≡ [] → ⊥) × Rose a.before a.after)
    → came ≡ fault_of_input fault → HopsCome a files (Err came)
hops_failed a files Failed came rose is = subst (λ (f : CommandFault). HopsCome a files (Err f)) (sym is) (rose refl)
hops_failed a files WantedMemory came rose is = subst (λ (f : CommandFault). HopsCome a files (Err f)) (sym is) tt

pub atlas_of : (a : Asked) (start : Key) (files : List (List ℕ)) (result : Result (List Hop) CommandFault)
    (fault : CommandFault) → result ≡ Err fault
    → HopsCome a files result → AtlasComes a start files (Err fault)
atlas_of a start files result fault is comes =
    by fault (subst (λ (r : Result (List Hop) CommandFault). HopsCome a files r) is comes)
  where
    by : (fault : CommandFault) → HopsCome a files (Err fault) → AtlasComes a start files (Err fault)
    by (Unreadable (BadByte named place)) comes = comes
    by (Unreadable (BadLine named number)) comes = absurd comes
    by (Unreadable (Unsound named step rule)) comes = absurd comes
    by InputFault comes = comes
    by NoMemory comes = tt
    by _ comes = absurd comes
