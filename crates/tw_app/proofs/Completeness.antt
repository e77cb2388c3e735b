-- A run that has all that its command needs ends with an answer: no file of its kind is told to be bad, and a disk that
-- serves the command isn't refused.
use Rattle.std.proofs.Common.{◌≡◌, ◌∙◌, ℕ, false, true, List, [], ◌∷◌, sym, subst, arith, inl, inr}
use Rattle.std.specs.Prelude.{Option, Some, None, MatchOption, Err}
use Rattle.tw_base.specs.declared.history.question.Question.{Question}
use Rattle.tw_base.specs.declared.kinds.limits.TheConstants.{MOST_HISTORY_BYTES}
use Rattle.tw_base.specs.format.Formats.{Format, IsPlace, SpellsNothing}
use Rattle.tw_base.specs.kinds.Lists.{Each}
use Rattle.tw_disk.specs.Disk.{DiskView}
use Rattle.tw_disk.specs.Image.{Image}
use Rattle.tw_outside.specs.Asked.{Asked}
use Rattle.tw_outside.specs.Files.{Files, TellsBytes}
use Rattle.tw_words.specs.CommandLine.{IsFirstBadWord, command_of}
use Rattle.tw_words.specs.declared.command.Command.{Command}
use Rattle.tw_words.specs.declared.command.Command.TheVariants.{Append, Receive, Show, Join, VerifyFile, Strict}
use Rattle.tw_words.specs.declared.command.Command.TheVariants.{CheckMap, Audit, Adopt, Atlas, Accuse, CheckFork, Offer}
use Rattle.tw_words.specs.declared.command.Command.TheVariants.{Heads, Replay}
use Rattle.tw_text.specs.declared.fault.CommandFault.TheVariants.{Unreadable, Unserved}
use Rattle.tw_text.specs.declared.refusal.BadInput.{BadInput}
use Rattle.tw_text.specs.declared.refusal.BadInput.TheVariants.{BadByte, BadLine, Unsound}
use Rattle.tw_text.specs.declared.refusal.StoreCause.{StoreCause}
use Rattle.tw_chain.specs.Proofs.{proof_layout}
use Rattle.tw_evidence.specs.Evidence.{link_proof_layout, thread_proof_layout}
use Rattle.tw_msg.specs.AnchorsFile.{IsFirstBadLine, lines}
use Rattle.tw_msg.specs.Messages.{message_layout}
use Rattle.tw_tmap.specs.MapFiles.{high_layout, low_layout}
use Rattle.tw_filecmd.specs.Joining.{HasBadPartFile, JoinComes}
use Rattle.tw_filecmd.specs.Showing.{ShowComes}
use Rattle.tw_filecmd.specs.Verifying.{VerifyFileComes}
use Rattle.tw_diskcmd.specs.Appending.{AppendComes, IsBadEventsByte}
use Rattle.tw_diskcmd.specs.Asking.{AskComes}
use Rattle.tw_diskcmd.specs.Comes.{FoundDisk}
use Rattle.tw_diskcmd.specs.Receiving.{ReceiveComes}
use Rattle.tw_diskcmd.proofs.CommandLaws.{ask_causes}
use Rattle.tw_diskcmd.specs.Offering.{OfferComes}
use Rattle.tw_reachcmd.specs.Accusing.{AccuseComes}
use Rattle.tw_reachcmd.specs.Adopting.{AdoptComes}
use Rattle.tw_reachcmd.specs.Auditing.{AuditComes}
use Rattle.tw_reachcmd.specs.CheckFork.{CheckForkComes}
use Rattle.tw_reachcmd.specs.CheckMap.{CheckMapComes}
use Rattle.tw_reachcmd.specs.Atlas.{AtlasComes}
use Rattle.tw_app.specs.Around.{Around, Outside, found_around}
use Rattle.tw_app.specs.Commands.{question_of}
use Rattle.tw_app.specs.Complete.{HasAllNeeded, HasFile, HasFiles, HasHistoryOnDisk, HasItsDisk, HasLinkFile}
use Rattle.tw_app.specs.Complete.{HasValidFiles, AreHistoryFiles, AreReceiptFiles, IsAnchorsFile, IsStatusAnswered}
use Rattle.tw_app.specs.Complete.{IsEventsFile, IsHistoryFile, IsScriptFile, IsWord}
use Rattle.tw_app.specs.Replaying.{IsBadScriptLine, ReplayComes}
use Rattle.tw_app.specs.Running.{EndsAllowed, work}
use Rattle.tw_app.specs.Statuses.{IsStatus}
use Rattle.tw_app.proofs.Commands.{rows, serves_list}
use Rattle.tw_app.proofs.Endings.{clash, disk_fault, done, input_fault, no_memory, output_fault, refused, rejected}
use Rattle.tw_app.proofs.Endings.{statuses, unreadable, unserved, usage}
use Rattle.tw_app.proofs.OneAdoption.{file_not_bad, file_not_broken}
use Rattle.tw_app.proofs.OneAtlas.{hops_not_bad}
use Rattle.tw_app.proofs.OneFamily.{histories_not_bad}

-- ---- one file

module _ (told : Option Files) where
  -- a file of a word isn't told to hold none
  word_held : {X : Type 0} (layout : Format X) (file : List ℕ) (place : ℕ) → HasFile told (IsWord layout) file
      → ((bytes : List ℕ) → TellsBytes told file bytes → SpellsNothing layout bytes × IsPlace layout bytes place) → ⊥
  word_held layout file place has none = (none has.bytes has.tells).0 has.is.0 has.is.1

  -- an anchors file of good lines isn't told to have a bad one
  lines_held : (file : List ℕ) (number : ℕ) → HasFile told IsAnchorsFile file
      → ((bytes : List ℕ) → TellsBytes told file bytes → IsFirstBadLine (lines bytes) number) → ⊥
  lines_held file number has bad =
      let first = bad has.bytes has.tells in
      let both : true ≡ false = sym (has.is first.index first.within) ∙ first.bad in
      cc

bad_events : (bytes : List ℕ) (place : ℕ) → IsEventsFile bytes → IsBadEventsByte bytes place → ⊥
bad_events bytes place is (inl long) = let short = is.0 in let more = long.0 in omega (arith, short, more)
bad_events bytes place is (inr none) = none.1 is.1.0 is.1.1

bad_script : (bytes : List ℕ) (line : ℕ) → IsScriptFile bytes → IsBadScriptLine bytes line → ⊥
bad_script bytes line is (inl bad) = let both = sym is.1 ∙ bad in cc
bad_script bytes line is (inr bad) = let both = sym is.1 ∙ bad in cc

-- ---- each command that reads files tells no bad one of valid ones

module _ (a : Asked) where
  append_reads : (t : FoundDisk) (file : List ℕ) (time : Option ℕ) (bad : BadInput) → HasFile a.told IsEventsFile file
      → AppendComes a t file time (Err (Unreadable bad)) → ⊥
  append_reads t file time (BadByte named place) has came = bad_events has.bytes place has.is
      (came.2 has.bytes has.tells)
  append_reads t file time _ has came = came

  receive_reads : (t : FoundDisk) (file : List ℕ) (time : Option ℕ) (bad : BadInput)
      → HasFile a.told (IsWord message_layout) file
      → ReceiveComes a t file time (Err (Unreadable bad)) → ⊥
  receive_reads t file time (BadByte named place) has came = word_held a.told message_layout file place has came.2
  receive_reads t file time _ has came = came

  offer_reads : (t : FoundDisk) (file : List ℕ) (bad : BadInput) → HasFile a.told (IsWord message_layout) file
      → OfferComes a t file (Err (Unreadable bad)) → ⊥
  offer_reads t file (BadByte named place) has came = word_held a.told message_layout file place has came.2
  offer_reads t file _ has came = came

  show_reads : (file : List ℕ) (step index : ℕ) (bad : BadInput) → HasFile a.told IsHistoryFile file
      → ShowComes a file step index (Err (Unreadable bad)) → ⊥
  show_reads file step index (BadByte named place) has came = file_not_bad has.bytes has.is.0 place has.is.1
      (came.2 has.bytes has.tells)
  show_reads file step index (Unsound named broken rule) has came = file_not_broken has.bytes has.is.0 broken rule
      has.is.1 (came.2 has.bytes has.tells)
  show_reads file step index (BadLine named number) has came = came

  parts_read : (files : List (List ℕ)) (named : List ℕ) (place : ℕ) → Each (HasFile a.told (IsWord proof_layout)) files
      → HasBadPartFile a.told files named place → ⊥
  parts_read [] named place each bad = bad
  parts_read (file ∷ files) named place each (inl none) = word_held a.told proof_layout file place each.0 none.1.nothing
  parts_read (file ∷ files) named place each (inr rest) = parts_read files named place each.1 rest.1

  join_reads : (files : List (List ℕ)) (bad : BadInput) → Each (HasFile a.told (IsWord proof_layout)) files
      → JoinComes a files (Err (Unreadable bad)) → ⊥
  join_reads files (BadByte named place) each came = parts_read files named place each came
  join_reads files (BadLine named number) each came = came
  join_reads files (Unsound named step rule) each came = came

  verify_reads : (proof anchors : List ℕ) (bad : BadInput) → HasFile a.told IsAnchorsFile anchors
      → VerifyFileComes a proof anchors false (Err (Unreadable bad)) → ⊥
  verify_reads proof anchors (BadLine named number) has came = lines_held a.told anchors number has came.1.bad
  verify_reads proof anchors (BadByte named place) has came = came
  verify_reads proof anchors (Unsound named step rule) has came = came

  strict_reads : (proof anchors : List ℕ) (bad : BadInput) → HasFile a.told IsAnchorsFile anchors
      → VerifyFileComes a proof anchors true (Err (Unreadable bad)) → ⊥
  strict_reads proof anchors (BadLine named number) has came = lines_held a.told anchors number has came.1.bad
  strict_reads proof anchors (BadByte named place) has came = came
  strict_reads proof anchors (Unsound named step rule) has came = came

  check_fork_reads : (file anchors : List ℕ) (bad : BadInput) → HasFile a.told IsAnchorsFile anchors
      → CheckForkComes a file anchors (Err (Unreadable bad)) → ⊥
  check_fork_reads file anchors (BadLine named number) has came = lines_held a.told anchors number has came.1.bad
  check_fork_reads file anchors (BadByte named place) has came = came
  check_fork_reads file anchors (Unsound named step rule) has came = came

  check_map_reads : (low high anchors : List ℕ) (bad : BadInput) → HasFile a.told (IsWord low_layout) low
      → HasFile a.told (IsWord high_layout) high
      → HasFile a.told IsAnchorsFile anchors → CheckMapComes a low high anchors (Err (Unreadable bad)) → ⊥
  check_map_reads low high anchors (BadByte named place) has also good (inl none) = word_held a.told low_layout low
      place has none.1.nothing
  check_map_reads low high anchors (BadByte named place) has also good (inr none) = word_held a.told high_layout high
      place also none.1.1.nothing
  check_map_reads low high anchors (BadLine named number) has also good came = lines_held a.told anchors number good
      came.1.1.bad
  check_map_reads low high anchors (Unsound named step rule) has also good came = came

  atlas_reads : (name : List ℕ) (pos : ℕ) (files : List (List ℕ)) (bad : BadInput) → HasFiles a.told AreReceiptFiles
      files
      → AtlasComes a (record { from = name; step = pos }) files (Err (Unreadable bad)) → ⊥
  atlas_reads name pos files (BadByte named place) has came = hops_not_bad [] files has.all has.are.0 named place
      has.are.1 (came.is_bad has.all has.tell)
  atlas_reads name pos files (BadLine named number) has came = came
  atlas_reads name pos files (Unsound named step rule) has came = came

  audit_reads : (proof anchors : List ℕ) (histories : List (List ℕ)) (bad : BadInput) → HasFile a.told IsAnchorsFile
      anchors → HasFiles a.told AreHistoryFiles histories
      → AuditComes a proof anchors histories (Err (Unreadable bad)) → ⊥
  audit_reads proof anchors histories (BadLine named number) good has came = lines_held a.told anchors number good
      came.1.bad
  audit_reads proof anchors histories (BadByte named place) good has came =
      histories_not_bad MOST_HISTORY_BYTES [] histories has.all has.are.0 (BadByte named place) has.are.1
      (came.2.1.is_bad has.all has.tell)
  audit_reads proof anchors histories (Unsound named step rule) good has came =
      histories_not_bad MOST_HISTORY_BYTES [] histories has.all has.are.0 (Unsound named step rule) has.are.1
      (came.2.1.is_bad has.all has.tell)

  adopt_reads : (history anchors : List ℕ) (proofs : List (List ℕ)) (bad : BadInput) → HasFile a.told IsHistoryFile
      history → HasFile a.told IsAnchorsFile anchors
      → AdoptComes a history anchors proofs (Err (Unreadable bad)) → ⊥
  adopt_reads history anchors proofs (BadByte named place) has good came = file_not_bad has.bytes has.is.0 place
      has.is.1 (came.2 has.bytes has.tells)
  adopt_reads history anchors proofs (Unsound named step rule) has good came = file_not_broken has.bytes has.is.0 step
      rule has.is.1 (came.2 has.bytes has.tells)
  adopt_reads history anchors proofs (BadLine named number) has good came = lines_held a.told anchors number good
      came.1.bad

  replay_reads : (file : List ℕ) (bad : BadInput) → HasFile a.told IsScriptFile file
      → ReplayComes a file (Err (Unreadable bad)) → ⊥
  replay_reads file (BadLine named line) has came = bad_script has.bytes line has.is (came.2 has.bytes has.tells)
  replay_reads file (BadByte named place) has came = came
  replay_reads file (Unsound named step rule) has came = came

  link_held : (link : Option (List ℕ)) (file : List ℕ) → link ≡ Some file → HasLinkFile a.told link
      → HasFile a.told (IsWord link_proof_layout) file
  link_held link file is has = subst (HasLinkFile a.told) is has

  accuse_reads : (first second : List ℕ) (link : Option (List ℕ)) (bad : BadInput)
      → HasFile a.told (IsWord thread_proof_layout) first
      → HasFile a.told (IsWord thread_proof_layout) second → HasLinkFile a.told link → AccuseComes a first second link
      (Err (Unreadable bad)) → ⊥
  accuse_reads first second link (BadByte named place) has also linked (inl none) = word_held a.told thread_proof_layout
      first place has none.1.nothing
  accuse_reads first second link (BadByte named place) has also linked (inr (inl none)) =
      word_held a.told thread_proof_layout second place also none.1.1.nothing
  accuse_reads first second link (BadByte named place) has also linked (inr (inr none)) =
      word_held a.told link_proof_layout none.2.0 place (link_held link none.2.0 none.2.1 linked) none.2.3.nothing
  accuse_reads first second link (BadLine named number) has also linked came = came
  accuse_reads first second link (Unsound named step rule) has also linked came = came

-- ---- each command

module _ {D : Type 0} (view : D → DiskView) (o : Outside D) where
  -- none tells a bad file of valid ones
  reads : (c : Command) → HasValidFiles o.inputs.told c → (bad : BadInput) → (work view o c).undone (Unreadable bad) → ⊥
  unfolding AskComes
  reads (Append file time) valid bad came = append_reads o.inputs (found_around view o) file time bad valid came.0
  reads (Receive file time) valid bad came = receive_reads o.inputs (found_around view o) file time bad valid came.0
  reads (Show history step index) valid bad came = show_reads o.inputs history step index bad valid came.0
  reads (Join files) valid bad came = join_reads o.inputs files bad valid came.0
  reads (VerifyFile proof anchors) valid bad came = verify_reads o.inputs proof anchors bad valid came.0
  reads (Strict proof anchors) valid bad came = strict_reads o.inputs proof anchors bad valid came.0
  reads (CheckMap low high anchors) valid bad came = check_map_reads o.inputs low high anchors bad valid.0 valid.1
      valid.2 came.0
  reads (Atlas name pos files) valid bad came = atlas_reads o.inputs name pos files bad valid came.0
  reads (Audit proof anchors histories) valid bad came = audit_reads o.inputs proof anchors histories bad valid.0
      valid.1 came.0
  reads (Adopt history anchors proof more) valid bad came = adopt_reads o.inputs history anchors (proof ∷ more) bad
      valid.0 valid.1 came.0
  reads (Accuse first second link) valid bad came = accuse_reads o.inputs first second link bad valid.0 valid.1 valid.2
      came.0
  reads (CheckFork file anchors) valid bad came = check_fork_reads o.inputs file anchors bad valid came.0
  reads (Offer file) valid bad came = offer_reads o.inputs (found_around view o) file bad valid came.0
  reads (Replay file) valid bad came = replay_reads o.inputs file bad valid came.0
  reads _ valid bad came = came.0

  -- a question, where one is asked, isn't refused by a disk that reads as a history; one that isn't asked comes to
  -- nothing
  asked_serves : (asked : Option Question) → MatchOption asked (Unit {0})
      (λ (q : Question). HasHistoryOnDisk (view o.disk.before).content) → (why : StoreCause)
      → MatchOption asked ⊥ (λ (q : Question). AskComes (found_around view o) q (Err (Unserved why))) → ⊥
  asked_serves None has why came = came
  asked_serves (Some q) has why came = (ask_causes o.inputs (found_around view o) q).serves has.0 has.1 why came

  module _ (only_now : (d : D) (image : Image) → (view d).left_since (view d).moment image → (view d).may_leave image)
      (as_it_reads : (d : D) (image : Image) → (view d).content ≡ Some image → (view d).may_leave image) where
    -- none refuses a disk that serves it
    serves : (c : Command) → HasItsDisk (view o.disk.before).content c → (why : StoreCause) → (work view o c).undone
        (Unserved why) → ⊥
    serves (Append file time) has why came = (rows view only_now as_it_reads o (Append file time)).serves
        (λ other. other) has.0 has.1 why came
    serves (Receive file time) has why came = (rows view only_now as_it_reads o (Receive file time)).serves
        (λ other. other) has.0 has.1 why came
    serves (Offer file) has why came = serves_list view only_now as_it_reads o (Offer file) tt has.0 has.1 why came
    serves Heads has why came = serves_list view only_now as_it_reads o Heads tt has.0 has.1 why came
    serves (Audit proof anchors histories) has why came = came.0.2
    serves c has why came = asked_serves (question_of c) has why came.0

-- ---- the run

both_of : (P Q : Command → Type 0) (option : Option Command) → MatchOption option ⊥ P → MatchOption option ⊥ Q
    → ((c : Command) → P c → Q c → ⊥) → ⊥
both_of P Q None p q apart = p
both_of P Q (Some c) p q apart = apart c p q

module _ {D : Type 0} (view : D → DiskView)
    (only_now : (d : D) (image : Image) → (view d).left_since (view d).moment image → (view d).may_leave image)
    (as_it_reads : (d : D) (image : Image) → (view d).content ≡ Some image → (view d).may_leave image) (a : Around D)
    (status : ℕ)
    (all : HasAllNeeded view a) (run : EndsAllowed view a status) where
  no_usage : (number : ℕ) (option : Option Command) → MatchOption option ⊥ (HasValidFiles a.outside.inputs.told)
      → MatchOption option (IsFirstBadWord a.words number) (λ c. ⊥) → ⊥
  no_usage number None valid used = valid
  no_usage number (Some c) valid used = used

  pub whole : IsStatusAnswered view a status
  whole = by (statuses view only_now as_it_reads a status run)
    where
      by : IsStatus status → IsStatusAnswered view a status
      by (inl is) = inl (is, done view only_now as_it_reads a status run is)
      by (inr (inl is)) = inr (inl (is, rejected view only_now as_it_reads a status run is))
      by (inr (inr (inl is))) = absurd (let used = usage view only_now as_it_reads a status run is in
          no_usage used.0 (command_of a.words) all.files used.1)
      by (inr (inr (inr (inl is)))) = absurd (all.none.inputs (input_fault view only_now as_it_reads a status run is).1)
      by (inr (inr (inr (inr (inl is))))) =
          absurd (all.none.sink (output_fault view only_now as_it_reads a status run is))
      by (inr (inr (inr (inr (inr (inl is)))))) =
          absurd (all.disk_held (disk_fault view only_now as_it_reads a status run is).1)
      by (inr (inr (inr (inr (inr (inr (inl is))))))) =
          inr (inr (inl (is, no_memory view only_now as_it_reads a status run is)))
      by (inr (inr (inr (inr (inr (inr (inr (inl is)))))))) =
          inr (inr (inr (inl (is, refused view only_now as_it_reads a status run is))))
      by (inr (inr (inr (inr (inr (inr (inr (inr (inl is))))))))) =
          let undone = unserved view only_now as_it_reads a status run is in
          absurd (both_of (HasItsDisk (view a.outside.disk.before).content)
          (λ c. (work view a.outside c).undone (Unserved undone.0)) (command_of a.words) all.disk undone.1.0
          (λ c has came. serves view a.outside only_now as_it_reads c has undone.0 came))
      by (inr (inr (inr (inr (inr (inr (inr (inr (inr (inl is)))))))))) =
          let undone = unreadable view only_now as_it_reads a status run is in
          absurd (both_of (HasValidFiles a.outside.inputs.told)
          (λ c. (work view a.outside c).undone (Unreadable undone.0)) (command_of a.words) all.files undone.1.0
          (λ c valid came. reads view a.outside c valid undone.0 came))
      by (inr (inr (inr (inr (inr (inr (inr (inr (inr (inr (inl is))))))))))) =
          inr (inr (inr (inr (is, clash view only_now as_it_reads a status run is))))
      by (inr (inr (inr (inr (inr (inr (inr (inr (inr (inr (inr none))))))))))) = absurd none
