-- Over files whose bytes are told, each command over files that reach beyond one proof comes to one answer; so two runs
-- alike end alike.
use Rattle.std.proofs.Common.{◌≡◌, ◌∙◌, ℕ, List, [], ◌∷◌, ap, sym, subst, inl, inr, refl, ◌⊎◌}
use Rattle.std.specs.Prelude.{Option, Result, Ok, Err}
use Rattle.tw_base.specs.declared.history.thread.Key.{Key}
use Rattle.tw_base.specs.declared.history.thread.Thread.{Thread}
use Rattle.tw_base.specs.declared.kinds.limits.TheConstants.{MOST_HISTORY_BYTES}
use Rattle.tw_base.specs.history.History.{History}
use Rattle.tw_base.specs.history.HistoryCodec.{history_layout}
use Rattle.tw_base.proofs.lemmas.format.FormatLaws.{one_value}
use Rattle.tw_base.specs.kinds.Faults.{Rose}
use Rattle.sha2.specs.Sha256.{sha256}
use Rattle.tw_disk.specs.Disk.{DiskView}
use Rattle.tw_outside.specs.Asked.{Asked, asked}
use Rattle.tw_outside.specs.Files.{Files}
use Rattle.tw_words.specs.CommandLine.{command_of}
use Rattle.tw_words.specs.declared.command.Command.{Command}
use Rattle.tw_words.specs.declared.command.Command.TheVariants.{Accuse, Adopt, Atlas, Audit, CheckFork, CheckMap}
use Rattle.tw_text.specs.declared.fault.CommandFault.{CommandFault}
use Rattle.tw_text.specs.declared.fault.CommandFault.TheVariants.{InputFault, NoMemory}
use Rattle.tw_text.specs.declared.fault.CommandFault.TheVariants.{Unreadable}
use Rattle.tw_text.specs.declared.refusal.BadInput.{BadInput}
use Rattle.tw_text.specs.declared.refusal.BadInput.TheVariants.{BadByte, BadLine, Unsound}
use Rattle.tw_audit.specs.Auditing.{IsAudit}
use Rattle.tw_atlas.specs.Earliest.{IsAtlasPlanned}
use Rattle.tw_base.specs.declared.history.report.Hop.{Hop}
use Rattle.tw_evidence.specs.declared.fork.ForkVerdict.{ForkVerdict}
use Rattle.tw_evidence.specs.Forks.{IsForkVerdict}
use Rattle.tw_reachcmd.specs.declared.accusing.Accused.{Accused}
use Rattle.tw_reachcmd.specs.declared.auditing.Audited.{Audited}
use Rattle.tw_reachcmd.specs.declared.atlas.Planned.{Planned}
use Rattle.tw_reachcmd.specs.Accusing.{AccuseComes}
use Rattle.tw_reachcmd.specs.declared.adopting.Taken.{Taken}
use Rattle.tw_reachcmd.specs.Adopting.{AdoptComes, IsAdoptionTaken}
use Rattle.tw_reachcmd.specs.Auditing.{AuditComes, finding_answer}
use Rattle.tw_reachcmd.specs.CheckFork.{CheckForkComes}
use Rattle.tw_reachcmd.specs.CheckMap.{CheckMapComes}
use Rattle.tw_reachcmd.specs.Atlas.{AtlasComes}
use Rattle.tw_app.specs.declared.outcome.Outcome.{Outcome}
use Rattle.tw_app.specs.Alike.{AreRunsAlike, ReachesBeyond, TellsEach}
use Rattle.tw_app.specs.Around.{Around, Writes}
use Rattle.tw_app.specs.Commands.{command_files}
use Rattle.tw_app.specs.Outcomes.{of_accused, of_audited, of_fork, of_mapped, of_planned, of_taken, outcome_by}
use Rattle.tw_app.specs.Outcomes.{status_of, text_of}
use Rattle.tw_app.specs.Running.{EndsAllowed, EndsWith, IsDiskUntouched, IsHindered, IsOutcomeOf, work}
use Rattle.tw_app.proofs.AskedRuns.{comes_by}
use Rattle.tw_app.proofs.OneAdoption.{byte_not_broken, byte_once, file_not_bad, file_not_broken, rule_once, taken_once}
use Rattle.tw_app.proofs.OneAtlas.{bad_receipts_once, hops_not_bad, hops_once, planned_once}
use Rattle.tw_app.proofs.OneFamily.{bad_history_once, histories_not_bad, histories_once}
use Rattle.tw_app.proofs.OneFork.{bad_parts_once, made_once, parts_not_bad, tells_parts}
use Rattle.tw_app.proofs.OneMap.{bad_map_once, map_apart, map_done}
use Rattle.tw_app.proofs.OneReason.{audited_once, fork_once}
use Rattle.tw_app.proofs.ToldFiles.{anchors_once, bad_line_once, good_not_bad, tell_all}

-- ---- results of commands over files alone

-- the inputs failed between these counts of faults, there was no memory, or a file isn't what is read
abbrev IsFileFault : (before after : ℕ) → CommandFault → Type 0
IsFileFault before after InputFault = Rose before after
IsFileFault before after NoMemory = Unit {0}
IsFileFault before after (Unreadable bad) = Unit {0}
IsFileFault before after _ = ⊥

module _ {X : Type 0} where
  -- a result that neither a failure nor want of memory may bring
  abbrev pub IsSettled : Result X CommandFault → Type 0
  IsSettled (Err InputFault) = ⊥
  IsSettled (Err NoMemory) = ⊥
  IsSettled _ = Unit {0}

  abbrev done : X → Result X CommandFault
  done x = Ok x

  abbrev unreadable : BadInput → Result X CommandFault
  unreadable bad = Err (Unreadable bad)

  -- its faults are those of files alone, which were asked between these counts of faults
  abbrev IsOfFiles : (before after : ℕ) → (May : Result X CommandFault → Type 0) → Type 0
  IsOfFiles before after May = (f : CommandFault) → May (Err f) → IsFileFault before after f

  abbrev Seen : (May : Result X CommandFault → Type 0) → Result X CommandFault → Type 0
  Seen May r = ((x : X) × (r ≡ done x) × May (Ok x)) ⊎ ((bad : BadInput) × (r ≡ unreadable bad)
      × May (Err (Unreadable bad)))

  seen : (before after : ℕ) (May : Result X CommandFault → Type 0) → IsOfFiles before after May
      → (r : Result X CommandFault) → IsSettled r → May r → Seen May r
  seen before after May files (Ok x) settled may = inl (x, refl, may)
  seen before after May files (Err (Unreadable bad)) settled may = inr (bad, refl, may)
  seen before after May files (Err InputFault) settled may = absurd settled
  seen before after May files (Err NoMemory) settled may = absurd settled
  seen before after May files (Err f) settled may = absurd (files f may)

  -- what may come of two runs is one thing
  record Agree (One Other : Result X CommandFault → Type 0) : Type 0 where
    done_once : (x y : X) → One (Ok x) → Other (Ok y) → x ≡ y
    bad_once : (bad other : BadInput) → One (Err (Unreadable bad)) → Other (Err (Unreadable other)) → bad ≡ other
    not_bad : (x : X) (bad : BadInput) → One (Ok x) → Other (Err (Unreadable bad)) → ⊥
    not_done : (x : X) (bad : BadInput) → One (Err (Unreadable bad)) → Other (Ok x) → ⊥

  once : (One Other : Result X CommandFault → Type 0) → Agree One Other → (r s : Result X CommandFault) → Seen One r
      → Seen Other s → r ≡ s
  once One Other agree r s (inl one) (inl other) = one.1 ∙ ap done (agree.done_once one.0 other.0 one.2 other.2)
      ∙ sym other.1
  once One Other agree r s (inl one) (inr other) = absurd (agree.not_bad one.0 other.0 one.2 other.2)
  once One Other agree r s (inr one) (inl other) = absurd (agree.not_done other.0 one.0 one.2 other.2)
  once One Other agree r s (inr one) (inr other) = one.1 ∙ ap unreadable (agree.bad_once one.0 other.0 one.2 other.2)
      ∙ sym other.1

-- ---- each command, over files whose bytes are told

module _ (told : Option Files) where
  module _ (first second : List ℕ) (link : Option (List ℕ))
      (tells : TellsEach told (command_files (Accuse first second link))) (m n k l : ℕ) where
    accuse_bad : (bad other : BadInput) → AccuseComes (asked told m n) first second link (Err (Unreadable bad))
        → AccuseComes (asked told k l) first second link (Err (Unreadable other)) → bad ≡ other
    accuse_bad (BadByte named p) (BadByte again q) a b = (
        let both = bad_parts_once told first second link (tells_parts told first second link tells) named again p q a
        b in
        let names = both.0 in
        let places = both.1 in
        λ i. BadByte (names i) (places i))
    accuse_bad (BadByte named p) _ a b = absurd b
    accuse_bad _ other a b = absurd a

    accuse_apart : (x : Accused) (bad : BadInput) → AccuseComes (asked told m n) first second link (Ok x)
        → AccuseComes (asked told k l) first second link (Err (Unreadable bad)) → ⊥
    accuse_apart x (BadByte named place) a b =
        parts_not_bad told first second link (tells_parts told first second link tells) a.0 a.1 a.2 named place a.3.0 b
    accuse_apart x _ a b = b

  module _ (first second : List ℕ) (link : Option (List ℕ))
      (tells : TellsEach told (command_files (Accuse first second link))) (m n k l : ℕ) where
    accuse_agree : Agree (AccuseComes (asked told m n) first second link) (AccuseComes (asked told k l) first second
        link)
    accuse_agree = record {
      done_once = λ x y a b. made_once told first second link (tells_parts told first second link tells) a.0 a.1 b.0 b.1
          a.2 b.2 x y a.3 b.3;
      bad_once = accuse_bad first second link tells m n k l;
      not_bad = accuse_apart first second link tells m n k l;
      not_done = λ x bad a b. accuse_apart first second link tells k l m n x bad b a;
    }

  module _ (file anchors : List ℕ) (tells : TellsEach told (command_files (CheckFork file anchors))) (m n k l : ℕ) where
    fork_done : (v w : ForkVerdict) → CheckForkComes (asked told m n) file anchors (Ok v)
        → CheckForkComes (asked told k l) file anchors (Ok w) → v ≡ w
    fork_done v w a b =
        let held : b.0 ≡ a.0 = anchors_once told anchors tells.1.0.0 tells.1.0.1 b.0 a.0 b.1 a.1 in
        fork_once a.0 tells.0.0 v w (a.2.is_verdict tells.0.0 tells.0.1)
        (subst (λ (held : List Thread). IsForkVerdict sha256 held tells.0.0 w) held
        (b.2.is_verdict tells.0.0 tells.0.1))

    fork_bad : (bad other : BadInput) → CheckForkComes (asked told m n) file anchors (Err (Unreadable bad))
        → CheckForkComes (asked told k l) file anchors (Err (Unreadable other)) → bad ≡ other
    fork_bad (BadLine named p) (BadLine again q) a b = (
        let names = a.0 ∙ sym b.0 in
        let numbers = bad_line_once told anchors tells.1.0.0 tells.1.0.1 file p q a.1 b.1 in
        λ i. BadLine (names i) (numbers i))
    fork_bad (BadLine named p) _ a b = absurd b
    fork_bad _ other a b = absurd a

    fork_apart : (v : ForkVerdict) (bad : BadInput) → CheckForkComes (asked told m n) file anchors (Ok v)
        → CheckForkComes (asked told k l) file anchors (Err (Unreadable bad)) → ⊥
    fork_apart v (BadLine named number) a b = good_not_bad told anchors tells.1.0.0 tells.1.0.1 a.0 file number a.1 b.1
    fork_apart v _ a b = b

  module _ (file anchors : List ℕ) (tells : TellsEach told (command_files (CheckFork file anchors))) (m n k l : ℕ) where
    fork_agree : Agree (CheckForkComes (asked told m n) file anchors) (CheckForkComes (asked told k l) file anchors)
    fork_agree = record {
      done_once = fork_done file anchors tells m n k l;
      bad_once = fork_bad file anchors tells m n k l;
      not_bad = fork_apart file anchors tells m n k l;
      not_done = λ v bad a b. fork_apart file anchors tells k l m n v bad b a;
    }

  module _ (low high anchors : List ℕ) (tells : TellsEach told (command_files (CheckMap low high anchors)))
      (m n k l : ℕ) where
    map_agree : Agree (CheckMapComes (asked told m n) low high anchors) (CheckMapComes (asked told k l) low high
        anchors)
    map_agree = record {
      done_once = map_done told low high anchors tells m n k l;
      bad_once = bad_map_once told low high anchors tells;
      not_bad = map_apart told low high anchors tells m n k l;
      not_done = λ v bad a b. map_apart told low high anchors tells k l m n v bad b a;
    }

  module _ (start : Key) (files : List (List ℕ)) (tells : TellsEach told files) (m n k l : ℕ) where
    atlas_done : (x y : Planned) → AtlasComes (asked told m n) start files (Ok x) → AtlasComes (asked told k l) start
        files (Ok y) → x ≡ y
    atlas_done x y a b =
        let all = tell_all told files tells in
        let hops : b.1.0 ≡ a.1.0 = hops_once [] all.0 b.1.0 a.1.0 (b.1.1.are all.0 all.1) (a.1.1.are all.0 all.1) in
        planned_once start a.1.0 x y a.0 b.0 a.1.2 (subst (λ (hs : List Hop). IsAtlasPlanned hs start y.atlas) hops
        b.1.2)

    atlas_bad : (bad other : BadInput) → AtlasComes (asked told m n) start files (Err (Unreadable bad))
        → AtlasComes (asked told k l) start files (Err (Unreadable other)) → bad ≡ other
    atlas_bad (BadByte named p) (BadByte again q) a b = (
        let all = tell_all told files tells in
        let both = bad_receipts_once [] files all.0 named again p q (a.is_bad all.0 all.1) (b.is_bad all.0 all.1) in
        let names = both.0 in
        let places = both.1 in
        λ i. BadByte (names i) (places i))
    atlas_bad (BadByte named p) _ a b = absurd b
    atlas_bad _ other a b = absurd a

    atlas_apart : (x : Planned) (bad : BadInput) → AtlasComes (asked told m n) start files (Ok x)
        → AtlasComes (asked told k l) start files (Err (Unreadable bad)) → ⊥
    atlas_apart x (BadByte named place) a b =
        let all = tell_all told files tells in
        hops_not_bad [] files all.0 a.1.0 named place (a.1.1.are all.0 all.1) (b.is_bad all.0 all.1)
    atlas_apart x _ a b = b

  module _ (start : Key) (files : List (List ℕ)) (tells : TellsEach told files) (m n k l : ℕ) where
    atlas_agree : Agree (AtlasComes (asked told m n) start files) (AtlasComes (asked told k l) start files)
    atlas_agree = record {
      done_once = atlas_done start files tells m n k l;
      bad_once = atlas_bad start files tells m n k l;
      not_bad = atlas_apart start files tells m n k l;
      not_done = λ x bad a b. atlas_apart start files tells k l m n x bad b a;
    }

  module _ (proof anchors : List ℕ) (histories : List (List ℕ))
      (tells : TellsEach told (command_files (Audit proof anchors histories))) (m n k l : ℕ) where
    abbrev First : Result Audited CommandFault → Type 0
    First = AuditComes (asked told m n) proof anchors histories

    abbrev Second : Result Audited CommandFault → Type 0
    Second = AuditComes (asked told k l) proof anchors histories

    audit_done : (x y : Audited) → First (Ok x) → Second (Ok y) → x ≡ y
    audit_done x y a b =
        let all = tell_all told histories tells.1.1 in
        let held : b.0 ≡ a.0 = anchors_once told anchors tells.1.0.0 tells.1.0.1 b.0 a.0 b.1 a.1 in
        let families : b.2.0 ≡ a.2.0 =
        histories_once MOST_HISTORY_BYTES [] all.0 b.2.0 a.2.0 (b.2.1.0.are all.0 all.1) (a.2.1.0.are all.0 all.1) in
        audited_once a.2.0 a.0 tells.0.0 x y (a.2.1.2.answers tells.0.0 tells.0.1)
        (subst (λ (family : List History). IsAudit sha256 family a.0 tells.0.0 (finding_answer y)) families
        (subst (λ (held : List Thread). IsAudit sha256 b.2.0 held tells.0.0 (finding_answer y)) held
        (b.2.1.2.answers tells.0.0 tells.0.1)))

    audit_bad : (bad other : BadInput) → First (Err (Unreadable bad)) → Second (Err (Unreadable other)) → bad ≡ other
    audit_bad (BadLine named p) (BadLine again q) a b = (
        let names = a.0 ∙ sym b.0 in
        let numbers = bad_line_once told anchors tells.1.0.0 tells.1.0.1 proof p q a.1 b.1 in
        λ i. BadLine (names i) (numbers i))
    audit_bad (BadLine named p) (BadByte again q) a b =
        absurd (good_not_bad told anchors tells.1.0.0 tells.1.0.1 b.0 proof p b.1 a.1)
    audit_bad (BadLine named p) (Unsound again step rule) a b =
        absurd (good_not_bad told anchors tells.1.0.0 tells.1.0.1 b.0 proof p b.1 a.1)
    audit_bad (BadByte named p) (BadLine again q) a b =
        absurd (good_not_bad told anchors tells.1.0.0 tells.1.0.1 a.0 proof q a.1 b.1)
    audit_bad (Unsound named step rule) (BadLine again q) a b =
        absurd (good_not_bad told anchors tells.1.0.0 tells.1.0.1 a.0 proof q a.1 b.1)
    audit_bad (BadByte named p) (BadByte again q) a b =
        let all = tell_all told histories tells.1.1 in
        bad_history_once MOST_HISTORY_BYTES [] histories all.0 (BadByte named p) (BadByte again q)
        (a.2.1.is_bad all.0 all.1) (b.2.1.is_bad all.0 all.1)
    audit_bad (BadByte named p) (Unsound again step rule) a b =
        let all = tell_all told histories tells.1.1 in
        bad_history_once MOST_HISTORY_BYTES [] histories all.0 (BadByte named p) (Unsound again step rule)
        (a.2.1.is_bad all.0 all.1) (b.2.1.is_bad all.0 all.1)
    audit_bad (Unsound named step rule) (BadByte again q) a b =
        let all = tell_all told histories tells.1.1 in
        bad_history_once MOST_HISTORY_BYTES [] histories all.0 (Unsound named step rule) (BadByte again q)
        (a.2.1.is_bad all.0 all.1) (b.2.1.is_bad all.0 all.1)
    audit_bad (Unsound named step rule) (Unsound again later other) a b =
        let all = tell_all told histories tells.1.1 in
        bad_history_once MOST_HISTORY_BYTES [] histories all.0 (Unsound named step rule) (Unsound again later other)
        (a.2.1.is_bad all.0 all.1) (b.2.1.is_bad all.0 all.1)

    audit_apart : (x : Audited) (bad : BadInput) → First (Ok x) → Second (Err (Unreadable bad)) → ⊥
    audit_apart x (BadLine named number) a b = good_not_bad told anchors tells.1.0.0 tells.1.0.1 a.0 proof number a.1
        b.1
    audit_apart x (BadByte named place) a b =
        let all = tell_all told histories tells.1.1 in
        histories_not_bad MOST_HISTORY_BYTES [] histories all.0 a.2.0 (BadByte named place) (a.2.1.0.are all.0 all.1)
        (b.2.1.is_bad all.0 all.1)
    audit_apart x (Unsound named step rule) a b =
        let all = tell_all told histories tells.1.1 in
        histories_not_bad MOST_HISTORY_BYTES [] histories all.0 a.2.0 (Unsound named step rule)
        (a.2.1.0.are all.0 all.1) (b.2.1.is_bad all.0 all.1)

  module _ (proof anchors : List ℕ) (histories : List (List ℕ))
      (tells : TellsEach told (command_files (Audit proof anchors histories))) (m n k l : ℕ) where
    audit_agree : Agree (AuditComes (asked told m n) proof anchors histories) (AuditComes (asked told k l) proof anchors
        histories)
    audit_agree = record {
      done_once = audit_done proof anchors histories tells m n k l;
      bad_once = audit_bad proof anchors histories tells m n k l;
      not_bad = audit_apart proof anchors histories tells m n k l;
      not_done = λ x bad a b. audit_apart proof anchors histories tells k l m n x bad b a;
    }

  module _ (history anchors proof : List ℕ) (more : List (List ℕ))
      (tells : TellsEach told (command_files (Adopt history anchors proof more))) (m n k l : ℕ) where
    abbrev One : Result Taken CommandFault → Type 0
    One = AdoptComes (asked told m n) history anchors (proof ∷ more)

    abbrev Other : Result Taken CommandFault → Type 0
    Other = AdoptComes (asked told k l) history anchors (proof ∷ more)

    adopt_done : (x y : Taken) → One (Ok x) → Other (Ok y) → x ≡ y
    adopt_done x y a b =
        let all = tell_all told (proof ∷ more) tells.1.1 in
        let held : b.0 ≡ a.0 = anchors_once told anchors tells.1.0.0 tells.1.0.1 b.0 a.0 b.1 a.1 in
        let one = a.3.holds tells.0.0 tells.0.1 in
        let other = b.3.holds tells.0.0 tells.0.1 in
        let same : other.0 ≡ one.0 = one_value history_layout tells.0.0 other.0 one.0 other.1.spelled one.1.spelled in
        taken_once a.0 one.0 told (proof ∷ more) all.0 all.1 x y one.2
        (subst (λ (h : History). IsAdoptionTaken told a.0 (proof ∷ more) y h) same
        (subst (λ (t : List Thread). IsAdoptionTaken told t (proof ∷ more) y other.0) held other.2))

    adopt_bad : (bad other : BadInput) → One (Err (Unreadable bad)) → Other (Err (Unreadable other)) → bad ≡ other
    adopt_bad (BadLine named p) (BadLine again q) a b = (
        let names = a.0 ∙ sym b.0 in
        let numbers = bad_line_once told anchors tells.1.0.0 tells.1.0.1 history p q a.1 b.1 in
        λ i. BadLine (names i) (numbers i))
    adopt_bad (BadByte named p) (BadByte again q) a b = (
        let names = a.0 ∙ sym b.0 in
        let places = byte_once tells.0.0 p q (a.2 tells.0.0 tells.0.1) (b.2 tells.0.0 tells.0.1) in
        λ i. BadByte (names i) (places i))
    adopt_bad (Unsound named step rule) (Unsound again later other) a b = (
        let names = a.0 ∙ sym b.0 in
        let both = rule_once tells.0.0 step rule later other (a.2 tells.0.0 tells.0.1) (b.2 tells.0.0 tells.0.1) in
        let steps = both.0 in
        let rules = both.1 in
        λ i. Unsound (names i) (steps i) (rules i))
    adopt_bad (BadByte named p) (Unsound again step rule) a b =
        absurd (byte_not_broken tells.0.0 p step rule (a.2 tells.0.0 tells.0.1) (b.2 tells.0.0 tells.0.1))
    adopt_bad (Unsound named step rule) (BadByte again q) a b =
        absurd (byte_not_broken tells.0.0 q step rule (b.2 tells.0.0 tells.0.1) (a.2 tells.0.0 tells.0.1))
    adopt_bad (BadLine named p) (BadByte again q) a b =
        absurd (let of = a.3.holds tells.0.0 tells.0.1 in file_not_bad tells.0.0 of.0 q of.1 (b.2 tells.0.0 tells.0.1))
    adopt_bad (BadLine named p) (Unsound again step rule) a b =
        absurd (let of = a.3.holds tells.0.0 tells.0.1 in file_not_broken tells.0.0 of.0 step rule of.1
        (b.2 tells.0.0 tells.0.1))
    adopt_bad (BadByte named p) (BadLine again q) a b =
        absurd (let of = b.3.holds tells.0.0 tells.0.1 in file_not_bad tells.0.0 of.0 p of.1 (a.2 tells.0.0 tells.0.1))
    adopt_bad (Unsound named step rule) (BadLine again q) a b =
        absurd (let of = b.3.holds tells.0.0 tells.0.1 in file_not_broken tells.0.0 of.0 step rule of.1
        (a.2 tells.0.0 tells.0.1))

    adopt_apart : (x : Taken) (bad : BadInput) → One (Ok x) → Other (Err (Unreadable bad)) → ⊥
    adopt_apart x (BadLine named number) a b = good_not_bad told anchors tells.1.0.0 tells.1.0.1 a.0 history number a.1
        b.1
    adopt_apart x (BadByte named place) a b =
        let of = a.3.holds tells.0.0 tells.0.1 in file_not_bad tells.0.0 of.0 place of.1 (b.2 tells.0.0 tells.0.1)
    adopt_apart x (Unsound named step rule) a b =
        let of = a.3.holds tells.0.0 tells.0.1 in file_not_broken tells.0.0 of.0 step rule of.1
        (b.2 tells.0.0 tells.0.1)

  module _ (history anchors proof : List ℕ) (more : List (List ℕ))
      (tells : TellsEach told (command_files (Adopt history anchors proof more))) (m n k l : ℕ) where
    adopt_agree : Agree (AdoptComes (asked told m n) history anchors (proof ∷ more))
        (AdoptComes (asked told k l) history anchors (proof ∷ more))
    adopt_agree = record {
      done_once = adopt_done history anchors proof more tells m n k l;
      bad_once = adopt_bad history anchors proof more tells m n k l;
      not_bad = adopt_apart history anchors proof more tells m n k l;
      not_done = λ x bad a b. adopt_apart history anchors proof more tells k l m n x bad b a;
    }

-- ---- each command comes of files alone

module _ (a : Asked) where
  accuse_files : (first second : List ℕ) (link : Option (List ℕ)) → IsOfFiles a.before a.after
      (AccuseComes a first second link)
  accuse_files first second link NoMemory came = tt
  accuse_files first second link (Unreadable bad) came = tt
  accuse_files first second link _ came = came

  fork_files : (file anchors : List ℕ) → IsOfFiles a.before a.after (CheckForkComes a file anchors)
  fork_files file anchors NoMemory came = tt
  fork_files file anchors (Unreadable bad) came = tt
  fork_files file anchors _ came = came

  map_files : (low high anchors : List ℕ) → IsOfFiles a.before a.after (CheckMapComes a low high anchors)
  map_files low high anchors NoMemory came = tt
  map_files low high anchors (Unreadable bad) came = tt
  map_files low high anchors _ came = came

  atlas_files : (start : Key) (files : List (List ℕ)) → IsOfFiles a.before a.after (AtlasComes a start files)
  atlas_files start files InputFault failed = failed.1
  atlas_files start files NoMemory came = tt
  atlas_files start files (Unreadable bad) came = tt
  atlas_files start files _ came = came

  adopt_files : (history anchors : List ℕ) (proofs : List (List ℕ)) → IsOfFiles a.before a.after
      (AdoptComes a history anchors proofs)
  adopt_files history anchors proofs NoMemory came = tt
  adopt_files history anchors proofs (Unreadable bad) came = tt
  adopt_files history anchors proofs _ came = came

  audit_files : (proof anchors : List ℕ) (histories : List (List ℕ)) → IsOfFiles a.before a.after
      (AuditComes a proof anchors histories)
  audit_files proof anchors histories InputFault rose = rose
  audit_files proof anchors histories NoMemory came = tt
  audit_files proof anchors histories (Unreadable bad) came = tt
  audit_files proof anchors histories _ came = came.2

-- ---- runs

module _ {D : Type 0} (a : Around D) (status : ℕ) (free : IsHindered a status → ⊥) where
  -- the status and the text are the outcome's
  pub told_of : (outcome : Outcome) → EndsWith a.taken a.sink_faults status outcome → (status ≡ status_of outcome)
      × Writes a (text_of outcome)
  told_of outcome (inl ends) = ends
  told_of outcome (inr cut) = absurd (free (inr (inl (cut.0, cut.2))))

  module _ {X : Type 0} (of : X → Outcome) (May : Result X CommandFault → Type 0)
      (files : IsOfFiles a.outside.inputs.before a.outside.inputs.after May) where
    settled : (r : Result X CommandFault) → May r → status ≡ status_of (outcome_by of r) → IsSettled r
    settled (Ok x) may is = tt
    settled (Err InputFault) may is = free (inl (is, files InputFault may))
    settled (Err NoMemory) may is = free (inr (inr is))
    settled (Err f) may is = tt

    -- what came is seen of the files
    seen_of : (U : Type 0) (outcome : Outcome) → (came : IsOutcomeOf of (λ (r : Result X CommandFault). May r × U)
        outcome)
        → EndsWith a.taken a.sink_faults status outcome → Seen May came.0
    seen_of U outcome came ends =
        seen a.outside.inputs.before a.outside.inputs.after May files came.0
        (settled came.0 came.1.0 ((told_of outcome ends).0 ∙ ap status_of came.2)) came.1.0

module _ {D : Type 0} (view : D → DiskView) (one other : Around D) (alike : AreRunsAlike one other) (status again : ℕ)
    (free : IsHindered one status → ⊥) (free_too : IsHindered other again → ⊥) where
  abbrev Ending : Type 0
  Ending = (again ≡ status) × ((text : List ℕ) × Writes one text × Writes other text)

  abbrev told : Option Files
  told = one.outside.inputs.told

  abbrev m : ℕ
  m = one.outside.inputs.before

  abbrev n : ℕ
  n = one.outside.inputs.after

  abbrev k : ℕ
  k = other.outside.inputs.before

  abbrev l : ℕ
  l = other.outside.inputs.after

  -- what came of both is one result
  module _ {X : Type 0} (of : X → Outcome) (Comes : Asked → Result X CommandFault → Type 0)
      (files : (a : Asked) → IsOfFiles a.before a.after (Comes a))
      (agree : Agree (Comes (asked told m n)) (Comes (asked told k l))) where
    alike_ends : (x y : Outcome)
        → IsOutcomeOf of (λ (r : Result X CommandFault). Comes one.outside.inputs r × IsDiskUntouched view one.outside) x
        → IsOutcomeOf of (λ (r : Result X CommandFault). Comes other.outside.inputs r × IsDiskUntouched view
        other.outside) y
        → EndsWith one.taken one.sink_faults status x → EndsWith other.taken other.sink_faults again y → Ending
    alike_ends x y came comes ends ended =
        let agrees : Agree (Comes one.outside.inputs) (Comes other.outside.inputs) =
        subst (λ (t : Option Files). Agree (Comes (asked told m n)) (Comes (asked t k l))) (sym alike.same_told) agree in
        let results : came.0 ≡ comes.0 =
        once (Comes one.outside.inputs) (Comes other.outside.inputs) agrees came.0 comes.0
        (seen_of one status free of (Comes one.outside.inputs) (files one.outside.inputs)
        (IsDiskUntouched view one.outside) x came ends)
        (seen_of other again free_too of (Comes other.outside.inputs) (files other.outside.inputs)
        (IsDiskUntouched view other.outside) y comes ended) in
        let outcomes : y ≡ x = comes.2 ∙ sym (ap (outcome_by of) results) ∙ sym came.2 in
        let here = told_of one status free x ends in
        let there = told_of other again free_too y ended in (
          there.0 ∙ ap status_of outcomes ∙ sym here.0,
          (text_of x, here.1, subst (λ (outcome : Outcome). Writes other (text_of outcome)) outcomes there.1),
        )

  -- of each command
  by_command : (c : Command) → ReachesBeyond c → TellsEach told (command_files c) → (x y : Outcome)
      → (work view one.outside c).does x → (work view other.outside c).does y
      → EndsWith one.taken one.sink_faults status x → EndsWith other.taken other.sink_faults again y → Ending
  by_command (Accuse first second link) reaches tells =
      alike_ends of_accused (λ a. AccuseComes a first second link) (λ a. accuse_files a first second link)
      (accuse_agree told first second link tells m n k l)
  by_command (CheckFork file anchors) reaches tells =
      alike_ends of_fork (λ a. CheckForkComes a file anchors) (λ a. fork_files a file anchors)
      (fork_agree told file anchors tells m n k l)
  by_command (CheckMap low high anchors) reaches tells =
      alike_ends of_mapped (λ a. CheckMapComes a low high anchors) (λ a. map_files a low high anchors)
      (map_agree told low high anchors tells m n k l)
  by_command (Atlas name pos files) reaches tells =
      let start : Key = record { from = name; step = pos } in
      alike_ends of_planned (λ a. AtlasComes a start files) (λ a. atlas_files a start files)
      (atlas_agree told start files tells m n k l)
  by_command (Audit proof anchors histories) reaches tells =
      alike_ends of_audited (λ a. AuditComes a proof anchors histories) (λ a. audit_files a proof anchors histories)
      (audit_agree told proof anchors histories tells m n k l)
  by_command (Adopt history anchors proof more) reaches tells =
      alike_ends of_taken (λ a. AdoptComes a history anchors (proof ∷ more))
      (λ a. adopt_files a history anchors (proof ∷ more)) (adopt_agree told history anchors proof more tells m n k l)
  by_command _ reaches tells = absurd reaches

  pub one_ending : EndsAllowed view one status → EndsAllowed view other again → Ending
  one_ending run also =
      by_command alike.command alike.reaches alike.tells run.0 also.0
      (comes_by view one status run alike.command alike.is_command)
      (comes_by view other again also alike.command (ap command_of alike.same_words ∙ alike.is_command)) run.1.ends
      also.1.ends
