-- What a run of `verify` or `strict` with status 0 says, by the lines of its file alone, or by the line of its words.
use Rattle.std.proofs.Common.{◌≡◌, ◌⊎◌, ℕ, List, [], ◌∷◌, ◌++◌, refl, ap, sym, ◌∙◌, subst, inl, inr}
use Rattle.std.specs.Prelude.{codes, map, Option, Some, None, MatchOption}
use Rattle.sha2.specs.Sha256.{sha256}
use Rattle.tw_base.specs.declared.history.thread.Thread.{Thread}
use Rattle.tw_base.specs.format.Formats.{Spells}
use Rattle.tw_chain.specs.declared.proof.Proof.{Proof}
use Rattle.tw_chain.specs.Accepting.{Accepts, IsAccepted, report_of}
use Rattle.tw_chain.specs.Proofs.{proof_layout}
use Rattle.tw_disk.specs.Disk.{DiskView}
use Rattle.tw_disk.specs.Image.{Image}
use Rattle.tw_filecmd.specs.Verifying.{HasAnchors}
use Rattle.tw_msg.specs.AnchorsFile.{anchor_on, lines as lines_in}
use Rattle.tw_outside.specs.Files.{Files, file_bytes}
use Rattle.tw_outside.specs.TakenBytes.{Appends}
use Rattle.tw_plain.specs.Hashed.{hashed_texts}
use Rattle.tw_plain.specs.Plain.{IsPlain, IsReport, IsSoByLines, file_lines, line_of_words}
use Rattle.tw_text.specs.Reports.{report_text}
use Rattle.tw_words.specs.CommandLine.{command_of}
use Rattle.tw_words.specs.declared.command.Command.{Command}
use Rattle.tw_app.specs.Around.{Around}
use Rattle.tw_app.specs.Running.{EndsAllowed, work}
use Rattle.tw_app.specs.Statuses.{GivesAnchors, IsAcceptedRun, IsVerify, proof_file}
use Rattle.tw_app.proofs.Endings.{accepted, done}
use Rattle.tw_app.proofs.PlainWords.{strict_named, strict_words, verify_line, verify_named, verify_words}

-- the command judges the file of this name under the lines of the other
pub record Judges (told : Option Files) (c : Command) (proof file : List ℕ) : Type 0 where
  pub judges : IsVerify c
  pub of : proof_file c ≡ Some proof
  pub under : (anchors : List Thread) → GivesAnchors told c anchors → HasAnchors told file anchors

judged_by : (told : Option Files) (words : List (List ℕ)) (proof file : List ℕ) (c : Command)
    → (words ≡ codes "verify" ∷ proof ∷ file ∷ []) ⊎ (words ≡ codes "strict" ∷ proof ∷ file ∷ []) → command_of words ≡ Some c
    → Judges told c proof file
judged_by told words proof file c (inl are) is =
    subst (λ (command : Command). Judges told command proof file) (verify_words proof file c (sym (verify_named (proof ∷ file ∷ [])) ∙ ap command_of (sym are) ∙ is))
    (record { judges = tt; of = refl; under = λ anchors gives. gives })
judged_by told words proof file c (inr are) is =
    subst (λ (command : Command). Judges told command proof file) (strict_words proof file c (sym (strict_named (proof ∷ file ∷ [])) ∙ ap command_of (sym are) ∙ is))
    (record { judges = tt; of = refl; under = λ anchors gives. gives })

-- the command judges the file of this name under the line
pub record JudgesLine (told : Option Files) (c : Command) (proof : List ℕ) (line : Thread) : Type 0 where
  pub judges : IsVerify c
  pub of : proof_file c ≡ Some proof
  pub under : (anchors : List Thread) → GivesAnchors told c anchors → anchors ≡ line ∷ []

judged_by_line : (told : Option Files) (words : List (List ℕ)) (proof name step hex : List ℕ) (c : Command)
    → words ≡ codes "verify" ∷ proof ∷ name ∷ step ∷ hex ∷ [] → command_of words ≡ Some c → JudgesLine told c proof (line_of_words name step hex)
judged_by_line told words proof name step hex c are is =
    let tail : List (List ℕ) = proof ∷ name ∷ step ∷ hex ∷ [] in
    subst (λ (command : Command). JudgesLine told command proof (line_of_words name step hex))
    (verify_line proof name step hex c (sym (verify_named tail) ∙ ap command_of (sym are) ∙ is))
    (record { judges = tt; of = refl; under = λ anchors gives. gives })

-- ---- the run

pub some_of : {X : Type 0} (P : X → Type 0) (o : Option X) → MatchOption o ⊥ P → (x : X) × (o ≡ Some x)
some_of P None is = absurd is
some_of P (Some x) is = (x, refl)

pub same_some : {X : Type 0} (x y : X) → Some x ≡ Some y → x ≡ y
same_some x y e = cc

module _ (held : (bytes : List ℕ) (lines : List Thread) (p : Proof) → Spells proof_layout bytes p → IsAccepted sha256 lines p
    → IsSoByLines sha256 lines (hashed_texts sha256 bytes) (report_of p))
    (so : (bytes file : List ℕ) (p : Proof) → Spells proof_layout bytes p → IsAccepted sha256 (map anchor_on (lines_in file)) p
    → IsSoByLines sha256 (file_lines file) (hashed_texts sha256 bytes) (report_of p))
    (readable : (bytes : List ℕ) (p : Proof) → Spells proof_layout bytes p → IsReport (report_of p)) where
  -- what was accepted under the lines of the file
  accepted-plain : (proof lines : List ℕ) (anchors : List Thread) → anchors ≡ map anchor_on (lines_in lines) → (accepts : Accepts sha256 anchors proof)
      → IsPlain sha256 proof (file_lines lines) (report_text (report_of accepts.0))
  accepted-plain proof lines anchors are accepts = record {
    report = report_of accepts.0;
    readable = readable proof accepts.0 accepts.1;
    tells = refl;
    so = so proof lines accepts.0 accepts.1 (subst (λ (held : List Thread). IsAccepted sha256 held accepts.0) are accepts.2);
  }

  -- what was accepted under these
  accepted-held : (proof : List ℕ) (anchors lines : List Thread) → anchors ≡ lines → (accepts : Accepts sha256 anchors proof)
      → IsPlain sha256 proof lines (report_text (report_of accepts.0))
  accepted-held proof anchors lines are accepts = record {
    report = report_of accepts.0;
    readable = readable proof accepts.0 accepts.1;
    tells = refl;
    so = held proof lines accepts.0 accepts.1 (subst (λ (held : List Thread). IsAccepted sha256 held accepts.0) are accepts.2);
  }

  module _ (told : Option Files) (words : List (List ℕ)) (old new : Option (List ℕ)) (proof_name proof before : List ℕ)
      (c : Command) (is : command_of words ≡ Some c) (run : IsAcceptedRun told words old new) (proof_told : file_bytes told proof_name ≡ Some proof)
      (taken : old ≡ Some before) where
    command : c ≡ run.command
    command = same_some c run.command (sym is ∙ run.is_command)

    come : (of : proof_file run.command ≡ Some proof_name)
        → (accepts : Accepts sha256 run.anchors proof) × Appends old new (report_text (report_of accepts.0))
    come of =
        let named : proof_name ≡ run.file = same_some proof_name run.file (sym of ∙ run.asked) in
        run.accepted proof (subst (λ name. file_bytes told name ≡ Some proof) named proof_told)

    run-plain : (lines_name lines : List ℕ) → Judges told c proof_name lines_name → file_bytes told lines_name ≡ Some lines
        → (text : List ℕ) × (new ≡ Some (before ++ text)) × IsPlain sha256 proof (file_lines lines) text
    run-plain lines_name lines judges lines_told =
        let of : Judges told run.command proof_name lines_name = subst (λ (d : Command). Judges told d proof_name lines_name) command judges in
        let has = of.under run.anchors run.given in
        let accepts = come of.of in
        (report_text (report_of accepts.0.0), accepts.1 before taken, accepted-plain proof lines run.anchors (has.same lines lines_told) accepts.0)

    run-line : (line : Thread) → JudgesLine told c proof_name line
        → (text : List ℕ) × (new ≡ Some (before ++ text)) × IsPlain sha256 proof (line ∷ []) text
    run-line line judges =
        let of : JudgesLine told run.command proof_name line = subst (λ (d : Command). JudgesLine told d proof_name line) command judges in
        let accepts = come of.of in (
          report_text (report_of accepts.0.0),
          accepts.1 before taken,
          accepted-held proof run.anchors (line ∷ []) (of.under run.anchors run.given) accepts.0,
        )

  module _ {D : Type 0} (view : D → DiskView)
      (only_now : (d : D) (image : Image) → (view d).left_since (view d).moment image → (view d).may_leave image)
      (as_it_reads : (d : D) (image : Image) → (view d).content ≡ Some image → (view d).may_leave image) (a : Around D) (status : ℕ)
      (run : EndsAllowed view a status) (zeroth : status ≡ 0) where
    abbrev Found : Type 0
    Found = (c : Command) × (command_of a.words ≡ Some c)

    found : Found
    found =
        let is_done = done view only_now as_it_reads a status run zeroth in
        some_of (λ (c : Command). (work view a.outside c).done is_done.0) (command_of a.words) is_done.1

    run_of : (c : Command) → command_of a.words ≡ Some c → IsVerify c → IsAcceptedRun a.outside.inputs.told a.words a.taken.before a.taken.after
    run_of c is judges =
        accepted view only_now as_it_reads a status run zeroth
        (subst (λ (o : Option Command). MatchOption o ⊥ IsVerify) (sym is) judges)

    pub plain_run : (proof_name lines_name proof lines before word : List ℕ) → (word ≡ codes "verify") ⊎ (word ≡ codes "strict")
        → a.words ≡ word ∷ proof_name ∷ lines_name ∷ []
        → file_bytes a.outside.inputs.told proof_name ≡ Some proof → file_bytes a.outside.inputs.told lines_name ≡ Some lines
        → a.taken.before ≡ Some before
        → (text : List ℕ) × (a.taken.after ≡ Some (before ++ text)) × IsPlain sha256 proof (file_lines lines) text
    plain_run proof_name lines_name proof lines before word named are proof_told lines_told taken =
        let told : Option Files = a.outside.inputs.told in
        let tail : List (List ℕ) = proof_name ∷ lines_name ∷ [] in
        let asked : (a.words ≡ codes "verify" ∷ tail) ⊎ (a.words ≡ codes "strict" ∷ tail) =
        elim named [
          | inl is ↦ inl (are ∙ ap (λ first. first ∷ tail) is)
          | inr is ↦ inr (are ∙ ap (λ first. first ∷ tail) is)
        ]
        in
        let judges : Judges told found.0 proof_name lines_name = judged_by told a.words proof_name lines_name found.0 asked found.1 in
        run-plain told a.words a.taken.before a.taken.after proof_name proof before found.0 found.1 (run_of found.0 found.1 judges.judges)
        proof_told taken lines_name lines judges lines_told

    pub plain_line : (proof_name name step hex proof before : List ℕ) → a.words ≡ codes "verify" ∷ proof_name ∷ name ∷ step ∷ hex ∷ []
        → file_bytes a.outside.inputs.told proof_name ≡ Some proof → a.taken.before ≡ Some before
        → (text : List ℕ) × (a.taken.after ≡ Some (before ++ text)) × IsPlain sha256 proof (line_of_words name step hex ∷ []) text
    plain_line proof_name name step hex proof before are proof_told taken =
        let told : Option Files = a.outside.inputs.told in
        let judges : JudgesLine told found.0 proof_name (line_of_words name step hex) =
        judged_by_line told a.words proof_name name step hex found.0 are found.1 in
        run-line told a.words a.taken.before a.taken.after proof_name proof before found.0 found.1 (run_of found.0 found.1 judges.judges)
        proof_told taken (line_of_words name step hex) judges
