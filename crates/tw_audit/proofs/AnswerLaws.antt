-- What an audit's answer means, of sound histories and of the proof that bytes spell.
use Rattle.std.proofs.Common.{◌≡◌, ℕ, List, ◌∷◌, length, false, refl, ap, sym, ◌∙◌, subst, inl, inr, ◌⊎◌}
use Rattle.std.specs.Prelude.{Option, Some, None, Result, Ok, Err, find, not}
use Rattle.std.specs.Option.{option_map_or}
use Rattle.tw_base.specs.declared.history.report.Reason.{Reason}
use Rattle.tw_base.specs.declared.history.thread.Thread.{Thread}
use Rattle.tw_base.specs.format.Formats.{Spells}
use Rattle.tw_base.specs.history.Facts.{Facts, TimesRise}
use Rattle.tw_base.specs.history.Family.{AllSound, HasThread, HasThreads, family_texts}
use Rattle.tw_base.specs.history.History.{History}
use Rattle.tw_base.specs.kinds.Bytes.{AreBytes}
use Rattle.tw_base.specs.kinds.Clash.{Clash as Clashing, Pair, clash_pair}
use Rattle.tw_base.specs.kinds.Lists.{Each}
use Rattle.tw_base.proofs.lemmas.format.CodecLaws.{unambiguous}
use Rattle.tw_base.proofs.lemmas.history.TextBytes.{family_texts-bytes}
use Rattle.tw_base.proofs.lemmas.kinds.ClashPairs.{clash_pair-clashes, clash_pair-none}
use Rattle.tw_base.proofs.lemmas.kinds.ListLemmas.{Each-append, Each-parts}
use Rattle.tw_chain.specs.declared.proof.Proof.{Proof}
use Rattle.tw_chain.specs.declared.verdict.Verdict.TheVariants.{No}
use Rattle.tw_chain.specs.Accepting.{Accepts, IsAccepted, held, proof_texts, report_of}
use Rattle.tw_chain.specs.Proofs.{proof_codec, proof_layout}
use Rattle.tw_chain.specs.Reasons.{IsVerdict, Stands as StandsOf, StandsAgainst}
use Rattle.tw_chain.proofs.Headline.{headline}
use Rattle.tw_chain.proofs.ProofCodec.{proof-lawful}
use Rattle.tw_chain.proofs.ProofTextBytes.{proof_texts-bytes}
use Rattle.tw_audit.specs.declared.finding.AuditFault.{AuditFault}
use Rattle.tw_audit.specs.declared.finding.AuditFault.TheVariants.{NotHeld, NoMemory}
use Rattle.tw_audit.specs.declared.finding.Finding.{Finding}
use Rattle.tw_audit.specs.declared.finding.Finding.TheVariants.{Stands, Clash, NotAccepted}
use Rattle.tw_audit.specs.Answers.{AnswerMeans, ReportHolds, TellsClash, TextsClash, ThreadMissing}
use Rattle.tw_audit.specs.Auditing.{IsAudit, agrees_with, audit_answer, audited_texts, auth_in, of_pair}
use Rattle.tw_audit.proofs.Agreeing.{first-missing, none-missing}

-- a proof that the bytes spell is the one that they spell
pub same_proof : (bytes : List ℕ) (p q : Proof) → Spells proof_layout bytes p → Spells proof_layout bytes q → p ≡ q
same_proof bytes p q one other = (unambiguous proof_codec proof-lawful).one_value bytes p q one other

module _ (dig : List ℕ → List ℕ) (size : (text : List ℕ) → length (dig text) ≡ 32) (are : (text : List ℕ)
    → AreBytes (dig text)) (family : List History) (anchors : List Thread)
    (bytes : List ℕ) (p : Proof) (spells : Spells proof_layout bytes p) where
  accepted-of : (accepts : Accepts dig anchors bytes) → IsAccepted dig anchors p
  accepted-of accepts = subst (IsAccepted dig anchors) (same_proof bytes accepts.0 p accepts.1 spells) accepts.2

  -- what is found of the proof that an acceptance has is what is found of the proof
  answer-same : (accepts : Accepts dig anchors bytes) (result : Result Finding AuditFault) → result ≡ audit_answer dig
      family anchors accepts.0 → result ≡ audit_answer dig family anchors p
  answer-same accepts result is = is ∙ ap (audit_answer dig family anchors)
      (same_proof bytes accepts.0 p accepts.1 spells)

  module _ (sound : AllSound family) where
    texts-bytes : Each AreBytes (audited_texts dig family p)
    texts-bytes =
        Each-append AreBytes (family_texts dig family) (proof_texts dig p)
        (family_texts-bytes dig size are family sound)
        (proof_texts-bytes dig size are bytes p spells)

    stands-holds : IsAccepted dig anchors p → HasThreads dig family (held anchors p)
        → clash_pair dig (audited_texts dig family p) ≡ None → ReportHolds dig family anchors p (report_of p)
    stands-holds accepted has none = by (headline dig size are anchors bytes p spells accepted family sound has)
      where
        apart : Clashing dig (audited_texts dig family p) → ⊥
        apart = clash_pair-none dig (audited_texts dig family p) none

        by : (Facts dig family (report_of p).hops (report_of p).claim × TimesRise (report_of p).hops
            (report_of p).claim) ⊎ Clashing dig (audited_texts dig family p)
            → ReportHolds dig family anchors p (report_of p)
        by (inl facts) =
            record {
              accepted = accepted;
              is_report = refl;
              has_held = has;
              no_clash = apart;
              facts = facts.0;
              times = facts.1;
            }
        by (inr clash) = absurd (apart clash)

    pair-clashes : IsAccepted dig anchors p → HasThreads dig family (held anchors p) → (pair : Pair)
        → clash_pair dig (audited_texts dig family p) ≡ Some pair
        → TextsClash dig family anchors p pair.one pair.other (dig pair.one)
    pair-clashes accepted has pair some =
        let c = clash_pair-clashes dig (audited_texts dig family p) texts-bytes pair some in
        record {
          accepted = accepted;
          has_held = has;
          pair = record {
            first = some;
            clash = c;
            digests = (refl, sym (ap dig (sym c.1) ∙ c.0.one_digest ∙ ap dig c.2));
          };
        }

    -- what is found of an accepted proof is so
    found-means : IsAccepted dig anchors p → AnswerMeans dig family anchors p (audit_answer dig family anchors p)
    found-means accepted = by (find (λ (t : Thread). not (agrees_with dig family t)) (held anchors p)) refl
      where
        paired : HasThreads dig family (held anchors p) → (o : Option Pair) → clash_pair dig
            (audited_texts dig family p) ≡ o → AnswerMeans dig family anchors p (Ok (of_pair dig (report_of p) o))
        paired has None none = stands-holds accepted has none
        paired has (Some pair) some = pair-clashes accepted has pair some

        by : (o : Option Thread) → find (λ (t : Thread). not (agrees_with dig family t)) (held anchors p) ≡ o
            → AnswerMeans dig family anchors p (option_map_or (λ (t : Thread). Err (NotHeld t (auth_in dig family t))) o
            (Ok (of_pair dig (report_of p) (clash_pair dig (audited_texts dig family p)))))
        by None none = paired (none-missing dig family (held anchors p) none)
            (clash_pair dig (audited_texts dig family p)) refl
        by (Some t) some =
            let missing = first-missing dig family (held anchors p) t some in
            record {
              accepted = accepted;
              first = (missing.before, missing.after, missing.split, missing.there);
              missing = missing.lacked;
              is_found = refl;
            }

    of_audit : (accepts : Accepts dig anchors bytes) (result : Result Finding AuditFault) → result ≡ audit_answer dig
        family anchors accepts.0 → AnswerMeans dig family anchors p result
    of_audit accepts result is = subst (AnswerMeans dig family anchors p) (sym (answer-same accepts result is))
        (found-means (accepted-of accepts))

    rejected : (reason : Reason) → IsVerdict dig anchors false bytes (No reason) → (IsAccepted dig anchors p → ⊥)
        × StandsAgainst dig anchors false p reason
    rejected reason verdict =
        ((λ accepted. (let no = (verdict.0 (p, spells, accepted)).0 in cc)), against verdict.1.stands)
      where
        against : StandsOf dig anchors false bytes reason → StandsAgainst dig anchors false p reason
        against (inl nothing) = absurd (nothing.0 p spells)
        against (inr (q, q_spells, stands)) = subst (λ r. StandsAgainst dig anchors false r reason)
            (same_proof bytes q p q_spells spells) stands

    pub answer-means : (result : Result Finding AuditFault) → IsAudit dig family anchors bytes result
        → AnswerMeans dig family anchors p result
    answer-means (Ok (Stands report)) (accepts, is) = of_audit accepts (Ok (Stands report)) is
    answer-means (Ok (Clash one other digest)) (accepts, is) = of_audit accepts (Ok (Clash one other digest)) is
    answer-means (Ok (NotAccepted reason)) verdict = rejected reason verdict
    answer-means (Err (NotHeld t found)) (accepts, is) = of_audit accepts (Err (NotHeld t found)) is
    answer-means (Err NoMemory) is = tt

    -- ---- what comes of an accepted proof whose threads the family has

    module _ (accepted : IsAccepted dig anchors p) (has : HasThreads dig family (held anchors p)) where
      missing-none : (t : Thread) (found : Option (List ℕ)) → ThreadMissing dig family anchors p t found → ⊥
      missing-none t found lacks =
          let split = lacks.first.2 in
          lacks.missing (Each-parts (HasThread dig family) lacks.first.0 (t ∷ lacks.first.1)
          (subst (HasThreads dig family) split has)).1.0

      pub finds : Clashing dig (audited_texts dig family p) → (result : Result Finding AuditFault)
          → IsAudit dig family anchors bytes result
          → TellsClash dig (audited_texts dig family p) result
      finds clash result is = by result (answer-means result is)
        where
          by : (r : Result Finding AuditFault) → AnswerMeans dig family anchors p r
              → TellsClash dig (audited_texts dig family p) r
          by (Ok (Stands report)) holds = holds.no_clash clash
          by (Ok (Clash one other digest)) clashes = clashes.pair
          by (Ok (NotAccepted reason)) rejects = rejects.0 accepted
          by (Err (NotHeld t found)) lacks = missing-none t found lacks
          by (Err NoMemory) free = tt

      pub stands : (Clashing dig (audited_texts dig family p) → ⊥) → (result : Result Finding AuditFault)
          → IsAudit dig family anchors bytes result
          → (result ≡ Ok (Stands (report_of p))) ⊎ (result ≡ Err NoMemory)
      stands apart result is = by result (answer-means result is)
        where
          by : (r : Result Finding AuditFault) → AnswerMeans dig family anchors p r → (r ≡ Ok (Stands (report_of p)))
              ⊎ (r ≡ Err NoMemory)
          by (Ok (Stands report)) holds = inl (ap (λ told. Ok (Stands told)) holds.is_report)
          by (Ok (Clash one other digest)) clashes = absurd (apart clashes.pair.clash.0)
          by (Ok (NotAccepted reason)) rejects = absurd (rejects.0 accepted)
          by (Err (NotHeld t found)) lacks = absurd (missing-none t found lacks)
          by (Err NoMemory) free = inr refl
