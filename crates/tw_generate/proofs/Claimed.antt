-- What is claimed of three histories that acts led to is accepted under their heads, and an audit tells that it stands
-- or that texts clash.
use Rattle.std.proofs.Common.{◌≡◌, ℕ, ◌-◌, ◌≤◌, ◌<◌, List, [], ◌∷◌, length, Bool, true, false, refl, ap, sym, ◌∙◌}
use Rattle.std.proofs.Common.{subst, arith}
use Rattle.std.specs.Prelude.{Some, Result, Ok, Err, MatchBool, nat_lt}
use Rattle.tw_audit.specs.Answers.{AnswerMeans}
use Rattle.tw_audit.specs.declared.finding.AuditFault.{AuditFault}
use Rattle.tw_audit.specs.declared.finding.AuditFault.TheVariants.{NoMemory, NotHeld}
use Rattle.tw_audit.specs.declared.finding.Finding.{Finding}
use Rattle.tw_audit.specs.declared.finding.Finding.TheVariants.{Clash, NotAccepted, Stands}
use Rattle.tw_base.specs.declared.history.report.Report.{Report}
use Rattle.tw_base.specs.declared.history.thread.Entry.{Entry}
use Rattle.tw_base.specs.declared.history.thread.Key.{Key}
use Rattle.tw_base.specs.declared.history.thread.Thread.{Thread}
use Rattle.tw_base.specs.format.Codecs.{IsUnambiguous}
use Rattle.tw_base.specs.format.Formats.{Spells}
use Rattle.tw_base.specs.history.Anchors.{anchor_of}
use Rattle.tw_base.specs.history.Auth.{auth}
use Rattle.tw_base.specs.history.Entries.{key_of}
use Rattle.tw_base.specs.history.Family.{HasThread}
use Rattle.tw_base.specs.history.History.{History, entry_at}
use Rattle.tw_base.specs.history.Sound.{IsSound}
use Rattle.tw_base.specs.kinds.Lists.{Each}
use Rattle.tw_base.proofs.lemmas.kinds.ListLemmas.{Each-parts}
use Rattle.tw_chain.specs.Accepting.{IsAccepted, carried, report_of}
use Rattle.tw_chain.specs.Checks.{checks}
use Rattle.tw_chain.specs.OwnProofs.{IsOwnProof}
use Rattle.tw_chain.specs.Proofs.{proof_bytes, proof_codec, proof_layout}
use Rattle.tw_chain.specs.Reasons.{IsVerdict}
use Rattle.tw_chain.specs.declared.proof.PrecedenceProof.{PrecedenceProof}
use Rattle.tw_chain.specs.declared.proof.Proof.{Proof}
use Rattle.tw_chain.specs.declared.proof.Proof.TheVariants.{Archived, Exists, Linked, Precedes}
use Rattle.tw_chain.specs.declared.verdict.Verdict.TheVariants.{Yes}
use Rattle.tw_chain.proofs.ProofCodec.{from_existence}
use Rattle.tw_join.specs.Joining.{joined_proof}
use Rattle.tw_join.specs.Joining.Taken.{Nothing}
use Rattle.tw_join.specs.OwnParts.{HopOfPartStands, IsMade, JoinedIsAccepted}
use Rattle.tw_service.specs.Machine.{Makes, last_thread}
use Rattle.tw_tmap.specs.Bounds.{first_from}
use Rattle.tw_generate.specs.Coming.{IsAuditTold}
use Rattle.tw_generate.specs.Schedules.{Trio, Who, trio_history}
use Rattle.tw_generate.specs.Schedules.Who.{Alpha, Beta, Gamma}
use Rattle.tw_generate.specs.Summing.{AreParts, IsClaimed, IsPrecedence, IsQuestionAnswered, last, last_event}
use Rattle.tw_generate.specs.Summing.{received_by, trio_family, trio_heads}
use Rattle.tw_generate.proofs.Accepted.{IsKeyHeld, head-found, held-had, hop-stands, key-held, made-by, own-had}
use Rattle.tw_generate.proofs.FirstEntries.{first-is, received-at}
use Rattle.tw_generate.proofs.Parts.{event-part, link-part, made-of, thread-part}
use Rattle.tw_generate.proofs.SixParts.{AllFit, Six, keys, none-carried, parts-join, parts_of, three-named, whole}
use Rattle.tw_generate.proofs.Standing.{AllHad, Stand, each-who}

module _ (dig : List ℕ → List ℕ) (once : IsUnambiguous proof_codec) where
  -- the histories are sound and named, received each other's threads alone, and each has a step
  module _ (t : Trio) (most : ℕ) (s : Stand dig t most) (some : (who : Who) → 0 < last (trio_history who t)) where
    had-by : (who : Who) (k : ℕ) (e : Entry) → entry_at (trio_history who t) k ≡ Some e → HasThread dig (trio_family t)
        e.thread
    had-by who = each-who dig (AllHad dig (trio_family t)) who t s.had

    -- the parts over two hops
    pub record AreSix (parts : List Proof) : Type 0 where
      pub six : Six
      pub fit : AllFit six
      pub are : parts ≡ parts_of six
      pub made : Each (IsMade dig (trio_family t)) (parts_of six)
      pub stand : Each (HopOfPartStands dig (trio_family t)) (parts_of six)
      pub held : Each (IsKeyHeld dig t) (keys six)

    pub parts-are : (of_alpha of_beta : Entry) (parts : List Proof) → first_from t.alpha.name 1 (received_by t.beta)
        ≡ Some of_alpha
        → first_from t.beta.name of_alpha.archived (received_by t.gamma) ≡ Some of_beta → AreParts dig t of_alpha
        of_beta parts → AreSix parts
    parts-are of_alpha of_beta parts first_alpha first_beta are =
        let alpha_is = first-is t.alpha.name 1 (received_by t.beta) of_alpha first_alpha in
        let beta_is = first-is t.beta.name of_alpha.archived (received_by t.gamma) of_beta first_beta in
        let alpha_at = received-at t.beta (last t.beta) of_alpha alpha_is.0 in
        let beta_at = received-at t.gamma (last t.gamma) of_beta beta_is.0 in
        let alpha_had = own-had dig Alpha t of_alpha.thread s.names (had-by Beta of_alpha.archived of_alpha alpha_at.0)
        alpha_is.1 in
        let beta_had = own-had dig Beta t of_beta.thread s.names (had-by Gamma of_beta.archived of_beta beta_at.0)
        beta_is.1 in
        let second = event-part dig once t.gamma (last t.gamma) (last t.gamma) are.second 0 are.is_second in
        let one = thread-part dig once t.gamma (last t.gamma - 1) (last t.gamma) are.at_gamma (key_of of_beta)
        are.is_at_gamma in
        let one_link = link-part dig once t.beta of_beta.thread.step (last t.beta) are.in_beta are.is_in_beta in
        let other = thread-part dig once t.beta of_beta.thread.step (last t.beta) are.at_beta (key_of of_alpha)
        are.is_at_beta in
        let other_link = link-part dig once t.alpha of_alpha.thread.step (last t.alpha) are.in_alpha are.is_in_alpha in
        let first = event-part dig once t.alpha 1 of_alpha.thread.step are.first 0 are.is_first in
        let one_from : one.0.entry.thread.from ≡ t.beta.name = ap (λ (k : Key). k.from) one.3 ∙ beta_is.1 in
        let one_step : one.0.entry.thread.step ≡ of_beta.thread.step = ap (λ (k : Key). k.step) one.3 in
        let other_from : other.0.entry.thread.from ≡ t.alpha.name = ap (λ (k : Key). k.from) other.3 ∙ alpha_is.1 in
        let other_step : other.0.entry.thread.step ≡ of_alpha.thread.step = ap (λ (k : Key). k.step) other.3 in
        let one_has = had-by Gamma one.0.entry.archived one.0.entry one.2.received in
        let other_has = had-by Beta other.0.entry.archived other.0.entry other.2.received in
        let one_had = own-had dig Beta t one.0.entry.thread s.names one_has one_from in
        let other_had = own-had dig Alpha t other.0.entry.thread s.names other_has other_from in
        let six : Six =
        record {
          second = second.0;
          one = one.0;
          one_link = one_link.0;
          other = other.0;
          other_link = other_link.0;
          first = first.0;
        } in
        record {
          six = six;
          fit = record {
            one_fits = record {
              service = second.2.at.service ∙ sym one.2.at.service;
              at_step = ap (λ n. n - 1) second.2.at.at_step ∙ sym one.2.at.at_step;
              link_service = one_from ∙ sym one_link.2.service;
              link_step = one_step ∙ sym one_link.2.at_step;
              link_auth = sym one_had.1 ∙ ap (auth dig t.beta) one_step ∙ sym one_link.2.given;
              bound = omega (arith, one_link.2.at_top, some Beta);
            };
            other_fits = record {
              service = one_from ∙ sym other.2.at.service;
              at_step = one_step ∙ sym other.2.at.at_step;
              link_service = other_from ∙ sym other_link.2.service;
              link_step = other_step ∙ sym other_link.2.at_step;
              link_auth = sym other_had.1 ∙ ap (auth dig t.alpha) other_step ∙ sym other_link.2.given;
              bound = omega (arith, other_link.2.at_top, some Alpha);
            };
            first_service = other_from ∙ sym first.2.at.service;
            first_top = other_step ∙ sym first.2.at.at_top;
          };
          are = are.parts_are ∙ (λ j. second.1 j ∷ one.1 j ∷ one_link.1 j ∷ other.1 j ∷ other_link.1 j ∷ first.1 j
              ∷ []);
          made = (
            made-by dig Gamma t (last t.gamma) (last t.gamma) (Exists second.0) s.names (omega arith) (omega arith)
                (0, second.2),
            (
              made-by dig Gamma t (last t.gamma - 1) (last t.gamma) (Archived one.0) s.names (omega arith) (omega arith)
                  one.2,
              (
                made-by dig Beta t of_beta.thread.step (last t.beta) (Linked one_link.0) s.names beta_had.0
                    (omega arith) one_link.2,
                (
                  made-by dig Beta t of_beta.thread.step (last t.beta) (Archived other.0) s.names beta_had.0
                      (omega arith) other.2,
                  (
                    made-by dig Alpha t of_alpha.thread.step (last t.alpha) (Linked other_link.0) s.names alpha_had.0
                        (omega arith) other_link.2,
                    (
                      made-by dig Alpha t 1 of_alpha.thread.step (Exists first.0) s.names alpha_is.2 alpha_had.0
                          (0, first.2),
                      tt,
                    ),
                  ),
                ),
              ),
            ),
          );
          stand = (
            tt,
            (
              hop-stands dig Gamma t one.0 most s one.2.at.service one.2.received one_has,
              (
                tt,
                (
                  hop-stands dig Beta t other.0 most s other.2.at.service other.2.received other_has,
                  (tt, (tt, tt)),
                ),
              ),
            ),
          );
          held = (
            key-held dig Gamma t (record { from = second.0.at.service; step = second.0.at.top }) s.names
                second.2.at.service second.2.at.at_top,
            (
              key-held dig Beta t (record { from = one.0.entry.thread.from; step = one_link.0.top }) s.names one_from
                  one_link.2.at_top,
              (
                key-held dig Alpha t (record { from = other.0.entry.thread.from; step = other_link.0.top }) s.names
                    other_from other_link.2.at_top,
                tt,
              ),
            ),
          );
        }

    -- the bytes spell a proof that is accepted under the heads and carries no thread
    pub record AreAccepted (bytes : List ℕ) : Type 0 where
      pub proof : Proof
      pub spells : Spells proof_layout bytes proof
      pub accepted : IsAccepted dig (trio_heads dig t) proof
      pub bare : carried proof ≡ []

    module _ (joined_law : JoinedIsAccepted dig)
        (spelled_law : (parts : List Proof) (p : PrecedenceProof)
        → Each (λ part. (bytes : List ℕ) × Spells proof_layout bytes part) parts → joined_proof Nothing 1 parts ≡ Ok p
        → Spells proof_layout (proof_bytes (Precedes p)) (Precedes p)) where
      precedence-accepted : (bytes : List ℕ) → IsPrecedence dig t bytes → AreAccepted bytes
      precedence-accepted bytes is =
          let six = parts-are is.of_alpha is.of_beta is.parts is.is_of_alpha is.is_of_beta is.are_parts in
          let are = is.are_parts in
          let x : Six = six.six in
          let join : joined_proof Nothing 1 is.parts ≡ Ok (whole x) = ap (joined_proof Nothing 1) six.are ∙ parts-join x
          six.fit in
          let spelled : Each (λ part. (word : List ℕ) × Spells proof_layout word part) is.parts =
          subst (Each (λ part. (word : List ℕ) × Spells proof_layout word part)) (sym are.parts_are) (
            (are.is_second.0, are.is_second.2),
            (
              (are.is_at_gamma.0, are.is_at_gamma.2),
              (
                (are.is_in_beta.0, are.is_in_beta.2),
                (
                  (are.is_at_beta.0, are.is_at_beta.2),
                  (
                    (are.is_in_alpha.0, are.is_in_alpha.2),
                    ((are.is_first.0, are.is_first.2), tt),
                  ),
                ),
              ),
            ),
          ) in
          let whole_is : Ok (is.joined.1.0) ≡ Ok (whole x) = sym is.joined.1.1 ∙ join in
          let proof_is : is.joined.0 ≡ Precedes (whole x) = is.joined.1.2 ∙ (let same : is.joined.1.0 ≡ whole x = cc in
          ap (λ (w : PrecedenceProof). Precedes w) same) in
          let bytes_are : bytes ≡ proof_bytes (Precedes (whole x)) = is.joined.2 ∙ ap proof_bytes proof_is in
          record {
            proof = Precedes (whole x);
            spells = subst (λ (word : List ℕ). Spells proof_layout word (Precedes (whole x))) (sym bytes_are)
                (spelled_law is.parts (whole x) spelled join);
            accepted = joined_law (trio_family t) (parts_of x) (whole x) (trio_heads dig t) s.sound six.made six.stand
                (parts-join x six.fit)
                (subst (Each (IsKeyHeld dig t)) (sym (three-named x six.fit)) six.held);
            bare = none-carried x six.fit;
          }

      module _ (own_law : (h : History) (step top : ℕ) (p : Proof) (anchors : List Thread) (anchor : Thread) →
          IsSound h → step ≤ top → top ≤ length h.steps → IsOwnProof dig h step top p → anchor_of anchors h.name top
          ≡ Some anchor → anchor.auth ≡ auth dig h top →
          IsAccepted dig anchors p) where
        existence-accepted : (bytes : List ℕ) → IsQuestionAnswered dig t.gamma (last_event t) bytes → AreAccepted bytes
        unfolding Makes
        existence-accepted bytes is =
            let made = made-of dig t.gamma (last_event t) bytes is in
            record {
              proof = Exists made.0;
              spells = from_existence bytes made.0 made.1;
              accepted = own_law t.gamma (last t.gamma) (last t.gamma) (Exists made.0) (trio_heads dig t)
                  (last_thread dig t.gamma) s.sound.1.1.0 (omega arith) (omega arith) (0, made.2)
                  (head-found dig Gamma t s.names) refl;
              bare = refl;
            }

        pub claim-accepted : (rounds : ℕ) (bytes : List ℕ) → IsClaimed dig t rounds bytes → AreAccepted bytes
        claim-accepted rounds bytes is = by (nat_lt rounds 50) is
          where
            by : (b : Bool) → MatchBool b (IsQuestionAnswered dig t.gamma (last_event t) bytes)
                (IsPrecedence dig t bytes) → AreAccepted bytes
            by true is = existence-accepted bytes is
            by false is = precedence-accepted bytes is

    pub accepted-verdict : (bytes : List ℕ) → AreAccepted bytes → (report : Report) × IsVerdict dig (trio_heads dig t)
        true bytes (Yes report)
    accepted-verdict bytes a = (report_of a.proof, ((a.proof, a.spells, a.accepted), λ is. a.bare, refl))

    pub accepted-told : (bytes : List ℕ) (a : AreAccepted bytes) (result : Result Finding AuditFault)
        → AnswerMeans dig (trio_family t) (trio_heads dig t) a.proof result → IsAuditTold result
    accepted-told bytes a (Ok (Stands report)) means = (true, refl)
    accepted-told bytes a (Ok (Clash one other digest)) means = (false, refl)
    accepted-told bytes a (Ok (NotAccepted reason)) means = absurd (means.0 a.accepted)
    accepted-told bytes a (Err (NotHeld thread found)) means =
        absurd (means.missing (Each-parts (HasThread dig (trio_family t)) means.first.0 (thread ∷ means.first.1)
        (subst (Each (HasThread dig (trio_family t))) means.first.2 (held-had dig t (checks a.proof) s.names
        a.bare))).1.0)
    accepted-told bytes a (Err NoMemory) means = tt
