-- What is found in pages that keep a history is the history's.
use Rattle.std.proofs.Common.{◌≡◌, ℕ, ◌+◌, ◌^◌, ◌<◌, ◌≤◌, List, length, refl, ap, sym, ◌∙◌, subst, arith, Bool}
use Rattle.std.specs.Prelude.{Option, Some, None, Result, Ok, Err, if◌then◌else◌, false}
use Rattle.std.proofs.lemmas.Bool.{le-ltb}
use Rattle.tw_base.specs.declared.kinds.limits.TheConstants.{LAST_STEP}
use Rattle.tw_base.specs.declared.history.content.Content.TheVariants.{Events}
use Rattle.tw_base.specs.history.History.{History, events_at}
use Rattle.tw_base.specs.history.Limits.{IsTimeWithinLimits, MayRecord}
use Rattle.tw_base.specs.history.Sound.{IsSound}
use Rattle.tw_base.proofs.lemmas.kinds.DigestBytes.{IsDigest}
use Rattle.tw_disk.specs.Image.{Image}
use Rattle.tw_skipproof.specs.declared.existence.ExistenceProof.{ExistenceProof}
use Rattle.tw_skipproof.specs.Existence.{existence_of_part}
use Rattle.tw_skipproof.specs.HistoryProofs.{IsExistenceOf, IsPathOf, MakesExistence}
use Rattle.tw_skipproof.proofs.ExistenceOf.{spelled-made}
use Rattle.tw_skiplist.specs.declared.head.Head.{Head}
use Rattle.tw_skiplist.specs.declared.info.StepProof.{StepProof}
use Rattle.tw_skiplist.specs.Appended.{appended}
use Rattle.tw_skiplist.specs.Events.{events_of_info}
use Rattle.tw_disk.specs.Found.{Found, ◌>>=◌}
use Rattle.tw_disk.specs.Found.Found.{Is}
use Rattle.tw_skiplist.specs.Infos.{IsInfoOf}
use Rattle.tw_skiplist.specs.Keeping.{Keeps}
use Rattle.tw_skiplist.specs.Readings.{found_link, found_proof, found_skip_path}
use Rattle.tw_disk.proofs.FoundLaws.{is_on}
use Rattle.tw_skiplist.proofs.KeptEvents.{events_are}
use Rattle.tw_skiplist.proofs.KeptReadings.{link_found, path_found, proof_found}
use Rattle.tw_base.specs.declared.history.refusal.Refusal.{Refusal}
use Rattle.tw_base.specs.declared.history.refusal.Refusal.TheVariants.{NoEvent}
use Rattle.tw_answers.specs.Finds.{event_proof, event_proof_bytes, link_proof, link_to_step, part_to_step, path_down}
use Rattle.tw_answers.specs.Finds.{unless}
use Rattle.tw_service.specs.Finds.{found_thread, thread_at}
use Rattle.tw_answers.specs.Limits.{append_refusal, event_refusal}
use Rattle.tw_service.specs.Machine.{MakesLink, last_thread}
use Rattle.tw_chain.specs.declared.proof.LinkProof.{LinkProof}
use Rattle.tw_chain.specs.declared.proof.Proof.TheVariants.{Linked}
use Rattle.tw_chain.specs.OwnProofs.{IsLinkProofOf}
use Rattle.tw_chain.specs.Proofs.{proof_bytes as bytes_of_proof}
use Rattle.tw_chain.proofs.OwnSpelling.{own-spelled}
use Rattle.tw_skipproof.specs.declared.path.Path.{Path}
use Rattle.tw_answers.specs.declared.root.RootRecord.{RootRecord}
use Rattle.tw_service.specs.EventStep.{with_events_at}
use Rattle.tw_service.specs.Stands.{KeepsWhole}
use Rattle.tw_service.proofs.WholePages.{added_whole}
use Rattle.tw_answers.proofs.TableAnswers.{has_event}

-- ---- the thread of the next step

pub kept_thread : (dig : List ℕ → List ℕ) (size : (text : List ℕ) → IsDigest (dig text)) (ps : Image) (h : History)
    (r : RootRecord) (events : List (List ℕ)) (time : Option ℕ) → KeepsWhole dig ps h r → 4 + length ps < 2 ^ 47
    → MayRecord events → IsTimeWithinLimits time → append_refusal false r.head.step r.time events time ≡ None
    → r.head.step < LAST_STEP
    → found_thread dig ps h.name r.head false r.time events time r.archive ≡ Is
    (Ok (last_thread dig (with_events_at h events time)))
unfolding found_thread
kept_thread dig size ps h r events time whole room limits within none short =
    let added = added_whole dig size ps h r whole events time short limits within room in
    let new = added.keeps.steps in
    ap (λ (o : Option Refusal). unless o (appended dig ps r.head (Events events) r.archive time
    >>= (λ next. Is (Ok (thread_at h.name next.value))))) none
    ∙ is_on (appended dig ps r.head (Events events) r.archive time) (λ next. Is (Ok (thread_at h.name next.value))) _
    added.is
    ∙ (λ j. Is (Ok (record { from = h.name; step = new.step j; auth = new.auth j })))

-- ---- the last step, and the authenticator of a step

pub kept_path : (dig : List ℕ → List ℕ) (size : (text : List ℕ) → IsDigest (dig text)) (ps : Image) (h : History)
    (head : Head) (since : ℕ) → Keeps dig ps h head → since ≤ head.step
    → (path : Path) × (path_down dig ps head since ≡ Is (Ok path)) × IsPathOf dig h path.links (length h.steps) since
unfolding path_down
kept_path dig size ps h head since keeps order =
    let told = path_found dig size ps h head keeps head.step since order (omega arith) in (
      told.0,
      is_on (found_skip_path dig ps head head.step since) (λ path. Is (Ok path)) told.0 told.1,
      subst (λ (n : ℕ). IsPathOf dig h told.0.links n since) keeps.step told.2,
    )

pub kept_link : (dig : List ℕ → List ℕ) (size : (text : List ℕ) → IsDigest (dig text)) (ps : Image) (h : History)
    (head : Head) (step top : ℕ) → Keeps dig ps h head → IsSound h → step ≤ top → 1 ≤ top → top ≤ head.step
    → (bytes : List ℕ) × (link_proof dig ps h.name head step top ≡ Is (Ok bytes)) × MakesLink dig h step top bytes
unfolding link_proof
kept_link dig size ps h head step top keeps sound order some below =
    let told = link_found dig size ps h head keeps top step order below in
    let made : LinkProof = link_to_step h.name step top told.0 in
    let own : IsLinkProofOf dig h step top made =
    record { service = refl; at_step = refl; at_top = refl; given = told.3; path = told.2 } in (
      bytes_of_proof (Linked made),
      is_on (found_link dig ps head top step)
          (λ link. Is (Ok (bytes_of_proof (Linked (link_to_step h.name step top link))))) told.0 told.1,
      (
        made,
        own-spelled dig h step top (λ t. (size t).0) (λ t. (size t).1) sound order (omega (arith, below, keeps.step))
            (Linked made) some tt own,
        own,
      ),
    )

-- ---- an event of a step

pub no_such : (count index : ℕ) → count ≤ index → event_refusal count index ≡ Some (NoEvent count)
unfolding event_refusal
no_such count index past = ap (λ (b : Bool). if b then None else Some (NoEvent count)) (le-ltb index count past)

module _ (dig : List ℕ → List ℕ) (size : (text : List ℕ) → IsDigest (dig text)) (ps : Image) (h : History) (head : Head)
    (keeps : Keeps dig ps h head) (sound : IsSound h) (name : List ℕ) (named : h.name ≡ name)
    (step index top : ℕ) (some : 1 ≤ step) (order : step ≤ top) (below : top ≤ head.step) where
  abbrev events : List (List ℕ)
  events = events_at h step

  abbrev whole : Found (Result (List ℕ) Refusal)
  whole = event_proof dig ps name head step index top

  told : (proof : StepProof) × (found_proof dig ps head top step ≡ Is proof) × IsPathOf dig h proof.path.links top step
      × IsInfoOf dig ps h keeps.places step proof.info
  told = proof_found dig size ps h head keeps top step some order below

  abbrev read : StepProof → Found (Result (List ℕ) Refusal)
  read proof = events_of_info ps proof.info >>= (λ es. Is (Ok (event_proof_bytes dig name top index proof es)))

  whole_is : (o : Option Refusal) → event_refusal (length events) index ≡ o → whole ≡ unless o (read told.0)
  unfolding event_proof
  whole_is o is =
      is_on (found_proof dig ps head top step) (λ proof. unless (event_refusal proof.info.count index) (read proof))
      told.0 told.1
      ∙ ap (λ (n : ℕ). unless (event_refusal n index) (read told.0)) told.3.count
      ∙ ap (λ (q : Option Refusal). unless q (read told.0)) is

  pub record Makes : Type 0 where
    pub bytes : List ℕ
    pub is : whole ≡ Is (Ok bytes)
    pub makes : MakesExistence dig h step index top bytes

  pub in_range : index < length events → Makes
  unfolding told
  in_range l =
      let made : ExistenceProof = existence_of_part dig (part_to_step name top told.0) events index in
      let existence : IsExistenceOf dig h step index top made = record {
        at = record {
          service = sym named;
          at_step = told.3.step;
          at_top = refl;
          path = told.2;
          opening = told.3.opening;
        };
        inside = l;
        event = refl;
      } in
      record {
        bytes = event_proof_bytes dig name top index told.0 events;
        is = whole_is None (has_event (length events) index l)
            ∙ is_on (events_of_info ps told.0.info) (λ es. Is (Ok (event_proof_bytes dig name top index told.0 es)))
            events (events_are dig ps h keeps.places step told.0.info told.3);
        makes = (
          made,
          spelled-made dig h step index top made existence (λ t. (size t).0) (λ t. (size t).1) sound order
              (omega (arith, below, keeps.step)),
          existence,
        );
      }

  pub beyond : length events ≤ index → whole ≡ Is (Err (NoEvent (length events)))
  beyond past = whole_is (Some (NoEvent (length events))) (no_such (length events) index past)
