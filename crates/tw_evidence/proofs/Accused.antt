-- What accusing makes of parts that have a spelling has one, and is accepted where it shows a fork.
use Rattle.std.proofs.Common.{◌≡◌, ◌≢◌, ℕ, ◌≤◌, List, [], refl, sym, subst, arith, inl}
use Rattle.std.specs.Prelude.{Bool, true, false, Option, Some, None, IfOk, IfSome, Result, Ok, Err, ◌==◌, ◌&&◌}
use Rattle.std.specs.Prelude.{if◌then◌else◌}
use Rattle.std.specs.Str.{bytes_eq}
use Rattle.std.proofs.lemmas.Bool.{and_parts, eqb-true}
use Rattle.tw_base.specs.declared.history.thread.Entry.{Entry}
use Rattle.tw_base.specs.declared.history.thread.Thread.{Thread}
use Rattle.tw_base.specs.format.Codecs.{behind, digest_codec, each, pair, seen}
use Rattle.tw_base.specs.format.Formats.{Spells}
use Rattle.tw_base.specs.history.EntryCodec.{entry_codec}
use Rattle.tw_base.specs.history.HistoryCodec.{thread_codec}
use Rattle.tw_base.proofs.lemmas.format.CodecLaws.{spelled-fits}
use Rattle.tw_base.proofs.lemmas.format.FormatLaws.{one_value}
use Rattle.tw_skipproof.specs.declared.path.Path.{Path}
use Rattle.tw_skipproof.specs.Codecs.{path_codec}
use Rattle.tw_skipproof.specs.Paths.{Climbs}
use Rattle.tw_skipproof.proofs.GreedySteps.{greedy_steps-none}
use Rattle.tw_chain.specs.declared.proof.LinkProof.{LinkProof}
use Rattle.tw_chain.specs.declared.proof.Proof.TheVariants.{Archived}
use Rattle.tw_chain.specs.declared.proof.ThreadProof.{ThreadProof}
use Rattle.tw_chain.specs.Accepting.{Accepts, IsAccepted}
use Rattle.tw_chain.specs.Proofs.{link_body, proof_layout}
use Rattle.tw_join.specs.declared.joining.JoinFault.{JoinFault}
use Rattle.tw_evidence.specs.declared.evidence.Evidence.{Evidence}
use Rattle.tw_evidence.specs.declared.fork.ForkVerdict.TheVariants.{Yes}
use Rattle.tw_evidence.specs.Accusing.{Accuses, AreSpelled, IsComplete, accused, evidence_with, is_link_between}
use Rattle.tw_evidence.specs.Accusing.{linked_fork}
use Rattle.tw_evidence.specs.Evidence.{evidence_bytes, link_proof_codec, thread_proof_codec, thread_proof_layout}
use Rattle.tw_evidence.specs.Forks.{IsForkVerdict, ShowsFork, are_in_order, fork_of}
use Rattle.tw_evidence.proofs.EvidenceCodec.{EvidenceFits, evidence-lawful, evidence-of_parts, thread-is-proof}
use Rattle.tw_evidence.proofs.EvidenceCodec.{thread-parts, thread_proof-lawful}
use Rattle.tw_evidence.proofs.Verdicts.{in_order-is, shows-yes}

-- the authenticator of an entry that fits
entry-auth : (entry : Entry) → entry_codec.Fits entry → digest_codec.Fits entry.thread.auth
unfolding entry_codec thread_codec seen pair
entry-auth entry fits = fits.0.1.1

-- a path to a step from itself has no links
empty-fits : (from to : ℕ) → from ≤ to → (path_codec from to).Fits []
unfolding path_codec each
empty-fits from to l = rw (greedy_steps-none from to l) refl

record LinkFits (l : LinkProof) : Type 0 where
  pub auth : digest_codec.Fits l.auth
  pub path : (path_codec l.top l.step).Fits l.path.links

link-parts : (l : LinkProof) → link_proof_codec.Fits l → LinkFits l
unfolding link_proof_codec link_body behind seen pair
link-parts l fits = record { auth = fits.1.1.1.0; path = fits.1.1.1.1 }

module _ (first second : ThreadProof) where
  abbrev one : Thread
  one = first.entry.thread

  abbrev other : Thread
  other = second.entry.thread

  -- the bottom and the path fit between both steps
  abbrev LinkedFits : List ℕ × Path → Type 0
  LinkedFits l = digest_codec.Fits l.0 × (path_codec other.step one.step).Fits l.1.links

  -- what is linked, by whether the steps are one or the link is of the threads
  abbrev without_link : Bool → Result (List ℕ × Path) ℕ
  without_link b = if b then Ok (other.auth, record { links = [] }) else Err 2

  abbrev with_link : LinkProof → Bool → Result (List ℕ × Path) ℕ
  with_link link b = if b then Ok (link.auth, link.path) else Err 3

  linked-fits : (link : Option LinkProof) (l : List ℕ × Path) → AreSpelled first second link → linked_fork one other
      link ≡ Ok l → LinkedFits l
  linked-fits None l spelled is = by (one.step == other.step) refl is
    where
      by : (b : Bool) → (one.step == other.step) ≡ b → without_link b ≡ Ok l → LinkedFits l
      by false same is = absurd (cc)
      by true same is =
          let equal : one.step ≡ other.step = eqb-true one.step other.step same in
          let whole : (other.auth, record { links = [] }) ≡ l = cc in
          subst LinkedFits whole (
            entry-auth second.entry (thread-parts second spelled.1).entry,
            empty-fits other.step one.step (omega (arith, equal)),
          )
  linked-fits (Some link) l spelled is = by (is_link_between one other link) refl is
    where
      by : (b : Bool) → is_link_between one other link ≡ b → with_link link b ≡ Ok l → LinkedFits l
      by false of is = absurd (cc)
      by true of is =
          let steps = and_parts (link.step == one.step) (link.top == other.step)
          (and_parts (bytes_eq link.service one.from) (link.step == one.step && link.top == other.step) of).1 in
          let low : link.step ≡ one.step = eqb-true link.step one.step steps.0 in
          let high : link.top ≡ other.step = eqb-true link.top other.step steps.1 in
          let parts = link-parts link spelled.2 in
          let P : ℕ → Type 0 = λ from. (path_codec from link.step).Fits link.path.links in
          let Q : ℕ → Type 0 = λ to. (path_codec other.step to).Fits link.path.links in
          let whole : (link.auth, link.path) ≡ l = cc in
          subst LinkedFits whole (parts.auth, subst Q low (subst P high parts.path))

  -- what is made, by whether the threads are in order
  abbrev in_order_with : Bool → Result (List ℕ × Path) ℕ → Result Evidence ℕ
  in_order_with b r = if b then evidence_with first second r else Err 2

  abbrev made_of : List ℕ × Path → Evidence
  made_of l = record { first = first; second = second; bottom = l.0; link = l.1 }

  -- where evidence is made, the threads are in order, and it is made of the bottom and the path
  made-from : (link : Option LinkProof) (e : Evidence) → accused first second link ≡ Ok e
      → (are_in_order one other ≡ true) × ((l : List ℕ × Path) × (linked_fork one other link ≡ Ok l) × (made_of l ≡ e))
  made-from link e is = by (are_in_order one other) (linked_fork one other link) refl refl is
    where
      by : (b : Bool) (r : Result (List ℕ × Path) ℕ) → are_in_order one other ≡ b → linked_fork one other link ≡ r
          → in_order_with b r ≡ Ok e
          → (are_in_order one other ≡ true) × ((l : List ℕ × Path) × (linked_fork one other link ≡ Ok l)
          × (made_of l ≡ e))
      by false r order of is = absurd (cc)
      by true (Err place) order of is = absurd (cc)
      by true (Ok l) order of is = (order, (l, of, cc))

  made-fits : (link : Option LinkProof) (e : Evidence) → AreSpelled first second link → accused first second link ≡ Ok e
      → EvidenceFits e
  made-fits link e spelled is =
      let made = made-from link e is in
      let fits = linked-fits link made.1.0 spelled made.1.1 in
      subst EvidenceFits made.1.2 (record { first = spelled.0; second = spelled.1; bottom = fits.0; link = fits.1 })

  pub accused-complete : (link : Option LinkProof) (e : Evidence) → accused first second link ≡ Ok e
      → IsComplete first second link e
  accused-complete link e is spelled =
      let spells = evidence-lawful.spells e (evidence-of_parts e (made-fits link e spelled is)) in
      (spells, λ dig anchors shows. inl (e, spells, sym (shows-yes dig anchors e shows)))

  -- so it is of what accusing answers
  pub accuses-complete : (link : Option LinkProof) (result : Result Evidence JoinFault) → Accuses first second link
      result → IfOk result (IsComplete first second link)
  accuses-complete link (Ok e) is = accused-complete link e is
  accuses-complete link (Err fault) is = tt

  -- ---- evidence of proofs whose bytes are accepted

  module _ (dig : List ℕ → List ℕ) (anchors : List Thread) where
    made-shows : (link : Option LinkProof) (e : Evidence) → IsAccepted dig anchors (Archived first)
        → IsAccepted dig anchors (Archived second)
        → accused first second link ≡ Ok e → e.bottom ≢ one.auth → Climbs dig e.link.links other.step one.step e.bottom
        other.auth → ShowsFork dig anchors e
    made-shows link e first_accepted second_accepted is =
        let made = made-from link e is in
        let order = (in_order-is one other).0 made.0 in
        let P : Evidence → Type 0 =
        λ e. (e.bottom ≢ one.auth → Climbs dig e.link.links other.step one.step e.bottom other.auth
        → ShowsFork dig anchors e) in
        subst P made.1.2 (λ differs climbs. record {
          first = first_accepted;
          second = second_accepted;
          service = order.0;
          order = order.1;
          differs = differs;
          climbs = climbs;
        })

-- bytes that spell the proof and are accepted
accepted-thread : (dig : List ℕ → List ℕ) (anchors : List Thread) (bytes : List ℕ) (t : ThreadProof)
    → Spells thread_proof_layout bytes t → Accepts dig anchors bytes
    → IsAccepted dig anchors (Archived t)
accepted-thread dig anchors bytes t spells accepts =
    subst (IsAccepted dig anchors) (one_value proof_layout bytes accepts.0 (Archived t) accepts.1
    (thread-is-proof bytes t spells)) accepts.2

pub made-accepted : (dig : List ℕ → List ℕ) (anchors : List Thread) (one other : List ℕ) (first second : ThreadProof)
    (link : Option LinkProof) (e : Evidence)
    → Spells thread_proof_layout one first → Accepts dig anchors one → Spells thread_proof_layout other second
    → Accepts dig anchors other
    → IfSome link link_proof_codec.Fits → accused first second link ≡ Ok e → e.bottom ≢ first.entry.thread.auth
    → Climbs dig e.link.links second.entry.thread.step first.entry.thread.step e.bottom second.entry.thread.auth
    → IsForkVerdict dig anchors (evidence_bytes e) (Yes (fork_of e))
made-accepted dig anchors one other first second link e first_spells first_accepts second_spells second_accepts
    link_fits is differs climbs =
    let spelled : AreSpelled first second link = (
      spelled-fits thread_proof_codec thread_proof-lawful one first first_spells,
      spelled-fits thread_proof_codec thread_proof-lawful other second second_spells,
      link_fits,
    ) in
    (accused-complete first second link e is spelled).1 dig anchors
    (made-shows first second dig anchors link e (accepted-thread dig anchors one first first_spells first_accepts)
    (accepted-thread dig anchors other second second_spells second_accepts) is differs climbs)
