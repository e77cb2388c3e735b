-- What accepted evidence says of histories.
use Rattle.std.proofs.Common.{◌≡◌, ◌≢◌, ℕ, ◌≤◌, List, ◌++◌, length, refl, sym, ◌∙◌, subst, arith, inl}
use Rattle.std.specs.Prelude.{Bool, true, false, Some, nat_le, IsTrue, ◌↔◌}
use Rattle.std.specs.Bool.{Decides}
use Rattle.std.specs.Str.{bytes_eq}
use Rattle.std.proofs.lemmas.Bool.{both_ways, leb-true, le-leb}
use Rattle.std.proofs.lemmas.Bool.Decides.{same_from_decides}
use Rattle.std.proofs.lemmas.Slice.Eq.{bytes_eq-Decides}
use Rattle.tw_base.specs.declared.history.thread.Entry.{Entry}
use Rattle.tw_base.specs.declared.history.thread.Thread.{Thread}
use Rattle.tw_base.specs.format.Formats.{Spells}
use Rattle.tw_base.specs.history.Auth.{auth}
use Rattle.tw_base.specs.history.Facts.{WasReceived}
use Rattle.tw_base.specs.history.Family.{AllSound, HasThread, HasThreads, family_texts}
use Rattle.tw_base.specs.history.History.{History}
use Rattle.tw_base.specs.history.HistoryTexts.{history_texts}
use Rattle.tw_base.specs.history.Sound.{IsSound}
use Rattle.tw_base.specs.kinds.Bytes.{AreBytes}
use Rattle.tw_base.specs.kinds.Clash.{OrClash, Within}
use Rattle.tw_base.proofs.lemmas.format.CodecLaws.{spelled-fits, unambiguous}
use Rattle.tw_base.proofs.lemmas.kinds.Clashes.{Among-left, Among-right, OrClash-wider, and_then, both_within}
use Rattle.tw_base.proofs.lemmas.kinds.ListLemmas.{Each-parts}
use Rattle.tw_skipproof.specs.Paths.{Climbs, HasShape, climbed, path_texts}
use Rattle.tw_chain.specs.declared.proof.Proof.TheVariants.{Archived}
use Rattle.tw_chain.specs.declared.proof.ThreadProof.{ThreadProof}
use Rattle.tw_chain.specs.Accepting.{IsAccepted, held, proof_texts}
use Rattle.tw_chain.specs.Proofs.{proof_bytes}
use Rattle.tw_chain.proofs.Headline.{headline}
use Rattle.tw_chain.proofs.PassesLaws.{climbs-is}
use Rattle.tw_evidence.specs.declared.evidence.Evidence.{Evidence}
use Rattle.tw_evidence.specs.declared.fork.Fork.{Fork}
use Rattle.tw_evidence.specs.declared.fork.ForkVerdict.{ForkVerdict}
use Rattle.tw_evidence.specs.declared.fork.ForkVerdict.TheVariants.{Yes, No}
use Rattle.tw_evidence.specs.Binding.{AreSidesReceived, BindsFork, HasBoth, IsForked}
use Rattle.tw_evidence.specs.Evidence.{evidence_codec, evidence_layout, thread_proof_codec}
use Rattle.tw_evidence.specs.Forks.{ShowsFork, conflicts, evidence_texts, fork_of, fork_verdict, link_climbs, lower}
use Rattle.tw_evidence.specs.Forks.{upper}
use Rattle.tw_evidence.proofs.EvidenceCodec.{evidence-lawful, evidence-parts, thread-spells}
use Rattle.tw_evidence.proofs.Verdicts.{conflicts-is, yes-shows}

-- ---- whether the path climbs

module _ (dig : List ℕ → List ℕ) (e : Evidence) where
  abbrev PathClimbs : Type 0
  PathClimbs = Climbs dig e.link.links (upper e).step (lower e).step e.bottom (upper e).auth

  climbs-as : (b : Bool) → Decides b PathClimbs → b ≡ link_climbs dig e
  climbs-as b is =
      same_from_decides b (link_climbs dig e) is (climbs-is dig e.link.links (upper e).step (lower e).step e.bottom
      (Some (upper e).auth))

  -- it has another shape
  pub climbed-no : (HasShape e.link.links (upper e).step (lower e).step → ⊥) → false ≡ link_climbs dig e
  climbed-no other = climbs-as false (λ is. cc, λ (climbs : PathClimbs). absurd (other climbs.shape))

  -- it has its shape, and climbs to this authenticator
  pub climbed-yes : (same : Bool) (top : List ℕ) → HasShape e.link.links (upper e).step (lower e).step
      → top ≡ climbed dig e.link.links (upper e).step (lower e).step e.bottom → IsTrue same ↔ (top ≡ (upper e).auth)
      → same ≡ link_climbs dig e
  climbed-yes same top shape computed is =
      climbs-as same (
        λ yes. record { shape = shape; reaches = sym computed ∙ is.0 yes },
        λ (climbs : PathClimbs). is.1 (computed ∙ climbs.reaches),
      )

-- ---- that no sound history has both threads

module _ (dig : List ℕ → List ℕ) (e : Evidence) (conflict : conflicts e ≡ true) where
  differs : e.bottom ≢ (lower e).auth
  differs = ((conflicts-is e).0 conflict).1

  abbrev link_texts : List (List ℕ)
  link_texts = path_texts dig e.link.links (upper e).step (lower e).step e.bottom

  link-within : Within link_texts (evidence_texts dig e)
  link-within t a =
      let first : List (List ℕ) = proof_texts dig (Archived e.first) in
      let second : List (List ℕ) = proof_texts dig (Archived e.second) in
      Among-right t first (second ++ link_texts) (Among-right t second link_texts a)

  -- where the history has the upper thread, its authenticator at the lower step is the bottom, or texts clash
  abbrev Binds : History → Type 0
  Binds h = (upper e).step ≤ length h.steps → (upper e).auth ≡ auth dig h (upper e).step
      → OrClash dig (history_texts dig h ++ link_texts) (e.bottom ≡ auth dig h (lower e).step)

  module _ (h : History) (binds : Binds h) where
    abbrev NotBoth : Type 0
    NotBoth = HasBoth dig h (lower e) (upper e) → ⊥

    abbrev Holds : Type 0
    Holds = OrClash dig (history_texts dig h ++ evidence_texts dig e) NotBoth

    at_bottom : (upper e).step ≤ length h.steps → (upper e).auth ≡ auth dig h (upper e).step → Holds
    at_bottom within high =
        OrClash-wider dig (history_texts dig h ++ link_texts) (history_texts dig h ++ evidence_texts dig e) NotBoth
        (both_within (history_texts dig h) link_texts (history_texts dig h) (evidence_texts dig e) (λ t a. a)
        link-within)
        (and_then dig (history_texts dig h ++ link_texts) (e.bottom ≡ auth dig h (lower e).step) NotBoth
        (binds within high)
        (λ same. inl (λ both. differs (same ∙ both.low))))

    with_high : (within : (upper e).step ≤ length h.steps) (b : Bool) → bytes_eq (upper e).auth
        (auth dig h (upper e).step) ≡ b → Holds
    with_high within true is = at_bottom within ((bytes_eq-Decides (upper e).auth (auth dig h (upper e).step)).0 is)
    with_high within false is =
        inl (λ both. both_ways (bytes_eq (upper e).auth (auth dig h (upper e).step)) is
        ((bytes_eq-Decides (upper e).auth (auth dig h (upper e).step)).1 (sym both.high)))

    with_length : (b : Bool) → nat_le (upper e).step (length h.steps) ≡ b → Holds
    with_length true is =
        with_high (leb-true (upper e).step (length h.steps) is) (bytes_eq (upper e).auth (auth dig h (upper e).step))
        refl
    with_length false is = inl (λ both. both_ways (nat_le (upper e).step (length h.steps)) is
        (le-leb (upper e).step (length h.steps) both.within))

    holds : Holds
    holds = with_length (nat_le (upper e).step (length h.steps)) refl

  pub forked : ((h : History) → IsSound h → Binds h) → IsForked dig e (fork_of e)
  forked binds =
      let in_order = ((conflicts-is e).0 conflict).0 in
      record { service = in_order.0; order = in_order.1; none = λ h sound. holds h (binds h sound) }

-- ---- that both entries were received

-- an entry that was received up to a step was received
at_archived : (family : List History) (service : List ℕ) (step : ℕ) (entry : Entry) → WasReceived family service step
    entry → WasReceived family service entry.archived entry
at_archived family service step entry was =
    record { history = was.history; has = was.has; received = was.received; order = omega arith }

module _ (dig : List ℕ → List ℕ) (size : (text : List ℕ) → length (dig text) ≡ 32) (are : (text : List ℕ)
    → AreBytes (dig text)) (anchors : List Thread) where
  -- one of the proofs
  part-received : (family : List History) (t : ThreadProof) → thread_proof_codec.Fits t → IsAccepted dig anchors
      (Archived t) → AllSound family
      → HasThreads dig family (held anchors (Archived t))
      → OrClash dig (family_texts dig family ++ proof_texts dig (Archived t))
      (WasReceived family t.at.service t.entry.archived t.entry)
  part-received family t fits accepted sound has =
      and_then dig (family_texts dig family ++ proof_texts dig (Archived t)) _ _
      (headline dig size are anchors (proof_bytes (Archived t)) (Archived t) (thread-spells t fits) accepted family
      sound has)
      (λ fact. inl (at_archived family t.at.service t.at.step t.entry fact.0))

  pub received : (e : Evidence) → evidence_codec.Fits e → ShowsFork dig anchors e → AreSidesReceived dig anchors e
      (fork_of e)
  received e fits shows family sound has =
      let parts = evidence-parts e fits in
      let both = Each-parts (HasThread dig family) (held anchors (Archived e.first)) (held anchors (Archived e.second))
      has in
      let own : List (List ℕ) = family_texts dig family in
      let first : List (List ℕ) = proof_texts dig (Archived e.first) in
      let second : List (List ℕ) = proof_texts dig (Archived e.second) in
      let link : List (List ℕ) = path_texts dig e.link.links (upper e).step (lower e).step e.bottom in
      let all : List (List ℕ) = own ++ evidence_texts dig e in
      let one_within : Within (own ++ first) all = both_within own first own (evidence_texts dig e) (λ t a. a)
      (λ t a. Among-left t first (second ++ link) a) in
      let two_within : Within (own ++ second) all =
      both_within own second own (evidence_texts dig e) (λ t a. a) (λ t a. Among-right t first (second ++ link)
      (Among-left t second link a)) in
      and_then dig all _ _ (OrClash-wider dig (own ++ first) all _ one_within (part-received family e.first parts.first
      shows.first sound both.0))
      (λ one. and_then dig all _ _ (OrClash-wider dig (own ++ second) all _ two_within
      (part-received family e.second parts.second shows.second sound both.1))
      (λ two. inl (one, two)))

  -- ---- a verdict binds, whatever it is

  pub verdict-binds : (bytes : List ℕ) (e : Evidence) (verdict : ForkVerdict) → Spells evidence_layout bytes e
      → verdict ≡ fork_verdict dig anchors e
      → ((f : Fork) → verdict ≡ Yes f → IsForked dig e f) → BindsFork dig anchors bytes verdict
  verdict-binds bytes e (No reason) spells is forks = tt
  verdict-binds bytes e (Yes f) spells is forks = λ other also.
      let same : e ≡ other = (unambiguous evidence_codec evidence-lawful).one_value bytes e other spells also in
      let yes = yes-shows dig anchors e f (sym is) in
      let got : AreSidesReceived dig anchors e f = subst (AreSidesReceived dig anchors e) (sym yes.1)
      (received e (spelled-fits evidence_codec evidence-lawful bytes e spells) yes.0) in
      let P : Evidence → Type 0 = λ e. AreSidesReceived dig anchors e f × IsForked dig e f in
      subst P same (got, forks f refl)
