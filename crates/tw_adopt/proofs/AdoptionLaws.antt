-- What the answer on proofs says of histories, and that no proof is good and has a fault.
use Rattle.std.proofs.Common.{◌≡◌, ℕ, ◌+◌, ◌≤◌, List, [], ◌∷◌, ◌++◌, length, Bool, true, false, refl, ap, sym, ◌∙◌}
use Rattle.std.proofs.Common.{subst, arith, inl, inr}
use Rattle.std.specs.Prelude.{Some, nat_lt, if◌then◌else◌, Result, Ok, Err, IfErr}
use Rattle.std.specs.Str.{bytes_eq}
use Rattle.std.proofs.lemmas.Bool.{false≢true}
use Rattle.std.proofs.lemmas.List.{length-take-le}
use Rattle.std.proofs.lemmas.Option.{cond_some, none-some, same_Some}
use Rattle.std.proofs.lemmas.Slice.Eq.{bytes_eq-Decides}
use Rattle.tw_base.specs.declared.history.report.Claim.{Claim}
use Rattle.tw_base.specs.declared.history.report.Claim.TheVariants.{Exists, Precedes, Archived, Absent, Linked}
use Rattle.tw_base.specs.declared.history.report.Hop.{Hop}
use Rattle.tw_base.specs.declared.history.thread.Entry.{Entry}
use Rattle.tw_base.specs.declared.history.thread.Thread.{Thread}
use Rattle.tw_base.specs.history.Auth.{auth, auth_within}
use Rattle.tw_base.specs.history.Facts.{Facts, WasReceived}
use Rattle.tw_base.specs.history.Family.{family_texts}
use Rattle.tw_base.specs.history.History.{History}
use Rattle.tw_base.specs.history.Sound.{IsSound}
use Rattle.tw_base.specs.kinds.Bytes.{AreBytes}
use Rattle.tw_base.specs.kinds.Lists.{In}
use Rattle.tw_base.proofs.lemmas.format.CodecLaws.{unambiguous}
use Rattle.tw_base.proofs.lemmas.kinds.Clashes.{and_then}
use Rattle.tw_chain.specs.declared.proof.Proof.{Proof}
use Rattle.tw_chain.specs.Accepting.{Accepts, claim_of, hops_of, proof_texts}
use Rattle.tw_chain.specs.Proofs.{proof_codec}
use Rattle.tw_chain.proofs.Headline.{headline}
use Rattle.tw_chain.proofs.ProofCodec.{proof-lawful}
use Rattle.tw_adopt.proofs.Fronts.{same-first_steps, sound-first_steps}
use Rattle.tw_adopt.proofs.SameHistories.{histories-same}
use Rattle.tw_adopt.specs.declared.adopted.AdoptFault.{AdoptFault}
use Rattle.tw_adopt.specs.declared.adopted.AdoptFault.TheVariants.{Part, Stranger, Differs, NoMemory}
use Rattle.tw_adopt.specs.declared.adopted.Adopted.{Adopted}
use Rattle.tw_adopt.specs.declared.receiving.Receiving.{Receiving}
use Rattle.tw_adopt.specs.Adopting.{AreGood, IsAdoptFault, IsAdoption, IsFirstFault, IsGood, ShowsReceiving, adopted_by}
use Rattle.tw_adopt.specs.Adopting.{further, furthest, receiving_of}
use Rattle.tw_adopt.specs.Binding.{AreSo, BindsAdoption, IsAdoptedKept, IsAdoptionShown, IsOnly, last_receiving}
use Rattle.tw_adopt.specs.Hearing.{IsWeighed}
use Rattle.tw_adopt.specs.Stops.{IsHistoryTaken}
use Rattle.tw_adopt.proofs.WeighingLaws.{within-some}

-- ---- what a claim that shows something says of histories

-- the parts of what is shown
shown-parts : (service by : List ℕ) (entry : Entry) (r : Receiving) → receiving_of service (Archived by 0 entry)
    ≡ Some r
    → (entry.thread.from ≡ service) × (record { by = by; entry = entry } ≡ r)
shown-parts service by entry r shown =
    let parts = cond_some (bytes_eq entry.thread.from service) (record { by = by; entry = entry }) r shown in
    ((bytes_eq-Decides entry.thread.from service).0 parts.0, parts.1)

-- the thread that is shown is of the service
shown-service : (service : List ℕ) (claim : Claim) (r : Receiving) → receiving_of service claim ≡ Some r
    → r.entry.thread.from ≡ service
shown-service service (Archived by step entry) r shown =
    let parts = shown-parts service by entry r shown in
    ap (λ (q : Receiving). q.entry.thread.from) (sym parts.1) ∙ parts.0
shown-service service (Exists seen) r shown = absurd (none-some r shown)
shown-service service (Precedes first second) r shown = absurd (none-some r shown)
shown-service service (Absent by step key) r shown = absurd (none-some r shown)
shown-service service (Linked by step top auth_at) r shown = absurd (none-some r shown)

-- and it was received, as is shown
shown-received : (dig : List ℕ → List ℕ) (family : List History) (hops : List Hop) (service : List ℕ) (claim : Claim)
    (r : Receiving) → receiving_of service claim ≡ Some r
    → Facts dig family hops claim → WasReceived family r.by r.entry.archived r.entry
shown-received dig family hops service (Archived by step entry) r shown fact =
    subst (λ (q : Receiving). WasReceived family q.by q.entry.archived q.entry) (shown-parts service by entry r shown).1
    (record { history = fact.history; has = fact.has; received = fact.received; order = omega arith })
shown-received dig family hops service (Exists seen) r shown fact = absurd (none-some r shown)
shown-received dig family hops service (Precedes first second) r shown fact = absurd (none-some r shown)
shown-received dig family hops service (Absent by step key) r shown fact = absurd (none-some r shown)
shown-received dig family hops service (Linked by step top auth_at) r shown fact = absurd (none-some r shown)

module _ (dig : List ℕ → List ℕ) (anchors : List Thread) (h : History) where
  -- one of the proofs is good, and shows this
  abbrev IsGoodOne : (proofs : List (List ℕ)) → Receiving → Type 0
  IsGoodOne proofs r = (bytes : List ℕ) × In bytes proofs × IsGood dig anchors h bytes r

  one-behind : (bytes : List ℕ) (proofs : List (List ℕ)) (r : Receiving) → IsGoodOne proofs r
      → IsGoodOne (bytes ∷ proofs) r
  one-behind bytes proofs r one = (one.0, inr one.1, one.2)

  -- the first so far, or one of those behind
  furthest-one : (all proofs : List (List ℕ)) (first : Receiving) (rest : List Receiving) → IsGoodOne all first
      → ((r : Receiving) → IsGoodOne proofs r → IsGoodOne all r)
      → AreGood dig anchors h proofs rest → IsGoodOne all (furthest first rest)
  furthest-one all proofs first [] one behind good = one
  furthest-one all [] first (r ∷ rest) one behind good = absurd good
  furthest-one all (bytes ∷ proofs) first (r ∷ rest) one behind good =
      furthest-one all proofs (further first r) rest (by (nat_lt first.entry.thread.step r.entry.thread.step))
      (λ q found. behind q (one-behind bytes proofs q found)) good.1
    where
      by : (b : Bool) → IsGoodOne all (if b then r else first)
      by true = behind r (bytes, inl refl, good.0)
      by false = one

  good-one : (proofs : List (List ℕ)) (first : Receiving) (rest : List Receiving) → AreGood dig anchors h proofs
      (first ∷ rest) → IsGoodOne proofs (furthest first rest)
  good-one [] first rest good = absurd good
  good-one (bytes ∷ proofs) first rest good =
      furthest-one (bytes ∷ proofs) proofs first rest (bytes, inl refl, good.0)
      (λ r found. one-behind bytes proofs r found) good.1

  -- the receiving that is shown is that of the last step that is taken over
  last-is : (r : Receiving) → r.entry.thread.from ≡ h.name → auth dig h r.entry.thread.step ≡ r.entry.thread.auth
      → r ≡ last_receiving dig h (adopted_by h r)
  last-is r name held = λ i. record {
    by = r.by;
    entry = record {
      thread = record { from = name i; step = r.entry.thread.step; auth = sym held i };
      archived = r.entry.archived;
    };
  }

  shown-of : (proofs : List (List ℕ)) (r : Receiving) → IsGoodOne proofs r → IsAdoptionShown dig h anchors proofs
      (adopted_by h r)
  shown-of proofs r one =
      let shows : ShowsReceiving dig anchors h one.0 r = one.2.0 in
      let known = within-some dig h r.entry.thread.step r.entry.thread.auth one.2.1 in
      let last = last-is r (shown-service h.name (claim_of shows.0.0) r shows.1) known.1 in
      record {
        bytes = one.0;
        among = one.1;
        shows = subst (λ (q : Receiving). ShowsReceiving dig anchors h one.0 q) last shows;
      }

  module _ (size : (text : List ℕ) → length (dig text) ≡ 32) (are : (text : List ℕ) → AreBytes (dig text)) where
    so-of : (proofs : List (List ℕ)) → AreSo dig h anchors proofs
    so-of proofs bytes r among shows family sound has =
        let accepts : Accepts dig anchors bytes = shows.0 in
        and_then dig (family_texts dig family ++ proof_texts dig accepts.0) _ _
        (headline dig size are anchors bytes accepts.0 accepts.1 accepts.2 family sound has)
        (λ fact. inl (shown-received dig family (hops_of accepts.0) h.name (claim_of accepts.0) r shows.1 fact.0))

    module _ (sound : IsSound h) where
      kept-of : (r : Receiving) → r.entry.thread.step ≤ length h.steps → IsAdoptedKept dig h (adopted_by h r)
      kept-of r within =
          let step : ℕ = r.entry.thread.step in
          let both = same-first_steps dig h step step (omega arith) within in
          record {
            sound = sound-first_steps h step sound;
            last = length-take-le step h.steps within;
            same = both.0;
            auth_same = both.1;
          }

      only-of : (r : Receiving) → r.entry.thread.step ≤ length h.steps → IsOnly dig h (adopted_by h r)
      only-of r within = λ other sound_other its e. histories-same dig size are h other r.entry.thread.step sound
          sound_other within its (sym e)

      -- where the history is taken over, all of that is so
      pub adoption-binds : (proofs : List (List ℕ)) (result : Result Adopted AdoptFault) → IsAdoption dig anchors h
          proofs result → BindsAdoption dig h anchors proofs result
      adoption-binds proofs (Err fault) is = tt
      adoption-binds proofs (Ok a) is =
          let r : Receiving = furthest is.0 is.1 in
          let one : IsGoodOne proofs r = good-one proofs is.0 is.1 is.2 in
          let within = (within-some dig h r.entry.thread.step r.entry.thread.auth one.2.1).0 in
          subst (λ (b : Adopted). IsAdoptedKept dig h b × IsOnly dig h b × IsAdoptionShown dig h anchors proofs b
          × AreSo dig h anchors proofs) (sym is.3)
          (kept-of r within, only-of r within, shown-of proofs r one, so-of proofs)

  -- ---- the answer, by what was found

  pub taken-answer : (proofs : List (List ℕ)) (t : Receiving) (result : Result Adopted AdoptFault)
      → IsWeighed dig anchors h proofs (Ok t) → IsHistoryTaken h t result → IsAdoption dig anchors h proofs result
  taken-answer proofs t (Ok a) weighed taken = (weighed.0, weighed.1, weighed.2, taken ∙ ap (adopted_by h) weighed.3)
  taken-answer proofs t (Err NoMemory) weighed taken = tt
  taken-answer proofs t (Err (Part number reason)) weighed taken = absurd taken
  taken-answer proofs t (Err (Stranger number)) weighed taken = absurd taken
  taken-answer proofs t (Err (Differs number step held found)) weighed taken = absurd taken

  pub fault-answer : (proofs : List (List ℕ)) (fault : AdoptFault) → IsWeighed dig anchors h proofs (Err fault)
      → IsAdoption dig anchors h proofs (Err fault)
  fault-answer proofs NoMemory weighed = tt
  fault-answer proofs (Part number reason) weighed = weighed
  fault-answer proofs (Stranger number) weighed = weighed
  fault-answer proofs (Differs number step held found) weighed = weighed

  -- ---- no proof is good and has a fault

  -- bytes spell one proof, which tells one thing
  one_told : (bytes : List ℕ) (one other : Accepts dig anchors bytes) → receiving_of h.name (claim_of one.0)
      ≡ receiving_of h.name (claim_of other.0)
  one_told bytes one other =
      ap (λ (p : Proof). receiving_of h.name (claim_of p)) ((unambiguous proof_codec proof-lawful).one_value bytes one.0
      other.0 one.1 other.1)

  one-apart : (number : ℕ) (bytes : List ℕ) (t : Receiving) (fault : AdoptFault) → IsGood dig anchors h bytes t
      → IsAdoptFault dig anchors h number bytes fault → ⊥
  one-apart number bytes t (Part n reason) good bad = let never = bad.1.0 good.0.0 in false≢true never.0
  one-apart number bytes t (Stranger n) good bad = none-some t (sym bad.1.1 ∙ one_told bytes bad.1.0 good.0.0
      ∙ good.0.1)
  one-apart number bytes t (Differs n step held found) good bad =
      let other = bad.1 in
      let same : t ≡ other.shown = same_Some t other.shown (sym good.0.1 ∙ one_told bytes good.0.0 other.shows.0
      ∙ other.shows.1) in
      let there : auth_within dig h other.shown.entry.thread.step ≡ Some other.shown.entry.thread.auth =
      subst (λ (u : Receiving). auth_within dig h u.entry.thread.step ≡ Some u.entry.thread.auth) same good.1 in
      other.differs (other.found_is ∙ ap (auth_within dig h) other.step_is ∙ there ∙ ap (λ (auth : List ℕ). Some auth)
      (sym other.held_is))
  one-apart number bytes t NoMemory good bad = bad

  pub good-faultless : (number : ℕ) (proofs : List (List ℕ)) (told : List Receiving) (fault : AdoptFault)
      → AreGood dig anchors h proofs told → IsFirstFault dig anchors h number proofs fault → ⊥
  good-faultless number [] told fault good bad = bad
  good-faultless number (bytes ∷ proofs) [] fault good bad = good
  good-faultless number (bytes ∷ proofs) (t ∷ told) fault good (inl bad) = one-apart number bytes t fault good.0 bad
  good-faultless number (bytes ∷ proofs) (t ∷ told) fault good (inr behind) = good-faultless (number + 1) proofs told
      fault good.1 behind.2

  -- a fault that is answered, other than want of memory, is the first
  pub complete : (proofs : List (List ℕ)) (result : Result Adopted AdoptFault)
      → ((fault : AdoptFault) → IsFirstFault dig anchors h 1 proofs fault → ⊥)
      → IsAdoption dig anchors h proofs result → IfErr result (λ fault. fault ≡ NoMemory)
  complete proofs (Ok a) none is = tt
  complete proofs (Err NoMemory) none is = refl
  complete proofs (Err (Part number reason)) none is = absurd (none (Part number reason) is)
  complete proofs (Err (Stranger number)) none is = absurd (none (Stranger number) is)
  complete proofs (Err (Differs number step held found)) none is = absurd (none (Differs number step held found) is)

  pub refused : (proofs : List (List ℕ)) (fault : AdoptFault) (a : Adopted) → IsFirstFault dig anchors h 1 proofs fault
      → IsAdoption dig anchors h proofs (Ok a) → ⊥
  refused proofs fault a bad is = good-faultless 1 proofs (is.0 ∷ is.1) fault is.2 bad
