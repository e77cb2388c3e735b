-- What is found of threads and of their absence, in pages that keep a history whole, is the history's.
use Rattle.std.proofs.Common.{◌≡◌, ℕ, ◌*◌, ◌≤◌, List, length, refl, ap, sym, ◌∙◌, subst, arith}
use Rattle.std.specs.Prelude.{Option, Some, None, Result, Ok, Err}
use Rattle.tw_base.specs.declared.history.root.Root.{Root}
use Rattle.tw_base.specs.declared.history.thread.Entry.{Entry}
use Rattle.tw_base.specs.declared.history.thread.Key.{Key}
use Rattle.tw_base.specs.declared.history.tree_proof.Ancestor.{Ancestor}
use Rattle.tw_base.specs.declared.history.tree_proof.Ask.{Ask}
use Rattle.tw_base.specs.declared.history.tree_proof.Ask.TheVariants.{Present, Absent as OfNone}
use Rattle.tw_base.specs.declared.history.tree_proof.TreeProof.{TreeProof}
use Rattle.tw_base.specs.format.Formats.{Spells}
use Rattle.tw_base.specs.history.Asking.{entry_with}
use Rattle.tw_base.specs.history.Entries.{key_of}
use Rattle.tw_base.specs.history.History.{History}
use Rattle.tw_base.specs.history.Limits.{IsStep}
use Rattle.tw_base.specs.history.Sound.{IsSound}
use Rattle.tw_base.specs.history.Tree.{Tree, entries, tree}
use Rattle.tw_base.specs.kinds.Names.{IsName}
use Rattle.tw_base.proofs.lemmas.history.Members.{in-with}
use Rattle.tw_base.proofs.lemmas.history.Trees.{IsArchived, tree-archived}
use Rattle.tw_base.proofs.lemmas.format.FormatLaws.{one_value}
use Rattle.tw_base.proofs.lemmas.kinds.DigestBytes.{IsDigest}
use Rattle.tw_base.proofs.lemmas.kinds.ListLemmas.{Each-in}
use Rattle.tw_base.specs.history.TreeProofs.{ancestors_of, place_of_ask, proof_of, way_up}
use Rattle.tw_base.proofs.lemmas.history.Ways.{at-ancestors}
use Rattle.tw_disk.specs.Found.{Found, ◌>>=◌}
use Rattle.tw_disk.specs.Found.Found.{Is, Bad}
use Rattle.tw_disk.specs.Image.{Image}
use Rattle.tw_disk.proofs.FoundLaws.{is_on}
use Rattle.tw_rbtree.specs.Standing.{StandsForTree}
use Rattle.tw_rbtree.specs.Ways.{found_with}
use Rattle.tw_rbtree.proofs.LevelLaws.{levels-few}
use Rattle.tw_rbtree.proofs.RootWays.{root-way, with-found}
use Rattle.tw_rbtree.proofs.TreeHeights.{stands-height}
use Rattle.tw_archive.proofs.Archiving.{entry_at-archived}
use Rattle.tw_archive.proofs.Peers.{with-key}
use Rattle.tw_chain.specs.declared.proof.AbsenceProof.{AbsenceProof}
use Rattle.tw_chain.specs.declared.proof.Proof.{Proof}
use Rattle.tw_chain.specs.declared.proof.Proof.TheVariants.{Archived, Absent}
use Rattle.tw_chain.specs.declared.proof.ThreadProof.{ThreadProof}
use Rattle.tw_chain.specs.OwnProofs.{IsAbsenceProofOf, IsThreadProofOf}
use Rattle.tw_chain.specs.Proofs.{proof_bytes as bytes_of_proof, proof_layout}
use Rattle.tw_chain.proofs.ArchiveAnswers.{has-received, lacks-received}
use Rattle.tw_chain.proofs.OwnSpelling.{own-few, own-spelled}
use Rattle.tw_skipproof.specs.HistoryProofs.{IsPartOfHistory, IsPathOf}
use Rattle.tw_skiplist.specs.declared.info.StepProof.{StepProof}
use Rattle.tw_skiplist.specs.Infos.{IsInfoOf}
use Rattle.tw_skiplist.specs.Readings.{found_proof}
use Rattle.tw_skiplist.proofs.KeptReadings.{proof_found}
use Rattle.tw_base.specs.declared.history.refusal.Refusal.{Refusal}
use Rattle.tw_base.specs.declared.history.refusal.Refusal.TheVariants.{BadPage, HasThread, NoThread}
use Rattle.tw_answers.specs.declared.root.RootRecord.{RootRecord}
use Rattle.tw_answers.specs.Finds.{IsRefusalFound, absence_bytes, absence_in, absence_proof, entry_thread}
use Rattle.tw_answers.specs.Finds.{found_absence_of, found_thread_of, part_to_step, thread_bytes, thread_proof}
use Rattle.tw_answers.specs.Finds.{tree_shown, written_found}
use Rattle.tw_answers.specs.Refusals.{IsBadPageRefusal, IsHasThread, IsNoThread}
use Rattle.tw_answers.proofs.TableAnswers.{IsTold}
use Rattle.tw_answers.proofs.TreeAnswers.{shown-stands}
use Rattle.tw_service.specs.Machine.{IsFewNodes, MakesAbsence, MakesThread}
use Rattle.tw_service.specs.Stands.{KeepsWhole}
use Rattle.tw_service.proofs.WholePages.{tree_at}

-- where something is found, no page is bad
pub no_bad_is : {X : Type 0} (refusal : Refusal) (found : Found (Result X Refusal)) (x : Result X Refusal)
    → found ≡ Is x → IsRefusalFound refusal found → IsBadPageRefusal refusal → ⊥
no_bad_is {X} (BadPage page) found x is there bad = (let both : ◌≡◌ {A = Found (Result X Refusal)} (Is x) (Bad page) =
    sym is ∙ there in absurd cc)
no_bad_is _ found x is there bad = bad

-- bytes spell one proof
pub one_thread : (bytes : List ℕ) (p q : ThreadProof) → Spells proof_layout bytes (Archived p)
    → Spells proof_layout bytes (Archived q) → p ≡ q
one_thread bytes p q one other = let same : ◌≡◌ {A = Proof} (Archived p) (Archived q) = one_value proof_layout bytes
    (Archived p) (Archived q) one other in cc

pub one_absence : (bytes : List ℕ) (p q : AbsenceProof) → Spells proof_layout bytes (Absent p)
    → Spells proof_layout bytes (Absent q) → p ≡ q
one_absence bytes p q one other = let same : ◌≡◌ {A = Proof} (Absent p) (Absent q) = one_value proof_layout bytes
    (Absent p) (Absent q) one other in cc

-- a tree proof that is the tree's own has few nodes
pub few_nodes : (dig : List ℕ → List ℕ) (ps : Image) (root : Root) (t : Tree) (asked : Ask) (shown : TreeProof)
    → StandsForTree dig ps root t → shown ≡ proof_of dig t asked → IsFewNodes (length (entries t))
    (length (ancestors_of shown))
few_nodes dig ps root t asked shown stands is =
    let w = root-way dig ps asked root t stands in
    let same = w.up ∙ sym (at-ancestors dig (place_of_ask asked t) (way_up dig asked t)) in
    let few : length (ancestors_of (proof_of dig t asked)) ≤ 9 * w.levels =
    subst (λ (xs : List Ancestor). length xs ≤ 9 * w.levels) same w.few in
    let own = subst (λ (p : TreeProof). length (ancestors_of p) ≤ 9 * w.levels) (sym is) few in
    let low = levels-few dig ps root.page w.levels w.levels_is in
    (w.levels, own, omega (arith, own, low), w.many)

module _ (dig : List ℕ → List ℕ) (size : (text : List ℕ) → IsDigest (dig text)) (ps : Image) (h : History)
    (r : RootRecord) (whole : KeepsWhole dig ps h r) (sound : IsSound h) (name : List ℕ) (named : h.name ≡ name)
    (step : ℕ) (key : Key) (top : ℕ) (some : 1 ≤ step) (order : step ≤ top) (below : top ≤ r.head.step) where
  abbrev es : List Entry
  es = entries (tree h step)

  top_within : top ≤ length h.steps
  top_within = omega (arith, below, whole.steps.step)

  within : step ≤ length h.steps
  within = omega (arith, order, below, whole.steps.step)

  pub told : (proof : StepProof) × (found_proof dig ps r.head top step ≡ Is proof) × IsPathOf dig h proof.path.links top
      step × IsInfoOf dig ps h whole.steps.places step proof.info
  told = proof_found dig size ps h r.head whole.steps top step some order below

  abbrev root : Root
  root = told.0.info.archive

  pub stands : StandsForTree dig ps root (tree h step)
  stands = subst (λ (x : Root). StandsForTree dig ps x (tree h step)) (sym told.3.archive)
      (tree_at dig ps h r whole step within)

  part : IsPartOfHistory dig h step top (part_to_step name top told.0)
  part = record { service = sym named; at_step = told.3.step; at_top = refl; path = told.2; opening = told.3.opening }

  low : (asked : Ask) (shown : TreeProof) → shown ≡ proof_of dig (tree h step) asked → IsFewNodes (length es)
      (length (ancestors_of shown))
  low asked shown is = few_nodes dig ps root (tree h step) asked shown stands is

  entry_found : (o : Option Entry) → entry_with es key ≡ o → found_with dig ps root key ≡ Is o
  entry_found o is = with-found dig ps root (tree h step) key stands ∙ ap (λ (q : Option Entry). Is q) is

  -- ---- a thread

  abbrev pub made_thread : Entry → ThreadProof
  made_thread e =
      record { at = part_to_step name top told.0; entry = e; shown = proof_of dig (tree h step) (Present e) }

  same_key : (e : Entry) → entry_with es key ≡ Some e → key_of e ≡ key
  same_key e is = with-key es key e is

  own_entry : (e : Entry) → entry_with es key ≡ Some e → entry_with es (key_of e) ≡ Some e
  own_entry e is = ap (λ (x : Key). entry_with es x) (same_key e is) ∙ is

  own_thread : (e : Entry) → entry_with es key ≡ Some e → IsThreadProofOf dig h step top (made_thread e)
  own_thread e is =
      let at = Each-in (IsArchived h step) es e (tree-archived h step) (in-with es key e is) in
      record {
        at = part;
        received = has-received h step e (own_entry e is);
        before = (let same = entry_at-archived h at.0 e at.2 in omega (arith, same, at.1));
        shown = refl;
      }

  abbrev thread_answer : Option Entry → Found (Result (List ℕ) Refusal)
  thread_answer None = Is (Err NoThread)
  thread_answer (Some e) = Is (Ok (bytes_of_proof (Archived (made_thread e))))

  shown_thread : (o : Option Entry) → entry_with es key ≡ o
      → (found_thread_of dig ps root key >>= written_found (thread_bytes name top told.0)) ≡ thread_answer o
  unfolding found_thread_of
  shown_thread None is = ap (λ f. f >>= written_found (thread_bytes name top told.0))
      (is_on (found_with dig ps root key) (entry_thread dig ps root) None (entry_found None is))
  shown_thread (Some e) is =
      ap (λ f. f >>= written_found (thread_bytes name top told.0))
      (is_on (found_with dig ps root key) (entry_thread dig ps root) (Some e) (entry_found (Some e) is)
      ∙ is_on (tree_shown dig ps root (Present e)) (λ tree. Is (Ok (record { entry = e; tree = tree })))
      (proof_of dig (tree h step) (Present e)) (shown-stands dig ps root (Present e) (tree h step) stands
      (own_entry e is)))

  pub thread_is : (o : Option Entry) → entry_with es key ≡ o → thread_proof dig ps name r.head step key top
      ≡ thread_answer o
  unfolding thread_proof
  thread_is o is =
      is_on (found_proof dig ps r.head top step) (λ proof. found_thread_of dig ps proof.info.archive key
      >>= written_found (thread_bytes name top proof)) told.0 told.1
      ∙ shown_thread o is

  pub makes : (e : Entry) → entry_with es key ≡ Some e → MakesThread dig h step key top
      (bytes_of_proof (Archived (made_thread e)))
  makes e is =
      let own = own_thread e is in
      let height = stands-height dig ps root (tree h step) stands in
      let few = own-few dig h step top (λ t. (size t).0) (λ t. (size t).1) sound order top_within
      (Archived (made_thread e)) (omega (arith, height)) own in (
        made_thread e,
        own-spelled dig h step top (λ t. (size t).0) (λ t. (size t).1) sound order top_within (Archived (made_thread e))
            (omega (arith, some, order)) few own,
        own,
        same_key e is,
      )

  -- a proof that the history has itself has few nodes
  pub thread_few : (p : ThreadProof) → IsThreadProofOf dig h step top p → IsFewNodes (length es)
      (length (ancestors_of p.shown))
  thread_few p own = low (Present p.entry) p.shown own.shown

  -- ---- an absence

  abbrev pub made_absence : AbsenceProof
  made_absence =
      record { at = part_to_step name top told.0; key = key; shown = proof_of dig (tree h step) (OfNone key) }

  abbrev absence_answer : Option Entry → Found (Result (List ℕ) Refusal)
  absence_answer None = Is (Ok (bytes_of_proof (Absent made_absence)))
  absence_answer (Some e) = Is (Err (HasThread e.archived))

  shown_absence : (o : Option Entry) → entry_with es key ≡ o
      → (found_absence_of dig ps root key >>= written_found (absence_bytes name key top told.0)) ≡ absence_answer o
  unfolding found_absence_of
  shown_absence None is =
      ap (λ (f : Found (Result TreeProof Refusal)). f >>= written_found (absence_bytes name key top told.0))
      (is_on (found_with dig ps root key) (absence_in dig ps root key) None (entry_found None is)
      ∙ is_on (tree_shown dig ps root (OfNone key)) (λ tree. Is (Ok tree)) (proof_of dig (tree h step) (OfNone key))
      (shown-stands dig ps root (OfNone key) (tree h step) stands is))
  shown_absence (Some e) is = ap (λ (f : Found (Result TreeProof Refusal)). f >>= written_found
      (absence_bytes name key top told.0)) (is_on (found_with dig ps root key) (absence_in dig ps root key) (Some e)
      (entry_found (Some e) is))

  pub absence_is : (o : Option Entry) → entry_with es key ≡ o → absence_proof dig ps name r.head step key top
      ≡ absence_answer o
  unfolding absence_proof
  absence_is o is =
      is_on (found_proof dig ps r.head top step) (λ proof. found_absence_of dig ps proof.info.archive key
      >>= written_found (absence_bytes name key top proof)) told.0 told.1
      ∙ shown_absence o is

  module _ (is_name : IsName key.from) (is_step : IsStep key.step) where
    own_absence : entry_with es key ≡ None → IsAbsenceProofOf dig h step top made_absence
    own_absence none = record {
      from_1 = omega (arith, some);
      at = part;
      name = is_name;
      key = is_step;
      none = lacks-received h step sound within key none;
      shown = refl;
    }

    pub lacks : entry_with es key ≡ None → MakesAbsence dig h step key top (bytes_of_proof (Absent made_absence))
    lacks none =
        let own = own_absence none in
        let height = stands-height dig ps root (tree h step) stands in
        let few = own-few dig h step top (λ t. (size t).0) (λ t. (size t).1) sound order top_within
        (Absent made_absence) (omega (arith, height)) own in (
          made_absence,
          own-spelled dig h step top (λ t. (size t).0) (λ t. (size t).1) sound order top_within (Absent made_absence)
              (omega (arith, some, order)) few own,
          own,
          refl,
        )

  pub absence_few : (p : AbsenceProof) → IsAbsenceProofOf dig h step top p → IsFewNodes (length es)
      (length (ancestors_of p.shown))
  absence_few p own = low (OfNone p.key) p.shown own.shown

-- ---- refusals of a proof's own

pub no_thread_told : (r : Refusal) → IsNoThread r → IsTold r
no_thread_told NoThread is = ((λ fault. fault), (λ same. cc))
no_thread_told _ is = absurd is

pub has_thread_told : (r : Refusal) → IsHasThread r → IsTold r
has_thread_told (HasThread archived) is = ((λ fault. fault), (λ same. cc))
has_thread_told _ is = absurd is
