-- What is shown of a tree in pages, as the tree's calls answer it.
use Rattle.std.proofs.Common.{◌≡◌, ◌∙◌, ℕ, List, Bool, true, false, ap, refl, sym, subst}
use Rattle.std.specs.Prelude.{Option, Some, None, Ok, Err, ◌==◌, ◌&&◌}
use Rattle.std.specs.Str.{bytes_eq}
use Rattle.std.proofs.lemmas.Bool.{and_from, and_parts, eq-eqb, eqb-true, false_from_ne_true}
use Rattle.std.proofs.lemmas.Slice.Eq.{bytes_eq-Decides}
use Rattle.tw_base.specs.declared.history.root.Root.{Root}
use Rattle.tw_base.specs.declared.history.thread.Entry.{Entry}
use Rattle.tw_base.specs.declared.history.tree_proof.Ask.{Ask}
use Rattle.tw_base.specs.declared.history.tree_proof.Ask.TheVariants as ask
use Rattle.tw_base.specs.declared.history.tree_proof.TreeProof.{TreeProof}
use Rattle.tw_base.specs.history.TreeProofs.{IsSo, proof_of}
use Rattle.tw_disk.specs.Answers.{SaysOf, is_of_disk}
use Rattle.tw_disk.specs.Found.{when}
use Rattle.tw_disk.specs.Found.Found.{Is}
use Rattle.tw_disk.specs.Image.{Image}
use Rattle.tw_disk.proofs.FoundLaws.{bad_ends, is_on}
use Rattle.tw_rbtree.specs.declared.fault.TreeFault.{TreeFault}
use Rattle.tw_rbtree.specs.declared.fault.TreeFault.TheVariants.{Present, Untrue, BadPage, DiskFault, NoMemory}
use Rattle.tw_rbtree.specs.Answers.{AnswersPath, IsSoAt, NeverPresent}
use Rattle.tw_rbtree.specs.FaultWords.{tree_faults}
use Rattle.tw_rbtree.specs.Paths.{found_tree_path, proof_of_way, shown_of}
use Rattle.tw_rbtree.specs.Standing.{StandsForTree}
use Rattle.tw_rbtree.specs.Ways.{end_of_way, nowhere, way}
use Rattle.tw_rbtree.proofs.RootWays.{root-way, so-found}
use Rattle.tw_base.specs.history.Tree.{Tree, entries}
use Rattle.tw_answers.specs.Finds.{is_so_at, same_entry, tree_shown}
use Rattle.tw_answers.specs.Refusals.{IsFault, refusal_of_tree, service_refusals}

-- ---- whether what is asked is so

same_entry-itself : (e : Entry) → same_entry e e ≡ true
same_entry-itself e =
    and_from _ _ (and_from _ _ ((bytes_eq-Decides e.thread.from e.thread.from).1 refl)
    (eq-eqb e.thread.step e.thread.step refl))
    (and_from _ _ ((bytes_eq-Decides e.thread.auth e.thread.auth).1 refl) (eq-eqb e.archived e.archived refl))

same_entry-is : (e f : Entry) → same_entry e f ≡ true → e ≡ f
same_entry-is e f is =
    let parts = and_parts (bytes_eq e.thread.from f.thread.from && (e.thread.step == f.thread.step))
    (bytes_eq e.thread.auth f.thread.auth && (e.archived == f.archived)) is in
    let keys = and_parts (bytes_eq e.thread.from f.thread.from) (e.thread.step == f.thread.step) parts.0 in
    let rest = and_parts (bytes_eq e.thread.auth f.thread.auth) (e.archived == f.archived) parts.1 in
    let from : e.thread.from ≡ f.thread.from = (bytes_eq-Decides e.thread.from f.thread.from).0 keys.0 in
    let step : e.thread.step ≡ f.thread.step = eqb-true e.thread.step f.thread.step keys.1 in
    let auth : e.thread.auth ≡ f.thread.auth = (bytes_eq-Decides e.thread.auth f.thread.auth).0 rest.0 in
    let archived : e.archived ≡ f.archived = eqb-true e.archived f.archived rest.1 in
    (λ j. record { thread = record { from = from j; step = step j; auth = auth j }; archived = archived j })

so-at : (asked : Ask) (met : Option Entry) → IsSoAt asked met → is_so_at asked met ≡ true
so-at (ask.Present e) met is = subst (λ (o : Option Entry). is_so_at (ask.Present e) o ≡ true) (sym is)
    (same_entry-itself e)
so-at (ask.Absent key) met is = ap (λ (o : Option Entry). is_so_at (ask.Absent key) o) is
so-at (ask.Below key) met is = refl
so-at (ask.Above key) met is = refl

not_so-at : (asked : Ask) (met : Option Entry) → (IsSoAt asked met → ⊥) → is_so_at asked met ≡ false
not_so-at (ask.Present e) (Some f) differs = false_from_ne_true (same_entry f e)
    (λ is. differs (ap (λ (x : Entry). Some x) (same_entry-is f e is)))
not_so-at (ask.Present e) None differs = refl
not_so-at (ask.Absent key) (Some f) differs = refl
not_so-at (ask.Absent key) None differs = absurd (differs refl)
not_so-at (ask.Below key) met differs = absurd (differs tt)
not_so-at (ask.Above key) met differs = absurd (differs tt)

-- ---- what is shown

module _ (dig : List ℕ → List ℕ) (ps : Image) (root : Root) (asked : Ask) where
  pub shown-told : (tree : TreeProof) → AnswersPath asked (Ok tree) (found_tree_path dig ps asked root)
      → tree_shown dig ps root asked ≡ Is tree
  unfolding tree_shown
  shown-told tree is =
      is_on (found_tree_path dig ps asked root) (λ shown. when (is_so_at asked shown.met) root.page shown.proof)
      (record { met = is.0; proof = tree }) is.1
      ∙ ap (λ (b : Bool). when b root.page tree) (so-at asked is.0 is.2)

  -- a refused call says of the pages what it found in them
  pub shown-says : (fault : TreeFault) → NeverPresent {T = TreeProof} (Err fault) → AnswersPath asked (Err fault)
      (found_tree_path dig ps asked root)
      → SaysOf service_refusals (service_refusals (refusal_of_tree root fault)) (tree_shown dig ps root asked)
  unfolding tree_shown
  shown-says Present never is = absurd never
  shown-says Untrue never is =
      is_on (found_tree_path dig ps asked root) (λ shown. when (is_so_at asked shown.met) root.page shown.proof) is.0
      is.1 ∙ ap (λ (b : Bool). when b root.page is.0.proof) (not_so-at asked is.0.met is.2)
  shown-says (BadPage page) never is = bad_ends (found_tree_path dig ps asked root)
      (λ shown. when (is_so_at asked shown.met) root.page shown.proof) page is
  shown-says DiskFault never is = tt
  shown-says NoMemory never is = tt

  -- pages that stand for a tree show the tree's own proof of what is so
  pub shown-stands : (t : Tree) → StandsForTree dig ps root t → IsSo (entries t) asked → tree_shown dig ps root asked
      ≡ Is (proof_of dig t asked)
  unfolding tree_shown found_tree_path
  shown-stands t stands so =
      let w = root-way dig ps asked root t stands in
      let end = end_of_way nowhere w.stops in
      is_on (found_tree_path dig ps asked root) (λ shown. when (is_so_at asked shown.met) root.page shown.proof)
      (shown_of dig w.stops) (is_on (way dig ps asked root) (λ stops. Is (shown_of dig stops)) w.stops w.found)
      ∙ ap (λ (b : Bool). when b root.page (proof_of_way dig w.stops))
      (so-at asked end.met ((so-found dig ps root t asked end w.tells).0 so))
      ∙ ap (λ (p : TreeProof). Is p) w.proof

-- ---- faults of the tree

module _ (root : Root) where
  -- it is of the pages, the disk or memory
  pub tree-fault : (fault : TreeFault) → IsFault (refusal_of_tree root fault)
  tree-fault Present = tt
  tree-fault Untrue = tt
  tree-fault (BadPage page) = tt
  tree-fault DiskFault = tt
  tree-fault NoMemory = tt

  -- it tells of a failed device call where the insert does
  pub tree-failed : (fault : TreeFault) → is_of_disk (service_refusals (refusal_of_tree root fault)) ≡ is_of_disk
      (tree_faults fault)
  tree-failed Present = refl
  tree-failed Untrue = refl
  tree-failed (BadPage page) = refl
  tree-failed DiskFault = refl
  tree-failed NoMemory = refl
