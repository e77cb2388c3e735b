-- A proof that leads up to a tree's label is the proof that the tree has, or two texts clash.
use Rattle.std.proofs.Common.{◌≡◌, ◌≢◌, ℕ, List, [], ◌∷◌, ◌++◌, length, Bool, true, false, get_or, drop, refl, ap, sym}
use Rattle.std.proofs.Common.{◌∙◌, subst, arith, inl, inr, append_assoc}
use Rattle.std.specs.Prelude.{if◌then◌else◌}
use Rattle.std.specs.Int.{w64, to_be_bytes, from_be_bytes}
use Rattle.std.specs.Ordering.{is_eq}
use Rattle.std.proofs.lemmas.List.{append-nil}
use Rattle.std.proofs.lemmas.Nat.{from_be_bytes-to_be_bytes_8}
use Rattle.tw_base.specs.declared.history.thread.Entry.{Entry}
use Rattle.tw_base.specs.declared.history.tree_proof.Ancestor.{Ancestor}
use Rattle.tw_base.specs.declared.history.tree_proof.Ask.{Ask}
use Rattle.tw_base.specs.declared.history.tree_proof.Ask.TheVariants.{Present, Absent, Below, Above}
use Rattle.tw_base.specs.declared.history.tree_proof.TreeProof.{TreeProof}
use Rattle.tw_base.specs.declared.history.tree_proof.TreeProof.TheVariants.{Present as OfEntry, Gap}
use Rattle.tw_base.specs.history.Auth.{tree_label}
use Rattle.tw_base.specs.kinds.Bytes.{AreBytes, HasBytes}
use Rattle.tw_base.specs.kinds.Clash.{Among, OrClash, Within}
use Rattle.tw_base.specs.history.Entries.{IsFit, entry_text, key_of}
use Rattle.tw_base.specs.history.HistoryTexts.{tree_texts}
use Rattle.tw_base.specs.kinds.Lists.{Each}
use Rattle.tw_base.specs.kinds.Texts.{empty_tree_text, tree_node_text}
use Rattle.tw_base.specs.history.Tree.{Tree, IsRisingTree, entries}
use Rattle.tw_base.specs.history.Tree.Tree.{Empty, Branch}
use Rattle.tw_base.proofs.lemmas.kinds.Clashes.{Among-left, Among-right, and_then, same_text}
use Rattle.tw_base.proofs.lemmas.kinds.ListLemmas.{Each-append, Each-parts}
use Rattle.tw_base.proofs.lemmas.kinds.TextFields.{halves}
use Rattle.tw_base.proofs.lemmas.history.KeyTests.{same_key}
use Rattle.tw_base.proofs.lemmas.history.TextBytes.{empty_tree_text-bytes, entry_text-bytes, tree_texts-bytes}
use Rattle.tw_base.specs.history.TreeProofs.{ancestor, ancestors_of, place_of_ask, way_up}
use Rattle.tw_base.specs.history.Ways.{IsNotAsked, climbed_tree, climb_texts, is_left, over_text}
use Rattle.tw_base.proofs.lemmas.history.Ways.{way-here, way-left, way-right}
use Rattle.tw_treeproof.specs.declared.shown.Shown.{Shown}
use Rattle.tw_treeproof.specs.declared.shown.Shown.TheVariants.{Present as IsThere, Absent as IsNotThere, Nearest}
use Rattle.tw_treeproof.specs.declared.shown.Shown.TheVariants.{Wrong}
use Rattle.tw_treeproof.specs.Answers.{Checks, IsAnswer, Shows, place_text, shown_answer}
use Rattle.tw_treeproof.specs.Answers.{tree_proof_texts}
use Rattle.tw_treeproof.specs.Sizes.{HasPlaceSizes, HasProofSizes, HaveSizes}
use Rattle.tw_treeproof.proofs.OwnProofs.{way-answers}
use Rattle.tw_treeproof.proofs.Places.{IsAt, so-at}

-- ---- the fields of equal texts of nodes

same_entry : (e f : Entry) → e.thread.from ≡ f.thread.from → e.thread.step ≡ f.thread.step
    → e.thread.auth ≡ f.thread.auth → e.archived ≡ f.archived → e ≡ f
same_entry e f n s a r = λ i. record { thread = record { from = n i; step = s i; auth = a i }; archived = r i }

pub record SameNode (l : List ℕ) (e : Entry) (r : List ℕ) (l' : List ℕ) (e' : Entry) (r' : List ℕ) : Type 0 where
  pub left : l ≡ l'
  pub entry : e ≡ e'
  pub right : r ≡ r'

pub tree_node-fields : (l r l' r' : List ℕ) (e e' : Entry) → length l ≡ length l' → IsFit e → IsFit e'
    → entry_text l e r ≡ entry_text l' e' r' → SameNode l e r l' e' r'
unfolding tree_node_text
tree_node-fields l r l' r' e e' n f g same =
    let one = halves l l' _ _ n (ap (drop 1) same) in
    let two = halves e.thread.from e'.thread.from _ _ (f.from.0 ∙ sym g.from.0) one.1 in
    let three = halves (to_be_bytes w64 e.thread.step) (to_be_bytes w64 e'.thread.step) _ _ refl two.1 in
    let four = halves e.thread.auth e'.thread.auth _ _ (f.auth.0 ∙ sym g.auth.0) three.1 in
    let five = halves (to_be_bytes w64 e.archived) (to_be_bytes w64 e'.archived) _ _ refl four.1 in
    let step : e.thread.step ≡ e'.thread.step = sym (from_be_bytes-to_be_bytes_8 e.thread.step f.step)
    ∙ ap (from_be_bytes w64) three.0 ∙ from_be_bytes-to_be_bytes_8 e'.thread.step g.step in
    let archived : e.archived ≡ e'.archived = sym (from_be_bytes-to_be_bytes_8 e.archived f.archived)
    ∙ ap (from_be_bytes w64) five.0 ∙ from_be_bytes-to_be_bytes_8 e'.archived g.archived in
    record { left = one.0; entry = same_entry e e' two.0 step four.0 archived; right = five.1 }

-- a node's text is none of the empty tree
pub not_leaf : (l r : List ℕ) (e : Entry) → empty_tree_text ≡ entry_text l e r → ⊥
unfolding empty_tree_text tree_node_text
not_leaf l r e same = let never : 0x14 ≡ 0x15 = ap (λ t. get_or t 0 0) same in absurd (omega (arith, never))

module _ (dig : List ℕ → List ℕ) where
  -- s is the part of t below the ancestors, where the question leads past each of them; on the other side each has a
  -- tree
  -- of its label
  abbrev Hangs : Ask → List Ancestor → Tree → Tree → Type 0
  Hangs ask [] s t = s ≡ t
  Hangs ask (a ∷ up) s t = (o : Tree) × (a.other ≡ tree_label dig o) × Hangs ask up
      (if is_left ask a.entry then Branch s a.entry o else Branch o a.entry s) t

  -- then they are the last of the nodes above the place to which the question leads in t
  own : (ask : Ask) (up : List Ancestor) (s t : Tree) → Hangs ask up s t → Each (IsNotAsked ask) up
      → (way_up dig ask t ≡ way_up dig ask s ++ up) × (place_of_ask ask t ≡ place_of_ask ask s)
  own ask [] s t hangs free =
      (ap (way_up dig ask) (sym hangs) ∙ sym (append-nil (way_up dig ask s)), ap (place_of_ask ask) (sym hangs))
  own ask (a ∷ up) s t hangs free =
      by (is_left ask a.entry) refl (own ask up (if is_left ask a.entry then Branch s a.entry hangs.0 else Branch
      hangs.0 a.entry s) t hangs.2 free.1)
    where
      here : ancestor dig a.entry hangs.0 ≡ a
      here = λ i. record { entry = a.entry; other = sym hangs.1 i }

      Own : Tree → Type 0
      Own u = (way_up dig ask t ≡ way_up dig ask u ++ up) × (place_of_ask ask t ≡ place_of_ask ask u)

      -- over the node
      over : (u : Tree) → (way_up dig ask u ≡ way_up dig ask s ++ ancestor dig a.entry hangs.0 ∷ [])
          × (place_of_ask ask u ≡ place_of_ask ask s) → Own u
          → (way_up dig ask t ≡ way_up dig ask s ++ a ∷ up) × (place_of_ask ask t ≡ place_of_ask ask s)
      over u down all = (
        all.0 ∙ ap (λ w. w ++ up) down.0 ∙ append_assoc (way_up dig ask s) (ancestor dig a.entry hangs.0 ∷ []) up
            ∙ ap (λ x. way_up dig ask s ++ x ∷ up) here,
        all.1 ∙ down.1,
      )

      by : (b : Bool) → is_left ask a.entry ≡ b → Own (if is_left ask a.entry then Branch s a.entry hangs.0 else Branch
          hangs.0 a.entry s)
          → (way_up dig ask t ≡ way_up dig ask s ++ a ∷ up) × (place_of_ask ask t ≡ place_of_ask ask s)
      by true way all =
          over (Branch s a.entry hangs.0) (way-left dig ask s a.entry hangs.0 free.0 way)
          (subst (λ b. Own (if b then Branch s a.entry hangs.0 else Branch hangs.0 a.entry s)) way all)
      by false way all =
          over (Branch hangs.0 a.entry s) (way-right dig ask hangs.0 a.entry s free.0 way)
          (subst (λ b. Own (if b then Branch s a.entry hangs.0 else Branch hangs.0 a.entry s)) way all)

  module _ (size : (text : List ℕ) → length (dig text) ≡ 32) (texts : List (List ℕ))
      (texts-are : Each AreBytes texts) where
    tree_label-size : (t : Tree) → length (tree_label dig t) ≡ 32
    unfolding tree_label
    tree_label-size Empty = size _
    tree_label-size (Branch l e r) = size _

    -- what is known of a part of the tree
    record IsPart (label : List ℕ) (t : Tree) : Type 0 where
      label_is : tree_label dig t ≡ label
      fits : Each IsFit (entries t)
      within : Within (tree_texts dig t) texts

    -- a part whose label is that of a node has that node on top
    opened : (l r : List ℕ) (e : Entry) (t : Tree) → length l ≡ 32 → IsFit e → Among (entry_text l e r) texts
        → IsPart (dig (entry_text l e r)) t
        → OrClash dig texts ((lt : Tree) × (rt : Tree) × (Branch lt e rt ≡ t) × IsPart l lt × IsPart r rt)
    unfolding tree_label tree_texts
    opened l r e Empty n fit among part =
        and_then dig texts _ _ (same_text dig texts texts-are empty_tree_text (entry_text l e r)
        (part.within _ (inl refl)) among part.label_is)
        (λ same. absurd (not_leaf l r e same))
    opened l r e (Branch lt f rt) n fit among part =
        let parts = Each-parts IsFit (entries lt) (f ∷ entries rt) part.fits in
        and_then dig texts _ _
        (same_text dig texts texts-are (entry_text (tree_label dig lt) f (tree_label dig rt)) (entry_text l e r)
        (part.within _ (Among-right _ (tree_texts dig lt) _ (Among-right _ (tree_texts dig rt) _ (inl refl)))) among
        part.label_is)
        (λ same.
        let fields = tree_node-fields _ _ _ _ f e (tree_label-size lt ∙ sym n) parts.1.0 fit same in
        inl (
          lt,
          rt,
          ap (λ x. Branch lt x rt) (sym fields.entry),
          record {
            label_is = fields.left;
            fits = parts.0;
            within = λ text a. part.within text (Among-left text (tree_texts dig lt) _ a);
          },
          record {
            label_is = fields.right;
            fits = parts.1.1;
            within = λ text a. part.within text
                (Among-right text (tree_texts dig lt) _ (Among-left text (tree_texts dig rt) _ a));
          },
        ))

    -- a part whose label is that of the empty tree is empty
    emptied : (t : Tree) → Among empty_tree_text texts → IsPart (dig empty_tree_text) t → OrClash dig texts (t ≡ Empty)
    unfolding tree_label tree_texts
    emptied Empty among part = inl refl
    emptied (Branch l e r) among part =
        and_then dig texts _ _ (same_text dig texts texts-are empty_tree_text
        (entry_text (tree_label dig l) e (tree_label dig r)) among
        (part.within _ (Among-right _ (tree_texts dig l) _ (Among-right _ (tree_texts dig r) _ (inl refl))))
        (sym part.label_is))
        (λ same. absurd (not_leaf (tree_label dig l) (tree_label dig r) e same))

    -- the asked place is in the tree, with the label from which the proof leads up
    climbed-binds : (ask : Ask) (up : List Ancestor) (below : List ℕ) (t : Tree) → HaveSizes up → length below ≡ 32
        → IsPart (climbed_tree dig (is_left ask) up below) t
        → Within (climb_texts dig (is_left ask) up below) texts
        → OrClash dig texts ((s : Tree) × Hangs ask up s t × IsPart below s)
    unfolding climbed_tree climb_texts
    climbed-binds ask [] below t sizes n part within = inl (t, refl, part)
    climbed-binds ask (a ∷ up) below t sizes n part within =
        and_then dig texts _ _ (climbed-binds ask up (dig (over_text (is_left ask) a below)) t sizes.1 (size _) part
        (λ text p. within text (inr p)))
        (λ part. step part.0 part.1 part.2 (is_left ask a.entry) refl)
      where
        -- a side of the opened node, with the other one
        held : (side o s : Tree) → (if is_left ask a.entry then Branch side a.entry o else Branch o a.entry side) ≡ s
            → Hangs ask up s t → IsPart a.other o → IsPart below side
            → (s : Tree) × Hangs ask (a ∷ up) s t × IsPart below s
        held side o s node hangs other part =
            (side, (o, sym other.label_is, subst (λ x. Hangs ask up x t) (sym node) hangs), part)

        step : (s : Tree) → Hangs ask up s t → IsPart (dig (over_text (is_left ask) a below)) s → (b : Bool)
            → is_left ask a.entry ≡ b → OrClash dig texts ((s : Tree) × Hangs ask (a ∷ up) s t × IsPart below s)
        step s hangs is true e =
            let text_is : over_text (is_left ask) a below ≡ entry_text below a.entry a.other =
            ap (λ b. if b then entry_text below a.entry a.other else entry_text a.other a.entry below) e in
            and_then dig texts _ _ (opened below a.other a.entry s n sizes.0.1
            (subst (λ x. Among x texts) text_is (within _ (inl refl))) (subst (λ x. IsPart (dig x) s) text_is is))
            (λ o. inl (held o.0 o.1 s (ap (λ b. if b then Branch o.0 a.entry o.1 else Branch o.1 a.entry o.0) e ∙ o.2)
            hangs o.4 o.3))
        step s hangs is false e =
            let text_is : over_text (is_left ask) a below ≡ entry_text a.other a.entry below =
            ap (λ b. if b then entry_text below a.entry a.other else entry_text a.other a.entry below) e in
            and_then dig texts _ _ (opened a.other below a.entry s sizes.0.0.0 sizes.0.1
            (subst (λ x. Among x texts) text_is (within _ (inl refl))) (subst (λ x. IsPart (dig x) s) text_is is))
            (λ o. inl (held o.1 o.0 s (ap (λ b. if b then Branch o.1 a.entry o.0 else Branch o.0 a.entry o.1) e ∙ o.2)
            hangs o.3 o.4))

    -- the proof's nodes are those above the tree's own place, which is one that what is asked leads to
    abbrev IsOwn : Tree → Ask → TreeProof → Type 0
    IsOwn t ask proof = IsAt ask (place_of_ask ask t) × (ancestors_of proof ≡ way_up dig ask t)

    gap-own : (ask : Ask) (up : List Ancestor) (t : Tree) → IsAt ask Empty → HaveSizes up → Each (IsNotAsked ask) up
        → IsPart (climbed_tree dig (is_left ask) up (dig empty_tree_text)) t
        → Within (empty_tree_text ∷ climb_texts dig (is_left ask) up (dig empty_tree_text)) texts
        → OrClash dig texts (IsOwn t ask (Gap up))
    unfolding way_up place_of_ask
    gap-own ask up t at sizes free part within =
        and_then dig texts _ _ (climbed-binds ask up (dig empty_tree_text) t sizes (size _) part
        (λ text a. within text (inr a)))
        (λ found. and_then dig texts _ _ (emptied found.0 (within _ (inl refl)) found.2)
        (λ empty.
        let all = own ask up Empty t (subst (λ s. Hangs ask up s t) empty found.1) free in
        inl (subst (IsAt ask) (sym all.1) at, sym all.0)))

    present-own : (e : Entry) (l r : List ℕ) (up : List Ancestor) (t : Tree) → length l ≡ 32 → IsFit e → HaveSizes up
        → Each (IsNotAsked (Present e)) up
        → IsPart (climbed_tree dig (is_left (Present e)) up (dig (entry_text l e r))) t
        → Within (entry_text l e r ∷ climb_texts dig (is_left (Present e)) up (dig (entry_text l e r))) texts
        → OrClash dig texts (IsOwn t (Present e) (OfEntry l r up))
    present-own e l r up t n fit sizes free part within =
        and_then dig texts _ _ (climbed-binds (Present e) up (dig (entry_text l e r)) t sizes (size _) part
        (λ text a. within text (inr a)))
        (λ found. and_then dig texts _ _ (opened l r e found.0 n fit (within _ (inl refl)) found.2)
        (λ o.
        let all = own (Present e) up (Branch o.0 e o.1) t (subst (λ s. Hangs (Present e) up s t) (sym o.2) found.1)
        free in
        let here = way-here dig (Present e) o.0 e o.1 (ap is_eq (same_key (key_of e))) in
        inl (subst (IsAt (Present e)) (sym (all.1 ∙ here.1)) refl, sym (all.0 ∙ ap (λ w. w ++ up) here.0))))

    -- whatever checks under the tree's label is of the tree
    checked-own : (ask : Ask) (proof : TreeProof) (root : List ℕ) (t : Tree) → HasProofSizes ask proof
        → Checks dig root ask proof → Each IsFit (entries t) → tree_label dig t ≡ root
        → Within (tree_texts dig t) texts → Within (tree_proof_texts dig ask proof) texts
        → OrClash dig texts (IsOwn t ask proof)
    unfolding tree_proof_texts
    checked-own (Present e) (OfEntry l r up) root t sizes checks fits at of_tree of_proof =
        present-own e l r up t sizes.0.0.0 sizes.0.2 sizes.1 checks.free
        (record { label_is = at ∙ sym checks.label; fits = fits; within = of_tree }) of_proof
    checked-own (Present e) (Gap up) root t sizes checks fits at of_tree of_proof =
        absurd (let never = checks.kind in cc)
    checked-own (Absent key) (OfEntry l r up) root t sizes checks fits at of_tree of_proof =
        absurd (let never = checks.kind in cc)
    checked-own (Below key) (OfEntry l r up) root t sizes checks fits at of_tree of_proof =
        absurd (let never = checks.kind in cc)
    checked-own (Above key) (OfEntry l r up) root t sizes checks fits at of_tree of_proof =
        absurd (let never = checks.kind in cc)
    checked-own (Absent key) (Gap up) root t sizes checks fits at of_tree of_proof =
        gap-own (Absent key) up t tt sizes.1 checks.free
        (record { label_is = at ∙ sym checks.label; fits = fits; within = of_tree }) of_proof
    checked-own (Below key) (Gap up) root t sizes checks fits at of_tree of_proof =
        gap-own (Below key) up t tt sizes.1 checks.free
        (record { label_is = at ∙ sym checks.label; fits = fits; within = of_tree }) of_proof
    checked-own (Above key) (Gap up) root t sizes checks fits at of_tree of_proof =
        gap-own (Above key) up t tt sizes.1 checks.free
        (record { label_is = at ∙ sym checks.label; fits = fits; within = of_tree }) of_proof

  -- what a proof hashes is bytes
  pub proof_texts-bytes : (are : (text : List ℕ) → AreBytes (dig text)) (ask : Ask) (proof : TreeProof)
      → HasProofSizes ask proof → Each AreBytes (tree_proof_texts dig ask proof)
  unfolding tree_proof_texts climb_texts
  proof_texts-bytes are ask proof sizes =
      (at_place ask proof sizes.0, above (ancestors_of proof) (dig (place_text ask proof)) (are _) sizes.1)
    where
      at_place : (a : Ask) (p : TreeProof) → HasPlaceSizes a p → AreBytes (place_text a p)
      at_place (Present e) (OfEntry l r up) sizes = entry_text-bytes l e r sizes.0.1 sizes.2 sizes.1.1
      at_place (Present e) (Gap up) sizes = empty_tree_text-bytes
      at_place (Absent key) p sizes = empty_tree_text-bytes
      at_place (Below key) p sizes = empty_tree_text-bytes
      at_place (Above key) p sizes = empty_tree_text-bytes

      over : (b : Bool) (a : Ancestor) (below : List ℕ) → AreBytes below → HasBytes 32 a.other → IsFit a.entry
          → AreBytes (if b then entry_text below a.entry a.other else entry_text a.other a.entry below)
      over true a below is other fit = entry_text-bytes below a.entry a.other is fit other.1
      over false a below is other fit = entry_text-bytes a.other a.entry below other.1 fit is

      above : (up : List Ancestor) (below : List ℕ) → AreBytes below → HaveSizes up
          → Each AreBytes (climb_texts dig (is_left ask) up below)
      above [] below is sizes = tt
      above (a ∷ up) below is sizes =
          (over (is_left ask a.entry) a below is sizes.0.0 sizes.0.1, above up _ (are _) sizes.1)

  -- what is shown is so of each rising tree of that label
  pub check-binds : (size : (text : List ℕ) → length (dig text) ≡ 32) (are : (text : List ℕ) → AreBytes (dig text))
      (root : List ℕ) (ask : Ask) (proof : TreeProof) (shown : Shown) → Shows dig root ask proof shown
      → (shown ≢ Wrong → HasProofSizes ask proof)
      → (t : Tree) → IsRisingTree t → tree_label dig t ≡ root
      → OrClash dig (tree_texts dig t ++ tree_proof_texts dig ask proof) (IsAnswer (entries t) ask shown)
  check-binds size are root ask proof shown shows sizes t rising at = cases shown shows sizes
    where
      texts : List (List ℕ)
      texts = tree_texts dig t ++ tree_proof_texts dig ask proof

      nothing : (a : Ask) → IsAnswer (entries t) a Wrong
      nothing (Present e) = tt
      nothing (Absent key) = tt
      nothing (Below key) = tt
      nothing (Above key) = tt

      right : (s : Shown) → Checks dig root ask proof → HasProofSizes ask proof → s ≡ shown_answer ask
          (ancestors_of proof) → OrClash dig texts (IsAnswer (entries t) ask s)
      right s checks has is =
          and_then dig texts _ _
          (checked-own size texts (Each-append AreBytes (tree_texts dig t) _ (tree_texts-bytes dig size are t
          rising.fits) (proof_texts-bytes are ask proof has)) ask proof root t has checks rising.fits at
          (λ text a. Among-left text (tree_texts dig t) _ a) (λ text a. Among-right text (tree_texts dig t) _ a))
          (λ own. inl (subst (IsAnswer (entries t) ask) (ap (shown_answer ask) (sym own.1) ∙ sym is)
          (way-answers dig t ask rising.rising (so-at t ask rising.rising own.0))))

      cases : (s : Shown) → Shows dig root ask proof s → (s ≢ Wrong → HasProofSizes ask proof)
          → OrClash dig texts (IsAnswer (entries t) ask s)
      cases Wrong never has = inl (nothing ask)
      cases IsThere so has = right IsThere so.0 (has (λ wrong. let never : IsThere ≡ Wrong = wrong in cc)) so.1
      cases IsNotThere so has = right IsNotThere so.0 (has (λ wrong. let never : IsNotThere ≡ Wrong = wrong in cc)) so.1
      cases (Nearest o) so has = right (Nearest o) so.0 (has (λ wrong. let never : Nearest o ≡ Wrong = wrong in cc))
          so.1
