-- Digests are 32 bytes.
use Rattle.std.proofs.Common.{◌≡◌, ℕ, suc, zero, ◌-◌, ◌<◌, ◌≤◌, List, [], ◌∷◌, length, refl, sym, subst, arith}
use Rattle.std.proofs.Common.{inl, inr}
use Rattle.std.specs.Prelude.{map, drop, remove}
use Rattle.std.proofs.lemmas.Bool.{cases_lt}
use Rattle.tw_base.specs.history.Auth.{auth, auths, tree_label}
use Rattle.tw_base.specs.kinds.Bytes.{AreBytes, HasBytes}
use Rattle.tw_base.specs.events.EventTree.{audit_path, event_root, largest_power_below, left_half, right_half}
use Rattle.tw_base.specs.history.History.{History}
use Rattle.tw_base.specs.kinds.Lists.{Each}
use Rattle.tw_base.specs.history.Tree.{Tree}
use Rattle.tw_base.specs.history.Tree.Tree.{Empty, Branch}
use Rattle.tw_base.proofs.lemmas.history.Auths.{auth-suc}
use Rattle.tw_base.proofs.lemmas.events.AuditPaths.{few-events}
use Rattle.tw_base.proofs.lemmas.events.EventTrees.{audit_path-left, audit_path-right, by_halves, event_root-more}
use Rattle.tw_base.proofs.lemmas.events.EventTrees.{event_root-none, event_root-one, halves}
use Rattle.tw_base.proofs.lemmas.kinds.ListLemmas.{Each-append}

abbrev pub IsDigest : List ℕ → Type 0
IsDigest d = HasBytes 32 d

pub Each-drop : {X : Type 0} (P : X → Type 0) (n : ℕ) (xs : List X) → Each P xs → Each P (drop n xs)
Each-drop P zero xs all = all
Each-drop P (suc n) [] all = tt
Each-drop P (suc n) (x ∷ xs) all = Each-drop P n xs all.1

pub Each-remove : {X : Type 0} (P : X → Type 0) (xs : List X) (n : ℕ) → Each P xs → Each P (remove xs n)
Each-remove P [] zero all = tt
Each-remove P [] (suc n) all = tt
Each-remove P (x ∷ xs) zero all = all.1
Each-remove P (x ∷ xs) (suc n) all = (all.0, Each-remove P xs n all.1)

module _ (dig : List ℕ → List ℕ) (size : (text : List ℕ) → length (dig text) ≡ 32) (are : (text : List ℕ)
    → AreBytes (dig text)) where
  pub dig-digest : (text : List ℕ) → IsDigest (dig text)
  dig-digest text = (size text, are text)

  pub map-digests : (texts : List (List ℕ)) → Each IsDigest (map dig texts)
  map-digests [] = tt
  map-digests (text ∷ texts) = (dig-digest text, map-digests texts)

  pub tree_label-digest : (t : Tree) → IsDigest (tree_label dig t)
  unfolding tree_label
  tree_label-digest Empty = dig-digest _
  tree_label-digest (Branch l e r) = dig-digest _

  auth-digest_first : (h : History) → IsDigest (auth dig h zero)
  unfolding auth auths
  auth-digest_first h = dig-digest _

  pub auth-digest : (h : History) (i : ℕ) → IsDigest (auth dig h i)
  auth-digest h zero = auth-digest_first h
  auth-digest h (suc i) = subst IsDigest (sym (auth-suc dig h i)) (dig-digest _)

  pub event_root-digest : (events : List (List ℕ)) → IsDigest (event_root dig events)
  event_root-digest [] = subst IsDigest (sym (event_root-none dig)) (dig-digest _)
  event_root-digest (event ∷ []) = subst IsDigest (sym (event_root-one dig event)) (dig-digest _)
  event_root-digest (first ∷ second ∷ rest) =
      subst IsDigest (sym (event_root-more dig (first ∷ second ∷ rest) (omega arith))) (dig-digest _)

  pub audit_path-digests : (events : List (List ℕ)) (index : ℕ) → Each IsDigest (audit_path dig events index)
  audit_path-digests events index = by_halves P small large (length events) events index refl
    where
      P : ℕ → Type 0
      P n = (events : List (List ℕ)) (index : ℕ) → length events ≡ n → Each IsDigest (audit_path dig events index)

      small : (n : ℕ) → n ≤ 1 → P n
      small n few events index e = subst (Each IsDigest) (sym (few-events dig events index (omega arith))) tt

      large : (n : ℕ) → 1 < n → P (largest_power_below n) → P (n - largest_power_below n) → P n
      large n more left right events index e =
          let more' : 1 < length events = omega arith in
          let sizes = halves n events more e in
          elim (cases_lt index (largest_power_below n)) [
            | inl less ↦ subst (Each IsDigest) (sym (audit_path-left dig events index more' (omega arith)))
                (Each-append IsDigest (audit_path dig (left_half events) index)
                (event_root dig (right_half events) ∷ [])
                (left (left_half events) index sizes.1)
                (event_root-digest (right_half events), tt))
            | inr past ↦ subst (Each IsDigest) (sym (audit_path-right dig events index more' (omega arith)))
                (Each-append IsDigest (audit_path dig (right_half events) (index - largest_power_below (length events)))
                (event_root dig (left_half events) ∷ [])
                (right (right_half events) (index - largest_power_below (length events)) sizes.2)
                (event_root-digest (left_half events), tt))
          ]
