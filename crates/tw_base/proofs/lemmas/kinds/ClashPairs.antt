-- The ordered pair of a list is there exactly where two of its texts clash, and is such a pair.
use Rattle.std.proofs.Common.{◌≡◌, ◌≢◌, ℕ, List, [], ◌∷◌, ◌++◌, Bool, true, false, refl, ap, sym, ◌∙◌, subst, inl, inr}
use Rattle.std.proofs.Common.{◌⊎◌, append_assoc}
use Rattle.std.specs.Prelude.{Option, Some, None, find, not, ◌&&◌, if◌then◌else◌}
use Rattle.std.specs.Option.{option_map_or}
use Rattle.std.specs.Str.{bytes_eq}
use Rattle.std.proofs.lemmas.Bool.{and_parts}
use Rattle.std.proofs.lemmas.List.{append-nil}
use Rattle.std.proofs.lemmas.Slice.Eq.{bytes_eq-Decides}
use Rattle.tw_base.specs.kinds.Bytes.{AreBytes}
use Rattle.tw_base.specs.kinds.Clash.{Among, Clash, Pair, clash_pair, clashes, pair_after}
use Rattle.tw_base.specs.kinds.Lists.{Each}
use Rattle.tw_base.proofs.lemmas.kinds.Clashes.{Among-bytes, Among-left, Among-right}

same_some : (p q : Pair) → Some p ≡ Some q → p ≡ q
same_some p q e = cc

some_text : (x y : List ℕ) → Some x ≡ Some y → x ≡ y
some_text x y e = cc

Among-cases : (x : List ℕ) (xs ys : List (List ℕ)) → Among x (xs ++ ys) → Among x xs ⊎ Among x ys
Among-cases x [] ys p = inr p
Among-cases x (y ∷ xs) ys (inl e) = inl (inl e)
Among-cases x (y ∷ xs) ys (inr p) = elim (Among-cases x xs ys p) [ inl here ↦ inl (inr here) | inr there ↦ inr there ]

module _ (dig : List ℕ → List ℕ) where
  -- no two different texts of the list have one digest
  abbrev NoClash : List (List ℕ) → Type 0
  NoClash texts = (x y : List ℕ) → Among x texts → Among y texts → dig x ≡ dig y → x ≡ y

  same_digest : (text earlier : List ℕ) → clashes dig text earlier ≡ true → (dig earlier ≡ dig text) × (earlier ≢ text)
  same_digest text earlier e =
      let both = and_parts (bytes_eq (dig earlier) (dig text)) (not (bytes_eq earlier text)) e in (
        (bytes_eq-Decides (dig earlier) (dig text)).0 both.0,
        λ same. (let is : bytes_eq earlier text ≡ true = (bytes_eq-Decides earlier text).1 same in
            let no : not true ≡ true = ap not (sym is) ∙ both.1 in cc),
      )

  one_text : (text earlier : List ℕ) → clashes dig text earlier ≡ false → dig earlier ≡ dig text → earlier ≡ text
  one_text text earlier e digest =
      let same : bytes_eq (dig earlier) (dig text) ≡ true = (bytes_eq-Decides (dig earlier) (dig text)).1 digest in
      let cases : (b : Bool) → bytes_eq earlier text ≡ b → earlier ≡ text =
      elim [
        | true ↦ λ is. (bytes_eq-Decides earlier text).0 is
        | false ↦ λ is. (let both : true ≡ false = (λ i. sym same i && not (sym is i)) ∙ e in cc)
      ]
      in cases (bytes_eq earlier text) refl

  found : (text : List ℕ) (before : List (List ℕ)) (one : List ℕ) → find (clashes dig text) before ≡ Some one
      → Among one before × (dig one ≡ dig text) × (one ≢ text)
  found text [] one e = cc
  found text (x ∷ before) one e =
      let cases : (b : Bool) → clashes dig text x ≡ b → (if b then Some x else find (clashes dig text) before) ≡ Some
      one → Among one (x ∷ before) × (dig one ≡ dig text) × (one ≢ text) =
      elim [
        | true ↦ λ is at. (let it : x ≡ one = some_text x one at in let facts = same_digest text x is in
            (inl (sym it), subst (λ y. dig y ≡ dig text) it facts.0, subst (λ y. y ≢ text) it facts.1))
        | false ↦ λ is at. (let rest = found text before one at in (inr rest.0, rest.1, rest.2))
      ]
      in cases (clashes dig text x) refl e

  none_found : (text : List ℕ) (before : List (List ℕ)) → find (clashes dig text) before ≡ None → (x : List ℕ)
      → Among x before → dig x ≡ dig text → x ≡ text
  none_found text [] e x among digest = absurd among
  none_found text (y ∷ before) e x among digest =
      let cases : (b : Bool) → clashes dig text y ≡ b → (if b then Some y else find (clashes dig text) before) ≡ None
      → x ≡ text =
      elim [
        | true ↦ λ is at. cc
        | false ↦ λ is at. elim among [
          | inl here ↦ here ∙ one_text text y is (ap dig (sym here) ∙ digest)
          | inr there ↦ none_found text before at x there digest
        ]
      ]
      in cases (clashes dig text y) refl e

  more : (text : List ℕ) (before : List (List ℕ)) → NoClash before → ((x : List ℕ) → Among x before → dig x ≡ dig text
      → x ≡ text) → NoClash (before ++ text ∷ [])
  more text before none one x y p q digest =
      elim (Among-cases x before (text ∷ []) p) [
        | inl old ↦ elim (Among-cases y before (text ∷ []) q) [
          | inl also ↦ none x y old also digest
          | inr new ↦ (let at = only y new in one x old (digest ∙ ap dig at) ∙ sym at)
        ]
        | inr new ↦ elim (Among-cases y before (text ∷ []) q) [
          | inl old ↦ (let at = only x new in at ∙ sym (one y old (sym digest ∙ ap dig at)))
          | inr also ↦ only x new ∙ sym (only y also)
        ]
      ]
    where
      only : (z : List ℕ) → Among z (text ∷ []) → z ≡ text
      only z (inl e) = e
      only z (inr a) = absurd a

  pair_clashes : (before texts : List (List ℕ)) (p : Pair) → pair_after dig before texts ≡ Some p
      → Among p.one (before ++ texts) × Among p.other (before ++ texts) × (p.one ≢ p.other) × (dig p.one ≡ dig p.other)
  pair_clashes before [] p e = cc
  pair_clashes before (text ∷ texts) p e =
      let cases : (o : Option (List ℕ)) → find (clashes dig text) before ≡ o
      → option_map_or (λ one. Some (record { one = one; other = text })) o (pair_after dig (before ++ text ∷ []) texts)
      ≡ Some p
      → Among p.one (before ++ text ∷ texts) × Among p.other (before ++ text ∷ texts) × (p.one ≢ p.other)
      × (dig p.one ≡ dig p.other) =
      elim [
        | None ↦ λ none at. (let rest = pair_clashes (before ++ text ∷ []) texts p at in
            let same : (before ++ text ∷ []) ++ texts ≡ before ++ text ∷ texts = append_assoc before (text ∷ [])
            texts in
            (subst (Among p.one) same rest.0, subst (Among p.other) same rest.1, rest.2, rest.3))
        | Some one ↦ λ some at. (let facts = found text before one some in
            let it : record { one = one; other = text } ≡ p = same_some (record { one = one; other = text }) p at in
            subst (λ (q : Pair). Among q.one (before ++ text ∷ texts) × Among q.other (before ++ text ∷ texts)
            × (q.one ≢ q.other) × (dig q.one ≡ dig q.other)) it (
              Among-left one before (text ∷ texts) facts.0,
              Among-right text before (text ∷ texts) (inl refl),
              facts.2,
              facts.1,
            ))
      ]
      in cases (find (clashes dig text) before) refl e

  no_pair : (before texts : List (List ℕ)) → NoClash before → pair_after dig before texts ≡ None
      → NoClash (before ++ texts)
  no_pair before [] none e = subst NoClash (sym (append-nil before)) none
  no_pair before (text ∷ texts) none e =
      let cases : (o : Option (List ℕ)) → find (clashes dig text) before ≡ o
      → option_map_or (λ one. Some (record { one = one; other = text })) o (pair_after dig (before ++ text ∷ []) texts)
      ≡ None → NoClash (before ++ text ∷ texts) =
      elim [
        | None ↦ λ is at. subst NoClash (append_assoc before (text ∷ []) texts)
            (no_pair (before ++ text ∷ []) texts (more text before none (none_found text before is)) at)
        | Some one ↦ λ is at. cc
      ]
      in cases (find (clashes dig text) before) refl e

  -- the pair of a list of bytes clashes
  pub clash_pair-clashes : (texts : List (List ℕ)) → Each AreBytes texts → (p : Pair) → clash_pair dig texts ≡ Some p
      → (c : Clash dig texts) × (c.one ≡ p.one) × (c.other ≡ p.other)
  clash_pair-clashes texts are p e =
      let facts = pair_clashes [] texts p e in (
        record {
          one = p.one;
          other = p.other;
          has_one = facts.0;
          has_other = facts.1;
          one_bytes = Among-bytes texts p.one are facts.0;
          other_bytes = Among-bytes texts p.other are facts.1;
          differ = facts.2;
          one_digest = facts.3;
        },
        refl,
        refl,
      )

  -- a list without one has no clash
  pub clash_pair-none : (texts : List (List ℕ)) → clash_pair dig texts ≡ None → Clash dig texts → ⊥
  clash_pair-none texts e clash =
      clash.differ (no_pair [] texts (λ x y p q d. absurd p) e clash.one clash.other clash.has_one clash.has_other
      clash.one_digest)
