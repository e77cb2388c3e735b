-- What a finder took behind its keys, and the pair of it.
use Rattle.std.proofs.Common.{◌≡◌, ℕ, List, [], ◌∷◌, ◌++◌, length, drop, get_or, refl, ap, sym, ◌∙◌, subst, append_assoc}
use Rattle.std.proofs.Common.{arith}
use Rattle.std.specs.Prelude.{Option}
use Rattle.tw_base.specs.kinds.Clash.{Pair, clash_pair}
use Rattle.tw_audit.specs.declared.keys.Repeated.{Repeated}
use Rattle.tw_audit.specs.declared.table.Table.{Table}
use Rattle.tw_audit.specs.KeyLists.{CoversClashes, doubtful, is_among_keys, key_front}
use Rattle.tw_audit.specs.Tables.{Took, TookBehind}
use Rattle.tw_audit.proofs.Doubtful.{clash_pair-kept}

-- lists of one length, each in front of others
same-fronts : {X : Type 0} (xs ys cs bs : List X) → length xs ≡ length ys → xs ++ cs ≡ ys ++ bs
    → (xs ≡ ys) × (cs ≡ bs)
same-fronts [] [] cs bs long e = (refl, e)
same-fronts [] (y ∷ ys) cs bs long e = absurd (omega (arith, long))
same-fronts (x ∷ xs) [] cs bs long e = absurd (omega (arith, long))
same-fronts (x ∷ xs) (y ∷ ys) cs bs long e =
    let rest = same-fronts xs ys cs bs (omega (arith, long)) (ap (drop 1) e) in
    let first : x ≡ y = ap (λ l. get_or l 0 x) e in ((λ k. first k ∷ rest.0 k), rest.1)

abbrev with-keys : List (List ℕ) → Repeated
with-keys ks = record { keys = record { keys = ks } }

same-keys : (r s : Repeated) (cs bs : List (List ℕ)) → key_front r ++ cs ≡ key_front s ++ bs → (r ≡ s) × (cs ≡ bs)
same-keys r s cs bs e =
    let long : length r.keys.keys ≡ length s.keys.keys = ap (λ (l : List (List ℕ)). get_or (get_or l 0 []) 0 0) e in
    let rest = same-fronts r.keys.keys s.keys.keys cs bs long (ap (drop 1) e) in (ap with-keys rest.0, rest.1)

module _ (dig : List ℕ → List ℕ) (own : Repeated) where
  -- more texts, which the table takes
  pub behind-more : (old new : Table) (before more : List (List ℕ)) → TookBehind dig own old before
      → ((texts : List (List ℕ)) → Took dig old (doubtful dig own texts) → Took dig new (doubtful dig own
      (texts ++ more)))
      → TookBehind dig own new (before ++ more)
  behind-more old new before more took takes = record {
    behind = took.behind ++ more;
    are = ap (λ w. w ++ more) took.are ∙ append_assoc (key_front own) took.behind more;
    took = takes took.behind took.took;
  }

  -- the pair of those that the table took is that of all, where the keys that it began with are of all that clash
  pub found-pair : (t : Table) (r : Repeated) (texts : List (List ℕ)) (pair : Option Pair) → CoversClashes dig texts r
      → TookBehind dig own t (key_front r ++ texts)
      → ((taken : List (List ℕ)) → Took dig t taken → pair ≡ clash_pair dig taken) → pair ≡ clash_pair dig texts
  found-pair t r texts pair covered took is =
      let same = same-keys r own texts took.behind took.are in
      is (doubtful dig own texts) (subst (λ ts. Took dig t (doubtful dig own ts)) (sym same.1) took.took)
      ∙ clash_pair-kept dig (is_among_keys own) texts (subst (CoversClashes dig texts) same.0 covered)
