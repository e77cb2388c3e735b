-- What the keys of texts tell of those that clash.
use Rattle.std.proofs.Common.{◌≡◌, ◌≢◌, ℕ, suc, ◌+◌, ◌-◌, ◌<◌, ◌≤◌, List, [], ◌∷◌, ◌++◌, length, get_or, Bool, true}
use Rattle.std.proofs.Common.{false, refl, ap, sym, ◌∙◌, ◌⊎◌, inl, inr, subst, arith}
use Rattle.std.specs.Prelude.{Option, Some, None, IfSome, cond, map, sum_by}
use Rattle.std.specs.BTreeMap.{get}
use Rattle.std.specs.BTreeSet.{BTreeSet, contains}
use Rattle.std.specs.Cmp.Lexicographic.{slice_cmp}
use Rattle.std.specs.List.Sorted.{IsPermutation, IsSorted}
use Rattle.std.specs.Ordering.{is_lt, nat_cmp, ordering_reverse}
use Rattle.std.specs.declared.cmp.Ordering.{Ordering}
use Rattle.std.specs.declared.cmp.Ordering.TheVariants.{Less, Equal, Greater}
use Rattle.std.specs.Str.{bytes_eq}
use Rattle.std.proofs.lemmas.Cmp.{nat_list_cmp_total}
use Rattle.std.proofs.lemmas.List.{map_push}
use Rattle.std.proofs.lemmas.List.Sums.{sum_by-cons}
use Rattle.std.proofs.lemmas.List.Sorted.{ranks_by, sorted_far, sum_by-IsPermutation}
use Rattle.std.proofs.lemmas.Map.Lookups.{exact_bytes}
use Rattle.std.proofs.lemmas.Slice.Eq.{bytes_eq-Decides}
use Rattle.tw_base.specs.kinds.Clash.{Among, Within}
use Rattle.tw_base.proofs.lemmas.kinds.Clashes.{Among-left, Among-right, both_within, same_or_other}
use Rattle.tw_audit.specs.declared.keys.Keys.{Keys}
use Rattle.tw_audit.specs.declared.keys.Repeated.{Repeated}
use Rattle.tw_audit.specs.KeyLists.{CoversClashes, HasKeys, digest_key, is_among_keys, known_at}

-- one text more, that is among them
within-more : (texts listed : List (List ℕ)) (s : List ℕ) → Within texts listed → Among s listed
    → Within (texts ++ s ∷ []) listed
within-more [] listed s within has t (inl e) = subst (λ u. Among u listed) (sym e) has
within-more [] listed s within has t (inr a) = absurd a
within-more (x ∷ texts) listed s within has t (inl e) = within t (inl e)
within-more (x ∷ texts) listed s within has t (inr a) = within-more texts listed s (λ u b. within u (inr b)) has t a

wider : (o : Option (List ℕ)) (listed more : List (List ℕ)) → IfSome o (λ t. Among t listed)
    → IfSome o (λ t. Among t (listed ++ more))
wider None listed more has = tt
wider (Some t) listed more has = Among-left t listed more has

module _ (dig : List ℕ → List ℕ) (texts : List (List ℕ)) where
  -- a text that is known
  pub keys-known : (k : Keys) (key : ℕ) (s : List ℕ) → HasKeys dig texts k → known_at k key ≡ Some s
      → HasKeys dig (texts ++ s ∷ []) k
  keys-known k key s is here = record {
    listed = is.listed;
    keys = is.keys;
    all = within-more texts is.listed s is.all (subst (λ (o : Option (List ℕ)). IfSome o (λ t. Among t is.listed)) here
        (is.known key));
    known = is.known;
  }

  -- a text whose key was added
  pub keys-added : (old new : Keys) (s : List ℕ) → HasKeys dig texts old → new.keys.items ≡ old.keys.items ++ digest_key
      (dig s) ∷ []
      → ((key : ℕ) → (known_at new key ≡ known_at old key) ⊎ (known_at new key ≡ Some s))
      → HasKeys dig (texts ++ s ∷ []) new
  keys-added old new s is pushed known = record {
    listed = is.listed ++ s ∷ [];
    keys = pushed ∙ ap (λ w. w ++ digest_key (dig s) ∷ []) is.keys ∙ sym (map_push (λ t. digest_key (dig t)) is.listed
        s);
    all = both_within texts (s ∷ []) is.listed (s ∷ []) is.all (λ t a. a);
    known = λ key. by key (known key);
  }
    where
      by : (key : ℕ) → (known_at new key ≡ known_at old key) ⊎ (known_at new key ≡ Some s) → IfSome (known_at new key)
          (λ t. Among t (is.listed ++ s ∷ []))
      by key (inl same) = subst (λ (o : Option (List ℕ)). IfSome o (λ t. Among t (is.listed ++ s ∷ []))) (sym same)
          (wider (known_at old key) is.listed (s ∷ []) (is.known key))
      by key (inr here) = subst (λ (o : Option (List ℕ)). IfSome o (λ t. Among t (is.listed ++ s ∷ []))) (sym here)
          (Among-right s is.listed (s ∷ []) (inl refl))

-- ---- keys that stand twice

-- how often the key stands
abbrev hits : (key : List ℕ) → List (List ℕ) → ℕ
hits key keys = sum_by (λ k. cond (bytes_eq k key) 1 0) keys

hits-more : (key k : List ℕ) (keys : List (List ℕ)) → hits key (k ∷ keys) ≡ cond (bytes_eq k key) 1 0 + hits key keys
hits-more key k keys = sum_by-cons (λ n. cond (bytes_eq n key) 1 0) k keys

module _ (dig : List ℕ → List ℕ) (key : List ℕ) where
  abbrev keys_of : List (List ℕ) → List (List ℕ)
  keys_of listed = map (λ t. digest_key (dig t)) listed

  is-hit : (z x : List ℕ) → x ≡ z → digest_key (dig x) ≡ key → bytes_eq (digest_key (dig z)) key ≡ true
  is-hit z x here is = (bytes_eq-Decides (digest_key (dig z)) key).1 (ap (λ t. digest_key (dig t)) (sym here) ∙ is)

  -- a text more, of another key or the same
  more-hits : (z : List ℕ) (zs : List (List ℕ)) → hits key (keys_of (z ∷ zs)) ≡ cond (bytes_eq (digest_key (dig z)) key)
      1 0 + hits key (keys_of zs)
  more-hits z zs = hits-more key (digest_key (dig z)) (keys_of zs)

  one-more : (z : List ℕ) (zs : List (List ℕ)) → bytes_eq (digest_key (dig z)) key ≡ true → hits key (keys_of (z ∷ zs))
      ≡ 1 + hits key (keys_of zs)
  one-more z zs is = more-hits z zs ∙ ap (λ b. cond b 1 0 + hits key (keys_of zs)) is

  no-less : (z : List ℕ) (zs : List (List ℕ)) → hits key (keys_of zs) ≤ hits key (keys_of (z ∷ zs))
  no-less z zs = omega (arith, more-hits z zs)

  once : (listed : List (List ℕ)) (x : List ℕ) → Among x listed → digest_key (dig x) ≡ key
      → 1 ≤ hits key (keys_of listed)
  once [] x a is = absurd a
  once (z ∷ zs) x (inl here) is = omega (arith, one-more z zs (is-hit z x here is))
  once (z ∷ zs) x (inr there) is = let more : 1 ≤ hits key (keys_of zs) = once zs x there is in
      omega (arith, more, no-less z zs)

  -- two texts that differ, and have it
  twice : (listed : List (List ℕ)) (x y : List ℕ) → Among x listed → Among y listed → digest_key (dig x) ≡ key
      → digest_key (dig y) ≡ key → x ≢ y → 2 ≤ hits key (keys_of listed)
  twice [] x y a b is also differ = absurd a
  twice (z ∷ zs) x y (inl here) (inl there) is also differ = absurd (differ (here ∙ sym there))
  twice (z ∷ zs) x y (inl here) (inr b) is also differ =
      let more : 1 ≤ hits key (keys_of zs) = once zs y b also in omega (arith, more, one-more z zs (is-hit z x here is))
  twice (z ∷ zs) x y (inr a) (inl there) is also differ =
      let more : 1 ≤ hits key (keys_of zs) = once zs x a is in
      omega (arith, more, one-more z zs (is-hit z y there also))
  twice (z ∷ zs) x y (inr a) (inr b) is also differ =
      let more : 2 ≤ hits key (keys_of zs) = twice zs x y a b is also differ in omega (arith, more, no-less z zs)

-- the places of a key
record Place (key : List ℕ) (keys : List (List ℕ)) : Type 0 where
  at : ℕ
  inside : at < length keys
  is : get_or keys at [] ≡ key

record Places (key : List ℕ) (keys : List (List ℕ)) : Type 0 where
  one : ℕ
  other : ℕ
  order : one < other
  inside : other < length keys
  one_is : get_or keys one [] ≡ key
  other_is : get_or keys other [] ≡ key

-- a key that stands so often or more stands in front and less often behind, or so often behind
in_front : (key k : List ℕ) (keys : List (List ℕ)) (n : ℕ) → suc n ≤ hits key (k ∷ keys)
    → ((k ≡ key) × (n ≤ hits key keys)) ⊎ (suc n ≤ hits key keys)
in_front key k keys n some = by (bytes_eq k key) refl (subst (λ m. suc n ≤ m) (hits-more key k keys) some)
  where
    by : (b : Bool) → bytes_eq k key ≡ b → suc n ≤ cond b 1 0 + hits key keys
        → ((k ≡ key) × (n ≤ hits key keys)) ⊎ (suc n ≤ hits key keys)
    by true here some = inl ((bytes_eq-Decides k key).0 here, omega (arith, some))
    by false apart some = inr (omega (arith, some))

place-of : (key : List ℕ) (keys : List (List ℕ)) → 1 ≤ hits key keys → Place key keys
place-of key [] some = absurd (let none : 1 ≤ 0 = some in omega (arith, none))
place-of key (k ∷ keys) some =
    let rest : 1 ≤ hits key keys → Place key keys = place-of key keys in
    elim (in_front key k keys 0 some) [
      | inl here ↦ record { at = 0; inside = omega arith; is = here.0 }
      | inr more ↦ (let p : Place key keys = rest more in
          record { at = suc p.at; inside = (let inside = p.inside in omega (arith, inside)); is = p.is })
    ]

places-of : (key : List ℕ) (keys : List (List ℕ)) → 2 ≤ hits key keys → Places key keys
places-of key [] some = absurd (let none : 2 ≤ 0 = some in omega (arith, none))
places-of key (k ∷ keys) some =
    let rest : 2 ≤ hits key keys → Places key keys = places-of key keys in
    elim (in_front key k keys 1 some) [
      | inl here ↦ (let p : Place key keys = place-of key keys here.1 in
          record {
            one = 0;
            other = suc p.at;
            order = omega arith;
            inside = (let inside = p.inside in omega (arith, inside));
            one_is = here.0;
            other_is = p.is;
          })
      | inr more ↦ (let p : Places key keys = rest more in
          record {
            one = suc p.one;
            other = suc p.other;
            order = (let order = p.order in omega (arith, order));
            inside = (let inside = p.inside in omega (arith, inside));
            one_is = p.one_is;
            other_is = p.other_is;
          })
    ]

-- keys of which none is below the other are one
neither-below : (x y : List ℕ) → is_lt (slice_cmp nat_cmp x y) ≡ false → is_lt (slice_cmp nat_cmp y x) ≡ false → x ≡ y
neither-below x y one other = exact_bytes x y (by (slice_cmp nat_cmp x y) (slice_cmp nat_cmp y x) one other
    (nat_list_cmp_total.antisymm x y))
  where
    by : (o r : Ordering) → is_lt o ≡ false → is_lt r ≡ false → o ≡ ordering_reverse r → o ≡ Equal
    by o Less one other e = cc
    by o Equal one other e = e
    by o Greater one other e = absurd (let is : is_lt o ≡ true = ap is_lt e in let wrong : true ≡ false =
        sym is ∙ one in cc)

abbrev below : List ℕ → List ℕ → Bool
below x y = is_lt (slice_cmp nat_cmp x y)

-- of keys in their order: one that stands twice stands beside itself
beside : (keys : List (List ℕ)) → IsSorted (slice_cmp nat_cmp) keys → (found : BTreeSet (List ℕ))
    → ((i : ℕ) → i + 1 < length keys → get_or keys i [] ≡ get_or keys (i + 1) [] → contains (slice_cmp nat_cmp) found
    (get_or keys (i + 1) []) ≡ true)
    → (key : List ℕ) → Places key keys → contains (slice_cmp nat_cmp) found key ≡ true
beside keys sorted found neighbours key p =
    let order = p.order in
    let inside = p.inside in
    let before : ℕ = p.other - 1 in
    let next : before + 1 ≡ p.other = omega (arith, order) in
    let is_next : get_or keys (before + 1) [] ≡ key = ap (λ i. get_or keys i []) next ∙ p.other_is in
    let not_above : below (get_or keys before []) key ≡ false =
    ap (below (get_or keys before [])) (sym p.one_is) ∙ sorted_far below (ranks_by nat_list_cmp_total (λ k. k)) keys
    sorted p.one before [] (omega (arith, order)) (omega (arith, order, inside)) in
    let not_below : below key (get_or keys before []) ≡ false =
    ap (λ k. below k (get_or keys before [])) (sym is_next) ∙ sorted before [] (omega arith)
    (omega (arith, next, inside)) in
    let is_before : get_or keys before [] ≡ key = neither-below (get_or keys before []) key not_above not_below in
    ap (contains (slice_cmp nat_cmp) found) (sym is_next) ∙ neighbours before (omega (arith, next, inside))
    (is_before ∙ sym is_next)

-- the keys that stand beside themselves, once they are in their order, are those of all texts that clash
pub covers : (dig : List ℕ → List ℕ) (texts : List (List ℕ)) (k : Keys) (keys : List (List ℕ)) (r : Repeated)
    → HasKeys dig texts k → IsPermutation k.keys.items keys → IsSorted (slice_cmp nat_cmp) keys
    → ((i : ℕ) → i + 1 < length keys → get_or keys i [] ≡ get_or keys (i + 1) [] → contains (slice_cmp nat_cmp) r.keys
    (get_or keys (i + 1) []) ≡ true)
    → CoversClashes dig texts r
covers dig texts k keys r is moved sorted neighbours x y a b digest none =
    elim (same_or_other x y) [
      | inl same ↦ same
      | inr differ ↦ absurd (
          let key : List ℕ = digest_key (dig x) in
          let some : 2 ≤ hits key (keys_of dig key is.listed) = twice dig key is.listed x y (is.all x a) (is.all y b)
          refl (ap digest_key (sym digest)) differ in
          let count : hits key keys ≡ hits key (keys_of dig key is.listed) =
          sum_by-IsPermutation (λ n. cond (bytes_eq n key) 1 0) k.keys.items keys moved ∙ ap (hits key) is.keys in
          let there : contains (slice_cmp nat_cmp) r.keys key ≡ true = beside keys sorted r.keys neighbours key
          (places-of key keys (omega (arith, some, count))) in
          let wrong : true ≡ false = sym there ∙ none in cc)
    ]

-- without keys there is no text of one
pub none-among : (r : Repeated) → length r.keys.keys ≡ 0 → (digest : List ℕ) → is_among_keys r digest ≡ false
none-among r none digest = by r.keys.keys none
  where
    by : (keys : List (List ℕ)) → length keys ≡ 0 → contains (slice_cmp nat_cmp) (record { keys = keys })
        (digest_key digest) ≡ false
    by [] none = refl
    by (k ∷ keys) none = absurd (omega (arith, none))

-- more keys cover no less
pub covers-more : (dig : List ℕ → List ℕ) (texts : List (List ℕ)) (one other : Repeated)
    → ((k : List ℕ) → contains (slice_cmp nat_cmp) one.keys k ≡ true → contains (slice_cmp nat_cmp) other.keys k ≡ true)
    → CoversClashes dig texts one → CoversClashes dig texts other
covers-more dig texts one other within covered x y a b digest none = covered x y a b digest
    (by (is_among_keys one (dig x)) refl)
  where
    by : (c : Bool) → is_among_keys one (dig x) ≡ c → c ≡ false
    by true has = let there : is_among_keys other (dig x) ≡ true = within (digest_key (dig x)) has in
        let wrong : true ≡ false = sym there ∙ none in absurd cc
    by false has = refl

-- of fewer texts
pub covers-within : (dig : List ℕ → List ℕ) (texts all : List (List ℕ)) (r : Repeated) → Within texts all
    → CoversClashes dig all r → CoversClashes dig texts r
covers-within dig texts all r within covered x y a b digest none = covered x y (within x a) (within y b) digest none

inserted : (zs xs : List (List ℕ)) (x u : List ℕ) → Among u (zs ++ xs) → Among u (zs ++ x ∷ xs)
inserted [] xs x u a = inr a
inserted (z ∷ zs) xs x u (inl e) = inl e
inserted (z ∷ zs) xs x u (inr a) = inr (inserted zs xs x u a)

-- the same texts, the last ones first
pub turned-within : (xs ys : List (List ℕ)) → Within (xs ++ ys) (ys ++ xs)
turned-within [] ys t a = Among-left t ys [] a
turned-within (x ∷ xs) ys t (inl e) = Among-right t ys (x ∷ xs) (inl e)
turned-within (x ∷ xs) ys t (inr a) = inserted ys xs x t (turned-within xs ys t a)

-- the keys and what is known are as they were
pub keys-same : (dig : List ℕ → List ℕ) (texts : List (List ℕ)) (old new : Keys) → new.keys.items ≡ old.keys.items
    → new.known ≡ old.known → HasKeys dig texts old → HasKeys dig texts new
keys-same dig texts old new same known is = record {
  listed = is.listed;
  keys = same ∙ is.keys;
  all = is.all;
  known = λ key. subst (λ m. IfSome (get nat_cmp m key) (λ t. Among t is.listed)) (sym known) (is.known key);
}
