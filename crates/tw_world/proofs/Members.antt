-- The services of a world by their names, and what one more or another one in its place changes.
use Rattle.std.proofs.Common.{◌≡◌, ◌≢◌, ◌⊎◌, ℕ, List, [], ◌∷◌, ◌++◌, Bool, true, false, refl, ap, sym, ◌∙◌, subst, inl}
use Rattle.std.proofs.Common.{inr}
use Rattle.std.specs.Prelude.{Option, Some, None, if◌then◌else◌}
use Rattle.std.specs.Str.{bytes_eq}
use Rattle.std.proofs.lemmas.Slice.Eq.{bytes_eq-Decides}
use Rattle.tw_base.specs.history.Family.{AllSound, HasHistory, history_of}
use Rattle.tw_base.specs.history.History.{History}
use Rattle.tw_base.specs.history.Sound.{IsSound}
use Rattle.tw_base.specs.kinds.Lists.{Each}
use Rattle.tw_base.proofs.lemmas.kinds.Clashes.{same_or_other}
use Rattle.tw_base.proofs.lemmas.kinds.ListLemmas.{Each-map}
use Rattle.tw_world.specs.Worlds.{Member, histories_of, member_of, put_member}

pub is_same : (xs : List ℕ) → bytes_eq xs xs ≡ true
is_same xs = (bytes_eq-Decides xs xs).1 refl

pub is_other : (xs ys : List ℕ) → xs ≢ ys → bytes_eq xs ys ≡ false
is_other xs ys other = by (bytes_eq xs ys) refl
  where
    by : (b : Bool) → bytes_eq xs ys ≡ b → bytes_eq xs ys ≡ false
    by true e = absurd (other ((bytes_eq-Decides xs ys).0 e))
    by false e = e

same_member : (m n : Member) → Some m ≡ Some n → m ≡ n
same_member m n e = cc

same_history : (h g : History) → Some h ≡ Some g → h ≡ g
same_history h g e = cc

-- ---- one of a name

-- the service that is found has the name
pub named : (members : List Member) (name : List ℕ) (m : Member) → member_of members name ≡ Some m
    → m.history.name ≡ name
named [] name m is = cc
named (n ∷ members) name m is = by (bytes_eq n.history.name name) refl is (λ q. named members name m q)
  where
    by : (b : Bool) → bytes_eq n.history.name name ≡ b → (if b then Some n else member_of members name) ≡ Some m
        → (member_of members name ≡ Some m → m.history.name ≡ name) → m.history.name ≡ name
    by true e is rest = ap (λ (x : Member). x.history.name) (sym (same_member n m is))
        ∙ (bytes_eq-Decides n.history.name name).0 e
    by false e is rest = rest is

-- it is one of them
pub each-member : (P : Member → Type 0) (members : List Member) (name : List ℕ) (m : Member) → Each P members
    → member_of members name ≡ Some m → P m
each-member P [] name m all is = cc
each-member P (n ∷ members) name m all is = by (bytes_eq n.history.name name) is
    (λ q. each-member P members name m all.1 q)
  where
    by : (b : Bool) → (if b then Some n else member_of members name) ≡ Some m → (member_of members name ≡ Some m → P m)
        → P m
    by true is rest = subst P (same_member n m is) all.0
    by false is rest = rest is

-- its history is the family's
pub has-history : (members : List Member) (name : List ℕ) (m : Member) → member_of members name ≡ Some m
    → HasHistory (histories_of members) name m.history
has-history [] name m is = cc
has-history (n ∷ members) name m is = by (bytes_eq n.history.name name) is (λ q. has-history members name m q)
  where
    by : (b : Bool) → (if b then Some n else member_of members name) ≡ Some m
        → (member_of members name ≡ Some m → HasHistory (histories_of members) name m.history)
        → (if b then Some n.history else history_of (histories_of members) name) ≡ Some m.history
    by true is rest = ap (λ (x : Member). Some x.history) (same_member n m is)
    by false is rest = rest is

-- and the family's histories are those of services
pub has-member : (members : List Member) (name : List ℕ) (h : History) → HasHistory (histories_of members) name h
    → (m : Member) × (member_of members name ≡ Some m) × (m.history ≡ h)
has-member [] name h is = cc
has-member (n ∷ members) name h is = by (bytes_eq n.history.name name) is (λ q. has-member members name h q)
  where
    by : (b : Bool) → (if b then Some n.history else history_of (histories_of members) name) ≡ Some h
        → (HasHistory (histories_of members) name h → (m : Member) × (member_of members name ≡ Some m)
        × (m.history ≡ h))
        → (m : Member) × ((if b then Some n else member_of members name) ≡ Some m) × (m.history ≡ h)
    by true is rest = (n, refl, same_history n.history h is)
    by false is rest = rest is

pub all-sound : (members : List Member) → Each (λ (m : Member). IsSound m.history) members
    → AllSound (histories_of members)
all-sound [] all = tt
all-sound (m ∷ members) all = (all.0, all-sound members all.1)

-- ---- one more

pub more-cases : (members : List Member) (one : Member) (name : List ℕ) (m : Member) → member_of (members ++ one ∷ [])
    name ≡ Some m
    → (member_of members name ≡ Some m) ⊎ (m ≡ one)
more-cases [] one name m is = by (bytes_eq one.history.name name) is
  where
    by : (b : Bool) → (if b then Some one else None) ≡ Some m → (member_of [] name ≡ Some m) ⊎ (m ≡ one)
    by true is = inr (sym (same_member one m is))
    by false is = cc
more-cases (n ∷ members) one name m is = by (bytes_eq n.history.name name) is (λ q. more-cases members one name m q)
  where
    by : (b : Bool) → (if b then Some n else member_of (members ++ one ∷ []) name) ≡ Some m
        → (member_of (members ++ one ∷ []) name ≡ Some m → (member_of members name ≡ Some m) ⊎ (m ≡ one))
        → ((if b then Some n else member_of members name) ≡ Some m) ⊎ (m ≡ one)
    by true is rest = inl is
    by false is rest = rest is

pub still-there : (members : List Member) (one : Member) (name : List ℕ) (m : Member) → member_of members name ≡ Some m
    → member_of (members ++ one ∷ []) name ≡ Some m
still-there [] one name m is = cc
still-there (n ∷ members) one name m is = by (bytes_eq n.history.name name) is (λ q. still-there members one name m q)
  where
    by : (b : Bool) → (if b then Some n else member_of members name) ≡ Some m
        → (member_of members name ≡ Some m → member_of (members ++ one ∷ []) name ≡ Some m)
        → (if b then Some n else member_of (members ++ one ∷ []) name) ≡ Some m
    by true is rest = is
    by false is rest = rest is

-- ---- one in place of another

pub put-each : (P : Member → Type 0) (members : List Member) (one : Member) → Each P members → P one
    → Each P (put_member members one)
put-each P [] one all is = tt
put-each P (n ∷ members) one all is = by (bytes_eq n.history.name one.history.name) (put-each P members one all.1 is)
  where
    by : (b : Bool) → Each P (put_member members one) → Each P (if b then one ∷ members else n ∷ put_member members one)
    by true rest = (is, all.1)
    by false rest = (all.0, rest)

-- it is found by its name, where there was one of this name
pub put-found : (members : List Member) (one m : Member) → member_of members one.history.name ≡ Some m
    → member_of (put_member members one) one.history.name ≡ Some one
put-found [] one m is = cc
put-found (n ∷ members) one m is = by (bytes_eq n.history.name one.history.name) refl is
    (λ q. put-found members one m q)
  where
    by : (b : Bool) → bytes_eq n.history.name one.history.name ≡ b
        → (if b then Some n else member_of members one.history.name) ≡ Some m
        → (member_of members one.history.name ≡ Some m → member_of (put_member members one) one.history.name ≡ Some one)
        → member_of (if b then one ∷ members else n ∷ put_member members one) one.history.name ≡ Some one
    by true e is rest = ap (λ (x : Bool). if x then Some one else member_of members one.history.name)
        (is_same one.history.name)
    by false e is rest = ap (λ (x : Bool). if x then Some n else member_of (put_member members one) one.history.name) e
        ∙ rest is

-- the others stay
pub put-other : (members : List Member) (one : Member) (name : List ℕ) → one.history.name ≢ name
    → member_of (put_member members one) name ≡ member_of members name
put-other [] one name other = refl
put-other (n ∷ members) one name other = by (bytes_eq n.history.name one.history.name) refl
    (put-other members one name other)
  where
    by : (b : Bool) → bytes_eq n.history.name one.history.name ≡ b → member_of (put_member members one) name ≡ member_of
        members name
        → member_of (if b then one ∷ members else n ∷ put_member members one) name ≡ (if bytes_eq n.history.name name
        then Some n else member_of members name)
    by true e rest =
        let one_name : n.history.name ≡ one.history.name = (bytes_eq-Decides n.history.name one.history.name).0 e in
        ap (λ (x : Bool). if x then Some one else member_of members name) (is_other one.history.name name other)
        ∙ sym (ap (λ (x : Bool). if x then Some n else member_of members name)
        (is_other n.history.name name (λ same. other (sym one_name ∙ same))))
    by false e rest = ap (λ (o : Option Member). if bytes_eq n.history.name name then Some n else o) rest

-- what is found afterwards: it, by its name, or one that was there, of another name
pub put-cases : (members : List Member) (one m k : Member) (name : List ℕ) → member_of members one.history.name ≡ Some m
    → member_of (put_member members one) name ≡ Some k
    → ((k ≡ one) × (name ≡ one.history.name)) ⊎ ((member_of members name ≡ Some k) × (one.history.name ≢ name))
put-cases members one m k name there is =
    elim (same_or_other one.history.name name) [
      | inl same ↦
          inl (
            same_member k one (sym is ∙ ap (λ n. member_of (put_member members one) n) (sym same) ∙ put-found members
                one m there),
            sym same,
          )
      | inr other ↦ inr (sym (put-other members one name other) ∙ is, other)
    ]

-- ---- no two of one name

abbrev pub AreDistinct : List Member → Type 0
AreDistinct [] = Unit {0}
AreDistinct (m ∷ members) = (member_of members m.history.name ≡ None) × AreDistinct members

-- one that isn't found stays unfound where another one is put, or comes behind
none-put : (members : List Member) (one : Member) (name : List ℕ) → one.history.name ≢ name → member_of members name
    ≡ None → member_of (put_member members one) name ≡ None
none-put members one name other none = put-other members one name other ∙ none

none-more : (members : List Member) (one : Member) (name : List ℕ) → one.history.name ≢ name → member_of members name
    ≡ None → member_of (members ++ one ∷ []) name ≡ None
none-more [] one name other none = ap (λ (b : Bool). if b then Some one else None)
    (is_other one.history.name name other)
none-more (n ∷ members) one name other none = by (bytes_eq n.history.name name) none
    (λ q. none-more members one name other q)
  where
    by : (b : Bool) → (if b then Some n else member_of members name) ≡ None
        → (member_of members name ≡ None → member_of (members ++ one ∷ []) name ≡ None)
        → (if b then Some n else member_of (members ++ one ∷ []) name) ≡ None
    by true none rest = cc
    by false none rest = rest none

differ : false ≡ true → ⊥
differ e = cc

-- what isn't found among some isn't the first of them
not-first : (n : Member) (members : List Member) (name : List ℕ) → member_of (n ∷ members) name ≡ None
    → (n.history.name ≢ name) × (member_of members name ≡ None)
not-first n members name none = by (bytes_eq n.history.name name) refl none
  where
    by : (b : Bool) → bytes_eq n.history.name name ≡ b → (if b then Some n else member_of members name) ≡ None
        → (n.history.name ≢ name) × (member_of members name ≡ None)
    by true e none = cc
    by false e none = ((λ same. differ (sym e ∙ (bytes_eq-Decides n.history.name name).1 same)), none)

pub distinct-put : (members : List Member) (one : Member) → AreDistinct members → AreDistinct (put_member members one)
distinct-put [] one all = tt
distinct-put (n ∷ members) one all = by (bytes_eq n.history.name one.history.name) refl (distinct-put members one all.1)
  where
    by : (b : Bool) → bytes_eq n.history.name one.history.name ≡ b → AreDistinct (put_member members one)
        → AreDistinct (if b then one ∷ members else n ∷ put_member members one)
    by true e rest =
        (ap (member_of members) (sym ((bytes_eq-Decides n.history.name one.history.name).0 e)) ∙ all.0, all.1)
    by false e rest = (
      none-put members one n.history.name
          (λ same. differ (sym e ∙ (bytes_eq-Decides n.history.name one.history.name).1 (sym same))) all.0,
      rest,
    )

pub distinct-more : (members : List Member) (one : Member) → member_of members one.history.name ≡ None
    → AreDistinct members → AreDistinct (members ++ one ∷ [])
distinct-more [] one none all = (refl, tt)
distinct-more (n ∷ members) one none all =
    let first = not-first n members one.history.name none in
    (none-more members one n.history.name (λ same. first.0 (sym same)) all.0, distinct-more members one first.1 all.1)

-- each is found by its name
pub each-found : (members : List Member) → AreDistinct members
    → Each (λ (m : Member). member_of members m.history.name ≡ Some m) members
each-found [] all = tt
each-found (n ∷ members) all = (
  first,
  Each-map (λ (m : Member). member_of members m.history.name ≡ Some m) (λ (m : Member). member_of (n ∷ members)
      m.history.name ≡ Some m) members later (each-found members all.1),
)
  where
    first : member_of (n ∷ members) n.history.name ≡ Some n
    first = ap (λ (b : Bool). if b then Some n else member_of members n.history.name) (is_same n.history.name)

    nobody : (m : Member) → None ≡ Some m → ⊥
    nobody m e = cc

    later : (m : Member) → member_of members m.history.name ≡ Some m → member_of (n ∷ members) m.history.name ≡ Some m
    later m is =
        ap (λ (b : Bool). if b then Some n else member_of members m.history.name)
        (is_other n.history.name m.history.name (λ same. nobody m (sym all.0 ∙ ap (member_of members) same ∙ is)))
        ∙ is
