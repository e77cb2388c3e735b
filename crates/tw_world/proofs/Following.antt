-- Services that are played, and the members of a world that they are.
use Rattle.std.proofs.Common.{◌≡◌, ℕ, suc, zero, ◌+◌, ◌<◌, List, [], ◌∷◌, ◌++◌, length, drop, get_or, refl, ap, sym}
use Rattle.std.proofs.Common.{◌∙◌, subst, Bool, true, false, add-one, arith}
use Rattle.std.specs.Prelude.{IsSome, Some, None, slice_get, slice_set, if◌then◌else◌}
use Rattle.std.specs.Str.{bytes_eq}
use Rattle.std.proofs.Math.Seq.{drop-cons}
use Rattle.std.proofs.lemmas.Slice.Eq.{bytes_eq-Decides}
use Rattle.tw_world.specs.OnDisks.{IsFirst}
use Rattle.tw_world.specs.Players.{AreHostsOf, IsHostOf}
use Rattle.tw_world.specs.Worlds.{Member, member_of, put_member}
use Rattle.tw_world.specs.declared.host.Host.{Host}
use Rattle.tw_world.proofs.Members.{is_same}

same-host : (one other : Host) → Some one ≡ Some other → one ≡ other
same-host one other e = cc

-- the member that the service of a name is
pub record Found (host : Host) (members : List Member) (name : List ℕ) : Type 0 where
  pub member : Member
  pub there : member_of members name ≡ Some member
  pub is : IsHostOf host member

found-first : (b : Bool) (one : Member) (members : List Member) (name : List ℕ) (m : Member) → b ≡ true → m ≡ one
    → (if b then Some one else member_of members name) ≡ Some m
found-first true one members name m e is = ap Some (sym is)
found-first false one members name m e is = cc

found-later : (b : Bool) (one : Member) (members : List Member) (name : List ℕ) (m : Member) → b ≡ false
    → member_of members name ≡ Some m → (if b then Some one else member_of members name) ≡ Some m
found-later true one members name m e is = cc
found-later false one members name m e is = is

pub find-member : (hosts : List Host) (members : List Member) (name : List ℕ) (at : ℕ) (host : Host)
    → AreHostsOf hosts members → IsFirst hosts name at → slice_get hosts at ≡ Some host
    → Found host members name
find-member [] members name at host are first there = absurd first
find-member (x ∷ hosts) [] name at host are first there = absurd are
find-member (x ∷ hosts) (m ∷ members) name zero host are first there =
    let own : x.name ≡ name = first in
    let same : m.history.name ≡ name = sym are.0.holds.named ∙ own in
    let test : bytes_eq m.history.name name ≡ true = ap (λ n. bytes_eq n name) same ∙ is_same name in
    record {
      member = m;
      there = found-first (bytes_eq m.history.name name) m members name m test refl;
      is = subst (λ (y : Host). IsHostOf y m) (same-host x host there) are.0;
    }
find-member (x ∷ hosts) (m ∷ members) name (suc at) host are first there =
    let rest = find-member hosts members name at host are.1 first.1 there in
    let test : bytes_eq m.history.name name ≡ false = ap (λ n. bytes_eq n name) (sym are.0.holds.named) ∙ first.0 in
    record {
      member = rest.member;
      there = found-later (bytes_eq m.history.name name) m members name rest.member test rest.there;
      is = rest.is;
    }

-- the service in another state is the member in its place
pub put-host : (hosts : List Host) (members : List Member) (name : List ℕ) (at : ℕ) (new : Host) (n : Member)
    → AreHostsOf hosts members → IsFirst hosts name at
    → IsHostOf new n → n.history.name ≡ name → AreHostsOf (slice_set hosts at new) (put_member members n)
put-host [] members name at new n are first is named = absurd first
put-host (x ∷ hosts) [] name at new n are first is named = absurd are
put-host (x ∷ hosts) (m ∷ members) name zero new n are first is named =
    let own : x.name ≡ name = first in
    let test : bytes_eq m.history.name n.history.name ≡ true =
    ap (λ k. bytes_eq k n.history.name) (sym are.0.holds.named ∙ own ∙ sym named) ∙ is_same n.history.name in
    subst (λ (b : Bool). AreHostsOf (new ∷ hosts) (if b then n ∷ members else m ∷ put_member members n)) (sym test)
    (is, are.1)
put-host (x ∷ hosts) (m ∷ members) name (suc at) new n are first is named =
    let test : bytes_eq m.history.name n.history.name ≡ false =
    ap (λ k. bytes_eq k n.history.name) (sym are.0.holds.named) ∙ ap (bytes_eq x.name) named ∙ first.0 in
    subst (λ (b : Bool). AreHostsOf (x ∷ slice_set hosts at new) (if b then n ∷ members else m ∷ put_member members n))
    (sym test)
    (are.0, put-host hosts members name at new n are.1 first.1 is named)

-- one service more
pub add-host : (hosts : List Host) (members : List Member) (new : Host) (n : Member) → AreHostsOf hosts members
    → IsHostOf new n → AreHostsOf (hosts ++ new ∷ []) (members ++ n ∷ [])
add-host [] [] new n are is = (is, tt)
add-host [] (m ∷ members) new n are is = absurd are
add-host (x ∷ hosts) [] new n are is = absurd are
add-host (x ∷ hosts) (m ∷ members) new n are is = (are.0, add-host hosts members new n are.1 is)

-- the service in another state that is the same member too
pub keep-host : (hosts : List Host) (members : List Member) (at : ℕ) (host new : Host) → AreHostsOf hosts members
    → slice_get hosts at ≡ Some host
    → ((m : Member) → IsHostOf host m → IsHostOf new m) → AreHostsOf (slice_set hosts at new) members
keep-host [] members at host new are there to = absurd (not-there there)
  where
    not-there : None ≡ Some host → ⊥
    not-there e = cc
keep-host (x ∷ hosts) [] at host new are there to = absurd are
keep-host (x ∷ hosts) (m ∷ members) zero host new are there to =
    (to m (subst (λ (y : Host). IsHostOf y m) (same-host x host there) are.0), are.1)
keep-host (x ∷ hosts) (m ∷ members) (suc at) host new are there to =
    (are.0, keep-host hosts members at host new are.1 there to)

-- where no service has the name so far, the first one does that is found among those behind
pub first-later : (hosts : List Host) (name : List ℕ) (i : ℕ) (d : Host) → i < length hosts
    → bytes_eq (get_or hosts i d).name name ≡ false
    → ((k : ℕ) → IsFirst (drop i hosts) name k → IsFirst hosts name (i + k)) → (k : ℕ) → IsFirst (drop (i + 1) hosts)
    name k → IsFirst hosts name (i + 1 + k)
first-later hosts name i d within other before k first =
    let split : drop i hosts ≡ get_or hosts i d ∷ drop (i + 1) hosts =
    drop-cons hosts i d within ∙ ap (λ j. get_or hosts i d ∷ drop j hosts) (sym (add-one i)) in
    subst (IsFirst hosts name) (omega arith)
    (before (suc k) (subst (λ (hs : List Host). IsFirst hs name (suc k)) (sym split) (other, first)))

pub first-here : (hosts : List Host) (name : List ℕ) (i : ℕ) (d : Host) → i < length hosts → (get_or hosts i d).name
    ≡ name
    → ((k : ℕ) → IsFirst (drop i hosts) name k → IsFirst hosts name (i + k)) → IsFirst hosts name i
first-here hosts name i d within same before =
    subst (IsFirst hosts name) (omega arith)
    (before zero (subst (λ (hs : List Host). IsFirst hs name zero) (sym (drop-cons hosts i d within)) same))

-- a service that a world has stands somewhere
pub first-of : (hosts : List Host) (members : List Member) (name : List ℕ) → AreHostsOf hosts members
    → IsSome (member_of members name) → (k : ℕ) × IsFirst hosts name k
first-of [] [] name are some = cc
first-of [] (m ∷ members) name are some = absurd are
first-of (x ∷ hosts) [] name are some = absurd are
first-of (x ∷ hosts) (m ∷ members) name are some = by (bytes_eq x.name name) refl (first-of hosts members name are.1)
  where
    by : (b : Bool) → bytes_eq x.name name ≡ b → (IsSome (member_of members name) → (k : ℕ) × IsFirst hosts name k)
        → (k : ℕ) × IsFirst (x ∷ hosts) name k
    by true is rest = (zero, (bytes_eq-Decides x.name name).0 is)
    by false is rest =
        let other : bytes_eq m.history.name name ≡ false = ap (λ n. bytes_eq n name) (sym are.0.holds.named) ∙ is in
        let later = rest (subst (λ (b : Bool). IsSome (if b then Some m else member_of members name)) other some) in
        (suc later.0, (is, later.1))

-- among the services from a place on there is one of the name, and it isn't the first
pub first-behind : (hosts : List Host) (name : List ℕ) (i : ℕ) (d : Host) → i < length hosts
    → bytes_eq (get_or hosts i d).name name ≡ false
    → (k : ℕ) × IsFirst (drop i hosts) name k → (k : ℕ) × IsFirst (drop (i + 1) hosts) name k
first-behind hosts name i d within other there =
    let split : drop i hosts ≡ get_or hosts i d ∷ drop (i + 1) hosts =
    drop-cons hosts i d within ∙ ap (λ j. get_or hosts i d ∷ drop j hosts) (sym (add-one i)) in
    by there.0 (subst (λ (hs : List Host). IsFirst hs name there.0) split there.1)
  where
    by : (k : ℕ) → IsFirst (get_or hosts i d ∷ drop (i + 1) hosts) name k → (j : ℕ) × IsFirst (drop (i + 1) hosts)
        name j
    by zero same = let yes : bytes_eq (get_or hosts i d).name name ≡ true =
        (bytes_eq-Decides (get_or hosts i d).name name).1 same in cc
    by (suc k) first = (k, first.1)
