-- The disks of what was played are those of the histories.
use Rattle.std.proofs.Common.{◌≡◌, ℕ, suc, zero, ◌+◌, ◌<◌, List, [], ◌∷◌, length, map, get_or, refl, ap, sym, ◌∙◌}
use Rattle.std.proofs.Common.{subst, arith}
use Rattle.std.specs.Cmp.Lexicographic.{slice_cmp}
use Rattle.std.specs.List.Sorted.{IsPermutation, IsSorted, IsSortedByKey}
use Rattle.std.specs.Ordering.{is_lt, nat_cmp}
use Rattle.std.proofs.lemmas.List.{get_or-map, length-map}
use Rattle.std.proofs.lemmas.List.Sorted.{All-permutation, IsPermutation-map}
use Rattle.sha2.specs.Sha256.{sha256}
use Rattle.tw_base.specs.history.Family.{HasHistory}
use Rattle.tw_base.specs.history.History.{History}
use Rattle.tw_base.specs.kinds.Lists.{Each, In}
use Rattle.tw_base.proofs.lemmas.kinds.ListLemmas.{Each-map}
use Rattle.tw_script.specs.declared.line.Line.{Line}
use Rattle.tw_world.specs.Hosts.{StandsForGood, claims_none}
use Rattle.tw_world.specs.PlayedLines.{AreHostDisks, host_disk}
use Rattle.tw_world.specs.Players.{AreHostsOf}
use Rattle.tw_world.specs.Playing.{AreDisksOf}
use Rattle.tw_world.specs.Runs.{IsMember, RunsLines}
use Rattle.tw_world.specs.Worlds.{Member, World, family, histories_of, no_world}
use Rattle.tw_world.specs.declared.host.Host.{Host}
use Rattle.tw_world.specs.declared.replaying.WorldDisk.{WorldDisk}
use Rattle.tw_world.specs.declared.told.Told.{Told}
use Rattle.tw_world.proofs.Leading.{names-found}
use Rattle.tw_world.proofs.LineSteps.{reached-good}
use Rattle.tw_world.proofs.Members.{has-history}
use Rattle.tw_world.proofs.PlayedTexts.{AreCounted}

abbrev name_of : Host → List ℕ
name_of host = host.name

-- ---- services and histories

pub hosts-counted : (hosts : List Host) (members : List Member) → AreHostsOf hosts members
    → AreCounted hosts (histories_of members)
hosts-counted [] [] are = tt
hosts-counted [] (m ∷ members) are = absurd are
hosts-counted (host ∷ hosts) [] are = absurd are
hosts-counted (host ∷ hosts) (m ∷ members) are =
    (are.0.holds.named, are.0.holds.counted, hosts-counted hosts members are.1)

hosts-named : (hosts : List Host) (members : List Member) → AreHostsOf hosts members → map name_of hosts ≡ map
    (λ (h : History). h.name) (histories_of members)
hosts-named [] [] are = refl
hosts-named [] (m ∷ members) are = absurd are
hosts-named (host ∷ hosts) [] are = absurd are
hosts-named (host ∷ hosts) (m ∷ members) are =
    ap (λ (name : List ℕ). name ∷ map name_of hosts) are.0.holds.named
    ∙ ap (λ (names : List (List ℕ)). m.history.name ∷ names) (hosts-named hosts members are.1)

module _ (fam : List History) where
  -- the family has a history of the name, for which the disk stands for good
  abbrev Stands : WorldDisk → Type 0
  Stands d = (h : History) × HasHistory fam d.name h × StandsForGood d.disk h

  hosts-stand : (hosts : List Host) (members : List Member) → AreHostsOf hosts members
      → Each (λ (m : Member). HasHistory fam m.history.name m.history) members
      → Each (λ (host : Host). Stands (host_disk host)) hosts
  hosts-stand [] members are found = tt
  hosts-stand (host ∷ hosts) [] are found = absurd are
  hosts-stand (host ∷ hosts) (m ∷ members) are found = (
    (
      m.history,
      subst (λ (name : List ℕ). HasHistory fam name m.history) (sym are.0.holds.named) found.0,
      are.0.holds.stands,
    ),
    hosts-stand hosts members are.1 found.1,
  )

-- ---- lists

module _ {X : Type 0} (P : X → Type 0) where
  each-get : (xs : List X) → Each P xs → (k : ℕ) (d : X) → k < length xs → P (get_or xs k d)
  each-get [] all k d within = absurd (omega (arith, within))
  each-get (x ∷ xs) all zero d within = all.0
  each-get (x ∷ xs) all (suc k) d within = each-get xs all.1 k d (omega (arith, within))

  get-each : (xs : List X) → ((k : ℕ) (d : X) → k < length xs → P (get_or xs k d)) → Each P xs
  get-each [] all = tt
  get-each (x ∷ xs) all = (all 0 x (omega arith), get-each xs (λ k d within. all (suc k) d (omega (arith, within))))

  -- in another order
  each-moved : (xs ys : List X) → IsPermutation xs ys → Each P xs → Each P ys
  each-moved xs ys moved all = get-each ys (All-permutation P xs ys moved (each-get xs all))

  each-image : {Y : Type 0} (f : Y → X) (ys : List Y) → Each (λ (y : Y). P (f y)) ys → Each P (map f ys)
  each-image f [] all = tt
  each-image f (y ∷ ys) all = (all.0, each-image f ys all.1)

-- names of services in order
names-sorted : (hosts : List Host) → IsSortedByKey name_of (slice_cmp nat_cmp) hosts → IsSorted (slice_cmp nat_cmp)
    (map name_of hosts)
names-sorted [] sorted = λ k d low high. absurd (omega (arith, high))
names-sorted (host ∷ hosts) sorted = λ k d low high.
    let size = length-map (host ∷ hosts) name_of in
    let later : k + 1 < length (host ∷ hosts) = omega (arith, high, size) in
    ap (λ (name : List ℕ). is_lt (slice_cmp nat_cmp name (get_or (map name_of (host ∷ hosts)) k d)))
    (get_or-map name_of (host ∷ hosts) (k + 1) host d later)
    ∙ ap (λ (name : List ℕ). is_lt (slice_cmp nat_cmp (get_or (host ∷ hosts) (k + 1) host).name name))
    (get_or-map name_of (host ∷ hosts) k host d (omega (arith, later)))
    ∙ sorted k host low later

disks-named : (hosts : List Host) → map (λ (d : WorldDisk). d.name) (map host_disk hosts) ≡ map name_of hosts
disks-named [] = refl
disks-named (host ∷ hosts) = ap (λ (names : List (List ℕ)). host.name ∷ names) (disks-named hosts)

-- ---- the disks

pub disks-are : (members : List Member) (hosts : List Host) (disks : List WorldDisk) → AreHostsOf hosts members
    → Each (λ (m : Member). HasHistory (histories_of members) m.history.name m.history) members
    → AreHostDisks hosts disks → AreDisksOf (histories_of members) disks
disks-are members hosts disks are found (sorted, from, is) =
    subst (AreDisksOf (histories_of members)) (sym is) (record {
      one_each =
          subst (λ (names : List (List ℕ)). IsPermutation (map (λ (h : History). h.name) (histories_of members)) names)
          (sym (disks-named sorted))
          (subst (λ (names : List (List ℕ)). IsPermutation names (map name_of sorted)) (hosts-named hosts members are)
          (IsPermutation-map name_of hosts sorted from.moved));
      in_order = subst (IsSorted (slice_cmp nat_cmp)) (sym (disks-named sorted)) (names-sorted sorted from.in_order);
      stand =
          each-image (Stands (histories_of members)) host_disk sorted
          (each-moved (λ (host : Host). Stands (histories_of members) (host_disk host)) hosts sorted from.moved
          (hosts-stand (histories_of members) hosts members are found));
    })

-- where a run leads, each service's history is the one of its name
pub own-histories : (lines : List Line) (told : List Told) (end : World) → RunsLines sha256 claims_none no_world lines
    told end
    → Each (λ (m : Member). HasHistory (family end) m.history.name m.history) end.members
own-histories lines told end runs =
    Each-map (λ (m : Member). IsMember end m.history.name m × (In m.history.name end.hostile → ⊥))
    (λ (m : Member). HasHistory (family end) m.history.name m.history) end.members
    (λ m is. has-history end.members m.history.name m is.0)
    (names-found sha256 end (reached-good sha256 claims_none end (lines, told, runs)))
