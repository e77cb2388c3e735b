-- An image that opens isn't refused, and one that is refused is refused for one reason.
use Rattle.std.proofs.Common.{Bool, true, false, ◌≡◌, inl, inr, ⊎_elim, ℕ, ◌+◌, ◌<◌, List, length, get_or, sym, ◌∙◌, ap}
use Rattle.std.proofs.Common.{subst, refl, arith}
use Rattle.std.proofs.lemmas.Bool.{cases_eq}
use Rattle.tw_disk.specs.Image.{Image, page_at}
use Rattle.tw_pages.specs.Store.{Opening, OpensAs, IsBody, used_of, spare_of}
use Rattle.tw_pages.specs.InitSteps.{IsUnmade}
use Rattle.tw_pages.specs.Slots.{IsOpen, IsBlank, IsTaken, IsRefusedFor, BreaksSlot, FailsFirst, HasOneGeneration}
use Rattle.tw_pages.specs.declared.open.StoreFault.{StoreFault}
use Rattle.tw_pages.specs.declared.open.StoreFault.TheVariants.{Taken, Blank, NotAStore, DiskFault, NoMemory}
use Rattle.tw_pages.proofs.Once.{same_generation}

module _ (o : Opening) (c : Image) (opens : OpensAs o c) where
  open_gate : (slot : ℕ) → slot ≡ o.slot → IsOpen slot c
  open_gate slot e = ap (λ (k : ℕ). get_or (page_at c k) 0 0) e ∙ opens.stands.gate

  low : o.slot < 2
  low = opens.stands.which

  -- the body behind an open gate
  body_behind : (slot : ℕ) → slot < 2 → BreaksSlot (length c) slot c → ⊥
  body_behind slot l broken = elim (cases_eq slot o.slot) [
    | inl is ↦ (let P : ℕ → Type 0 = λ k. IsBody (length c) (page_at c (2 + k)) o.generation (used_of o) o.root in
        broken.no_body _ _ _ (subst P (sym is) opens.stands.body))
    | inr ne ↦
        let s : slot ≡ spare_of o = omega (arith, l, low, ne) in
        ⊎_elim
        (λ closed. closed (ap (λ (k : ℕ). get_or (page_at c k) 0 0) (sym s) ∙ broken.gate))
        (λ older. let P : ℕ → Type 0 = λ k. IsBody (length c) (page_at c (2 + k)) older.generation older.used
        older.root in broken.no_body _ _ _ (subst P (sym s) older.body)) opens.counts
  ]

  -- two open gates over bodies of one generation
  at_odds : (slot spare generation used used' : ℕ) (root root' : List ℕ) → o.slot ≡ slot → spare_of o ≡ spare
      → IsOpen spare c → IsBody (length c) (page_at c (2 + slot)) generation used root
      → IsBody (length c) (page_at c (2 + spare)) generation used' root' → ⊥
  at_odds slot spare generation used used' root root' is s gate first second =
      ⊎_elim
      (λ closed. closed (ap (λ (k : ℕ). get_or (page_at c k) 0 0) s ∙ gate))
      (λ older.
      let P : ℕ → Type 0 = λ k. IsBody (length c) (page_at c (2 + k)) o.generation (used_of o) o.root in
      let Q : ℕ → Type 0 = λ k. IsBody (length c) (page_at c (2 + k)) older.generation older.used older.root in
      let here = same_generation _ _ _ _ _ _ _ _ (subst P is opens.stands.body) first in
      let there = same_generation _ _ _ _ _ _ _ _ (subst Q s older.body) second in
      omega (arith, here, there, older.lower)) opens.counts

  both_open : HasOneGeneration c → ⊥
  both_open one = elim (cases_eq o.slot 0) [
    | inl is ↦ at_odds 0 1 _ _ _ _ _ is (omega (arith, is)) one.gate_second one.first one.second
    | inr ne ↦ at_odds 1 0 _ _ _ _ _ (omega (arith, low, ne)) (omega (arith, low, ne)) one.gate_first one.second
        one.first
  ]

  not_blank : IsBlank c → ⊥
  not_blank (inl short) = let room = opens.stands.room in absurd (omega arith)
  not_blank (inr closed) = elim (cases_eq o.slot 0) [
    | inl is ↦ closed.0 (open_gate 0 (sym is))
    | inr ne ↦ (let one : 1 ≡ o.slot = omega (arith, low, ne) in closed.1 (open_gate 1 one))
  ]

  -- an image that opens is never refused
  pub not_refused : (fault : StoreFault) → IsRefusedFor c fault → ⊥
  not_refused Blank refused = not_blank refused
  not_refused (NotAStore slot) refused = ⊎_elim (λ first. body_behind 0 (omega arith) first.1)
      (λ second. ⊎_elim (λ broken. body_behind 1 (omega arith) broken) both_open second.2) refused.1
  not_refused Taken refused = refused
  not_refused DiskFault refused = refused
  not_refused NoMemory refused = refused

module _ (c : Image) where
  -- where a slot fails, a gate reads open on at least four pages
  fails_taken : (slot : ℕ) → IsRefusedFor c (NotAStore slot) → IsTaken c
  fails_taken slot refused = (
    refused.0,
    ⊎_elim (λ first. inl first.1.gate) (λ second. ⊎_elim (λ broken. inr broken.gate) (λ one. inl one.gate_first)
        second.2) refused.1,
  )

  -- what is taken isn't blank
  pub taken_blank : IsTaken c → IsBlank c → ⊥
  taken_blank taken (inl short) = let four = taken.0 in absurd (omega arith)
  taken_blank taken (inr closed) = ⊎_elim closed.0 closed.1 taken.1

  one_slot : (slot slot' : ℕ) → FailsFirst slot c → FailsFirst slot' c → slot ≡ slot'
  one_slot slot slot' (inl first) (inl first') = first.0 ∙ sym first'.0
  one_slot slot slot' (inl first) (inr second) = absurd (second.1 first.1)
  one_slot slot slot' (inr second) (inl first) = absurd (second.1 first.1)
  one_slot slot slot' (inr second) (inr second') = second.0 ∙ sym second'.0

  -- an image is refused for one reason at most
  pub refused_once : (fault fault' : StoreFault) → IsRefusedFor c fault → IsRefusedFor c fault' → fault ≡ fault'
  refused_once Blank Blank is is' = refl
  refused_once Blank (NotAStore slot) is is' = absurd (taken_blank (fails_taken slot is') is)
  refused_once (NotAStore slot) Blank is is' = absurd (taken_blank (fails_taken slot is) is')
  refused_once (NotAStore slot) (NotAStore slot') is is' = ap (λ (k : ℕ). NotAStore k) (one_slot slot slot' is.1 is'.1)
  refused_once Blank Taken is is' = absurd is'
  refused_once Blank DiskFault is is' = absurd is'
  refused_once Blank NoMemory is is' = absurd is'
  refused_once (NotAStore slot) Taken is is' = absurd is'
  refused_once (NotAStore slot) DiskFault is is' = absurd is'
  refused_once (NotAStore slot) NoMemory is is' = absurd is'
  refused_once Taken fault is is' = absurd is
  refused_once DiskFault fault is is' = absurd is
  refused_once NoMemory fault is is' = absurd is

-- where a store is to be made, nothing is taken
pub unmade_free : (short : Bool) (c : Image) → IsUnmade short c → IsTaken c → ⊥
unmade_free true c unmade taken = let four = taken.0 in absurd (omega arith)
unmade_free false c unmade taken = ⊎_elim unmade.first unmade.second taken.1
