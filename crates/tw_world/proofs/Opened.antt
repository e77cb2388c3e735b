-- Services that are made or opened but for a fault of their disk.
use Rattle.std.proofs.Common.{◌≡◌, ◌⊎◌, ◌≤◌, [], length, refl, sym, subst, inl, inr, arith}
use Rattle.std.specs.Prelude.{Result, Ok, Err, IfErr, MatchResult, Some}
use Rattle.tw_disk.specs.Image.{Image}
use Rattle.tw_disk.specs.MemDisk.{mem_disk_view, pages_of}
use Rattle.tw_disk.specs.declared.limits.TheConstants.{FIRST_PAGE}
use Rattle.tw_disk.specs.declared.memory_disk.MemDisk.{MemDisk}
use Rattle.tw_pages.specs.Slots.{IsTaken}
use Rattle.tw_pages.specs.declared.open.StoreFault.{StoreFault}
use Rattle.tw_pages.specs.declared.open.StoreFault.TheVariants.{DiskFault, Taken}

pub opened-only : {T E : Type 0} (P : T → Type 0) (Q : E → Type 0) (result : Result T E) → MatchResult result P Q
    → IfErr result Q
opened-only P Q (Ok service) is = tt
opened-only P Q (Err fault) is = is

-- a new disk has no store
pub made-only : {T : Type 0} (disk : MemDisk) → pages_of disk ≡ [] → (result : Result T (MemDisk × StoreFault))
    → IfErr result (λ e. e.1 ≡ Taken → (c : Image) → (mem_disk_view disk).content ≡ Some c → IsTaken c)
    → IfErr result (λ e. (e.1 ≡ Taken) ⊎ (e.1 ≡ DiskFault))
    → IfErr result (λ e. e.1 ≡ DiskFault)
made-only disk none (Ok service) taken answers = tt
made-only disk none (Err e) taken answers = elim answers [
  | inl was ↦
      let there = taken was (pages_of disk) refl in
      absurd (subst (λ (image : Image). FIRST_PAGE ≤ length image → ⊥) (sym none) (λ four. omega (arith, four)) there.0)
  | inr fault ↦ fault
]
