-- Disks in memory that stand for histories for good.
use Rattle.std.proofs.Common.{◌≡◌, ◌⊎◌, List, ℕ, Some, ap, sym, ◌∙◌, subst, inl, inr}
use Rattle.sha2.specs.Sha256.{sha256}
use Rattle.tw_base.specs.history.History.{History}
use Rattle.tw_disk.specs.Disk.{IsAtRest}
use Rattle.tw_disk.specs.Image.{Image}
use Rattle.tw_disk.specs.KeptCalls.{written_of}
use Rattle.tw_disk.specs.MemDisk.{IsSameMemDisk, mem_disk_view, pages_of}
use Rattle.tw_disk.specs.Model.{IsImage}
use Rattle.tw_disk.specs.declared.memory_disk.MemDisk.{MemDisk}
use Rattle.tw_service.specs.Stands.{IsImageOfHistory, StandsFor}
use Rattle.tw_world.specs.Hosts.{StandsForGood}

-- a disk that holds and may leave the same
pub stands-same : (old new : MemDisk) (h : History) → IsSameMemDisk old new → StandsForGood old h → StandsForGood new h
stands-same old new h same stands = record {
  image = stands.image;
  told = ap Some same.pages ∙ stands.told;
  only = λ c may. stands.only c (subst (λ pages. IsImage (written_of old.calls.items pages) c) same.pages
      (subst (λ calls. IsImage (written_of calls new.pages.items) c) same.calls may));
  has = stands.has;
}

-- what is left by a crash is one of what it might leave
pub stands-left : (disk : MemDisk) (may_leave : Image → Type 0) (one other : History) → IsAtRest (mem_disk_view disk)
    may_leave
    → ((c : Image) → may_leave c → IsImageOfHistory sha256 one c ⊎ IsImageOfHistory sha256 other c) → StandsForGood disk one ⊎ StandsForGood disk
    other
stands-left disk may_leave one other rest all =
    elim (all rest.image rest.has) [
      | inl s ↦ inl (record { image = rest.image; told = rest.told; only = rest.only; has = s })
      | inr s ↦ inr (record { image = rest.image; told = rest.told; only = rest.only; has = s })
    ]

-- whatever a crash may leave of a disk that stands for a history for good stands for it
pub stands-each : (disk : MemDisk) (h : History) → StandsForGood disk h → (c : Image) → (mem_disk_view disk).may_leave c
    → IsImageOfHistory sha256 h c
stands-each disk h stands c may = subst (IsImageOfHistory sha256 h) (sym (stands.only c may)) stands.has

-- a disk that was closed
pub stands-closed : (disk : MemDisk) (name : List ℕ) (h : History) → IsAtRest (mem_disk_view disk)
    (λ i. StandsFor sha256 i name h) → StandsForGood disk h
stands-closed disk name h rest = record {
  image = rest.image;
  told = rest.told;
  only = rest.only;
  has = subst (λ n. StandsFor sha256 rest.image n h) (sym rest.has.named) rest.has;
}

-- so is what is left by a crash of such a disk
pub stands-left_one : (old new : MemDisk) (h : History) → IsAtRest (mem_disk_view new) (mem_disk_view old).may_leave
    → StandsForGood old h → StandsForGood new h
stands-left_one old new h rest stands =
    record {
      image = rest.image;
      told = rest.told;
      only = rest.only;
      has = stands-each old h stands rest.image rest.has;
    }

pub same-image : (one other : Image) → Some one ≡ Some other → one ≡ other
same-image one other is = cc

-- and it holds the same pages
pub pages-left : (old new : MemDisk) (h : History) → IsAtRest (mem_disk_view new) (mem_disk_view old).may_leave
    → StandsForGood old h → pages_of new ≡ pages_of old
pages-left old new h rest stands =
    same-image (pages_of new) rest.image rest.told ∙ stands.only rest.image rest.has
    ∙ sym (same-image (pages_of old) stands.image stands.told)
