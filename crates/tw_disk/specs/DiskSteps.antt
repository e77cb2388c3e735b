-- Disks that tell no content, and views that hold the same. These lemmas stand in specs/ since the laws of an impl cite them.
use Rattle.std.specs.Prelude.{◌≡◌, None, Some, Option}
use Rattle.std.proofs.Common.{◌∙◌, refl, arith}
use Rattle.tw_disk.specs.Disk.{DiskView, IsSameDisk}
use Rattle.tw_disk.specs.Image.{Image}

-- where nothing is told, whatever follows from what is told holds
pub no_content : (c : Image) (P : Type 0) → (let none : Option Image = None in none ≡ Some c) → P
no_content c P is = cc

pub same_disk : (disk : DiskView) → IsSameDisk disk disk
same_disk disk = record { content = refl; images = λ c. (λ left. left, λ left. left); later = omega arith; images_since = λ t c le. (λ left. left, λ left. left) }

pub same_disk_on : (old mid new : DiskView) → IsSameDisk old mid → IsSameDisk mid new → IsSameDisk old new
same_disk_on old mid new first second = record {
  content = second.content ∙ first.content;
  images = λ c. (λ left. (first.images c).0 ((second.images c).0 left), λ left. (second.images c).1 ((first.images c).1 left));
  later = omega (arith, first.later, second.later);
  images_since = λ t c le. (
    λ left. (first.images_since t c le).0 ((second.images_since t c (omega (arith, le, first.later))).0 left),
    λ left. (second.images_since t c (omega (arith, le, first.later))).1 ((first.images_since t c le).1 left),
  );
}
