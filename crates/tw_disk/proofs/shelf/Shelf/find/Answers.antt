use Rattle.std.proofs.Common.{◌≡◌, Option, nat_eq, subst, sym}
use Rattle.std.specs.Global.{Box}
use Rattle.lru.specs.LruCache.{LruCache}
use Rattle.std.proofs.Common.{ℕ}
use Rattle.tw_disk.specs.Image.{Image, Page}
use Rattle.tw_disk.specs.Keeping.{ArePagesOf}
use Rattle.tw_disk.specs.Shelves.{shelf_entries}
use Rattle.tw_disk.proofs.KeepingLaws.{AreOf-lookup, AreOf-used}
use Rattle.tw_disk.proofs.shelf.Shelf.find.Goals as goal

-- those of the room that is there
there : (list : Option Image) (one other : Option (LruCache ℕ (Box Page))) → one ≡ other
    → ArePagesOf list (shelf_entries one) → ArePagesOf list (shelf_entries other)
there list one other is are = subst (λ (o : Option (LruCache ℕ (Box Page))). ArePagesOf list (shelf_entries o)) is are

pub returns-in-Some-get-clause-page : goal.returns-in-Some-get-clause-page
returns-in-Some-get-clause-page c = λ found list pages are told.
    rw c.deref.ensures (AreOf-lookup list c.in-Some.kept.entries c.args.page c.in-Some-get.found.now
    (there list _ _ c.in-Some.is are) (sym c.in-Some-get.ensures.value) pages told)

pub returns-in-Some-get-clause-right : goal.returns-in-Some-get-clause-right
returns-in-Some-get-clause-right c = λ list are. AreOf-used list c.in-Some.kept _ (nat_eq c.args.page)
    (there list _ _ c.in-Some.is are) c.get.follows.holds-at-none

pub returns-in-None-get-clause-right : goal.returns-in-None-get-clause-right
returns-in-None-get-clause-right c = λ list are. AreOf-used list c.in-Some.kept _ (nat_eq c.args.page)
    (there list _ _ c.in-Some.is are) c.get.follows.holds-at-none
