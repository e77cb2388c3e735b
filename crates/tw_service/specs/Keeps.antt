-- The history that a store serves.
use Rattle.std.specs.Prelude.{ℕ, List}
use Rattle.tw_base.specs.history.History.{History}
use Rattle.tw_disk.specs.Disk.{DiskView}
use Rattle.tw_pages.specs.States.{ServesState}
use Rattle.tw_pages.specs.declared.store.Store.{Store}
use Rattle.tw_answers.specs.declared.root.RootRecord.{RootRecord}
use Rattle.tw_answers.specs.Roots.{root_kind}
use Rattle.tw_service.specs.Stands.{KeepsHistory}

-- its disk is at rest, that is, it tells its content and every image that a crash now may leave is this content; and the store over it keeps
-- the history under this root record
abbrev pub StoreServes : {D : Type 0} {g : _} → (dig : List ℕ → List ℕ) (view : D → DiskView) → Store D g → RootRecord → History → Type 0
StoreServes dig view store root h = ServesState root_kind (KeepsHistory dig) view store root h
