use Rattle.std.proofs.Common.{◌≡◌, ◌∙◌, ◌≤◌, ℕ, ap, inr, subst, sym}
use Rattle.std.specs.Prelude.{Some}
use Rattle.tw_disk.specs.Image.{Image}
use Rattle.tw_pages.specs.Store.{used_of}
use Rattle.tw_pages.specs.StoreValue.{opening_of}
use Rattle.tw_pages.specs.declared.open.StoreFault.TheVariants.{NotAStore}
use Rattle.tw_pages.specs.Records.{IsNotOpenedFor}
use Rattle.tw_pages.proofs.Counted.{counted}
use Rattle.tw_pages.proofs.Opened.{found, list, never_refused, none_written, opens_with, refused, rests, stable}
use Rattle.tw_pages.proofs.recorded.Recorded.open.Given.{Over}
use Rattle.tw_pages.proofs.recorded.Recorded.open.Goals.{After-used}
use Rattle.tw_pages.proofs.recorded.Recorded.open.Goals as goal

-- the count that it was read for is that of what it opens as
used_here : (g : Over) (c : After-used g) (i : Image) → (g.D.Disk.view c.args.disk).content ≡ Some i
    → c.used.result ≡ used_of (opening_of c.in-Ok.store i)
used_here g c i told =
    let at = c.in-Ok.ensures.opened i told in
    c.used.ensures.count ∙ counted g.D.Disk.view c.in-Ok.store _ i (λ j e. g.met.D.Disk.count_is_told _ j e)
    c.in-Ok.store.room (at.told ∙ ap (λ (j : Image). Some j) at.has.0) c.in-Ok.ensures.clean.0

pub returns-in-None-clause-found : goal.returns-in-None-clause-found
returns-in-None-clause-found g c = λ once i w told is.
    let at = c.in-Ok.ensures.opened i told in
    let used = used_here g (goal.at.returns-in-None-clause-found g c).After-used i told in
    absurd (none_written g.D.Disk.view (g.R.Record.kind g.H.Hasher.dig) c.in-Ok.store i at _ c.root.ensures _ used _
    c.generation.ensures c.in-None.ensures w is)

pub returns-in-None-clause-refused : goal.returns-in-None-clause-refused
returns-in-None-clause-refused g c = λ i told.
    let at = c.in-Ok.ensures.opened i told in
    let used = used_here g (goal.at.returns-in-None-clause-refused g c).After-used i told in
    inr (subst (λ (slot : ℕ). IsNotOpenedFor (g.R.Record.kind g.H.Hasher.dig) i (NotAStore slot))
    (sym c.slot-slot.ensures)
    (refused g.D.Disk.view (g.R.Record.kind g.H.Hasher.dig) c.in-Ok.store i at _ c.root.ensures _ used _
    c.generation.ensures c.in-None.ensures))

pub returns-in-None-clause-unchanged : goal.returns-in-None-clause-unchanged
returns-in-None-clause-unchanged g c = ap (λ disk. (g.D.Disk.view disk).content) c.close.ensures
    ∙ c.in-Ok.ensures.unchanged

pub returns-in-None-clause-later : goal.returns-in-None-clause-later
returns-in-None-clause-later g c = subst (λ disk. (g.D.Disk.view c.args.disk).faults ≤ (g.D.Disk.view disk).faults)
    (sym c.close.ensures) c.in-Ok.ensures.later

pub returns-in-Some-clause-found : goal.returns-in-Some-clause-found
returns-in-Some-clause-found g c = λ once i w told is.
    let at = c.in-Ok.ensures.opened i told in
    let used = used_here g (goal.at.returns-in-Some-clause-found g c).After-used i told in
    found g.D.Disk.view (g.R.Record.kind g.H.Hasher.dig) c.in-Ok.store i at _ c.root.ensures _ used _
    c.generation.ensures c.in-Some.root c.in-Some.ensures.0 c.in-Some.ensures.1 once w is

pub returns-in-Some-clause-exact : goal.returns-in-Some-clause-exact
returns-in-Some-clause-exact g c = λ i fault told why.
    let at = c.in-Ok.ensures.opened i told in
    let used = used_here g (goal.at.returns-in-Some-clause-exact g c).After-used i told in
    never_refused g.D.Disk.view (g.R.Record.kind g.H.Hasher.dig) c.in-Ok.store i at _ c.root.ensures _ used _
    c.generation.ensures c.in-Some.root c.in-Some.ensures.0 c.in-Some.ensures.1 fault why

pub returns-in-Some-clause-opened : goal.returns-in-Some-clause-opened
returns-in-Some-clause-opened g c = λ i told.
    let at = c.in-Ok.ensures.opened i told in
    let used = used_here g (goal.at.returns-in-Some-clause-opened g c).After-used i told in (
      (opening_of c.in-Ok.store i).pages,
      list g.D.Disk.view (g.R.Record.kind g.H.Hasher.dig) c.in-Ok.store i at _ c.root.ensures _ used _
          c.generation.ensures c.in-Some.root c.in-Some.ensures.0 c.in-Some.ensures.1 c.in-Ok.ensures.clean.0,
      opens_with g.D.Disk.view (g.R.Record.kind g.H.Hasher.dig) c.in-Ok.store i at _ c.root.ensures _ used _
          c.generation.ensures c.in-Some.root c.in-Some.ensures.0 c.in-Some.ensures.1,
      rests g.D.Disk.view (g.R.Record.kind g.H.Hasher.dig) c.in-Ok.store i at _ c.root.ensures _ used _
          c.generation.ensures c.in-Some.root c.in-Some.ensures.0 c.in-Some.ensures.1,
      stable g.D.Disk.view (g.R.Record.kind g.H.Hasher.dig) c.in-Ok.store i at _ c.root.ensures _ used _
          c.generation.ensures,
    )
