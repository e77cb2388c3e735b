use Rattle.std.proofs.Common.{◌≡◌, ℕ, ap, ◌∙◌, inl, inr}
use Rattle.tw_disk.specs.MemDisk.{mem_disk_view, pages_of, state_of}
use Rattle.tw_disk.specs.Model.{outcome}
use Rattle.tw_world.proofs.Resting.{stands-left}
use Rattle.tw_world.proofs.serving.reopened.Goals as goal

pub returns-clause-rests : goal.returns-clause-rests
returns-clause-rests c one other all =
    elim (stands-left c.crash.new.self (mem_disk_view c.args.disk).may_leave one other c.crash.ensures.rests all) [
      | inl s ↦ inl (c.closed.ensures.rests one (c.in_ok-open.ensures.serves one s))
      | inr s ↦ inr (c.closed.ensures.rests other (c.in_ok-open.ensures.serves other s))
    ]

pub returns-clause-left : goal.returns-clause-left
returns-clause-left c =
    let one = c.requires.0 in
    let other = c.requires.1 in
    let before : pages_of c.crash.new.self ≡ _ = c.crash.ensures.outcome
    ∙ ap (λ (n : ℕ). outcome n (state_of c.args.disk)) c.number_of.ensures.number in
    elim (stands-left c.crash.new.self (mem_disk_view c.args.disk).may_leave one other c.crash.ensures.rests
    c.requires.2) [
      | inl s ↦ c.closed.ensures.left one (c.in_ok-open.ensures.serves one s) ∙ c.in_ok-open.ensures.opens.0 ∙ before
      | inr s ↦ c.closed.ensures.left other (c.in_ok-open.ensures.serves other s) ∙ c.in_ok-open.ensures.opens.0 ∙ before
    ]

pub open-requires : goal.open-requires
open-requires c =
    let one = c.requires.0 in
    let other = c.requires.1 in
    elim (stands-left c.crash.new.self (mem_disk_view c.args.disk).may_leave one other c.crash.ensures.rests
    c.requires.2) [
      | inl s ↦ (one, s)
      | inr s ↦ (other, s)
    ]
