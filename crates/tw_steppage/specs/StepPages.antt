-- What the page of a step tells, and where it may stand.
use Rattle.std.specs.Prelude.{ℕ, suc, zero, ◌^◌, ◌≤◌, ◌==◌, ◌&&◌, List, [], length, nat_lt, slice_index_or, Bool, true, IfSome, if◌then◌else◌}
use Rattle.tw_base.specs.declared.kinds.limits.TheConstants.{LAST_STEP, MOST_EVENTS}
use Rattle.tw_base.specs.history.Limits.{IsTimeWithinLimits}
use Rattle.tw_steppage.specs.declared.link.StepRef.{StepRef}
use Rattle.tw_steppage.specs.declared.fields.StepFields.{StepFields}

abbrev pub no_ref : StepRef
no_ref = record { page = 0; auth = [] }

abbrev pub link_at_level : List StepRef → (level : ℕ) → StepRef
link_at_level links level = slice_index_or links level no_ref

-- what any page tells is in the ranges of its fields: at most 1,024 events, and a time and a thread's step of at most 2^40 - 1
abbrev pub HasRanges : StepFields → Type 0
HasRanges f = (f.count ≤ MOST_EVENTS) × IsTimeWithinLimits f.time × IfSome f.received (λ t. t.step ≤ LAST_STEP)

-- a page below this one, which is 0 exactly where it is of nothing
abbrev pub lies_below : (is_of_nothing : Bool) → (page above : ℕ) → Bool
lies_below is_of_nothing page above = nat_lt page above && (if is_of_nothing then page == 0 else nat_lt 0 page)

-- the first event page lies below the step's page, and the page of the archive's root does, which is 0 for none
abbrev pub keeps_field_rules : (page : ℕ) → StepFields → Bool
keeps_field_rules page f = lies_below (f.stream.size == 0) f.stream.page page && nat_lt f.archive.page page

-- so do the pages of the links at the levels below this count; the link at a level leads to step 0 where the step is 2 ^ level
unfoldable pub keeps_link_rules : (page step : ℕ) → List StepRef → (count : ℕ) → Bool
keeps_link_rules page step links zero = true
keeps_link_rules page step links (suc level) =
    keeps_link_rules page step links level && lies_below (step == 2 ^ level) (link_at_level links level).page page
