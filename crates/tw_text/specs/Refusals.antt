-- The lines of refusals, of stores that can't serve, and of files that aren't what is read.
use Rattle.std.specs.Prelude.{ℕ, List, [], ◌∷◌, codes}
use Rattle.tw_base.specs.declared.history.refusal.FollowRefusal.{FollowRefusal}
use Rattle.tw_base.specs.declared.history.refusal.FollowRefusal.TheVariants as follower
use Rattle.tw_base.specs.declared.history.refusal.Refusal.{Refusal}
use Rattle.tw_base.specs.declared.history.refusal.Refusal.TheVariants as service
use Rattle.tw_text.specs.Lines.{line}
use Rattle.tw_text.specs.declared.field.Field.{Field}
use Rattle.tw_text.specs.declared.field.Field.TheVariants.{Word, Number, Named, Hex}
use Rattle.tw_text.specs.declared.refusal.StoreCause.{StoreCause}
use Rattle.tw_text.specs.declared.refusal.StoreCause.TheVariants.{Blank, NotAStore, BadPage}
use Rattle.tw_text.specs.declared.refusal.BadInput.{BadInput}
use Rattle.tw_text.specs.declared.refusal.BadInput.TheVariants.{BadByte, BadLine, Unsound}

-- the name of a service's refusal
abbrev pub refusal_name : Refusal → List ℕ
refusal_name (service.Malformed place) = codes "Malformed"
refusal_name service.Own = codes "Own"
refusal_name (service.Stale last) = codes "Stale"
refusal_name (service.Forked step kept offered) = codes "Forked"
refusal_name (service.BadLink last kept) = codes "BadLink"
refusal_name (service.NoStep last) = codes "NoStep"
refusal_name (service.NoEvent count) = codes "NoEvent"
refusal_name service.NoThread = codes "NoThread"
refusal_name (service.HasThread archived) = codes "HasThread"
refusal_name (service.TooMany count) = codes "TooMany"
refusal_name (service.TooLong bytes) = codes "TooLong"
refusal_name service.Full = codes "Full"
refusal_name (service.ClockBack last given) = codes "ClockBack"
refusal_name (service.BadPage page) = codes "BadPage"
refusal_name service.DiskFault = codes "DiskFault"
refusal_name service.Reopen = codes "Reopen"
refusal_name service.NoMemory = codes "NoMemory"

-- what it tells, in the order of its fields
abbrev pub refusal_values : Refusal → List Field
refusal_values (service.Malformed place) = Number place ∷ []
refusal_values (service.Stale last) = Number last ∷ []
refusal_values (service.Forked step kept offered) = Number step ∷ Hex kept ∷ Hex offered ∷ []
refusal_values (service.BadLink last kept) = Number last ∷ Hex kept ∷ []
refusal_values (service.NoStep last) = Number last ∷ []
refusal_values (service.NoEvent count) = Number count ∷ []
refusal_values (service.HasThread archived) = Number archived ∷ []
refusal_values (service.TooMany count) = Number count ∷ []
refusal_values (service.TooLong bytes) = Number bytes ∷ []
refusal_values (service.ClockBack last given) = Number last ∷ Number given ∷ []
refusal_values (service.BadPage page) = Number page ∷ []
refusal_values _ = []

-- its name, and what it tells
abbrev pub refusal_fields : Refusal → List Field
refusal_fields refusal = Word (refusal_name refusal) ∷ refusal_values refusal

-- those of a follower's refusal: of the service's of the same name, where that has one
abbrev pub follow_fields : FollowRefusal → List Field
follow_fields (follower.Malformed place) = refusal_fields (service.Malformed place)
follow_fields (follower.Other name) = Word (codes "Other") ∷ Named name ∷ []
follow_fields (follower.Stale last) = refusal_fields (service.Stale last)
follow_fields (follower.Forked step kept offered) = refusal_fields (service.Forked step kept offered)
follow_fields (follower.BadLink last kept) = refusal_fields (service.BadLink last kept)
follow_fields (follower.BadPage page) = refusal_fields (service.BadPage page)
follow_fields follower.DiskFault = refusal_fields service.DiskFault
follow_fields follower.Reopen = refusal_fields service.Reopen
follow_fields follower.NoMemory = refusal_fields service.NoMemory

abbrev pub refused_text : Refusal → List ℕ
refused_text refusal = line (codes "refused") (refusal_fields refusal)

abbrev pub not_followed_text : FollowRefusal → List ℕ
not_followed_text refusal = line (codes "refused") (follow_fields refusal)

-- where there is a store already
abbrev pub store_taken_text : List ℕ
store_taken_text = line (codes "refused") (Word (codes "Taken") ∷ [])

-- what the pages of the disk are instead, and the slot or the page
abbrev pub cause_fields : StoreCause → List Field
cause_fields Blank = Word (codes "Blank") ∷ []
cause_fields (NotAStore slot) = Word (codes "NotAStore") ∷ Number slot ∷ []
cause_fields (BadPage page) = Word (codes "BadPage") ∷ Number page ∷ []

abbrev pub store_text : StoreCause → List ℕ
store_text cause = line (codes "store") (cause_fields cause)

-- the file, and the byte or line or the step and rule at which it is no more what the command reads
abbrev pub bad_input_text : BadInput → List ℕ
bad_input_text (BadByte file place) = line (codes "unreadable") (Word file ∷ Word (codes "byte") ∷ Number place ∷ [])
bad_input_text (BadLine file number) = line (codes "unreadable") (Word file ∷ Word (codes "line") ∷ Number number ∷ [])
bad_input_text (Unsound file step rule) =
    line (codes "unsound") (Word file ∷ Word (codes "step") ∷ Number step ∷ Word (codes "rule") ∷ Number rule ∷ [])
