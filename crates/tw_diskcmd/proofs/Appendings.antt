-- What `append` comes to over inputs and a disk that tell what they hold is one thing.
use Rattle.std.proofs.Common.{◌≡◌, ℕ, List, ap, sym, ◌∙◌, subst, arith, ◌⊎◌, inl, inr}
use Rattle.std.specs.Prelude.{Option, Some, Result, Err}
use Rattle.tw_base.specs.declared.history.thread.Thread.{Thread}
use Rattle.tw_base.specs.format.Formats.{IsPlace}
use Rattle.tw_base.proofs.lemmas.format.FormatLaws.{one_value}
use Rattle.tw_disk.specs.Image.{Image}
use Rattle.tw_msg.specs.EventsFile.{events_file}
use Rattle.tw_outside.specs.Asked.{Asked}
use Rattle.tw_outside.specs.Files.{TellsBytes}
use Rattle.tw_text.specs.declared.refusal.BadInput.TheVariants.{BadByte}
use Rattle.tw_text.specs.declared.fault.CommandFault.{CommandFault}
use Rattle.tw_text.specs.declared.fault.CommandFault.TheVariants as fault
use Rattle.tw_diskcmd.specs.Comes.{FoundDisk, TellsContent, found_disk}
use Rattle.tw_diskcmd.specs.Files.{OfFile}
use Rattle.tw_diskcmd.specs.Appending.{AppendComes, AreEventsOf, IsBadEventsByte, MachineAdds, StepComes, TableAdds}
use Rattle.tw_diskcmd.specs.Appending.{TellsOfFile, append_found}
use Rattle.tw_diskcmd.proofs.Results.{one_answer}

same_place : (bytes : List ℕ) (one other : ℕ) → IsPlace events_file bytes one → IsPlace events_file bytes other
    → one ≡ other
same_place bytes one other p q =
    let under = p.longest other q.within q.good in
    let over = q.longest one p.within p.good in
    omega (arith, under, over)

-- the place of the first bad byte is one
bad_once : (bytes : List ℕ) (one other : ℕ) → IsBadEventsByte bytes one → IsBadEventsByte bytes other → one ≡ other
bad_once bytes one other (inl p) (inl q) = p.1 ∙ sym q.1
bad_once bytes one other (inl p) (inr q) = absurd (omega (arith, p.0, q.0))
bad_once bytes one other (inr p) (inl q) = absurd (omega (arith, p.0, q.0))
bad_once bytes one other (inr p) (inr q) = same_place bytes one other p.2 q.2

content : (r : Result Thread CommandFault) → TellsOfFile r → TellsContent r
content (Err fault.InputFault) told = absurd told
content r told = told

module _ (a : Asked) (file bytes : List ℕ) (tells : TellsBytes a.told file bytes) where
  abbrev bad : ℕ → Result Thread CommandFault
  bad place = Err (fault.Unreadable (BadByte file place))

  -- a file with a bad byte has no events
  no_events : (place : ℕ) (events : List (List ℕ)) → IsBadEventsByte bytes place → AreEventsOf a.told file events → ⊥
  no_events place events (inl p) are = let short = are.short bytes tells in omega (arith, p.0, short)
  no_events place events (inr p) are = p.1 events (are.spelled bytes tells)

  module _ (image : Image) (before after : ℕ) (time : Option ℕ) where
    abbrev t : FoundDisk
    t = found_disk (Some image) before after

    -- it tells the bad byte of the file, or comes of its events
    abbrev IsOfFile : Result Thread CommandFault → Type 0
    IsOfFile r = ((place : ℕ) × (r ≡ bad place) × IsBadEventsByte bytes place) ⊎ OfFile (AreEventsOf a.told file)
        (λ events. StepComes t events time r)

    of_file : (r : Result Thread CommandFault) → TellsOfFile r → AppendComes a t file time r → IsOfFile r
    of_file (Err (fault.Unreadable (BadByte named place))) told comes =
        inl (place, (λ j. Err (fault.Unreadable (BadByte (comes.0 j) place))), comes.2 bytes tells)
    of_file (Err (fault.Unreadable bad)) told comes = absurd comes
    of_file (Err fault.InputFault) told comes = absurd told
    of_file (Err fault.NoMemory) told comes = absurd told
    of_file r told comes = inr comes

    one_of : (one other : Result Thread CommandFault) → TellsContent one → TellsContent other → IsOfFile one
        → IsOfFile other → one ≡ other
    one_of one other told told' (inl p) (inl q) = p.1 ∙ ap bad (bad_once bytes p.0 q.0 p.2 q.2) ∙ sym q.1
    one_of one other told told' (inl p) (inr q) = absurd (no_events p.0 q.0 p.2 q.1)
    one_of one other told told' (inr p) (inl q) = absurd (no_events q.0 p.0 q.2 p.1)
    one_of one other told told' (inr p) (inr q) =
        let same : q.0 ≡ p.0 = one_value events_file bytes q.0 p.0 (q.1.spelled bytes tells) (p.1.spelled bytes tells)
        in
        one_answer (append_found p.0 time) (TableAdds p.0 time) (MachineAdds p.0 time) image before after one other told
        told' p.2 (subst (λ (events : List (List ℕ)). StepComes t events time other) same q.2)

    pub append_once : (one other : Result Thread CommandFault) → TellsOfFile one → TellsOfFile other
        → AppendComes a t file time one → AppendComes a t file time other → one ≡ other
    append_once one other told told' comes comes' = one_of one other (content one told) (content other told')
        (of_file one told comes) (of_file other told' comes')
