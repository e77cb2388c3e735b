-- From an events file that was read to its events, or to the byte at which it is none.
use Rattle.std.proofs.Common.{◌≡◌, ℕ, ◌<◌, ◌≤◌, List, length, take, refl, subst, sym, ap, ◌∙◌, arith, inl, inr}
use Rattle.tw_outside.specs.Asked.{Asked}
use Rattle.tw_diskcmd.specs.Files.{StopsAt}
use Rattle.std.proofs.lemmas.Bool.{cases_lt}
use Rattle.std.proofs.lemmas.List.{length-take, length-take-le, take_all}
use Rattle.tw_base.specs.format.Formats.{IsPlace, Spells, SpellsNothing}
use Rattle.tw_msg.specs.EventsFile.{events_file}
use Rattle.tw_outside.specs.Files.{IsReadTo, IsThere}
use Rattle.tw_text.specs.declared.fault.CommandFault.{CommandFault}
use Rattle.tw_text.specs.declared.fault.CommandFault.TheVariants.{Unreadable}
use Rattle.tw_text.specs.declared.refusal.BadInput.TheVariants.{BadByte}
use Rattle.tw_diskcmd.specs.declared.limits.TheConstants.{EVENTS_LIMIT}
use Rattle.tw_diskcmd.specs.Appending.{AreEventsOf, IsBadEventsByte}

-- of an events file so many bytes are read
abbrev pub events_read : ℕ
events_read = 1048577

-- a file of which no more than the limit was read has no more
is_whole : (all bytes : List ℕ) → all ≡ take events_read bytes → length all ≤ EVENTS_LIMIT → all ≡ bytes
is_whole all bytes is short = elim (cases_lt events_read (length bytes)) [
  | inl longer ↦
      let size : length (take events_read bytes) ≡ events_read = length-take-le events_read bytes (omega arith) in
      absurd (omega (arith, ap length is, size, short))
  | inr fits ↦ is ∙ take_all events_read bytes fits
]

is_longer : (all bytes : List ℕ) → all ≡ take events_read bytes → EVENTS_LIMIT < length all → EVENTS_LIMIT < length
    bytes
is_longer all bytes is longer = omega (arith, ap length is, length-take events_read bytes, longer)

module _ (a : Asked) (file all : List ℕ) (there : IsThere a.told file) (read : IsReadTo a.told file events_read
    all) where
  pub are_events : (events : List (List ℕ)) → length all ≤ EVENTS_LIMIT → Spells events_file all events
      → AreEventsOf a.told file events
  are_events events short spelled = record {
    there = there;
    short = λ bytes tells. subst (λ (b : List ℕ). length b ≤ EVENTS_LIMIT) (is_whole all bytes (read bytes tells) short)
        short;
    spelled = λ bytes tells. subst (λ (b : List ℕ). Spells events_file b events)
        (is_whole all bytes (read bytes tells) short) spelled;
  }

  pub too_long : (came : CommandFault) → EVENTS_LIMIT < length all → came ≡ Unreadable (BadByte file EVENTS_LIMIT)
      → StopsAt a file IsBadEventsByte came
  too_long came longer is = subst (StopsAt a file IsBadEventsByte) (sym is)
      (refl, there, λ bytes tells. inl (is_longer all bytes (read bytes tells) longer, refl))

  pub no_events : (place : ℕ) (came : CommandFault) → length all ≤ EVENTS_LIMIT → SpellsNothing events_file all
      × IsPlace events_file all place
      → came ≡ Unreadable (BadByte file place) → StopsAt a file IsBadEventsByte came
  no_events place came short none is = subst (StopsAt a file IsBadEventsByte) (sym is) (
    refl,
    there,
    λ bytes tells.
        let whole : all ≡ bytes = is_whole all bytes (read bytes tells) short in
        inr (
          subst (λ (b : List ℕ). length b ≤ EVENTS_LIMIT) whole short,
          subst (λ (b : List ℕ). SpellsNothing events_file b) whole none.0,
          subst (λ (b : List ℕ). IsPlace events_file b place) whole none.1,
        ),
  )
