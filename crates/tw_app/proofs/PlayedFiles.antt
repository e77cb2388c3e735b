-- From a script that was read to that of its file, of which no more than the limit and one byte is read.
use Rattle.std.proofs.Common.{◌≡◌, ◌∙◌, ℕ, suc, List, length, take, refl, ap, sym, subst, arith, inl, inr}
use Rattle.std.specs.Prelude.{Ok, Err}
use Rattle.std.specs.List.{count_by}
use Rattle.std.proofs.lemmas.Bool.{cases_lt}
use Rattle.std.proofs.lemmas.List.{length-take-le, take-take, take_all}
use Rattle.tw_outside.specs.Asked.{Asked}
use Rattle.tw_outside.specs.Files.{IsReadTo, IsThere}
use Rattle.tw_text.specs.declared.fault.CommandFault.{CommandFault}
use Rattle.tw_msg.specs.AnchorsFile.{is_line_feed}
use Rattle.tw_script.specs.Scripts.{line_number_at, script_of}
use Rattle.tw_script.specs.declared.limits.TheConstants.{MOST_SCRIPT_BYTES}
use Rattle.tw_script.specs.declared.script.ScriptFault.{ScriptFault}
use Rattle.tw_script.specs.declared.script.ScriptFault.TheVariants as script
use Rattle.tw_script.proofs.LimitLaws.{too-long}
use Rattle.tw_world.specs.Playing.{Replays}
use Rattle.tw_world.specs.declared.replaying.Played.{Played}
use Rattle.tw_app.specs.Replaying.{ReplayComes, fault_of_script}

-- of a script so many bytes are read
abbrev pub script_read : ℕ
script_read = 1048577

-- what is read of a file is the script that the file is, or is none for the same reason
same_script : (all bytes : List ℕ) → all ≡ take script_read bytes → script_of all ≡ script_of bytes
same_script all bytes is = elim (cases_lt script_read (length bytes)) [
  | inl longer ↦
      let size : length all ≡ script_read = ap length is ∙ length-take-le script_read bytes (omega (arith, longer)) in
      let front : take MOST_SCRIPT_BYTES all ≡ take MOST_SCRIPT_BYTES bytes = ap (take MOST_SCRIPT_BYTES) is ∙ take-take
      MOST_SCRIPT_BYTES script_read bytes (omega arith) in
      let number : ℕ = line_number_at MOST_SCRIPT_BYTES bytes in
      too-long all number (omega (arith, size)) (ap (λ (l : List ℕ). suc (count_by is_line_feed l)) (sym front))
      ∙ sym (too-long bytes number (omega (arith, longer)) refl)
  | inr fits ↦ ap script_of (is ∙ take_all script_read bytes fits)
]

module _ (a : Asked) (file all front : List ℕ) (is_front : all ≡ front) (there : IsThere a.told file)
    (is_read : IsReadTo a.told file script_read front) where
  read : IsReadTo a.told file script_read all
  read bytes tells = is_front ∙ is_read bytes tells

  pub plays : (played : Played) (text : List ℕ) → Replays all (Ok played) → text ≡ played.text
      → ReplayComes a file (Ok text)
  plays played text replays is = (
    there,
    λ bytes tells. (played, (replays.0, sym (same_script all bytes (read bytes tells)) ∙ replays.1, replays.2), is),
  )

  pub stops : (fault : ScriptFault) (came : CommandFault) → Replays all (Err fault) → came ≡ fault_of_script file fault
      → ReplayComes a file (Err came)
  stops fault came replays is = subst (λ (f : CommandFault). ReplayComes a file (Err f)) (sym is) (by fault replays)
    where
      by : (f : ScriptFault) → Replays all (Err f) → ReplayComes a file (Err (fault_of_script file f))
      by (script.BadLine line) unread =
          (refl, there, λ bytes tells. inl (sym (same_script all bytes (read bytes tells)) ∙ unread))
      by (script.TooLong line) unread =
          (refl, there, λ bytes tells. inr (sym (same_script all bytes (read bytes tells)) ∙ unread))
      by script.NoMemory unread = tt
