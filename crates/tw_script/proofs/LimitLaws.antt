-- Bytes past the limit are told first.
use Rattle.std.proofs.Common.{◌≡◌, ℕ, suc, ◌<◌, ◌≤◌, List, length, Bool, true, false, nat_lt, Result, Ok, Err}
use Rattle.std.proofs.Common.{if◌then◌else◌, ap, sym, ◌∙◌, refl, arith, le-leb, leb-true}
use Rattle.tw_script.specs.Allowed.{nothing_made}
use Rattle.tw_script.specs.ScriptSteps.{ReadsLines}
use Rattle.tw_script.specs.Scripts.{ReadsScript, line_number_at, line_texts, read_lines, script_of, told}
use Rattle.tw_script.specs.declared.limits.TheConstants.{MOST_SCRIPT_BYTES}
use Rattle.tw_script.specs.declared.script.NumberedLine.{NumberedLine}
use Rattle.tw_script.specs.declared.script.ScriptFault.{ScriptFault}
use Rattle.tw_script.specs.declared.script.ScriptFault.TheVariants.{BadLine, TooLong, NoMemory}

-- the script, by whether the bytes are too long
by_limit : (bytes : List ℕ) → Bool → Result (List NumberedLine) ScriptFault
by_limit bytes b = if b then Err (TooLong (line_number_at MOST_SCRIPT_BYTES bytes))
    else told (read_lines nothing_made 1 (line_texts bytes))

script-by : (bytes : List ℕ) (b : Bool) → nat_lt MOST_SCRIPT_BYTES (length bytes) ≡ b → script_of bytes ≡ by_limit
    bytes b
unfolding script_of by_limit
script-by bytes b is = ap (λ (c : Bool). if c then Err (TooLong (line_number_at MOST_SCRIPT_BYTES bytes))
    else told (read_lines nothing_made 1 (line_texts bytes))) is

pub too-long : (bytes : List ℕ) (line : ℕ) → MOST_SCRIPT_BYTES < length bytes → line ≡ line_number_at MOST_SCRIPT_BYTES
    bytes → script_of bytes ≡ Err (TooLong line)
unfolding by_limit
too-long bytes line long is =
    script-by bytes true (le-leb (suc MOST_SCRIPT_BYTES) (length bytes) long) ∙ ap (λ (n : ℕ). Err (TooLong n)) (sym is)

short : (bytes : List ℕ) → length bytes ≤ MOST_SCRIPT_BYTES → (b : Bool) → nat_lt MOST_SCRIPT_BYTES (length bytes) ≡ b
    → script_of bytes ≡ told (read_lines nothing_made 1 (line_texts bytes))
unfolding by_limit
short bytes within false is = script-by bytes false is
short bytes within true is = absurd (let past = leb-true (suc MOST_SCRIPT_BYTES) (length bytes) is in
    omega (arith, within, past))

pub within-limit : (bytes : List ℕ) (r : Result (List NumberedLine) ScriptFault) → length bytes ≤ MOST_SCRIPT_BYTES
    → ReadsLines bytes r → ReadsScript bytes r
within-limit bytes (Ok script) within read = short bytes within (nat_lt MOST_SCRIPT_BYTES (length bytes)) refl
    ∙ ap told read
within-limit bytes (Err (BadLine line)) within read = short bytes within (nat_lt MOST_SCRIPT_BYTES (length bytes)) refl
    ∙ ap told read
within-limit bytes (Err (TooLong line)) within read = absurd read
within-limit bytes (Err NoMemory) within read = tt
