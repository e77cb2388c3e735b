-- The text of what was played, by what its printers tell.
use Rattle.std.proofs.Common.{◌≡◌, ℕ, suc, ◌+◌, ◌<◌, List, [], ◌∷◌, ◌++◌, length, drop, get_or, map, refl, ap, sym, ◌∙◌}
use Rattle.std.proofs.Common.{add-one}
use Rattle.std.proofs.Math.Seq.{drop-cons}
use Rattle.tw_base.specs.history.History.{History}
use Rattle.tw_base.specs.declared.history.thread.Key.{Key}
use Rattle.tw_script.specs.declared.script.NumberedLine.{NumberedLine}
use Rattle.tw_text.specs.Summaries.{replayed_line}
use Rattle.tw_world.specs.Hosts.{host_key, hosts_line}
use Rattle.tw_world.specs.Playing.{counts_of}
use Rattle.tw_world.specs.Telling.{history_key, replayed_text, told_line, told_lines}
use Rattle.tw_world.specs.declared.counts.Counts.{Counts}
use Rattle.tw_world.specs.declared.host.Host.{Host}
use Rattle.tw_world.specs.declared.told.Told.{Told}

-- ---- the services and their numbers of steps

-- the services have these histories' names and numbers of steps, one after another
abbrev pub AreCounted : List Host → List History → Type 0
AreCounted [] [] = Unit {0}
AreCounted (host ∷ hosts) (h ∷ fam) = (host.name ≡ h.name) × (host.steps ≡ length h.steps) × AreCounted hosts fam
AreCounted _ _ = ⊥

abbrev key : List ℕ → ℕ → Key
key name steps = record { from = name; step = steps }

counted-keys : (hosts : List Host) (fam : List History) → AreCounted hosts fam → map host_key hosts ≡ map history_key fam
counted-keys [] [] are = refl
counted-keys [] (h ∷ fam) are = absurd are
counted-keys (host ∷ hosts) [] are = absurd are
counted-keys (host ∷ hosts) (h ∷ fam) are =
    ap (λ (name : List ℕ). key name host.steps ∷ map host_key hosts) are.0
    ∙ ap (λ (n : ℕ). key h.name n ∷ map host_key hosts) are.1
    ∙ ap (λ (ks : List Key). history_key h ∷ ks) (counted-keys hosts fam are.2)

pub keys-drop : (hosts : List Host) (i : ℕ) (host : Host) → i < length hosts → get_or hosts i host ≡ host
    → map host_key (drop i hosts) ≡ host_key host ∷ map host_key (drop (i + 1) hosts)
keys-drop hosts i host within at =
    ap (λ (hs : List Host). map host_key hs) (drop-cons hosts i host within ∙ ap (λ h. h ∷ drop (suc i) hosts) at)
    ∙ ap (λ (j : ℕ). host_key host ∷ map host_key (drop j hosts)) (sym (add-one i))

-- ---- the text

pub played-text : (script : List NumberedLine) (told : List Told) (counts : Counts) (hosts : List Host)
    (fam : List History) (text : List ℕ) → AreCounted hosts fam
    → counts ≡ counts_of told → text ≡ told_lines script told ++ hosts_line counts hosts
    → text ≡ replayed_text script told fam
played-text script told counts hosts fam text are same is =
    is ∙ ap (λ (cs : Counts). told_lines script told ++ hosts_line cs hosts) same
    ∙ ap (λ (ks : List Key). told_lines script told ++ replayed_line (counts_of told).accepted (counts_of told).none
    (counts_of told).refused (counts_of told).rejected ks) (counted-keys hosts fam are)

-- ---- line after line

told_lines-cons : (l : NumberedLine) (lines : List NumberedLine) (t : Told) (told : List Told) → told_lines (l ∷ lines)
    (t ∷ told) ≡ told_line l.number t ++ told_lines lines told
unfolding told_lines
told_lines-cons l lines t told = refl

pub told_lines-none : (told : List Told) → told_lines [] told ≡ []
unfolding told_lines
told_lines-none [] = refl
told_lines-none (t ∷ told) = refl

pub told_lines-drop : (lines : List NumberedLine) (told : List Told) (i : ℕ) (l : NumberedLine) (t : Told)
    → i < length lines → i < length told
    → get_or lines i l ≡ l → get_or told i t ≡ t
    → told_lines (drop i lines) (drop i told) ≡ told_line l.number t ++ told_lines (drop (i + 1) lines)
    (drop (i + 1) told)
told_lines-drop lines told i l t within there at is =
    ap (λ ls. told_lines ls (drop i told)) (drop-cons lines i l within ∙ ap (λ x. x ∷ drop (suc i) lines) at)
    ∙ ap (told_lines (l ∷ drop (suc i) lines)) (drop-cons told i t there ∙ ap (λ x. x ∷ drop (suc i) told) is)
    ∙ told_lines-cons l (drop (suc i) lines) t (drop (suc i) told)
    ∙ ap (λ j. told_line l.number t ++ told_lines (drop j lines) (drop j told)) (sym (add-one i))
