-- What more holds of the bytes that answer a question.
use Rattle.std.specs.Prelude.{◌≡◌, ℕ, ◌-◌, List, length, IfSome, Some, Ok}
use Rattle.tw_base.specs.declared.history.thread.Thread.{Thread}
use Rattle.tw_base.specs.format.Formats.{Spells}
use Rattle.tw_base.specs.history.Anchors.{anchor_of}
use Rattle.tw_base.specs.history.Auth.{auth}
use Rattle.tw_base.specs.history.History.{History}
use Rattle.tw_base.specs.history.Tree.{entries, tree}
use Rattle.tw_base.specs.history.TreeProofs.{ancestors_of}
use Rattle.tw_chain.specs.declared.proof.AbsenceProof.{AbsenceProof}
use Rattle.tw_chain.specs.declared.proof.Proof.TheVariants.{Absent, Archived}
use Rattle.tw_chain.specs.declared.proof.ThreadProof.{ThreadProof}
use Rattle.tw_chain.specs.Accepting.{Accepts}
use Rattle.tw_chain.specs.Proofs.{proof_layout}
use Rattle.tw_history.specs.Refusals.{ReadsHistory}
use Rattle.tw_tmap.specs.declared.map_file.HighFile.{HighFile}
use Rattle.tw_tmap.specs.declared.map_file.LowFile.{LowFile}
use Rattle.tw_tmap.specs.MapFiles.{high_layout, low_layout}
use Rattle.tw_base.specs.declared.history.question.Question.{Question}
use Rattle.tw_base.specs.declared.history.question.Question.TheVariants as ask
use Rattle.tw_service.specs.Machine.{IsFewNodes}
use Rattle.tw_service.specs.Tops.{top_or_last}

-- they are accepted under every list of anchors whose anchor of the service and top has the history's authenticator of the top
abbrev pub IsAcceptedUnderStep : (dig : List ℕ → List ℕ) → History → (top : ℕ) → (bytes : List ℕ) → Type 0
IsAcceptedUnderStep dig h top bytes = (anchors : List Thread) (anchor : Thread) → anchor_of anchors h.name top ≡ Some anchor → anchor.auth ≡ auth dig h top → Accepts dig anchors bytes

-- so are the bytes of each proof; and those of the file are read as the history again
unfoldable pub IsAcceptedFor : (dig : List ℕ → List ℕ) → History → Question → (bytes : List ℕ) → Type 0
IsAcceptedFor dig h (ask.Event step index top) bytes = IsAcceptedUnderStep dig h (top_or_last top (length h.steps)) bytes
IsAcceptedFor dig h (ask.Thread step key top) bytes = IsAcceptedUnderStep dig h (top_or_last top (length h.steps)) bytes
IsAcceptedFor dig h (ask.Absent step key top) bytes = IsAcceptedUnderStep dig h (top_or_last top (length h.steps)) bytes
IsAcceptedFor dig h (ask.Link step top) bytes = IsAcceptedUnderStep dig h (top_or_last top (length h.steps)) bytes
IsAcceptedFor dig h ask.Export bytes = ReadsHistory bytes (Ok h)
IsAcceptedFor dig h _ bytes = Unit {0}

-- the tree proof in them, of the archive that it shows, has at most 9 nodes above its place for each of some number of levels, of which each one
-- more takes 13 times the threads, and at most 99; over an archive of no thread it has none
unfoldable pub HasFewFor : History → Question → (bytes : List ℕ) → Type 0
HasFewFor h (ask.Thread step key top) bytes = (p : ThreadProof) → Spells proof_layout bytes (Archived p) → IsFewNodes (length (entries (tree h step))) (length (ancestors_of p.shown))
HasFewFor h (ask.Absent step key top) bytes = (p : AbsenceProof) → Spells proof_layout bytes (Absent p) → IsFewNodes (length (entries (tree h step))) (length (ancestors_of p.shown))
HasFewFor h (ask.Low step peer top) bytes =
    (f : LowFile) → Spells low_layout bytes f → IfSome f.shown (λ p. IsFewNodes (length (entries (tree h (step - 1)))) (length (ancestors_of p.shown)))
HasFewFor h (ask.High step peer top) bytes =
    (f : HighFile) → Spells high_layout bytes f → IsFewNodes (length (entries (tree h (top_or_last top (length h.steps))))) (length (ancestors_of f.shown))
HasFewFor h _ bytes = Unit {0}
