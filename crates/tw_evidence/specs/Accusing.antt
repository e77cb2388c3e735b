-- What accusing a service of a fork makes of its parts: the proofs of two received threads, numbered 1 and 2, and maybe a link, the
-- third part.
use Rattle.std.specs.Prelude.{◌≡◌, ℕ, List, [], Bool, Option, Some, None, Result, Ok, Err, IfSome, ◌==◌, ◌&&◌, if◌then◌else◌}
use Rattle.std.specs.Str.{bytes_eq}
use Rattle.tw_base.specs.declared.history.thread.Thread.{Thread}
use Rattle.tw_base.specs.format.Formats.{Spells}
use Rattle.tw_skipproof.specs.declared.path.Path.{Path}
use Rattle.tw_chain.specs.declared.proof.LinkProof.{LinkProof}
use Rattle.tw_chain.specs.declared.proof.ThreadProof.{ThreadProof}
use Rattle.tw_join.specs.declared.joining.JoinFault.{JoinFault}
use Rattle.tw_join.specs.declared.joining.JoinFault.TheVariants.{Gap, NoMemory}
use Rattle.tw_evidence.specs.declared.evidence.Evidence.{Evidence}
use Rattle.tw_evidence.specs.declared.fork.ForkVerdict.TheVariants.{Yes}
use Rattle.tw_evidence.specs.Evidence.{evidence_bytes, evidence_layout, link_proof_codec, thread_proof_codec}
use Rattle.tw_evidence.specs.Forks.{IsForkVerdict, ShowsFork, are_in_order, fork_of}

-- the link is of the threads' service, from the second one's step down to the first's
abbrev pub is_link_between : (lower upper : Thread) → LinkProof → Bool
is_link_between lower upper l = bytes_eq l.service lower.from && (l.step == lower.step && l.top == upper.step)

-- the bottom and the path from the second thread's step down to the first's: those of the link, which has to be of the threads; or,
-- where there is none, the second thread's authenticator and no links, where both are of one step
abbrev pub linked_fork : (lower upper : Thread) → Option LinkProof → Result (List ℕ × Path) ℕ
linked_fork lower upper None = if lower.step == upper.step then Ok (upper.auth, record { links = [] }) else Err 2
linked_fork lower upper (Some l) = if is_link_between lower upper l then Ok (l.auth, l.path) else Err 3

abbrev pub evidence_with : (first second : ThreadProof) → Result (List ℕ × Path) ℕ → Result Evidence ℕ
evidence_with first second (Ok l) = Ok (record { first = first; second = second; bottom = l.0; link = l.1 })
evidence_with first second (Err place) = Err place

-- the evidence that both proofs and the link make; or the number of the part that doesn't fit. The second one doesn't where its
-- thread is of another service or of an earlier step than the first's, and where it is of a later one and there is no link; the third
-- one where it is no link of the threads
abbrev pub accused : (first second : ThreadProof) → Option LinkProof → Result Evidence ℕ
accused first second link =
    if are_in_order first.entry.thread second.entry.thread
    then evidence_with first second (linked_fork first.entry.thread second.entry.thread link) else Err 2

-- what accusing answers; it takes no memory, so that it never tells the want of it
abbrev pub Accuses : (first second : ThreadProof) → Option LinkProof → Result Evidence JoinFault → Type 0
Accuses first second link (Ok e) = accused first second link ≡ Ok e
Accuses first second link (Err (Gap place)) = accused first second link ≡ Err place
Accuses first second link (Err NoMemory) = ⊥

-- the parts have a spelling each, as all that are read of files have
abbrev pub AreSpelled : (first second : ThreadProof) → Option LinkProof → Type 0
AreSpelled first second link = thread_proof_codec.Fits first × thread_proof_codec.Fits second × IfSome link link_proof_codec.Fits

-- completeness: the evidence has a spelling where its parts have; and where besides it shows a fork under the anchors, these bytes
-- are accepted under them, and tell that fork
abbrev pub IsComplete : (first second : ThreadProof) → Option LinkProof → Evidence → Type 0
IsComplete first second link e =
    AreSpelled first second link
    → Spells evidence_layout (evidence_bytes e) e
    × ((dig : List ℕ → List ℕ) (anchors : List Thread) → ShowsFork dig anchors e → IsForkVerdict dig anchors (evidence_bytes e) (Yes (fork_of e)))
