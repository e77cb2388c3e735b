-- The bytes of proofs, by their kinds.
use Rattle.std.specs.Prelude.{ℕ, suc, zero, ◌-◌, List, [], ◌∷◌, ◌++◌, length, Option, Some, None, ◌==◌, nat_lt}
use Rattle.std.specs.Option.{option_map_or}
use Rattle.tw_base.specs.declared.kinds.limits.TheConstants.{LAST_STEP, MOST_HOPS}
use Rattle.tw_base.specs.declared.history.thread.Key.{Key}
use Rattle.tw_base.specs.format.Codecs.{Codec, behind, by_kind, choose, digest_codec, each, name_codec, number_codec, optional, pair, seen, variant}
use Rattle.tw_base.specs.format.Fields.{number_bytes}
use Rattle.tw_base.specs.format.Formats.{Format}
use Rattle.tw_base.specs.history.EntryCodec.{entry_codec}
use Rattle.tw_skipproof.specs.declared.existence.ExistenceProof.{ExistenceProof}
use Rattle.tw_skipproof.specs.declared.opening.Opening.{Opening}
use Rattle.tw_skipproof.specs.Codecs.{event_part_codec, existence_body, opening_bytes, opening_codec, part_codec, path_bytes, path_codec, proof_magic, step_number_codec}
use Rattle.tw_treeproof.specs.Codecs.{gap_codec, present_codec}
use Rattle.tw_chain.specs.declared.proof.AbsenceProof.{AbsenceProof}
use Rattle.tw_chain.specs.declared.proof.HopPart.{HopPart}
use Rattle.tw_chain.specs.declared.proof.LinkProof.{LinkProof}
use Rattle.tw_chain.specs.declared.proof.PrecedenceProof.{PrecedenceProof}
use Rattle.tw_chain.specs.declared.proof.Proof.{Proof}
use Rattle.tw_chain.specs.declared.proof.Proof.TheVariants.{Exists, Precedes, Archived, Absent, Linked}
use Rattle.tw_chain.specs.declared.proof.Tail.{Tail}
use Rattle.tw_chain.specs.declared.proof.ThreadProof.{ThreadProof}

abbrev pub proof_kind : Proof → ℕ
proof_kind (Exists p) = 1
proof_kind (Precedes p) = 2
proof_kind (Archived p) = 3
proof_kind (Absent p) = 4
proof_kind (Linked p) = 5

-- the kind in one byte
abbrev pub kind_codec : Codec ℕ
kind_codec = number_codec 1 1 5

-- ---- kind 2

-- the step that the hops come to, from this one on: that of the last hop's thread
abbrev pub last_step : (step : ℕ) → List HopPart → ℕ
last_step step [] = step
last_step step (hop ∷ hops) = last_step hop.entry.thread.step hops

-- a hop behind which so many follow: the entry, its tree proof, the bind, the path from the bind down to the thread's step (no
-- bytes where the bind is 0), and the opening of that step where another hop follows
unfoldable pub hop_codec : (more : ℕ) → Codec HopPart
hop_codec more =
    seen (λ t. record { entry = t.0; shown = t.1.0; bind = t.1.1.0; link = record { links = t.1.1.1.0 }; opening = t.1.1.1.1 })
    (λ p. (p.entry, (p.shown, (p.bind, (p.link.links, p.opening)))))
    (pair entry_codec (λ entry. pair present_codec (λ shown. pair (number_codec 8 0 LAST_STEP) (λ bind.
    pair (path_codec bind entry.thread.step) (λ links. optional (nat_lt 0 more) (opening_codec 0 entry.thread.step))))))

-- its bytes, which are the same however many follow
unfoldable pub hop_bytes : HopPart → List ℕ
hop_bytes p = entry_codec.write p.entry ++ (present_codec.write p.shown ++ (number_bytes 8 p.bind ++ (path_bytes p.link.links ++ option_map_or opening_bytes p.opening [])))

-- how many follow each of so many hops
abbrev pub following : ℕ → List ℕ
following zero = []
following (suc more) = more ∷ following more

-- the first event under this step: its step, the path down to it, its opening, and the event
unfoldable pub tail_codec : (upper : ℕ) → Codec Tail
tail_codec upper =
    seen (λ t. record { step = t.0; path = record { links = t.1.0 }; opening = t.1.1.0; event = t.1.1.1 })
    (λ p. (p.step, (p.path.links, (p.opening, p.event))))
    (pair step_number_codec (λ step. pair (path_codec upper step) (λ links. pair (opening_codec 1 step) (λ opening. event_part_codec opening.count))))

-- behind the second event: the opening of the step before it where there is a hop, the hops, and the first event
abbrev pub BehindSecond : Type 0
BehindSecond = Option Opening × (List HopPart × Tail)

unfoldable pub behind_codec : (count step : ℕ) → Codec BehindSecond
behind_codec count step =
    pair (optional (nat_lt 0 count) (opening_codec 0 (step - 1))) (λ before.
    pair (each hop_bytes hop_codec (following count)) (λ hops. tail_codec (last_step (step - 1) hops)))

-- with so many hops: the second event's step under a top, that event, and what stands behind it
unfoldable pub hops_codec : (count : ℕ) → Codec PrecedenceProof
hops_codec count =
    seen (λ t. record { head = t.0; event = t.1.0; before = t.1.1.0; hops = t.1.1.1.0; tail = t.1.1.1.1 })
    (λ p. (p.head, (p.event, (p.before, (p.hops, p.tail)))))
    (pair (part_codec 1) (λ head. pair (event_part_codec head.opening.count) (λ event. behind_codec count head.step)))

-- kind 2: the number of the hops, and the rest
unfoldable pub precedence_body : Codec PrecedenceProof
precedence_body = by_kind (λ p. length p.hops) (number_codec 1 0 MOST_HOPS) hops_codec

-- ---- kinds 3 to 5

-- kind 3: a step under a top, an entry of its archive, and the tree proof of that entry
unfoldable pub thread_body : Codec ThreadProof
thread_body =
    seen (λ t. record { at = t.0; entry = t.1.0; shown = t.1.1 }) (λ p. (p.at, (p.entry, p.shown)))
    (pair (part_codec 0) (λ at. pair entry_codec (λ entry. present_codec)))

-- a key: a service, and one of its steps from 1 on
unfoldable pub key_codec : Codec Key
key_codec = seen (λ t. record { from = t.0; step = t.1 }) (λ k. (k.from, k.step)) (pair name_codec (λ from. step_number_codec))

-- kind 4: a step under a top, the asked key, and the tree proof of the empty place where it would stand
unfoldable pub absence_body : Codec AbsenceProof
absence_body =
    seen (λ t. record { at = t.0; key = t.1.0; shown = t.1.1 }) (λ p. (p.at, (p.key, p.shown)))
    (pair (part_codec 0) (λ at. pair key_codec (λ key. gap_codec)))

-- kind 5: a service, a step, which may be 0, a top, the authenticator of the step, and the path from the top to the step
unfoldable pub link_body : Codec LinkProof
link_body =
    seen (λ t. record { service = t.0; step = t.1.0; top = t.1.1.0; auth = t.1.1.1.0; path = record { links = t.1.1.1.1 } })
    (λ p. (p.service, (p.step, (p.top, (p.auth, p.path.links)))))
    (pair name_codec (λ service. pair (number_codec 8 0 LAST_STEP) (λ step. pair step_number_codec (λ top. pair digest_codec (λ auth. path_codec top step)))))

-- the fields of a proof that is of this kind
abbrev pub existence_of : Proof → Option ExistenceProof
existence_of (Exists p) = Some p
existence_of _ = None

abbrev pub precedence_of : Proof → Option PrecedenceProof
precedence_of (Precedes p) = Some p
precedence_of _ = None

abbrev pub thread_proof_of : Proof → Option ThreadProof
thread_proof_of (Archived p) = Some p
thread_proof_of _ = None

abbrev pub absence_of : Proof → Option AbsenceProof
absence_of (Absent p) = Some p
absence_of _ = None

abbrev pub link_of : Proof → Option LinkProof
link_of (Linked p) = Some p
link_of _ = None

-- what stands behind the kind
abbrev pub body_of_kind : (kind : ℕ) → Codec Proof
body_of_kind kind =
    choose (kind == 1) (variant Exists existence_of existence_body)
    (choose (kind == 2) (variant Precedes precedence_of precedence_body)
    (choose (kind == 3) (variant Archived thread_proof_of thread_body)
    (choose (kind == 4) (variant Absent absence_of absence_body) (variant Linked link_of link_body))))

-- the kind in one byte, and what the kind has
unfoldable pub kinds_codec : Codec Proof
kinds_codec = by_kind proof_kind kind_codec body_of_kind

-- TWP1, and a proof of some kind
unfoldable pub proof_codec : Codec Proof
proof_codec = behind proof_magic kinds_codec

abbrev pub proof_layout : Format Proof
proof_layout = proof_codec.format

abbrev pub proof_bytes : Proof → List ℕ
proof_bytes = proof_codec.write

-- TWP1 and the kind
abbrev pub kind_bytes : (kind : ℕ) → List ℕ
kind_bytes kind = proof_magic ++ kind ∷ []
