-- The bytes of evidence of a fork, and those of the proofs of which it is made.
use Rattle.std.specs.Prelude.{ℕ, List, [], ◌∷◌}
use Rattle.tw_base.specs.format.Codecs.{Codec, behind, digest_codec, pair, seen}
use Rattle.tw_base.specs.format.Formats.{Format}
use Rattle.tw_skipproof.specs.Codecs.{path_codec}
use Rattle.tw_chain.specs.declared.proof.LinkProof.{LinkProof}
use Rattle.tw_chain.specs.declared.proof.ThreadProof.{ThreadProof}
use Rattle.tw_chain.specs.Proofs.{kind_bytes, link_body, thread_body}
use Rattle.tw_evidence.specs.declared.evidence.Evidence.{Evidence}

-- a proof of kind 3, that a thread was received, and of no other kind
unfoldable pub thread_proof_codec : Codec ThreadProof
thread_proof_codec = behind (kind_bytes 3) thread_body

-- a proof of kind 5, of a step's authenticator, and of no other kind
unfoldable pub link_proof_codec : Codec LinkProof
link_proof_codec = behind (kind_bytes 5) link_body

-- the four bytes TWV1
abbrev pub evidence_magic : List ℕ
evidence_magic = 0x54 ∷ 0x57 ∷ 0x56 ∷ 0x31 ∷ []

-- TWV1, the proofs of two received threads, the bottom authenticator, and the path from the second thread's step down to the
-- first's, which has no bytes where the second one isn't the later step
unfoldable pub evidence_codec : Codec Evidence
evidence_codec =
    behind evidence_magic
    (seen (λ t. record { first = t.0; second = t.1.0; bottom = t.1.1.0; link = record { links = t.1.1.1 } })
    (λ e. (e.first, (e.second, (e.bottom, e.link.links))))
    (pair thread_proof_codec (λ first. pair thread_proof_codec (λ second. pair digest_codec (λ bottom.
    path_codec second.entry.thread.step first.entry.thread.step)))))

abbrev pub thread_proof_layout : Format ThreadProof
thread_proof_layout = thread_proof_codec.format

abbrev pub link_proof_layout : Format LinkProof
link_proof_layout = link_proof_codec.format

abbrev pub evidence_layout : Format Evidence
evidence_layout = evidence_codec.format

abbrev pub evidence_bytes : Evidence → List ℕ
evidence_bytes = evidence_codec.write
