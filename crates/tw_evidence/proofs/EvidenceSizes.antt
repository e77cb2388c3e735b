-- How many bytes evidence has at most.
use Rattle.std.proofs.Common.{ℕ, ◌≤◌, List, length, arith}
use Rattle.tw_base.specs.declared.kinds.limits.TheConstants.{LAST_STEP}
use Rattle.tw_base.specs.format.Codecs.{number_codec}
use Rattle.tw_base.specs.format.Formats.{IsFront}
use Rattle.tw_base.proofs.lemmas.format.CodecSizes.{AtMost, at_most-behind, at_most-bytes, at_most-name, at_most-number}
use Rattle.tw_base.proofs.lemmas.format.CodecSizes.{at_most-pair, at_most-seen}
use Rattle.tw_base.proofs.lemmas.history.EntryCodecLaws.{entry-most}
use Rattle.tw_skipproof.proofs.Shapes.{part-most, path-most}
use Rattle.tw_treeproof.proofs.LawfulCodecs.{present-most}
use Rattle.tw_chain.specs.Proofs.{link_body, thread_body}
use Rattle.tw_tmap.proofs.MapSizes.{front-size}
use Rattle.tw_evidence.specs.Evidence.{evidence_codec, evidence_layout, link_proof_codec, link_proof_layout}
use Rattle.tw_evidence.specs.Evidence.{thread_proof_codec, thread_proof_layout}
use Rattle.tw_evidence.proofs.EvidenceCodec.{evidence-lawful, link_proof-lawful, steps-in-range, thread_proof-lawful}

thread_proof-most : AtMost thread_proof_codec 67474
unfolding thread_proof_codec thread_body
thread_proof-most =
    at_most-behind _ _ 67469 (at_most-seen _ _ _ 67469 (at_most-pair _ _ 55148 12321 (part-most 0)
    (λ _ _. at_most-pair _ _ 64 12257 entry-most (λ _ _. present-most))))

evidence-most : AtMost evidence_codec 188744
unfolding evidence_codec
evidence-most =
    at_most-behind _ _ 188740 (at_most-seen _ _ _ 188740 (at_most-pair _ _ 67474 121266 thread_proof-most
    (λ first _. at_most-pair _ _ 67474 53792 thread_proof-most (λ second fits.
    at_most-pair _ _ 32 53760 (at_most-bytes 32) (λ _ _. path-most second.entry.thread.step first.entry.thread.step
    (let in_range = (steps-in-range second fits).thread in omega (arith, in_range)))))))

pub evidence-size : (bytes : List ℕ) → IsFront evidence_layout bytes → length bytes ≤ 188744
evidence-size = front-size evidence_codec evidence-lawful 188744 evidence-most

pub thread_proof-size : (bytes : List ℕ) → IsFront thread_proof_layout bytes → length bytes ≤ 67474
thread_proof-size = front-size thread_proof_codec thread_proof-lawful 67474 thread_proof-most

link_proof-most : AtMost link_proof_codec 53829
unfolding link_proof_codec link_body number_codec
link_proof-most =
    at_most-behind _ _ 53824 (at_most-seen _ _ _ 53824 (at_most-pair _ _ 16 53808 at_most-name
    (λ _ _. at_most-pair _ _ 8 53800 (at_most-number 8 0 LAST_STEP) (λ step _.
    at_most-pair _ _ 8 53792 (at_most-number 8 1 LAST_STEP) (λ top t. at_most-pair _ _ 32 53760 (at_most-bytes 32)
    (λ _ _. path-most top step (omega (arith, t.1))))))))

pub link_proof-size : (bytes : List ℕ) → IsFront link_proof_layout bytes → length bytes ≤ 53829
link_proof-size = front-size link_proof_codec link_proof-lawful 53829 link_proof-most
