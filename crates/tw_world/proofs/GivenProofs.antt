-- The files that lines make are proofs: what a service gives that was asked for one, and what proofs join to.
use Rattle.std.proofs.Common.{◌≡◌, ◌∙◌, ℕ, ◌<◌, List, [], ◌∷◌, length, get_or, refl, ap, sym, subst, inl, inr}
use Rattle.std.specs.Prelude.{MatchOption, Ok, Option, None, Some}
use Rattle.std.proofs.lemmas.Option.{slice_get-get_or}
use Rattle.sha2.specs.Sha256.{sha256}
use Rattle.tw_base.specs.declared.history.question.Question.{Question}
use Rattle.tw_base.specs.declared.history.question.Question.TheVariants as ask
use Rattle.tw_base.specs.declared.history.refusal.Refusal.{Refusal}
use Rattle.tw_base.specs.format.Formats.{Spells}
use Rattle.tw_base.specs.history.History.{History}
use Rattle.tw_base.specs.kinds.Lists.{Each}
use Rattle.tw_chain.specs.Proofs.{proof_bytes, proof_layout}
use Rattle.tw_chain.specs.declared.proof.Proof.{Proof}
use Rattle.tw_chain.specs.declared.proof.Proof.TheVariants.{Exists, Precedes, Archived, Absent, Linked}
use Rattle.tw_chain.proofs.ProofCodec.{from_existence}
use Rattle.tw_join.proofs.JoinedSpelling.{joined-spelled}
use Rattle.tw_service.specs.Machine.{Makes}
use Rattle.tw_service.specs.Machine.Reply.{OfBytes, Refused}
use Rattle.tw_service.specs.Questions.{history_refusal}
use Rattle.tw_world.specs.Hosts.{GivesReply}
use Rattle.tw_world.specs.Players.{AsksForProof, FilesJoinTo, IsProofFile, IsProofText}
use Rattle.tw_world.specs.Runs.{AreProofs}
use Rattle.tw_world.specs.Worlds.{World}
use Rattle.tw_world.specs.declared.player.Player.{Player}
use Rattle.tw_world.specs.declared.told.Answer.TheVariants.{Nothing}
use Rattle.tw_world.proofs.Births.{each-get}
use Rattle.tw_world.proofs.ToldLines.{no-bytes, not-both-given, same-bytes}

makes-proof : (h : History) (q : Question) (bytes : List ℕ) → AsksForProof q → Makes sha256 h q bytes → IsProofText bytes
unfolding Makes
makes-proof h (ask.Event step index top) bytes asks made = (Exists made.0, from_existence bytes made.0 made.1)
makes-proof h (ask.Thread step key top) bytes asks made = (Archived made.0, made.1)
makes-proof h (ask.Absent step key top) bytes asks made = (Absent made.0, made.1)
makes-proof h (ask.Link step top) bytes asks made = (Linked made.0, made.1)
makes-proof h _ bytes asks made = absurd asks

pub proof-given : (h : History) (q : Question) (bytes : List ℕ) → AsksForProof q → GivesReply h q (Ok bytes)
    → IsProofText bytes
proof-given h q bytes asks gives = by (history_refusal h q) gives.1
  where
    by : (o : Option Refusal) → MatchOption o ((made : List ℕ) × Makes sha256 h q made × (OfBytes bytes ≡ OfBytes made))
        (λ refusal. OfBytes bytes ≡ Refused refusal) → IsProofText bytes
    by None made = subst IsProofText (sym (same-bytes bytes made.0 made.2)) (makes-proof h q made.0 asks made.1)
    by (Some refusal) is = absurd (no-bytes bytes refusal is)

each-spelled : (files : List (Option (List ℕ))) (proofs : List Proof) → AreProofs files proofs
    → Each (λ part. (bytes : List ℕ) × Spells proof_layout bytes part) proofs
each-spelled [] [] are = tt
each-spelled [] (p ∷ proofs) are = absurd are
each-spelled (None ∷ files) proofs are = absurd are
each-spelled (Some bytes ∷ files) [] are = absurd are
each-spelled (Some bytes ∷ files) (p ∷ proofs) are = ((bytes, are.0), each-spelled files proofs are.1)

pub joined-text : (w : World) (numbers bytes : List ℕ) → FilesJoinTo w numbers (Ok bytes) → IsProofText bytes
joined-text w numbers bytes join =
    elim join.2 [
      | inl none ↦ absurd (not-both-given (Ok bytes) bytes Nothing refl none.1)
      | inr made ↦
          let joins = made.2.1 in
          subst IsProofText (sym (made.2.2 ∙ ap proof_bytes joins.2))
          (Precedes joins.0, joined-spelled made.0 joins.0 (each-spelled join.0 made.0 made.1) joins.1)
    ]

-- the file at a place is a proof, where it was made
pub filed-text : (p : Player) (index : ℕ) (file : Option (List ℕ)) (bytes : List ℕ) → Each IsProofFile p.files.items
    → index < length p.files.items → file ≡ get_or p.files.items index file → file ≡ Some bytes → IsProofText bytes
filed-text p index file bytes all within at is =
    subst IsProofFile is
    (each-get IsProofFile p.files.items index file all (slice_get-get_or p.files.items index file within ∙ ap Some (sym at)))
