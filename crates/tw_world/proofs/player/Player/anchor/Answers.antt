use Rattle.std.proofs.Common.{◌≡◌, ℕ, List, sym, subst}
use Rattle.std.specs.Prelude.{Result, None}
use Rattle.tw_base.specs.declared.history.refusal.Refusal.{Refusal}
use Rattle.tw_base.specs.declared.history.question.Question.TheVariants.{Link}
use Rattle.tw_base.specs.format.Formats.{Spells}
use Rattle.tw_chain.specs.Proofs.{proof_layout}
use Rattle.tw_chain.specs.declared.proof.LinkProof.{LinkProof}
use Rattle.tw_chain.specs.declared.proof.Proof.TheVariants.{Linked}
use Rattle.tw_script.specs.declared.line.Line.TheVariants.{Anchor}
use Rattle.sha2.specs.Sha256.{sha256}
use Rattle.tw_world.specs.Hosts.{GivesReply, claims_none}
use Rattle.tw_world.specs.Players.{KeepsHosts, PlayerFollows, PlaysLine, thread_of_link}
use Rattle.tw_world.specs.Runs.{IsLineTold}
use Rattle.tw_world.specs.Worlds.{World, after_line, with_anchor}
use Rattle.tw_world.specs.declared.told.Answer.TheVariants.{Done}
use Rattle.tw_world.specs.declared.told.Told.{Told}
use Rattle.tw_world.specs.declared.told.Told.TheVariants.{Plain}
use Rattle.tw_world.proofs.AnsweredCalls.{if-ok}
use Rattle.tw_world.proofs.Follows.{later}
use Rattle.tw_world.proofs.GivenOn.{asked-still}
use Rattle.tw_world.proofs.ToldLines.{linked-made, told-anchored, told-unanchored}
use Rattle.tw_world.proofs.player.Player.anchor.Goals as goal

pub returns-in-Err : goal.returns-in-Err
returns-in-Err c w f may =
    let given = c.in_ok-refusal.ensures w f in
    let gives = subst (λ (r : Result (List ℕ) Refusal). GivesReply given.0.history (Link c.args.step None) r)
    c.in-Err.is given.2 in (
      after_line w,
      told-unanchored w c.args.service.now c.args.step given.0 given.1 may.0 c.in-Err.refusal gives,
      later c.ask.new.self w given.3,
      given.4,
    )

pub returns-in-Ok : goal.returns-in-Ok
returns-in-Ok c =
    let bytes : List ℕ = c.in-Ok.bytes in
    let mid = c.ask.new.self in
    let new = c.hold_linked.new.self in
    let name = c.args.service.now in
    let step = c.args.step in
    if-ok c.hold_linked.result
    (λ (told : Told). (told ≡ Plain Done) × ((w : World) → PlayerFollows mid w → (link : LinkProof)
    × Spells proof_layout c.as_slice.result.now (Linked link) × PlayerFollows new
    (after_line (with_anchor w (thread_of_link link))) × KeepsHosts mid new))
    (PlaysLine c.args.self.now new (Anchor name step))
    (λ told held w f may.
    let given = c.in_ok-refusal.ensures w f in
    let gives = subst (λ (r : Result (List ℕ) Refusal). GivesReply given.0.history (Link step None) r) c.in-Ok.is
    given.2 in
    let done = held.1 w given.3 in
    let spells = subst (λ b. Spells proof_layout b (Linked done.0)) c.as_slice.ensures done.1 in
    let next : World = after_line (with_anchor w (thread_of_link done.0)) in (
      next,
      subst (λ (t : Told). IsLineTold sha256 claims_none w (Anchor name step) t next) (sym held.0)
          (told-anchored w name step given.0 given.1 may.0 bytes done.0 gives spells),
      done.2,
      asked-still name c.args.self.now.hosts.items mid.hosts.items new.hosts.items given.4 done.3,
    ))
    c.hold_linked.ensures

pub ask-requires-clause-there : goal.ask-requires-clause-there
ask-requires-clause-there c = let can = c.requires in (can.0, can.1, can.2.1)

pub hold_linked-requires : goal.hold_linked-requires
hold_linked-requires c =
    let can = c.requires in
    let given = c.in_ok-refusal.ensures can.0 can.1 in
    let gives = subst (λ (r : Result (List ℕ) Refusal). GivesReply given.0.history (Link c.args.step None) r) c.in-Ok.is
    given.2 in
    let made = linked-made can.0 c.args.service.now c.args.step given.0 given.1 can.2.0 c.in-Ok.bytes gives in
    (made.0, subst (λ b. Spells proof_layout b (Linked made.0)) (sym c.as_slice.ensures) made.1)
