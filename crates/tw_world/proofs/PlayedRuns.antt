-- Each line of a script may be told of the world that those before it lead to.
use Rattle.std.proofs.Common.{◌≡◌, ℕ, suc, zero, ◌-◌, ◌<◌, List, [], ◌∷◌, ◌++◌, length, take, get_or, Bool, true, false}
use Rattle.std.proofs.Common.{Option, Some, None, Ok, Err, refl, ap, sym, ◌∙◌, subst, inl, inr, arith}
use Rattle.std.specs.Prelude.{MatchOption, Result, replicate}
use Rattle.std.specs.Option.{option_map_or}
use Rattle.std.specs.Str.{bytes_eq}
use Rattle.std.proofs.lemmas.Bool.{and_parts}
use Rattle.std.proofs.lemmas.Slice.Eq.{bytes_eq-Decides}
use Rattle.sha2.specs.Sha256.{sha256}
use Rattle.tw_base.specs.format.Formats.{Spells}
use Rattle.tw_base.specs.history.Auth.{auth}
use Rattle.tw_base.specs.history.History.{History}
use Rattle.tw_base.specs.kinds.Lists.{Each}
use Rattle.tw_chain.specs.Proofs.{proof_bytes}
use Rattle.tw_chain.specs.declared.proof.Proof.{Proof}
use Rattle.tw_join.specs.declared.joining.JoinFault.{JoinFault}
use Rattle.tw_join.specs.declared.joining.JoinFault.TheVariants.{Gap, NoMemory}
use Rattle.tw_msg.specs.Messages.{message_layout}
use Rattle.tw_msg.specs.declared.message.Message.{Message}
use Rattle.tw_script.specs.Allowed as allowed
use Rattle.tw_script.specs.Allowed.{is_hostile, is_message, is_service, made_by, may_follow, nothing_made}
use Rattle.tw_script.specs.AskedWords.{AsksWell}
use Rattle.tw_script.specs.Injected.{is_own_or_none}
use Rattle.tw_script.specs.ScriptLines.{AreAllowed, IsLineOf, IsScript, made_by_all}
use Rattle.tw_script.specs.Scripts.{line_texts}
use Rattle.tw_script.specs.declared.line.Line.{Line}
use Rattle.tw_script.specs.declared.line.Line.TheVariants.{Service, Hostile, Append, Send, Inject, Deliver, Lose, Crash}
use Rattle.tw_script.specs.declared.line.Line.TheVariants.{Prove, Join, Anchor, Verify}
use Rattle.tw_script.specs.declared.made.Made.{Made}
use Rattle.tw_script.specs.declared.script.NumberedLine.{NumberedLine}
use Rattle.tw_script.proofs.InjectedLaws.{message-spelled}
use Rattle.tw_script.proofs.LineLaws.{is-script, script-asks}
use Rattle.tw_script.proofs.LineValues.{HasValues, line-has}
use Rattle.tw_service.specs.Machine.{Reply}
use Rattle.tw_service.specs.Machine.Reply.{OfBytes, Refused}
use Rattle.tw_world.specs.Hosts.{claims_none}
use Rattle.tw_world.specs.OnDisks.{IsLineOn}
use Rattle.tw_world.specs.PlayedLines.{AreLinesRead, PlaysOn}
use Rattle.tw_world.specs.Players.{MayTell}
use Rattle.tw_world.specs.Playing.{script_lines}
use Rattle.tw_world.specs.Runs.{Appending, IsDelivered, IsLineTold, JoinTold, Moves, ProofTold, Receiving, RunsLines}
use Rattle.tw_world.specs.Runs.{mail_of}
use Rattle.tw_world.specs.Worlds.{Mail, Member, World, no_world, numbered}
use Rattle.tw_world.specs.Worlds.Mail.{Made as MadeMail, Unmade, Dropped}
use Rattle.tw_world.specs.declared.told.Answer.{Answer}
use Rattle.tw_world.specs.declared.host.Host.{Host}
use Rattle.tw_world.specs.declared.told.Told.{Told}
use Rattle.tw_world.proofs.AskedProofs.{LineAsks, line-asks-proof}
use Rattle.tw_world.proofs.MadeWorlds.{HasMade, file-there, files-there, free-new, is_there, made-anchor, made-file}
use Rattle.tw_world.proofs.MadeWorlds.{made-hostile, made-later, made-lost, made-mail, made-member, made-service}
use Rattle.tw_world.proofs.MadeWorlds.{message-there, nothing-made, service-there}

-- ---- a line more

module _ (dig : List ℕ → List ℕ) (may_claim : Option ℕ → Bool) (made : Made) (w : World) (o : HasMade made w) where
  moves-made : (Rule : History → Reply → History → Type 0) (own : History → Reply → Answer) (m : Member) (told : Told)
      (next : World) → Moves Rule own w m told next → HasMade made next
  moves-made Rule own m told next (inl r) =
      subst (HasMade made) (sym r.becomes) (made-member made w o (record {
        history = r.history;
        births = m.births ++ replicate (length r.history.steps - length m.history.steps) w.place;
        waits = false;
      }))
  moves-made Rule own m told next (inr undone) = subst (HasMade made) (sym undone.2)
      (made-member made w o (record m { waits = false }))

  delivered-made : (x : Option Mail) (m : Member) (told : Told) (next : World)
      → MatchOption x ⊥ (λ mail. IsDelivered dig may_claim w mail m told next) → HasMade made next
  delivered-made None m told next is = absurd is
  delivered-made (Some (MadeMail bytes)) m told next is = moves-made (Receiving dig may_claim bytes) _ m told next is
  delivered-made (Some Unmade) m told next is = subst (HasMade made) (sym is.1) (made-later made w o)
  delivered-made (Some Dropped) m told next is = absurd is

  sent-there : (reply : Reply) → is_there (mail_of reply) ≡ true
  sent-there (OfBytes bytes) = refl
  sent-there _ = refl

  proof-made : (reply : Reply) (told : Told) (next : World) → ProofTold w reply told next
      → HasMade (allowed.with_made_file made) next
  proof-made (OfBytes bytes) told next is = subst (HasMade (allowed.with_made_file made)) (sym is.1)
      (made-file made w o (Some bytes))
  proof-made (Refused refusal) told next is = subst (HasMade (allowed.with_made_file made)) (sym is.1)
      (made-file made w o None)
  proof-made _ told next is = absurd is

  joined-made : (joined : Result Proof JoinFault) (told : Told) (next : World) → JoinTold w joined told next
      → HasMade (allowed.with_made_file made) next
  joined-made (Ok p) told next is = subst (HasMade (allowed.with_made_file made)) (sym is.1)
      (made-file made w o (Some (proof_bytes p)))
  joined-made (Err (Gap place)) told next is = subst (HasMade (allowed.with_made_file made)) (sym is.1)
      (made-file made w o None)
  joined-made (Err NoMemory) told next is = absurd is

  line-made : (line : Line) (told : Told) (next : World) → IsLineTold dig may_claim w line told next
      → HasMade (made_by made line) next
  unfolding made_by
  line-made (Service name) told next is = subst (HasMade (allowed.with_name made name false)) (sym is.2)
      (made-service made w o name)
  line-made (Hostile name) told next is = subst (HasMade (allowed.with_name made name true)) (sym is.2)
      (made-hostile made w o name)
  line-made (Append name events) told next (bytes, (m, there, is)) = moves-made (Appending dig may_claim events) _ m
      told next is
  line-made (Send name since) told next (m, there, (reply, step, text, same)) =
      subst (HasMade (allowed.with_made_message made)) (sym same)
      (made-mail made w o (mail_of reply) (sent-there reply))
  line-made (Inject name bytes) told next (lies, own, text, same) = subst (HasMade (allowed.with_made_message made))
      (sym same) (made-mail made w o (MadeMail bytes) refl)
  line-made (Deliver number name) told next (m, there, is) = delivered-made (numbered w.messages number) m told next is
  line-made (Lose number) told next (mail, there, text, same) =
      subst (HasMade (allowed.without_made_message made number)) (sym same) (made-lost made w o number)
  line-made (Crash name call choice) told next (m, there, text, same) = subst (HasMade made) (sym same)
      (made-member made w o (record m { waits = true }))
  line-made (Prove name asked) told next (m, there, (reply, step, is)) = proof-made reply told next is
  line-made (Join numbers) told next (two, (files, there, inl none)) = subst (HasMade (allowed.with_made_file made))
      (sym none.1.1) (made-file made w o None)
  line-made (Join numbers) told next (two, (files, there, inr (proofs, spelled, (joined, joins, is)))) =
      joined-made joined told next is
  line-made (Anchor name step) told next (m, there, inl (within, text, same)) =
      subst (HasMade made) (sym same)
      (made-anchor made w o (record { from = name; step = step; auth = auth dig m.history step }))
  line-made (Anchor name step) told next (m, there, inr (past, text, same)) = subst (HasMade made) (sym same)
      (made-later made w o)
  line-made (Verify number) told next is = subst (HasMade made) (sym is.0) (made-later made w o)

-- ---- a line that may follow

module _ (made : Made) (w : World) (o : HasMade made w) where
  own-name : (name bytes : List ℕ) → is_own_or_none name bytes ≡ true → (m : Message) → Spells message_layout bytes m
      → m.thread.from ≡ name
  own-name name bytes own m spells =
      (bytes_eq-Decides m.thread.from name).0
      (sym (ap (λ (x : Option Message). option_map_or (λ (n : Message). bytes_eq n.thread.from name) x true)
      (message-spelled bytes m spells)) ∙ own)

  line-may : (line : Line) → HasValues line → LineAsks line → may_follow made line ≡ true → MayTell w line
  unfolding may_follow
  line-may (Service name) has asks may = let new = free-new made w o name may in (has, new.0, new.1)
  line-may (Hostile name) has asks may = let new = free-new made w o name may in (has, new.0, new.1)
  line-may (Append name events) has asks may = (has, service-there made w o name may)
  line-may (Send name since) has asks may = service-there made w o name may
  line-may (Inject name bytes) has asks may =
      let parts = and_parts (is_hostile made name) (is_own_or_none name bytes) may in
      (o.hostile name parts.0, own-name name bytes parts.1)
  line-may (Deliver number name) has asks may =
      let parts = and_parts (is_message made number) (is_service made name) may in
      (message-there made w o number parts.0, service-there made w o name parts.1)
  line-may (Lose number) has asks may = message-there made w o number may
  line-may (Crash name call choice) has asks may = service-there made w o name may
  line-may (Prove name asked) has asks may = (asks, service-there made w o name may)
  line-may (Join numbers) has asks may = (has, files-there made w o numbers may)
  line-may (Anchor name step) has asks may = (has, service-there made w o name may)
  line-may (Verify number) has asks may = file-there made w o number may

-- ---- runs

module _ (dig : List ℕ → List ℕ) (may_claim : Option ℕ → Bool) where
  made-runs : (script : List NumberedLine) (made : Made) (w : World) (told : List Told) (end : World) → HasMade made w
      → RunsLines dig may_claim w (script_lines script) told end
      → HasMade (made_by_all made script) end
  unfolding RunsLines
  made-runs [] made w [] end o is = subst (HasMade made) is o
  made-runs [] made w (t ∷ told) end o is = absurd is
  made-runs (l ∷ script) made w [] end o is = absurd is
  made-runs (l ∷ script) made w (t ∷ told) end o (next, first, rest) =
      made-runs script (made_by made l.line) next told end (line-made dig may_claim made w o l.line t next first) rest

  -- no line was told yet
  pub runs-none : (w : World) → RunsLines dig may_claim w [] [] w
  unfolding RunsLines
  runs-none w = refl

  -- one line more at the end
  pub runs-more : (lines : List Line) (told : List Told) (w end : World) (line : Line) (t : Told) (next : World)
      → RunsLines dig may_claim w lines told end
      → IsLineTold dig may_claim end line t next → RunsLines dig may_claim w (lines ++ line ∷ []) (told ++ t ∷ []) next
  unfolding RunsLines
  runs-more [] [] w end line t next is more =
      (next, subst (λ (v : World). IsLineTold dig may_claim v line t next) (sym is) more, refl)
  runs-more [] (u ∷ told) w end line t next is more = absurd is
  runs-more (l ∷ lines) [] w end line t next is more = absurd is
  runs-more (l ∷ lines) (u ∷ told) w end line t next (mid, first, rest) more =
      (mid, first, runs-more lines told mid end line t next rest more)

  -- each line is told
  pub runs-length : (lines : List Line) (told : List Told) (w end : World) → RunsLines dig may_claim w lines told end
      → length told ≡ length lines
  unfolding RunsLines
  runs-length [] [] w end is = refl
  runs-length [] (t ∷ told) w end is = absurd is
  runs-length (l ∷ lines) [] w end is = absurd is
  runs-length (l ∷ lines) (t ∷ told) w end (mid, first, rest) = ap suc (runs-length lines told mid end rest)

-- so over the disks
pub plays-none : (w : World) (hosts : List Host) → [] ≡ hosts → PlaysOn w [] [] [] w hosts
unfolding PlaysOn
plays-none w hosts none = (refl, none)

pub plays-more : (lines : List Line) (told : List Told) (w end : World) (hosts last : List Host) (line : Line) (t : Told)
    (next : World) (after : List Host) → PlaysOn w hosts lines told end last
    → IsLineTold sha256 claims_none end line t next → IsLineOn end last line t after
    → PlaysOn w hosts (lines ++ line ∷ []) (told ++ t ∷ []) next after
unfolding PlaysOn
plays-more [] [] w end hosts last line t next after is more on = (
  next,
  after,
  subst (λ (v : World). IsLineTold sha256 claims_none v line t next) (sym is.0) more,
  subst (λ (v : World). IsLineOn v hosts line t after) (sym is.0)
      (subst (λ (hs : List Host). IsLineOn end hs line t after) (sym is.1) on),
  (refl, refl),
)
plays-more [] (u ∷ told) w end hosts last line t next after is more on = absurd is
plays-more (l ∷ lines) [] w end hosts last line t next after is more on = absurd is
plays-more (l ∷ lines) (u ∷ told) w end hosts last line t next after (mid, between, first, led, rest) more on =
    (mid, between, first, led, plays-more lines told mid end between last line t next after rest more on)

-- ---- scripts

allowed-at : (script : List NumberedLine) (made : Made) (i : ℕ) (l : NumberedLine) → AreAllowed made script
    → i < length script → get_or script i l ≡ l
    → may_follow (made_by_all made (take i script)) l.line ≡ true
allowed-at [] made i l are within at = absurd (omega (arith, within))
allowed-at (x ∷ script) made zero l are within at = subst (λ (n : NumberedLine). may_follow made n.line ≡ true) at are.0
allowed-at (x ∷ script) made (suc i) l are within at = allowed-at script (made_by made x.line) i l are.1
    (omega (arith, within)) at

each-at : {X : Type 0} (P : X → Type 0) (xs : List X) (i : ℕ) (x : X) → Each P xs → i < length xs → get_or xs i x ≡ x
    → P x
each-at P [] i x all within at = absurd (omega (arith, within))
each-at P (y ∷ xs) zero x all within at = subst P at all.0
each-at P (y ∷ xs) (suc i) x all within at = each-at P xs i x all.1 (omega (arith, within)) at

-- the next line of a script, whatever was told of those before it
pub may-next : (script : List NumberedLine) (i : ℕ) (l : NumberedLine) (told : List Told) (w : World)
    → AreLinesRead script → i < length script → get_or script i l ≡ l
    → RunsLines sha256 claims_none no_world (script_lines (take i script)) told w → MayTell w l.line
may-next script i l told w (bytes, read) within at runs =
    let is : IsScript bytes script = is-script bytes script read in
    let of : IsLineOf 1 (line_texts bytes) l = each-at (IsLineOf 1 (line_texts bytes)) script i l is.of_texts within
    at in
    line-may (made_by_all nothing_made (take i script)) w (made-runs sha256 claims_none (take i script) nothing_made
    no_world told w nothing-made runs) l.line
    (line-has of.text l.line of.line_is) (line-asks-proof of.text l.line of.line_is) (allowed-at script nothing_made i l is.allowed within at)

-- and it is asked what a service may be asked
pub asks-next : (script : List NumberedLine) (i : ℕ) (l : NumberedLine) → AreLinesRead script → i < length script
    → get_or script i l ≡ l → AsksWell l.line
asks-next script i l read within at = each-at (λ (n : NumberedLine). AsksWell n.line) script i l
    (script-asks read.0 script read.1) within at
