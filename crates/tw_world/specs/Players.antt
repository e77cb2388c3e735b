-- What is played of a world: services on disks, messages, files and anchors.
use Rattle.std.specs.Prelude.{◌≡◌, ◌⊎◌, ℕ, ◌≤◌, List, [], ◌∷◌, length, map, Option, Some, None, is_some, IsSome, MatchOption, Result, Ok, Err}
use Rattle.sha2.specs.Sha256.{sha256}
use Rattle.tw_base.specs.declared.history.refusal.Refusal.{Refusal}
use Rattle.tw_base.specs.format.Formats.{Spells}
use Rattle.tw_base.specs.declared.history.question.Question.{Question}
use Rattle.tw_base.specs.declared.history.question.Question.TheVariants as ask
use Rattle.tw_base.specs.declared.history.thread.Thread.{Thread}
use Rattle.tw_base.specs.kinds.Bytes.{AreBytes}
use Rattle.tw_base.specs.kinds.Lists.{Each, In}
use Rattle.tw_chain.specs.Proofs.{proof_bytes, proof_layout}
use Rattle.tw_chain.specs.declared.proof.LinkProof.{LinkProof}
use Rattle.tw_chain.specs.declared.proof.Proof.{Proof}
use Rattle.tw_join.specs.Joining.{Joins}
use Rattle.tw_join.specs.declared.joining.JoinFault.TheVariants.{Gap}
use Rattle.tw_msg.specs.Messages.{message_layout}
use Rattle.tw_msg.specs.declared.message.Message.{Message}
use Rattle.tw_script.specs.declared.line.Line.{Line}
use Rattle.tw_script.specs.declared.line.Line.TheVariants.{Service, Hostile, Append, Send, Inject, Deliver, Lose, Crash, Prove, Join, Anchor, Verify}
use Rattle.tw_world.specs.Hosts.{GivesReply, HoldsHistory, claims_none}
use Rattle.tw_world.specs.OnDisks.{Becomes, IsAskedOn, IsLineOn}
use Rattle.tw_world.specs.Runs.{AreFiles, AreProofs, IsLineTold, IsMember, IsNew, loss_answer}
use Rattle.tw_world.specs.Worlds.{Mail, Member, World, member_of, numbered}
use Rattle.tw_world.specs.Worlds.Mail.{Made, Unmade, Dropped}
use Rattle.tw_world.specs.declared.host.Host.{Host}
use Rattle.tw_world.specs.declared.player.Mail.{Mail as KeptMail}
use Rattle.tw_world.specs.declared.player.Mail.TheVariants as kept
use Rattle.tw_world.specs.declared.player.Player.{Player}
use Rattle.tw_world.specs.declared.told.Answer.{Answer}
use Rattle.tw_world.specs.declared.told.Answer.TheVariants.{NotJoined, Nothing}
use Rattle.tw_world.specs.declared.told.Told.{Told}

-- the service has the member's history on its disk for good, and a crash waits for it where one waits for the member
pub record IsHostOf (host : Host) (m : Member) : Type 0 where
  pub holds : HoldsHistory host m.history
  pub waits : is_some host.crash ≡ m.waits

abbrev pub AreHostsOf : List Host → List Member → Type 0
AreHostsOf [] [] = Unit {0}
AreHostsOf (host ∷ hosts) (m ∷ members) = IsHostOf host m × AreHostsOf hosts members
AreHostsOf _ _ = ⊥

abbrev pub mail_kept : KeptMail → Mail
mail_kept (kept.Made bytes) = Made bytes
mail_kept kept.Unmade = Unmade
mail_kept kept.Dropped = Dropped

-- the bytes are those of a proof
abbrev pub IsProofText : (bytes : List ℕ) → Type 0
IsProofText bytes = (p : Proof) × Spells proof_layout bytes p

-- a file that was made is a proof
abbrev pub IsProofFile : Option (List ℕ) → Type 0
IsProofFile None = Unit {0}
IsProofFile (Some bytes) = IsProofText bytes

-- what is played is the world: its services' histories are on their disks for good; and messages, files and anchors are the world's. Each file
-- that was made is a proof. Hostile names, births and the place in the schedule aren't played
pub record PlayerFollows (player : Player) (w : World) : Type 0 where
  pub hosts : AreHostsOf player.hosts.items w.members
  pub messages : map mail_kept player.messages.items ≡ w.messages
  pub files : player.files.items ≡ w.files
  pub proofs : Each IsProofFile player.files.items
  pub anchors : player.anchors.items ≡ w.anchors

-- the services are as they were
abbrev pub KeepsHosts : (old new : Player) → Type 0
KeepsHosts old new = new.hosts.items ≡ old.hosts.items

-- the files of these numbers are there
abbrev pub AreFiled : World → (numbers : List ℕ) → Type 0
AreFiled w numbers = Each (λ n. IsSome (numbered w.files n)) numbers

-- a service has the name
abbrev pub HasMember : World → (name : List ℕ) → Type 0
HasMember w name = IsSome (member_of w.members name)

-- the message of this number is there, and wasn't dropped
abbrev pub IsMessage : World → (number : ℕ) → Type 0
IsMessage w number = (mail : Mail) × (numbered w.messages number ≡ Some mail) × IsSome (loss_answer mail)

-- what is asked for is a proof
abbrev pub AsksForProof : Question → Type 0
AsksForProof (ask.Event step index top) = Unit {0}
AsksForProof (ask.Thread step key top) = Unit {0}
AsksForProof (ask.Absent step key top) = Unit {0}
AsksForProof (ask.Link step top) = Unit {0}
AsksForProof _ = ⊥

-- what a script's line keeps
abbrev pub MayTell : World → Line → Type 0
MayTell w (Service name) = IsNew w name
MayTell w (Hostile name) = IsNew w name
MayTell w (Append name events) = Each AreBytes events × HasMember w name
MayTell w (Send name since) = HasMember w name
MayTell w (Inject name bytes) = In name w.hostile × ((m : Message) → Spells message_layout bytes m → m.thread.from ≡ name)
MayTell w (Deliver number name) = IsMessage w number × HasMember w name
MayTell w (Lose number) = IsMessage w number
MayTell w (Crash name call choice) = HasMember w name
MayTell w (Prove name asked) = AsksForProof asked × HasMember w name
MayTell w (Join numbers) = (2 ≤ length numbers) × AreFiled w numbers
MayTell w (Anchor name step) = (1 ≤ step) × HasMember w name
MayTell w (Verify number) = IsSome (numbered w.files number)

-- what is played is a world of which the line may be told
abbrev pub CanPlayLine : Player → Line → Type 0
CanPlayLine player line = (w : World) × PlayerFollows player w × MayTell w line

-- a service that is played has the name
abbrev pub HasService : Player → (name : List ℕ) → Type 0
HasService player name = (w : World) × PlayerFollows player w × HasMember w name

-- the proofs that the files of these numbers are, or none where one of them wasn't made
abbrev pub AreProofsOfNumbers : World → (numbers : List ℕ) → Option (List Proof) → Type 0
AreProofsOfNumbers w numbers proofs = (files : List (Option (List ℕ))) × AreFiles w numbers files × MatchOption proofs (In None files) (AreProofs files)

-- what proofs join to: the bytes of a proof, or where they don't join
abbrev pub ProofsJoinTo : List Proof → Result (List ℕ) Answer → Type 0
ProofsJoinTo proofs (Ok bytes) = (p : Proof) × Joins proofs (Ok p) × (bytes ≡ proof_bytes p)
ProofsJoinTo proofs (Err why) = (place : ℕ) × Joins proofs (Err (Gap place)) × (why ≡ NotJoined place)

-- what the files of these numbers join to; nothing where one of them wasn't made
abbrev pub FilesJoinTo : World → (numbers : List ℕ) → Result (List ℕ) Answer → Type 0
FilesJoinTo w numbers joined =
    (files : List (Option (List ℕ))) × AreFiles w numbers files
    × ((In None files × (joined ≡ Err Nothing)) ⊎ ((proofs : List Proof) × AreProofs files proofs × ProofsJoinTo proofs joined))

-- the thread whose authenticator a proof tells
abbrev pub thread_of_link : LinkProof → Thread
thread_of_link link = record { from = link.service; step = link.step; auth = link.auth }

-- the service of this name gives this, what is played stays the world, and no other service is touched
abbrev pub HasGiven : (old new : Player) → (name : List ℕ) → Question → Result (List ℕ) Refusal → Type 0
HasGiven old new name question given =
    (w : World) → PlayerFollows old w
    → (m : Member) × IsMember w name m × GivesReply m.history question given × PlayerFollows new w × Becomes name IsAskedOn old.hosts.items new.hosts.items

-- where a line may be told of the world that is played, it is told so, what is played then is the next world, and the line led from the one's
-- services to the other's
abbrev pub PlaysLine : (old new : Player) → Line → Told → Type 0
PlaysLine old new line told =
    (w : World) → PlayerFollows old w → MayTell w line
    → (next : World) × IsLineTold sha256 claims_none w line told next × PlayerFollows new next × IsLineOn w old.hosts.items line told new.hosts.items
