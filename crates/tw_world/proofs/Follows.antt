-- What is played follows the world on, where a service goes on or is asked.
use Rattle.std.proofs.Common.{◌≡◌, ℕ, suc, zero, ◌+◌, ◌<◌, ◌≤◌, List, [], ◌∷◌, length, get_or, refl, ap, sym, ◌∙◌}
use Rattle.std.proofs.Common.{subst, arith}
use Rattle.std.proofs.lemmas.List.{length-map, map-set}
use Rattle.std.proofs.lemmas.Option.{slice_get-get_or, slice_get-map}
use Rattle.std.specs.Vec.{with_item}
use Rattle.std.specs.Prelude.{map, option_map, IsSome, Option, Some, None, Result, is_some, slice_get, slice_set}
use Rattle.tw_base.specs.declared.history.refusal.Refusal.{Refusal}
use Rattle.tw_base.specs.declared.history.question.Question.{Question}
use Rattle.tw_base.specs.history.History.{History}
use Rattle.tw_base.specs.kinds.Lists.{Each}
use Rattle.tw_world.specs.Hosts.{Given, GivesReply, GoesOnByReply, HoldsHistory, TakesGiven, own_answer}
use Rattle.tw_world.specs.OnDisks.{IsFirst}
use Rattle.tw_world.specs.Players.{AreHostsOf, IsHostOf, IsMessage, IsProofFile, PlayerFollows, mail_kept}
use Rattle.tw_world.specs.Runs.{IsMember, Moves, loss_answer}
use Rattle.tw_world.specs.Worlds.{Mail, Member, World, after_line, numbered, with_member, without_message}
use Rattle.tw_world.specs.declared.host.Host.{Host}
use Rattle.tw_world.specs.declared.player.Mail.{Mail as KeptMail}
use Rattle.tw_world.specs.declared.player.Mail.TheVariants.{Dropped}
use Rattle.tw_world.specs.declared.player.Player.{Player}
use Rattle.tw_world.specs.declared.told.Told.{Told}
use Rattle.tw_world.proofs.Following.{find-member, keep-host, put-host}
use Rattle.tw_world.proofs.LineMoves.{goes-moves}
use Rattle.tw_world.proofs.Members.{named}
use Rattle.tw_world.proofs.ToldLines.{numbered-at}

pub later : (p : Player) (w : World) → PlayerFollows p w → PlayerFollows p (after_line w)
later p w f = record { hosts = f.hosts; messages = f.messages; files = f.files; proofs = f.proofs; anchors = f.anchors }

-- the service of this name stands here; it is in another state, and all else is as it was
pub record IsServedAt (old new : Player) (name : List ℕ) (at : ℕ) (host one : Host) : Type 0 where
  pub first : IsFirst old.hosts.items name at
  pub there : slice_get old.hosts.items at ≡ Some host
  pub hosts : new.hosts.items ≡ slice_set old.hosts.items at one
  pub messages : new.messages.items ≡ old.messages.items
  pub files : new.files.items ≡ old.files.items
  pub anchors : new.anchors.items ≡ old.anchors.items

abbrev pub with_host : Player → (at : ℕ) → Host → Player
with_host p at one = record p { hosts = with_item p.hosts at one }

pub served-at : (old : Player) (name : List ℕ) (at : ℕ) (host one : Host) → (at < length old.hosts.items)
    × IsFirst old.hosts.items name at
    → host ≡ get_or old.hosts.items at host → IsServedAt old (with_host old at one) name at host one
served-at old name at host one found is = record {
  first = found.1;
  there = slice_get-get_or old.hosts.items at host found.0 ∙ ap Some (sym is);
  hosts = refl;
  messages = refl;
  files = refl;
  anchors = refl;
}

-- the service that is found has a history
pub held-at : (p : Player) (w : World) (name : List ℕ) (at : ℕ) (host : Host) → PlayerFollows p w
    → (at < length p.hosts.items) × IsFirst p.hosts.items name at → host ≡ get_or p.hosts.items at host → (h : History)
    × HoldsHistory host h
held-at p w name at host f first is =
    let served = served-at p name at host host first is in
    let found = find-member p.hosts.items w.members name at host f.hosts served.first served.there in
    (found.member.history, found.is.holds)

pub host-there : (hosts : List Host) (at : ℕ) → at < length hosts → (host : Host) × (slice_get hosts at ≡ Some host)
host-there [] at within = absurd (omega (arith, within))
host-there (x ∷ hosts) zero within = (x, refl)
host-there (x ∷ hosts) (suc at) within = host-there hosts at (omega (arith, within))

-- the world's message at a place
pub message-there : (p : Player) (w : World) (index : ℕ) (kept : KeptMail) → PlayerFollows p w
    → index < length p.messages.items → kept ≡ get_or p.messages.items index kept
    → slice_get w.messages index ≡ Some (mail_kept kept)
message-there p w index kept f within is =
    ap (λ (ms : List Mail). slice_get ms index) (sym f.messages) ∙ slice_get-map mail_kept p.messages.items index
    ∙ ap (option_map mail_kept) (slice_get-get_or p.messages.items index kept within ∙ ap Some (sym is))

-- the world's file at a place
pub file-there : (p : Player) (w : World) (index : ℕ) (file : Option (List ℕ)) → p.files.items ≡ w.files
    → index < length p.files.items → file ≡ get_or p.files.items index file
    → slice_get w.files index ≡ Some file
file-there p w index file same within is =
    ap (λ (fs : List (Option (List ℕ))). slice_get fs index) (sym same) ∙ slice_get-get_or p.files.items index file
    within ∙ ap Some (sym is)

-- the world's messages without the one at a place
pub message-lost : (p : Player) (w : World) (index number : ℕ) → PlayerFollows p w → index + 1 ≡ number
    → map mail_kept (slice_set p.messages.items index Dropped) ≡ (without_message w number).messages
message-lost p w index number f at =
    map-set mail_kept p.messages.items index Dropped ∙ ap (λ (ms : List Mail). slice_set ms index (mail_kept Dropped))
    f.messages
    ∙ ap (λ i. slice_set w.messages i (mail_kept Dropped)) (omega (arith, at))

module _ (old new : Player) (name : List ℕ) (at : ℕ) (host one : Host) (served : IsServedAt old new name at host one)
    (w : World) (f : PlayerFollows old w) where
  -- it is another member of the name
  pub follows-put : (n : Member) → IsHostOf one n → n.history.name ≡ name
      → PlayerFollows new (after_line (with_member w n))
  follows-put n is same = record {
    hosts = subst (λ (hosts : List Host). AreHostsOf hosts (with_member w n).members) (sym served.hosts)
        (put-host old.hosts.items w.members name at one n f.hosts served.first is same);
    messages = ap (map mail_kept) served.messages ∙ f.messages;
    files = served.files ∙ f.files;
    proofs = subst (Each IsProofFile) (sym served.files) f.proofs;
    anchors = served.anchors ∙ f.anchors;
  }

  -- it is the same member
  pub follows-kept : ((m : Member) → IsHostOf host m → IsHostOf one m) → PlayerFollows new w
  follows-kept to = record {
    hosts = subst (λ (hosts : List Host). AreHostsOf hosts w.members) (sym served.hosts)
        (keep-host old.hosts.items w.members at host one f.hosts served.there to);
    messages = ap (map mail_kept) served.messages ∙ f.messages;
    files = served.files ∙ f.files;
    proofs = subst (Each IsProofFile) (sym served.files) f.proofs;
    anchors = served.anchors ∙ f.anchors;
  }

  -- a line that only asked
  pub follows-asked : (question : Question) (given : Result (List ℕ) Refusal)
      → ((h : History) → HoldsHistory host h → GivesReply h question given × HoldsHistory one h)
      → one.crash ≡ host.crash → (m : Member) × IsMember w name m × GivesReply m.history question given × PlayerFollows
      new w
  follows-asked question given gives crash =
      let found = find-member old.hosts.items w.members name at host f.hosts served.first served.there in (
        found.member,
        found.there,
        (gives found.member.history found.is.holds).0,
        follows-kept (λ m is. record { holds = (gives m.history is.holds).1; waits = ap is_some crash ∙ is.waits }),
      )

  -- a line that may have added a step
  pub follows-moved : (given : Given) (told : Told)
      → ((h : History) → HoldsHistory host h → (next : History) × GoesOnByReply given (is_some host.crash) h next told
      × HoldsHistory one next) → one.name ≡ host.name → one.crash ≡ None
      → (m : Member) × IsMember w name m × ((next : World) × Moves (TakesGiven given) (own_answer given) w m told next
      × PlayerFollows new next)
  follows-moved given told goes same crash =
      let found = find-member old.hosts.items w.members name at host f.hosts served.first served.there in
      let m : Member = found.member in
      let gone = goes m.history found.is.holds in
      let next : History = gone.0 in
      let moved = goes-moves given w m next told (subst (λ b. GoesOnByReply given b m.history next told) found.is.waits
      gone.1) in
      let is = moved.2 in
      let n : Member = is.member in
      let holds : HoldsHistory one n.history = subst (HoldsHistory one) (sym is.history) gone.2 in
      let names : n.history.name ≡ name = sym holds.named ∙ same ∙ found.is.holds.named ∙ named w.members name m
      found.there in (
        m,
        found.there,
        (
          moved.0,
          moved.1,
          subst (PlayerFollows new) (sym is.is)
              (follows-put n (record { holds = holds; waits = ap is_some crash ∙ sym is.waits }) names),
        ),
      )

-- ---- what a line may use is there

within-length : {X : Type 0} (xs : List X) (index : ℕ) (x : X) → slice_get xs index ≡ Some x → index < length xs
within-length [] index x is = cc
within-length (y ∷ xs) zero x is = omega arith
within-length (y ∷ xs) (suc index) x is = let rest = within-length xs index x is in omega (arith, rest)

-- what has a number is one of so many
pub numbered-within : {X : Type 0} (xs : List X) (number : ℕ) (x : X) → numbered xs number ≡ Some x → (0 < number)
    × (number ≤ length xs)
numbered-within xs zero x is = cc
numbered-within xs (suc index) x is = let within = within-length xs index x is in (omega arith, omega (arith, within))

pub message-within : (p : Player) (w : World) (number : ℕ) → PlayerFollows p w → IsMessage w number → (0 < number)
    × (number ≤ length p.messages.items)
message-within p w number f is =
    let there = numbered-within w.messages number is.0 is.1 in
    let same : length w.messages ≡ length p.messages.items = ap length (sym f.messages) ∙ length-map p.messages.items
    mail_kept in
    (there.0, omega (arith, there.1, same))

pub file-within : (p : Player) (w : World) (number : ℕ) → PlayerFollows p w → IsSome (numbered w.files number)
    → (0 < number) × (number ≤ length p.files.items)
file-within p w number f is = by (numbered w.files number) refl is
  where
    by : (o : Option (Option (List ℕ))) → numbered w.files number ≡ o → IsSome o → (0 < number)
        × (number ≤ length p.files.items)
    by None at some = cc
    by (Some file) at some =
        let there = numbered-within w.files number file at in
        let same : length w.files ≡ length p.files.items = ap length (sym f.files) in
        (there.0, omega (arith, there.1, same))

-- a message that a line may use wasn't dropped
pub message-kept : (p : Player) (w : World) (index number : ℕ) (kept : KeptMail) → PlayerFollows p w
    → index < length p.messages.items → kept ≡ get_or p.messages.items index kept
    → index + 1 ≡ number → IsMessage w number → IsSome (loss_answer (mail_kept kept))
message-kept p w index number kept f within is at message =
    let both : Some (mail_kept kept) ≡ Some message.0 = sym (message-there p w index kept f within is)
    ∙ sym (numbered-at w.messages index number at) ∙ message.1 in
    let same : mail_kept kept ≡ message.0 = cc in
    subst (λ (mail : Mail). IsSome (loss_answer mail)) (sym same) message.2
