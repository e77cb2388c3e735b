-- What a line gave to a service, from what opening it, its call and the line's end make.
use Rattle.std.proofs.Common.{◌≡◌, ◌∙◌, ℕ, ◌+◌, List, [], ◌∷◌, refl, sym, subst}
use Rattle.std.specs.Prelude.{MatchOption, Option, None, Some, slice_get}
use Rattle.tw_disk.specs.declared.memory_disk.MemDisk.{MemDisk}
use Rattle.tw_world.specs.Hosts.{Given}
use Rattle.tw_script.specs.declared.line.Line.TheVariants.{Deliver}
use Rattle.tw_world.specs.OnDisks.{Becomes, DoesGiven, LineEndsWith, IsAskedOn, IsDeliveredOn, IsGivenOn, IsLineOn}
use Rattle.tw_world.specs.OnDisks.{IsOpenedFor}
use Rattle.tw_world.specs.Players.{AreHostsOf}
use Rattle.tw_world.specs.Worlds.{Mail, World}
use Rattle.tw_world.specs.declared.host.Host.{Host}
use Rattle.tw_world.specs.declared.host.Opened.{Opened}
use Rattle.tw_world.specs.declared.host.Planned.{Planned}
use Rattle.tw_world.specs.declared.told.Answer.{Answer}
use Rattle.tw_world.specs.declared.told.Told.{Told}
use Rattle.tw_world.proofs.ToldLines.{numbered-at}

pub given-on : (given : Given) (told : Told) (old new : Host) (taken : MemDisk) (crash : Option Planned)
    (opened done : Opened) (answer : Option Answer) (said : Told) (disk : MemDisk) (steps : ℕ)
    → (new.name ≡ old.name) × (new.crash ≡ None) → taken ≡ old.disk → crash ≡ old.crash
    → IsOpenedFor taken crash opened → done.crash ≡ opened.crash → DoesGiven given opened.service done.service answer
    → LineEndsWith done answer said disk steps → told ≡ said → new.disk ≡ disk → new.steps ≡ steps
    → IsGivenOn given told old new
given-on given told old new taken crash opened done answer said disk steps same taken-is crash-is opens kept does ends
    told-is disk-is steps-is =
    record {
      named = same.0;
      over = same.1;
      opened = opened;
      opens = subst (λ (d : MemDisk). IsOpenedFor d old.crash opened) taken-is
          (subst (λ (c : Option Planned). IsOpenedFor taken c opened) crash-is opens);
      done = done;
      waits = kept ∙ opens.0 ∙ crash-is;
      answer = answer;
      does = does;
      ends = subst (λ (t : Told). LineEndsWith done answer t new.disk new.steps) (sym told-is)
          (subst (λ (d : MemDisk). LineEndsWith done answer said d new.steps) (sym disk-is)
          (subst (λ (n : ℕ). LineEndsWith done answer said disk n) (sym steps-is) ends));
    }

-- where a service was asked, and no service is touched then
pub asked-still : (name : List ℕ) (old mid new : List Host) → Becomes name IsAskedOn old mid → new ≡ mid
    → Becomes name IsAskedOn old new
asked-still name old mid new asked same = subst (λ (hosts : List Host). Becomes name IsAskedOn old hosts) (sym same) asked

-- a message at a place is given
pub delivered-on : (w : World) (hosts next : List Host) (number index : ℕ) (name : List ℕ) (told : Told) (mail : Mail)
    → index + 1 ≡ number → slice_get w.messages index ≡ Some mail → IsDeliveredOn mail name told hosts next
    → IsLineOn w hosts (Deliver number name) told next
delivered-on w hosts next number index name told mail at there is =
    subst (λ (o : Option Mail). MatchOption o ⊥ (λ m. IsDeliveredOn m name told hosts next))
    (sym (numbered-at w.messages index number at ∙ there)) is

-- no services are those of no members
pub no-hosts : (hosts : List Host) → AreHostsOf hosts [] → [] ≡ hosts
no-hosts [] are = refl
no-hosts (host ∷ hosts) are = absurd are
