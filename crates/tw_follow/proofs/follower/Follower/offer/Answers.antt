use Rattle.std.proofs.Common.{Bool, refl, subst, sym}
use Rattle.std.specs.Prelude.{Err}
use Rattle.tw_base.specs.declared.history.refusal.FollowRefusal.TheVariants.{Malformed, NoMemory, Reopen}
use Rattle.tw_follow.specs.Offers.{AnswersOffer}
use Rattle.tw_follow.proofs.Answering.{malformed_is_none, memory_is_none, own-by, refused_offer, reopen_is_none}
use Rattle.tw_follow.proofs.follower.Follower.offer.Goals as goal

pub returns-then-self-clause-offers : goal.returns-then-self-clause-offers
returns-then-self-clause-offers g c =
    let f = c.args.self.now in
    refused_offer g.D.Disk.view g.met.D.Disk.only_now g.H.Hasher.dig f c.args.bytes.now Reopen
    (subst (λ (b : Bool). AnswersOffer g.H.Hasher.dig b f.recorded.root.head c.args.bytes.now (Err Reopen))
    (sym c.if-self.true) refl) reopen_is_none

pub returns-in-Ok-clause-offers : goal.returns-in-Ok-clause-offers
returns-in-Ok-clause-offers g c = c.take.ensures c.args.bytes.now c.in-Ok.ensures

pub returns-in-Ok-clause-own : goal.returns-in-Ok-clause-own
returns-in-Ok-clause-own g c = λ h sound name has makes.
    let f = c.args.self.now in
    own-by g.H.Hasher.dig h f.recorded.root.head c.args.bytes.now name has makes f.is_broken c.take.result
    (c.take.ensures c.args.bytes.now c.in-Ok.ensures).table

pub returns-in-Err-Malformed-clause-offers : goal.returns-in-Err-Malformed-clause-offers
returns-in-Err-Malformed-clause-offers g c =
    let f = c.args.self.now in
    let place = c.in-Err-Malformed.place in
    refused_offer g.D.Disk.view g.met.D.Disk.only_now g.H.Hasher.dig f c.args.bytes.now (Malformed place)
    (subst (λ (b : Bool). AnswersOffer g.H.Hasher.dig b f.recorded.root.head c.args.bytes.now (Err (Malformed place)))
    (sym c.if-self.false)
    (rw c.in-Err-Malformed.field-0-is at c.in-Err-Malformed.ensures)) (malformed_is_none place)

pub returns-in-Err-Malformed-clause-own : goal.returns-in-Err-Malformed-clause-own
returns-in-Err-Malformed-clause-own g c = λ h sound name has makes.
    let f = c.args.self.now in
    own-by g.H.Hasher.dig h f.recorded.root.head c.args.bytes.now name has makes f.is_broken
    (Err (Malformed c.in-Err-Malformed.place))
    (subst (λ (b : Bool). AnswersOffer g.H.Hasher.dig b f.recorded.root.head c.args.bytes.now
    (Err (Malformed c.in-Err-Malformed.place))) (sym c.if-self.false)
    (rw c.in-Err-Malformed.field-0-is at c.in-Err-Malformed.ensures))

pub returns-in-Err-NoMemory-clause-offers : goal.returns-in-Err-NoMemory-clause-offers
returns-in-Err-NoMemory-clause-offers g c =
    let f = c.args.self.now in
    refused_offer g.D.Disk.view g.met.D.Disk.only_now g.H.Hasher.dig f c.args.bytes.now NoMemory
    (subst (λ (b : Bool). AnswersOffer g.H.Hasher.dig b f.recorded.root.head c.args.bytes.now (Err NoMemory))
    (sym c.if-self.false) tt) memory_is_none
