use Rattle.std.proofs.Common.{◌≡◌, inr, refl, subst, sym, Bool, true}
use Rattle.std.specs.Prelude.{Result, Err}
use Rattle.tw_msg.specs.declared.receipt.Receipt.{Receipt}
use Rattle.tw_base.specs.declared.history.refusal.Refusal.{Refusal}
use Rattle.tw_base.specs.declared.history.refusal.Refusal.TheVariants.{Reopen}
use Rattle.tw_service.specs.Receiving.{RefusesNoMessage}
use Rattle.tw_service.proofs.Received.{own_broken, received_refused}
use Rattle.tw_service.proofs.service.Service.take_bytes.Goals as goal

abbrev fails : Refusal → Result Receipt Refusal
fails why = Err why

pub returns-then-self : goal.returns-then-self
returns-then-self g c =
    let s = c.args.self.now in
    let failed : s.is_broken ≡ true = c.if-self.true in
    record {
      malformed =
          λ nothing. (subst (λ (b : Bool). RefusesNoMessage b c.args.bytes.now (fails Reopen)) (sym failed) refl, refl);
      message = λ m spells. inr (received_refused g.D.Disk.view g.met.D.Disk.only_now g.H.Hasher.dig m c.args.time s
          Reopen (own_broken s.is_broken s.recorded.kept.root.name m.thread.from failed));
    }
