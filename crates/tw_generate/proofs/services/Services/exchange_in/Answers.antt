use Rattle.std.proofs.Common.{◌≡◌, [], ◌%◌, Bool, true, false, sym, subst}
use Rattle.std.specs.Prelude.{◌==◌, OnOk, if◌then◌else◌}
use Rattle.tw_generate.specs.Playing.{LeadsByActs}
use Rattle.tw_generate.specs.Schedules.{all_tell}
use Rattle.tw_generate.proofs.Leading.{leads-none}
use Rattle.tw_generate.specs.Unrefused.{CanPlay}
use Rattle.tw_generate.proofs.services.Services.exchange_in.Goals as goal

pub returns-then-is_fiftieth : goal.returns-then-is_fiftieth
returns-then-is_fiftieth g c =
    let yes : (c.args.number % 50 == 0) ≡ true = cc in
    subst (λ (b : Bool). OnOk c.exchange.result (LeadsByActs g.H.Hasher.dig g.D.Disk.view (if b then all_tell else [])
    c.args.self.now c.exchange.new.self)) (sym yes) c.exchange.ensures

pub returns : goal.returns
returns g c =
    let no : (c.args.number % 50 == 0) ≡ false = cc in
    subst (λ (b : Bool). LeadsByActs g.H.Hasher.dig g.D.Disk.view (if b then all_tell else []) c.args.self.now
    c.args.self.now) (sym no) (leads-none g.H.Hasher.dig g.D.Disk.view c.args.self.now)

pub exchange-requires : goal.exchange-requires
exchange-requires g c =
    let yes : (c.args.number % 50 == 0) ≡ true = cc in
    subst (λ (b : Bool). CanPlay g.H.Hasher.dig g.D.Disk.view (if b then all_tell else []) c.args.self.now) yes
    c.requires
