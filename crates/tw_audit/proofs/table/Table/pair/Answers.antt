use Rattle.std.proofs.Common.{refl, ◌∙◌}
use Rattle.std.specs.Prelude.{Some}
use Rattle.tw_audit.specs.declared.table.Table.{Table}
use Rattle.tw_audit.specs.declared.table.TextPair.{TextPair}
use Rattle.tw_audit.specs.Tables.{text_at}
use Rattle.tw_audit.proofs.TableLaws.{taken-pair}
use Rattle.tw_audit.proofs.table.Table.pair.Goals as goal

pub returns-clause-taken : goal.returns-clause-taken
returns-clause-taken c = λ dig texts none here differ inside is.
    let pair : TextPair = record { one = c.in_ok-one.one; other = c.in_ok-other.other } in
    let old : Table = c.args.self.now in
    let new : Table = record {
      alloc = old.alloc;
      arena = old.arena;
      places = old.places;
      found = Some pair;
      spent = old.spent;
    } in
    taken-pair dig texts old new c.args.text.now (text_at old.arena.items c.args.one) pair is none here differ
    (c.in_ok-one.ensures ∙ c.text_at.ensures inside.order inside.within) c.in_ok-other.ensures refl refl refl
