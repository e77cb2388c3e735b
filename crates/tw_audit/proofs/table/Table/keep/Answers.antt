use Rattle.std.proofs.Common.{ap, sym, ◌∙◌, subst, false, ◌≡◌}
use Rattle.std.specs.BTreeMap.{get}
use Rattle.std.specs.Cmp.Lexicographic.{slice_cmp}
use Rattle.std.specs.Ordering.{is_eq, nat_cmp}
use Rattle.std.specs.Prelude.{Some}
use Rattle.tw_audit.specs.declared.table.Table.{Table}
use Rattle.tw_audit.specs.Tables.{words_of}
use Rattle.tw_audit.proofs.DigestWords.{words-apart}
use Rattle.tw_audit.proofs.TableLaws.{either_place, taken-new}
use Rattle.tw_audit.proofs.table.Table.keep.Goals as goal

pub returns-clause-taken : goal.returns-clause-taken
returns-clause-taken c = λ dig texts gives key none absent is.
    let new : Table =
    record {
      alloc = c.args.self.now.alloc;
      arena = c.add.new.self.arena;
      places = c.insert.new.self;
      found = c.add.new.self.found;
      spent = c.add.new.self.spent;
    } in
    let same = c.in_ok-place.ensures.others.0 in
    let updates = c.in_ok-insert.ensures.updates in
    taken-new dig texts c.args.self.now new c.args.text.now c.in_ok-place.place is none absent
    c.in_ok-place.ensures.arena c.in_ok-place.ensures.place.0 c.in_ok-place.ensures.place.1
    c.in_ok-place.ensures.others.1
    (subst (λ w. get (slice_cmp nat_cmp) c.insert.new.self w ≡ Some c.in_ok-place.place) key updates.1)
    (λ t differ. updates.2 (words_of (dig t)) (subst (λ w. is_eq (slice_cmp nat_cmp w (words_of (dig t))) ≡ false)
    (sym key) (words-apart (dig c.args.text.now) (dig t) (gives c.args.text.now) (gives t) differ))
    ∙ ap (λ m. get (slice_cmp nat_cmp) m (words_of (dig t))) same)
    (λ words. either_place _ _ _ _ _ (updates.0 words) (ap (λ m. get (slice_cmp nat_cmp) m words) same))
