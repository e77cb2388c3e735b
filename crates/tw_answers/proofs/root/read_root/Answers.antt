use Rattle.std.proofs.Common.{◌∙◌, false, IsTrue, Bool, ap, length, refl, subst, sym}
use Rattle.std.specs.Prelude.{◌==◌}
use Rattle.tw_base.proofs.lemmas.format.TakeLaws.{takes-word, word-once}
use Rattle.tw_answers.specs.Roots.{FitsStore, root_codec}
use Rattle.tw_answers.proofs.RootLaws.{by_timed, root-lawful, root-timed, timed-length}
use Rattle.tw_answers.proofs.root.read_root.Goals as goal

pub returns-in-Err-clause-root : goal.returns-in-Err-clause-root
returns-in-Err-clause-root c = λ r is allowed.
    let timed = timed-length c.args.bytes.now r is allowed.spelled in
    takes-word (root_codec (length c.args.bytes.now == 120)) (root-lawful (length c.args.bytes.now == 120)) (λ x. x)
    c.args.bytes.now _ _ _ c.take_root-read.ensures.takes c.take_root-read.ensures.memory c.in-Err.ensures r
    (is ∙ ap (λ (b : Bool). (root_codec b).write r) (sym timed)) (subst (λ (b : Bool). (root_codec b).Fits r)
    (sym timed) allowed.spelled)

pub returns-then-fits_store-clause-root : goal.returns-then-fits_store-clause-root
returns-then-fits_store-clause-root c =
    let found = takes-word (root_codec (length c.args.bytes.now == 120)) (root-lawful (length c.args.bytes.now == 120))
    (λ x. x) c.args.bytes.now _ _ _ c.take_root-read.ensures.takes c.take_root-read.ensures.memory c.in-Ok.ensures in
    let timed = root-timed (length c.args.bytes.now == 120) c.in-Ok.root found.1 in (
      found.0 ∙ ap (λ (b : Bool). (root_codec b).write c.in-Ok.root) (sym timed),
      record {
        spelled = by_timed (length c.args.bytes.now == 120) c.in-Ok.root timed found.1;
        fits = c.if-fits_store.ensures.0 refl;
      },
    )

pub returns-else-fits_store-clause-root : goal.returns-else-fits_store-clause-root
returns-else-fits_store-clause-root c = λ r is allowed.
    let found = takes-word (root_codec (length c.args.bytes.now == 120)) (root-lawful (length c.args.bytes.now == 120))
    (λ x. x) c.args.bytes.now _ _ _ c.take_root-read.ensures.takes c.take_root-read.ensures.memory c.in-Ok.ensures in
    let timed = timed-length c.args.bytes.now r is allowed.spelled in
    let same = word-once (root_codec (length c.args.bytes.now == 120)) (root-lawful (length c.args.bytes.now == 120))
    c.args.bytes.now r c.in-Ok.root (is ∙ ap (λ (b : Bool). (root_codec b).write r) (sym timed))
    (subst (λ (b : Bool). (root_codec b).Fits r) (sym timed) allowed.spelled) found.0 found.1 in
    let bad : IsTrue false = c.if-fits_store.ensures.1 (subst (FitsStore c.args.used c.args.generation) same
    allowed.fits) in
    cc
