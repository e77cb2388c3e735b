use Rattle.std.proofs.Common.{false, IsTrue, refl, subst}
use Rattle.tw_base.proofs.lemmas.format.TakeLaws.{takes-word, word-once}
use Rattle.tw_follow.specs.Roots.{FitsStore, root_codec}
use Rattle.tw_follow.proofs.Spelling.{root-lawful}
use Rattle.tw_follow.proofs.root.read_root.Goals as goal

pub returns-in-Err-clause-root : goal.returns-in-Err-clause-root
returns-in-Err-clause-root g c = λ r is allowed.
    takes-word root_codec root-lawful (λ x. x) c.args.bytes.now _ _ _ c.take_root-read.ensures.takes
    c.take_root-read.ensures.memory c.in-Err.ensures r is allowed.spelled

pub returns-then-fits_store-clause-root : goal.returns-then-fits_store-clause-root
returns-then-fits_store-clause-root g c =
    let found = takes-word root_codec root-lawful (λ x. x) c.args.bytes.now _ _ _ c.take_root-read.ensures.takes
    c.take_root-read.ensures.memory c.in-Ok.ensures in
    (found.0, record { spelled = found.1; fits = c.if-fits_store.ensures.0 refl })

pub returns-else-fits_store-clause-root : goal.returns-else-fits_store-clause-root
returns-else-fits_store-clause-root g c = λ r is allowed.
    let found = takes-word root_codec root-lawful (λ x. x) c.args.bytes.now _ _ _ c.take_root-read.ensures.takes
    c.take_root-read.ensures.memory c.in-Ok.ensures in
    let same = word-once root_codec root-lawful c.args.bytes.now r c.in-Ok.root is allowed.spelled found.0 found.1 in
    let bad : IsTrue false = c.if-fits_store.ensures.1 (subst (FitsStore g.H.Hasher.dig c.args.used c.args.generation)
    same allowed.fits) in
    cc
