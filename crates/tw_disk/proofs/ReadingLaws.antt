-- Calls over a list of pages, one after another.
use Rattle.std.specs.Prelude.{ℕ, Option, Some}
use Rattle.std.proofs.Common.{[], ◌++◌, ◌∙◌, refl, ap, sym, arith, append-nil, append_assoc}
use Rattle.tw_disk.specs.Image.{Image}
use Rattle.tw_disk.specs.Pages.{OnlyAdds, OnlyReads, PagesView}

module _ {P : Type 0} (view : P → PagesView) (same : P → P → Type 0) where
  -- no call
  pub only_reads_itself : (pages : P) (good : Type 0) → same pages pages → OnlyReads view same pages pages good
  only_reads_itself pages good same_itself =
      record { used_kept = refl; list_kept = refl; same_kept = same_itself; unbroken_kept = λ _ is. is }

  -- the same of calls of which more is known
  pub reads_weaker : (a b : P) (good better : Type 0) → (better → good) → OnlyReads view same a b good
      → OnlyReads view same a b better
  reads_weaker a b good better to_good reads =
      record {
        used_kept = reads.used_kept;
        list_kept = reads.list_kept;
        same_kept = reads.same_kept;
        unbroken_kept = λ good is. reads.unbroken_kept (to_good good) is;
      }

  -- one call after another
  pub only_reads_on : (a b c : P) (first second both : Type 0) → ((x y z : P) → same x y → same y z → same x z)
      → (both → first) → (both → second)
      → OnlyReads view same a b first → OnlyReads view same b c second → OnlyReads view same a c both
  only_reads_on a b c first second both same_on to_first to_second one two = record {
    used_kept = two.used_kept ∙ one.used_kept;
    list_kept = two.list_kept ∙ one.list_kept;
    same_kept = same_on a b c one.same_kept two.same_kept;
    unbroken_kept = λ good is. two.unbroken_kept (to_second good) (one.unbroken_kept (to_first good) is);
  }

  -- a call that only reads adds none
  pub adds_none : (a b : P) (good : Type 0) → OnlyReads view same a b good → OnlyAdds view same a b good
  adds_none a b good reads = record {
    used_grows = omega (arith, reads.used_kept);
    list_grows = λ ps told. ([], reads.list_kept ∙ told ∙ ap (λ (xs : Image). Some xs) (sym (append-nil ps)));
    same_kept = reads.same_kept;
    unbroken_kept = reads.unbroken_kept;
  }

  -- one call that adds after another
  pub only_adds_on : (a b c : P) (first second both : Type 0) → ((x y z : P) → same x y → same y z → same x z)
      → (both → first) → (both → second)
      → OnlyAdds view same a b first → OnlyAdds view same b c second → OnlyAdds view same a c both
  only_adds_on a b c first second both same_on to_first to_second one two = record {
    used_grows = omega (arith, one.used_grows, two.used_grows);
    list_grows = λ ps told.
        let more = one.list_grows ps told in
        let rest = two.list_grows (ps ++ more.0) more.1 in
        (more.0 ++ rest.0, rest.1 ∙ ap (λ (xs : Image). Some xs) (append_assoc ps more.0 rest.0));
    same_kept = same_on a b c one.same_kept two.same_kept;
    unbroken_kept = λ good is. two.unbroken_kept (to_second good) (one.unbroken_kept (to_first good) is);
  }
