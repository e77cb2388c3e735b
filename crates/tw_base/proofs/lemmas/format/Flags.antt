-- Reading the byte of a flag.
use Rattle.std.proofs.Common.{◌≡◌, ℕ, ◌+◌, ◌<◌, List, ◌∷◌, length, get_or, drop, Bool, true, false, ap, sym, ◌∙◌, arith}
use Rattle.std.specs.Prelude.{Ok, Err, ◌||◌, ◌==◌}
use Rattle.std.proofs.lemmas.List.{drop_all, drop_more}
use Rattle.tw_base.specs.format.Fields.{flag}
use Rattle.tw_base.specs.format.Formats.{front, placed, read_at}
use Rattle.tw_base.specs.format.Formats.Format.{Done}
use Rattle.tw_base.proofs.lemmas.format.FormatLaws.{front-byte, front-done, front-nil, front-stops}

abbrev is_flag : ℕ → Bool
is_flag b = b == 0 || b == 128

module _ (bytes : List ℕ) (at : ℕ) where
  pub flag-short : at ≡ length bytes → read_at flag bytes at ≡ Err at
  unfolding read_at flag
  flag-short e =
      ap placed (ap (λ bs. front flag bs at) (drop_all at bytes (omega (arith, e))) ∙ front-nil is_flag
      (λ b. Done (b == 128)) at)

  module _ (b : ℕ) (l : at < length bytes) (read : b ≡ get_or bytes at 0) where
    begins : drop at bytes ≡ b ∷ drop (at + 1) bytes
    begins = drop_more bytes at 0 l ∙ ap (λ x. x ∷ drop (at + 1) bytes) (sym read)

    pub flag-stops : (b == 0 || b == 128) ≡ false → read_at flag bytes at ≡ Err at
    unfolding read_at flag
    flag-stops fails = ap placed (ap (λ bs. front flag bs at) begins ∙ front-stops is_flag (λ b. Done (b == 128)) b
        (drop (at + 1) bytes) at fails)

    pub flag-found : (b == 0 || b == 128) ≡ true → read_at flag bytes at ≡ Ok
        (record { value = b == 128; after = at + 1 })
    unfolding read_at flag
    flag-found passes =
        ap placed (ap (λ bs. front flag bs at) begins ∙ front-byte is_flag (λ b. Done (b == 128)) b
        (drop (at + 1) bytes) at passes ∙ front-done (b == 128) (drop (at + 1) bytes) (at + 1))
