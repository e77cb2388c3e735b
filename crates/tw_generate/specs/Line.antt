-- The line of a summary.
use Rattle.std.specs.Prelude.{ℕ, List, [], ◌∷◌}
use Rattle.tw_text.specs.Summaries.{generated_line}
use Rattle.tw_generate.specs.declared.summary.Summary.{Summary}

-- the steps are those of alpha, beta and gamma
abbrev pub summary_line : Summary → List ℕ
summary_line told =
    generated_line told.stands told.high told.hops told.low (told.alpha ∷ told.beta ∷ told.gamma ∷ []) told.threads
