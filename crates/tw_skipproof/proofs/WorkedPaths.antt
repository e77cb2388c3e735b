-- The greedy path, computed between some steps.
use Rattle.std.proofs.Common.{◌≡◌, [], ◌∷◌, refl}
use Rattle.std.specs.Int.Count.{count_trailing_zeros}
use Rattle.tw_base.specs.kinds.Levels.{top_level}
use Rattle.tw_skipproof.specs.Paths.{greedy_steps, hop_level, level_up_to, steps_within}

steps-13-5 : greedy_steps 13 5 ≡ 13 ∷ 12 ∷ 8 ∷ 6 ∷ []
unfolding greedy_steps steps_within hop_level level_up_to top_level count_trailing_zeros
steps-13-5 = refl

levels-13-5 : hop_level 13 5 ∷ hop_level 12 5 ∷ hop_level 8 5 ∷ hop_level 6 5 ∷ [] ≡ 0 ∷ 2 ∷ 1 ∷ 0 ∷ []
unfolding hop_level level_up_to top_level count_trailing_zeros
levels-13-5 = refl

steps-16-1 : greedy_steps 16 1 ≡ 16 ∷ 8 ∷ 4 ∷ 2 ∷ []
unfolding greedy_steps steps_within hop_level level_up_to top_level count_trailing_zeros
steps-16-1 = refl

steps-15-0 : greedy_steps 15 0 ≡ 15 ∷ 14 ∷ 12 ∷ 8 ∷ []
unfolding greedy_steps steps_within hop_level level_up_to top_level count_trailing_zeros
steps-15-0 = refl
