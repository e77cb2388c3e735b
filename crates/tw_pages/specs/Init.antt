-- What an image is while a store is made, as a crash may leave it.
use Rattle.std.specs.Prelude.{◌⊎◌, ℕ, List, []}
use Rattle.tw_disk.specs.Image.{Image}
use Rattle.tw_pages.specs.Store.{Opening, OpensAs}
use Rattle.tw_pages.specs.Slots.{IsBlank}

-- the new store, by its first slot or by its second
abbrev pub first_opening : List ℕ → Opening
first_opening root = record { root = root; generation = 1; slot = 0; pages = [] }

abbrev pub second_opening : List ℕ → Opening
second_opening root = record { root = root; generation = 0; slot = 1; pages = [] }

abbrev pub IsBlankOrRoot : List ℕ → Image → Type 0
IsBlankOrRoot root c = IsBlank c ⊎ (OpensAs (first_opening root) c ⊎ OpensAs (second_opening root) c)
