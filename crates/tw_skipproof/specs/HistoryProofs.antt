-- The openings, paths, parts and existence proofs that a history itself has.
use Rattle.std.specs.Prelude.{◌≡◌, ℕ, ◌-◌, ◌<◌, ◌≤◌, List, [], ◌∷◌, length, drop, map, remove}
use Rattle.tw_base.specs.events.EventParts.{event_part}
use Rattle.tw_base.specs.format.Formats.{Spells}
use Rattle.tw_base.specs.history.History.{History, events_at}
use Rattle.tw_base.specs.history.Auth.{auths, datum_text_at, link_texts_at}
use Rattle.tw_skipproof.specs.declared.existence.ExistenceProof.{ExistenceProof}
use Rattle.tw_skipproof.specs.declared.existence.Part.{Part}
use Rattle.tw_skipproof.specs.declared.opening.Opening.{Opening}
use Rattle.tw_skipproof.specs.declared.path.Link.{Link}
use Rattle.tw_skipproof.specs.Existence.{existence_layout}
use Rattle.tw_skipproof.specs.Openings.{Binds}
use Rattle.tw_skipproof.specs.Paths.{hop, hop_level}

module _ (dig : List ℕ → List ℕ) (h : History) where
  -- the labels of a step's links, from level 0 on
  abbrev pub labels_at : ℕ → List (List ℕ)
  labels_at step = map dig (link_texts_at dig h (auths dig h (step - 1)) step)

  -- the opening has what the history's step has
  pub record IsOpeningOf (step : ℕ) (o : Opening) : Type 0 where
    pub binds : Binds dig h step o
    pub others : o.others ≡ drop 1 (labels_at step)

  -- the links are those of the history's greedy path: each has its step's datum, and its labels but for the link's own
  abbrev pub IsPathOf : List Link → (from to : ℕ) → Type 0
  IsPathOf [] from to = from ≤ to
  IsPathOf (link ∷ links) from to =
      (to < from) × (link.datum ≡ dig (datum_text_at dig h from)) × (link.others ≡ remove (labels_at from) (hop_level from to))
      × IsPathOf links (hop from to) to

  -- the part that the history has of a step under a top: the history's name, its path from the top down to the step, and its
  -- opening of the step
  pub record IsPartOfHistory (step top : ℕ) (p : Part) : Type 0 where
    pub service : p.service ≡ h.name
    pub at_step : p.step ≡ step
    pub at_top : p.top ≡ top
    pub path : IsPathOf p.path.links top step
    pub opening : IsOpeningOf step p.opening

  module _ (step index top : ℕ) where
    -- the proof that the history has of its event at this index of the step, under this top: the part of the step, and
    -- the event with its audit path among the step's events
    pub record IsExistenceOf (p : ExistenceProof) : Type 0 where
      pub at : IsPartOfHistory step top p.at
      pub inside : index < length (events_at h step)
      pub event : p.event ≡ event_part dig (events_at h step) index

    -- the bytes spell that proof
    abbrev pub MakesExistence : List ℕ → Type 0
    MakesExistence bytes = (p : ExistenceProof) × Spells existence_layout bytes p × IsExistenceOf p
