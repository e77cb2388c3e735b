-- What writers of a codec leave.
use Rattle.std.proofs.Common.{◌≡◌, ℕ, ◌+◌, ◌<◌, ◌≤◌, List, [], ◌∷◌, ◌++◌, length, take, flat_map, get_or, refl, ap, sym}
use Rattle.std.proofs.Common.{◌∙◌, subst, append_assoc}
use Rattle.std.specs.Prelude.{OnOk, Result, Ok, Err}
use Rattle.std.proofs.lemmas.List.{append-nil, take_all, take_more}
use Rattle.tw_base.specs.declared.kinds.failure.NoMemory.{NoMemory as WantOfMemory}
use Rattle.tw_base.specs.format.Codecs.{Codec}
use Rattle.tw_base.specs.format.Formats.{Spells}
use Rattle.tw_base.specs.kinds.Lists.{Each}
use Rattle.tw_base.specs.format.Taking.{Puts}
use Rattle.tw_base.proofs.lemmas.format.CodecLaws.{Lawful}
use Rattle.tw_base.proofs.lemmas.kinds.ListLemmas.{Each-append}

-- a value that fits was written
pub puts-fits : {X : Type 0} (c : Codec X) (x : X) (before after : List ℕ) (r : Result (Unit {0}) WantOfMemory)
    → OnOk r (after ≡ before ++ c.write x) → c.Fits x → Puts c x before after r
puts-fits c x before after (Ok done) written fits = (written, fits)
puts-fits c x before after (Err fault) written fits = tt

-- ---- the loop that writes a list
module _ {X : Type 0} (write : X → List ℕ) (Good : X → Type 0) where
  -- so many are written, each of them good
  pub record ManyPut (before now : List ℕ) (xs : List X) (i : ℕ) : Type 0 where
    pub written : now ≡ before ++ flat_map write (take i xs)
    pub good : Each Good (take i xs)

  pub put-none : (before : List ℕ) (xs : List X) → ManyPut before before xs 0
  put-none before xs = record { written = sym (append-nil before); good = tt }

  flat_map-append : (xs ys : List X) → flat_map write (xs ++ ys) ≡ flat_map write xs ++ flat_map write ys
  flat_map-append [] ys = refl
  flat_map-append (x ∷ xs) ys = ap (λ w. write x ++ w) (flat_map-append xs ys)
      ∙ sym (append_assoc (write x) (flat_map write xs) (flat_map write ys))

  pub put-more : (before now more : List ℕ) (xs : List X) (i : ℕ) (x : X) → i < length xs → x ≡ get_or xs i x
      → ManyPut before now xs i
      → more ≡ now ++ write x → Good x → ManyPut before more xs (i + 1)
  put-more before now more xs i x l is so_far e good =
      let items : take (i + 1) xs ≡ take i xs ++ x ∷ [] = take_more xs i x l ∙ ap (λ y. take i xs ++ y ∷ []) (sym is) in
      record {
        written =
            e ∙ ap (λ w. w ++ write x) so_far.written ∙ append_assoc before (flat_map write (take i xs)) (write x)
            ∙ ap (λ w. before ++ w) (ap (λ w. flat_map write (take i xs) ++ w) (sym (append-nil (write x)))
            ∙ sym (ap (flat_map write) items ∙ flat_map-append (take i xs) (x ∷ [])));
        good = (let P : List X → Type 0 = Each Good in
            subst P (sym items) (Each-append Good (take i xs) (x ∷ []) so_far.good (good, tt)));
      }

  pub put-all : (before now : List ℕ) (xs : List X) (i : ℕ) → length xs ≤ i → ManyPut before now xs i
      → (now ≡ before ++ flat_map write xs) × Each Good xs
  put-all before now xs i l m =
      let all : take i xs ≡ xs = take_all i xs l in
      let P : List X → Type 0 = Each Good in
      (m.written ∙ ap (λ ys. before ++ flat_map write ys) all, subst P all m.good)

-- what was put behind no bytes is the spelling, and spells the value
module _ {X : Type 0} (c : Codec X) (l : Lawful c) where
  pub put-whole : (x : X) (none bytes : List ℕ) → none ≡ [] → (bytes ≡ none ++ c.write x) × c.Fits x
      → (bytes ≡ c.write x) × Spells c.format bytes x
  put-whole x none bytes e put =
      let same : bytes ≡ c.write x = put.0 ∙ ap (λ w. w ++ c.write x) e in
      let P : List ℕ → Type 0 = λ w. Spells c.format w x in (same, subst P (sym same) (l.spells x put.1))
