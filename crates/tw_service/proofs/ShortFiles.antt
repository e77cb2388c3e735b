-- A sound history's file that is within its limits is read as the history again.
use Rattle.std.proofs.Common.{◌≡◌, ℕ, suc, zero, ◌+◌, ◌^◌, ◌<◌, ◌≤◌, List, [], ◌∷◌, ◌++◌, length, get_or, take, drop}
use Rattle.std.proofs.Common.{Bool, true, false, refl, ap, sym, ◌∙◌, arith}
use Rattle.std.specs.Prelude.{◌&&◌, flat_map, nat_le, slice_get, IsSome, Ok, Option, Some, None}
use Rattle.std.specs.List.{list_all}
use Rattle.std.proofs.lemmas.Bool.{leb-true}
use Rattle.std.proofs.lemmas.List.{length-append, take_more, take-append-drop}
use Rattle.std.proofs.lemmas.List.Concat.{flat_map-append}
use Rattle.std.proofs.lemmas.Option.{get_or_from_slice_get, slice_get-get_or, slice_get_within}
use Rattle.tw_base.specs.declared.history.content.Content.TheVariants.{Events}
use Rattle.tw_base.specs.declared.history.thread.Entry.{Entry}
use Rattle.tw_base.specs.declared.kinds.limits.TheConstants.{LAST_STEP, MOST_HISTORY_BYTES}
use Rattle.tw_base.specs.format.Codecs.{behind, by_kind, counted, many, name_codec, number_codec, pair, seen}
use Rattle.tw_base.specs.format.Fields.{number_bytes}
use Rattle.tw_base.specs.history.History.{History, Node, Step, entry_to, fresh_of, step_at}
use Rattle.tw_base.specs.history.HistoryCodec.{history_bytes, history_codec, history_magic, node_codec, recorded_codec}
use Rattle.tw_base.specs.history.HistoryCodec.{step_codec}
use Rattle.tw_base.specs.history.Rules.{NodesFit}
use Rattle.tw_base.specs.history.Rules.Rule.{NodesAreKnown}
use Rattle.tw_base.specs.history.Sound.{IsSound}
use Rattle.tw_base.specs.history.Tree.{forest, planted}
use Rattle.tw_base.specs.kinds.Lists.{Each}
use Rattle.tw_base.proofs.lemmas.format.NumberLaws.{length-number_bytes}
use Rattle.tw_base.proofs.lemmas.history.Trees.{entry_to-at}
use Rattle.tw_history.specs.FileRanges.{IsNodeInRange, IsStepInRange}
use Rattle.tw_history.specs.Refusals.{ReadsHistory}
use Rattle.tw_history.proofs.SoundFiles.{sound_spelled}
use Rattle.tw_history.proofs.TableSteps.{length-planted}

-- ---- a file has at least as many bytes as its steps have nodes

node-size : (n : Node) → 1 ≤ length (node_codec.write n)
unfolding node_codec seen pair number_codec
node-size n =
    omega (
      arith,
      length-append (number_bytes 4 n.left) (number_bytes 8 n.entry ++ number_bytes 4 n.right),
      length-number_bytes 4 n.left,
    )

nodes-size : (ns : List Node) → length ns ≤ length (flat_map node_codec.write ns)
nodes-size [] = omega arith
nodes-size (n ∷ ns) =
    omega (arith, node-size n, nodes-size ns, length-append (node_codec.write n) (flat_map node_codec.write ns))

step-size : (s : Step) → length s.fresh ≤ length (step_codec.write s)
unfolding step_codec seen pair counted by_kind many number_codec
step-size s =
    let nodes : List ℕ = flat_map node_codec.write s.fresh in
    let count : List ℕ = number_bytes 2 (length s.fresh) in
    let root : List ℕ = number_bytes 4 s.root in
    let recorded : List ℕ = recorded_codec.write (s.time, s.content) in
    omega (
      arith,
      nodes-size s.fresh,
      length-append count nodes,
      length-append (count ++ nodes) root,
      length-append recorded ((count ++ nodes) ++ root),
    )

steps-size : (h : History) → length (flat_map step_codec.write h.steps) ≤ length (history_bytes h)
unfolding history_codec seen behind pair name_codec counted by_kind number_codec many
steps-size h =
    let steps : List ℕ = flat_map step_codec.write h.steps in
    let count : List ℕ = number_bytes 8 (length h.steps) in
    omega (
      arith,
      length-append count steps,
      length-append h.name (count ++ steps),
      length-append history_magic (h.name ++ (count ++ steps)),
    )

-- ---- the numbers of its nodes

abbrev empty : Step
empty = record { content = Events []; time = None; fresh = []; root = 0 }

none-some : (s : Step) → None ≡ Some s → ⊥
none-some s e = cc

module _ (h : History) where
  forest-next : (i : ℕ) → length (forest h (suc i)) ≡ length (forest h i) + length (fresh_of (step_at h (suc i)))
  unfolding forest
  forest-next i =
      length-append (forest h i) (planted (entry_to h (suc i)) (forest h i) (fresh_of (step_at h (suc i))))
      ∙ ap (λ (n : ℕ). length (forest h i) + n) (length-planted (entry_to h (suc i)) (forest h i)
      (fresh_of (step_at h (suc i))))

  first-one : length (forest h 0) ≡ 1
  unfolding forest
  first-one = refl

  -- those of the first steps are fewer than the bytes of these and one
  forest-size : (i : ℕ) → i ≤ length h.steps → length (forest h i) ≤ length (flat_map step_codec.write (take i h.steps))
      + 1
  forest-size zero within = omega (arith, first-one)
  forest-size (suc i) within =
      by (forest-size i (omega (arith, within))) (slice_get h.steps i) refl
    where
      by : length (forest h i) ≤ length (flat_map step_codec.write (take i h.steps)) + 1 → (o : Option Step)
          → slice_get h.steps i ≡ o → length (forest h (suc i)) ≤ length
          (flat_map step_codec.write (take (suc i) h.steps)) + 1
      by before None is =
          absurd (none-some (get_or h.steps i empty) (sym is ∙ slice_get-get_or h.steps i empty
          (omega (arith, within))))
      by before (Some s) is =
          let next : take (i + 1) h.steps ≡ take i h.steps ++ s ∷ [] =
          take_more h.steps i s (omega (arith, within)) ∙ ap (λ (x : Step). take i h.steps ++ x ∷ [])
          (get_or_from_slice_get h.steps i s s is) in
          let bytes : length (flat_map step_codec.write (take (suc i) h.steps)) ≡ length
          (flat_map step_codec.write (take i h.steps)) + length (step_codec.write s ++ []) =
          let one : suc i ≡ i + 1 = omega arith in
          ap (λ (n : ℕ). length (flat_map step_codec.write (take n h.steps))) one
          ∙ ap (λ (ss : List Step). length (flat_map step_codec.write ss)) next
          ∙ ap (λ (bs : List ℕ). length bs) (flat_map-append step_codec.write (take i h.steps) (s ∷ []))
          ∙ length-append (flat_map step_codec.write (take i h.steps)) (step_codec.write s ++ []) in
          omega (
            arith,
            forest-next i,
            ap (λ (o : Option Step). length (fresh_of o)) is,
            before,
            bytes,
            length-append (step_codec.write s) [],
            step-size s,
          )

  forest-within : (i : ℕ) → i ≤ length h.steps → length (forest h i) ≤ length (history_bytes h) + 1
  forest-within i within =
      let whole : length (flat_map step_codec.write h.steps) ≡ length (flat_map step_codec.write (take i h.steps))
      + length (flat_map step_codec.write (drop i h.steps)) =
      ap (λ (ss : List Step). length (flat_map step_codec.write ss)) (sym (take-append-drop i h.steps))
      ∙ ap (λ (bs : List ℕ). length bs) (flat_map-append step_codec.write (take i h.steps) (drop i h.steps))
      ∙ length-append (flat_map step_codec.write (take i h.steps)) (flat_map step_codec.write (drop i h.steps)) in
      omega (arith, forest-size i within, whole, steps-size h)

  nodes-within : (step number : ℕ) (ns : List Node) → step ≤ LAST_STEP → number + length ns ≤ 2 ^ 32
      → NodesFit h step number ns → Each IsNodeInRange ns
  nodes-within step number [] short few fit = tt
  nodes-within step number (n ∷ ns) short few fit = (
    (omega (arith, fit.0.0, few), entry-within (entry_to h step n.entry) refl fit.0.2, omega (arith, fit.0.1, few)),
    nodes-within step (suc number) ns short (omega (arith, few)) fit.1,
  )
    where
      entry-within : (o : Option Entry) → entry_to h step n.entry ≡ o → IsSome o → n.entry < 2 ^ 64
      entry-within None is some = absurd cc
      entry-within (Some e) is some = let low = (entry_to-at h step n.entry e is).0 in omega (arith, low, short)

-- ---- the file is read again

all-true : (xs : List Step) → list_all (λ (s : Step). nat_le (length s.fresh) 65535) xs ≡ true
    → Each (λ (s : Step). length s.fresh ≤ 65535) xs
all-true [] is = tt
all-true (s ∷ xs) is =
    let parts = both (nat_le (length s.fresh) 65535) (list_all (λ (s : Step). nat_le (length s.fresh) 65535) xs) is in
    (leb-true (length s.fresh) 65535 parts.0, all-true xs parts.1)
  where
    both : (a b : Bool) → (a && b) ≡ true → (a ≡ true) × (b ≡ true)
    both true true is = (refl, refl)
    both true false is = absurd cc
    both false b is = absurd cc

steps-within : (h : History) → IsSound h → length (history_bytes h) ≤ MOST_HISTORY_BYTES → (i : ℕ) (s : Step)
    → slice_get h.steps i ≡ Some s → length s.fresh ≤ 65535 → IsStepInRange s
steps-within h sound short i s there few =
    let inside = slice_get_within h.steps i s there in
    let known = (sound.steps i s there).rules NodesAreKnown in
    let total = forest-within h (suc i) (omega (arith, inside)) in
    let next = forest-next h i in
    let fresh = ap (λ (o : Option Step). length (fresh_of o)) there in
    let steps = sound.length in
    record {
      count = omega (arith, few);
      nodes = nodes-within h (suc i) (length (forest h i)) s.fresh (omega (arith, inside, steps))
          (omega (arith, total, next, fresh, short)) known.0;
      root = let low = known.1 in omega (arith, low, total, short);
    }

each-at : (P Q : Step → Type 0) (xs : List Step) → Each P xs → ((i : ℕ) (s : Step) → slice_get xs i ≡ Some s → P s
    → Q s) → Each Q xs
each-at P Q [] all goes = tt
each-at P Q (s ∷ xs) all goes = (goes 0 s refl all.0, each-at P Q xs all.1 (λ i t there. goes (suc i) t there))

-- where the file and each step's nodes are within their limits
pub reads-back : (h : History) → IsSound h → (nat_le (length (history_bytes h)) MOST_HISTORY_BYTES && list_all
    (λ (s : Step). nat_le (length s.fresh) 65535) h.steps) ≡ true → ReadsHistory (history_bytes h) (Ok h)
reads-back h sound is =
    let parts = both (nat_le (length (history_bytes h)) MOST_HISTORY_BYTES)
    (list_all (λ (s : Step). nat_le (length s.fresh) 65535) h.steps) is in
    let short = leb-true (length (history_bytes h)) MOST_HISTORY_BYTES parts.0 in (
      short,
      sound_spelled h sound (each-at (λ (s : Step). length s.fresh ≤ 65535) IsStepInRange h.steps
          (all-true h.steps parts.1) (steps-within h sound short)),
      sound,
    )
  where
    both : (a b : Bool) → (a && b) ≡ true → (a ≡ true) × (b ≡ true)
    both true true is = (refl, refl)
    both true false is = absurd cc
    both false b is = absurd cc
