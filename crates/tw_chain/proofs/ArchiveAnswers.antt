-- What the entries of a sound history's archive answer is so of what its steps received.
use Rattle.std.proofs.Common.{◌≡◌, ◌≢◌, ℕ, ◌≤◌, List, [], ◌∷◌, length, refl, subst, inl, inr}
use Rattle.std.specs.Prelude.{Some, None}
use Rattle.tw_base.specs.declared.history.thread.Entry.{Entry}
use Rattle.tw_base.specs.declared.history.thread.Key.{Key}
use Rattle.tw_base.specs.history.Asking.{entry_with}
use Rattle.tw_base.specs.history.Entries.{key_of}
use Rattle.tw_base.specs.history.History.{History, entry_at, received}
use Rattle.tw_base.specs.kinds.Lists.{Each, In}
use Rattle.tw_base.specs.history.Sound.{IsSound}
use Rattle.tw_base.specs.history.Tree.{entries, tree}
use Rattle.tw_base.proofs.lemmas.history.Archives.{tree-has, tree-has_received, tree-only_received}
use Rattle.tw_base.proofs.lemmas.kinds.ListLemmas.{Each-in}
use Rattle.tw_base.proofs.lemmas.history.Trees.{IsArchived, entry_at-parts, tree-archived, tree-rises}
use Rattle.tw_base.proofs.lemmas.history.Members.{each-without, in-with, with-in, without-each}

each_of : {X : Type 0} (P : X → Type 0) (xs : List X) → ((x : X) → In x xs → P x) → Each P xs
each_of P [] all = tt
each_of P (x ∷ xs) all = (all x (inl refl), each_of P xs (λ y has. all y (inr has)))

module _ (h : History) (step : ℕ) where
  -- an entry of the archive was received at its archived step
  pub has-received : (e : Entry) → entry_with (entries (tree h step)) (key_of e) ≡ Some e → entry_at h e.archived
      ≡ Some e
  has-received e found =
      let at = Each-in (IsArchived h step) (entries (tree h step)) e (tree-archived h step)
      (in-with (entries (tree h step)) (key_of e) e found) in
      subst (λ k. entry_at h k ≡ Some e) (entry_at-parts h at.0 e at.2).0 at.2

  -- where the archive has no entry of the key, no step so far received a thread of it
  pub lacks-received : IsSound h → step ≤ length h.steps → (key : Key) → entry_with (entries (tree h step)) key ≡ None
      → Each (λ e. key_of e ≢ key) (received h step)
  lacks-received sound within key none =
      each_of (λ e. key_of e ≢ key) (received h step) (λ e has.
      Each-in (λ f. key_of f ≢ key) (entries (tree h step)) e (each-without (entries (tree h step)) key none)
      (tree-has_received h sound step within e has))

  -- what was received up to the step is an entry of the archive
  pub received-is_so : IsSound h → step ≤ length h.steps → (e : Entry) → entry_at h e.archived ≡ Some e
      → e.archived ≤ step → entry_with (entries (tree h step)) (key_of e) ≡ Some e
  received-is_so sound within e at before = with-in (entries (tree h step)) e (tree-rises h sound step)
      (tree-has h sound step e.archived e within before at)

  -- where no thread of the key was received, the archive has no entry of it
  pub lacks-is_so : (key : Key) → Each (λ e. key_of e ≢ key) (received h step) → entry_with (entries (tree h step)) key
      ≡ None
  lacks-is_so key none =
      without-each (entries (tree h step)) key (each_of (λ f. key_of f ≢ key) (entries (tree h step)) (λ f has.
      Each-in (λ e. key_of e ≢ key) (received h step) f none (tree-only_received h step f has)))
