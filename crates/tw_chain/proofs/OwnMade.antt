-- A history has proofs of its own: of each event, received thread, key not received, and step, under each top from
-- there on.
use Rattle.std.proofs.Common.{◌≡◌, ◌≢◌, ℕ, ◌-◌, ◌<◌, ◌≤◌, List, length, drop, refl, subst}
use Rattle.std.specs.Prelude.{Some}
use Rattle.tw_base.specs.declared.kinds.limits.TheConstants.{LAST_STEP}
use Rattle.tw_base.specs.declared.history.thread.Entry.{Entry}
use Rattle.tw_base.specs.declared.history.thread.Key.{Key}
use Rattle.tw_base.specs.declared.history.tree_proof.Ask.TheVariants as ask
use Rattle.tw_base.specs.events.EventParts.{event_part}
use Rattle.tw_base.specs.events.EventTree.{event_root}
use Rattle.tw_base.specs.history.Auth.{auth, tree_label}
use Rattle.tw_base.specs.history.Entries.{key_of}
use Rattle.tw_base.specs.history.History.{History, entry_at, events_at, received, time_at}
use Rattle.tw_base.specs.history.Tree.{tree}
use Rattle.tw_base.specs.kinds.Lists.{Each}
use Rattle.tw_base.specs.kinds.Names.{IsName}
use Rattle.tw_base.proofs.lemmas.history.Trees.{entry_at-parts}
use Rattle.tw_base.specs.history.TreeProofs.{proof_of}
use Rattle.tw_skipproof.specs.declared.existence.Part.{Part}
use Rattle.tw_skipproof.specs.declared.opening.Opening.{Opening}
use Rattle.tw_skipproof.specs.HistoryProofs.{IsOpeningOf, IsPartOfHistory, labels_at}
use Rattle.tw_skipproof.proofs.OwnPaths.{path-made}
use Rattle.tw_chain.specs.OwnProofs.{HasOwnAbsence, HasOwnEvent, HasOwnLink, HasOwnThread}

module _ (dig : List ℕ → List ℕ) (h : History) where
  -- ---- an opening, a part

  abbrev opening_of : ℕ → Opening
  opening_of step = record {
    event_root = event_root dig (events_at h step);
    archive_root = tree_label dig (tree h step);
    count = length (events_at h step);
    time = time_at h step;
    prev = auth dig h (step - 1);
    others = drop 1 (labels_at dig h step);
  }

  opening-made : (step : ℕ) → IsOpeningOf dig h step (opening_of step)
  opening-made step =
      record {
        binds = record { event_root = refl; archive_root = refl; count = refl; time = refl; prev = refl };
        others = refl;
      }

  part-made : (step top : ℕ) → step ≤ top → (p : Part) × IsPartOfHistory dig h step top p
  part-made step top order =
      let path = path-made dig h top step order in (
        record {
          service = h.name;
          step = step;
          top = top;
          path = record { links = path.0 };
          opening = opening_of step;
        },
        record { service = refl; at_step = refl; at_top = refl; path = path.1; opening = opening-made step },
      )

  -- ---- each kind

  pub event-made : (step index top : ℕ) → step ≤ top → index < length (events_at h step) → HasOwnEvent dig h step top
      index
  event-made step index top order inside =
      let at = part-made step top order in (
        record { at = at.0; event = event_part dig (events_at h step) index },
        record { at = at.1; inside = inside; event = refl },
      )

  pub thread-made : (step top : ℕ) (entry : Entry) (k : ℕ) → step ≤ top → entry_at h k ≡ Some entry → k ≤ step
      → HasOwnThread dig h step top entry
  thread-made step top entry k order had before =
      let at = part-made step top order in
      let same : k ≡ entry.archived = (entry_at-parts h k entry had).0 in (
        record { at = at.0; entry = entry; shown = proof_of dig (tree h step) (ask.Present entry) },
        refl,
        record {
          at = at.1;
          received = subst (λ i. entry_at h i ≡ Some entry) same had;
          before = subst (λ i. i ≤ step) same before;
          shown = refl;
        },
      )

  pub absence-made : (step top : ℕ) (key : Key) → 0 < step → step ≤ top → IsName key.from → (0 < key.step)
      × (key.step ≤ LAST_STEP)
      → Each (λ entry. key_of entry ≢ key) (received h step) → HasOwnAbsence dig h step top key
  absence-made step top key from_1 order name within none =
      let at = part-made step top order in (
        record { at = at.0; key = key; shown = proof_of dig (tree h step) (ask.Absent key) },
        refl,
        record { from_1 = from_1; at = at.1; name = name; key = within; none = none; shown = refl },
      )

  pub link-made : (step top : ℕ) → step ≤ top → HasOwnLink dig h step top
  link-made step top order =
      let path = path-made dig h top step order in (
        record { service = h.name; step = step; top = top; auth = auth dig h step; path = record { links = path.0 } },
        record { service = refl; at_step = refl; at_top = refl; given = refl; path = path.1 },
      )
