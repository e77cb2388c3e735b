-- Ways over hops: one hop more at the end, and when a hop stands.
use Rattle.std.proofs.Common.{◌≡◌, ℕ, ◌≤◌, List, [], ◌∷◌, ◌++◌, sym, ap, ◌∙◌, arith}
use Rattle.std.specs.Prelude.{Some}
use Rattle.tw_base.specs.declared.history.report.Hop.{Hop}
use Rattle.tw_base.specs.declared.history.thread.Entry.{Entry}
use Rattle.tw_base.specs.declared.history.thread.Key.{Key}
use Rattle.tw_base.specs.history.Chains.{HopStands, LeadsBy}
use Rattle.tw_base.specs.history.Family.{HasHistory, HasThread}
use Rattle.tw_base.specs.history.History.{History, entry_at}

module _ (dig : List ℕ → List ℕ) (family : List History) where
  -- a way, and a hop from where it has come to
  pub leads-snoc : (hops : List Hop) (start mid goal : Key) (hop : Hop) → LeadsBy dig family hops start mid
      → hop.from ≡ mid.from → mid.step ≤ hop.step
      → HopStands dig family hop → hop.by ≡ goal.from → hop.archived ≤ goal.step → LeadsBy dig family (hops ++ hop ∷ [])
      start goal
  leads-snoc [] start mid goal hop leads same order stands by before =
      (same ∙ sym leads.0, omega (arith, leads.1, order), stands, (by, before))
  leads-snoc (one ∷ hops) start mid goal hop leads same order stands by before = (
    leads.0,
    leads.1,
    leads.2,
    leads-snoc hops (record { from = one.by; step = one.archived }) mid goal hop leads.3 same order stands by before,
  )

  -- a received entry whose thread the family has is a hop that stands
  pub hop-stands : (by : List ℕ) (e : Entry) (archive : History) → HasHistory family by archive
      → entry_at archive e.archived ≡ Some e
      → HasThread dig family e.thread
      → HopStands dig family (record { from = e.thread.from; step = e.thread.step; by = by; archived = e.archived })
  hop-stands by e archive has received thread = record {
    source = thread.0;
    has_source = thread.1;
    within = thread.2;
    archive = archive;
    has_archive = has;
    received = received
        ∙ ap (λ a. Some
        (record { thread = record { from = e.thread.from; step = e.thread.step; auth = a }; archived = e.archived }))
        (sym thread.3);
  }
