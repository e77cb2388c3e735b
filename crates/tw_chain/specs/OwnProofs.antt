-- The proofs that a history itself has, of each kind.
use Rattle.std.specs.Prelude.{◌≡◌, ◌≢◌, ℕ, ◌<◌, ◌≤◌, List, length, Some}
use Rattle.tw_base.specs.declared.kinds.limits.TheConstants.{LAST_STEP}
use Rattle.tw_base.specs.declared.history.thread.Entry.{Entry}
use Rattle.tw_base.specs.declared.history.thread.Key.{Key}
use Rattle.tw_base.specs.declared.history.tree_proof.Ask.TheVariants as ask
use Rattle.tw_base.specs.history.Auth.{auth}
use Rattle.tw_base.specs.history.History.{History, entry_at, received}
use Rattle.tw_base.specs.history.Entries.{key_of}
use Rattle.tw_base.specs.kinds.Lists.{Each}
use Rattle.tw_base.specs.kinds.Names.{IsName}
use Rattle.tw_base.specs.history.Tree.{tree}
use Rattle.tw_base.specs.history.TreeProofs.{ancestors_of, proof_of}
use Rattle.tw_skipproof.specs.declared.existence.ExistenceProof.{ExistenceProof}
use Rattle.tw_skipproof.specs.HistoryProofs.{IsExistenceOf, IsPartOfHistory, IsPathOf}
use Rattle.tw_treeproof.specs.declared.limits.TheConstants.{MOST_ABOVE_ENTRY, MOST_ABOVE_PLACE}
use Rattle.tw_chain.specs.declared.proof.AbsenceProof.{AbsenceProof}
use Rattle.tw_chain.specs.declared.proof.LinkProof.{LinkProof}
use Rattle.tw_chain.specs.declared.proof.Proof.{Proof}
use Rattle.tw_chain.specs.declared.proof.Proof.TheVariants.{Exists, Precedes, Archived, Absent, Linked}
use Rattle.tw_chain.specs.declared.proof.ThreadProof.{ThreadProof}

-- no more nodes stand above the place of a tree proof in it than the format has room for
abbrev pub HasFewNodes : Proof → Type 0
HasFewNodes (Archived p) = length (ancestors_of p.shown) ≤ MOST_ABOVE_ENTRY
HasFewNodes (Absent p) = length (ancestors_of p.shown) ≤ MOST_ABOVE_PLACE
HasFewNodes _ = Unit {0}

module _ (dig : List ℕ → List ℕ) (h : History) (step top : ℕ) where
  -- the proof of a thread that was received up to the step, under this top: the history's part, and the own proof of the tree
  -- of the step's archive
  pub record IsThreadProofOf (p : ThreadProof) : Type 0 where
    pub at : IsPartOfHistory dig h step top p.at
    pub received : entry_at h p.entry.archived ≡ Some p.entry
    pub before : p.entry.archived ≤ step
    pub shown : p.shown ≡ proof_of dig (tree h step) (ask.Present p.entry)

  -- the proof that no thread of a key was received up to the step, which is from 1 on
  pub record IsAbsenceProofOf (p : AbsenceProof) : Type 0 where
    pub from_1 : 0 < step
    pub at : IsPartOfHistory dig h step top p.at
    pub name : IsName p.key.from
    pub key : (0 < p.key.step) × (p.key.step ≤ LAST_STEP)
    pub none : Each (λ entry. key_of entry ≢ p.key) (received h step)
    pub shown : p.shown ≡ proof_of dig (tree h step) (ask.Absent p.key)

  -- the proof of the step's authenticator: the history's path from the top down to the step
  pub record IsLinkProofOf (p : LinkProof) : Type 0 where
    pub service : p.service ≡ h.name
    pub at_step : p.step ≡ step
    pub at_top : p.top ≡ top
    pub given : p.auth ≡ auth dig h step
    pub path : IsPathOf dig h p.path.links top step

  -- one of these, or the proof of an event; a proof from event to event is joined of such proofs
  abbrev pub IsOwnProof : Proof → Type 0
  IsOwnProof (Exists p) = (index : ℕ) × IsExistenceOf dig h step index top p
  IsOwnProof (Precedes p) = ⊥
  IsOwnProof (Archived p) = IsThreadProofOf p
  IsOwnProof (Absent p) = IsAbsenceProofOf p
  IsOwnProof (Linked p) = IsLinkProofOf p

  -- ---- that there is one

  -- of the event at this index of the step
  abbrev pub HasOwnEvent : (index : ℕ) → Type 0
  HasOwnEvent index = (p : ExistenceProof) × IsExistenceOf dig h step index top p

  -- of the thread of this entry, up to the step
  abbrev pub HasOwnThread : Entry → Type 0
  HasOwnThread entry = (p : ThreadProof) × (p.entry ≡ entry) × IsOwnProof (Archived p)

  -- that up to the step there is no thread of this key
  abbrev pub HasOwnAbsence : Key → Type 0
  HasOwnAbsence key = (p : AbsenceProof) × (p.key ≡ key) × IsOwnProof (Absent p)

  -- of the step's authenticator
  abbrev pub HasOwnLink : Type 0
  HasOwnLink = (p : LinkProof) × IsOwnProof (Linked p)
