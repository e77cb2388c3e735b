-- The history that has no step yet.
use Rattle.std.proofs.Common.{◌≡◌, ℕ, ◌≤◌, List, [], length, refl, ap, sym, ◌∙◌, arith, subst, inl, inr, ⊎_elim}
use Rattle.std.proofs.Common.{◌⊎◌}
use Rattle.tw_disk.specs.Image.{Image}
use Rattle.tw_disk.specs.Disk.{DiskView, LeavesOnly, Reads}
use Rattle.tw_disk.proofs.Moments.{leaves_weaker}
use Rattle.tw_base.specs.history.Auth.{auth, auths, tree_label}
use Rattle.std.specs.Prelude.{None}
use Rattle.tw_base.specs.history.History.{received, times}
use Rattle.tw_base.specs.kinds.Names.{IsName}
use Rattle.tw_base.specs.history.Sound.{IsSound}
use Rattle.tw_base.specs.kinds.Texts.{empty_tree_text, genesis_text}
use Rattle.tw_base.specs.history.Tree.{Tree, tree}
use Rattle.tw_base.specs.history.Tree.Tree.{Empty}
use Rattle.tw_base.proofs.lemmas.kinds.DigestBytes.{IsDigest}
use Rattle.tw_base.proofs.lemmas.history.Plus.{tree-first}
use Rattle.tw_pages.specs.Records.{written_record}
use Rattle.tw_pages.specs.Records.{IsBlankOrNew as IsBlankOrNewWith}
use Rattle.tw_pages.specs.Rests.{RestsWith}
use Rattle.tw_pages.specs.States.{IsBlankOrFirst}
use Rattle.tw_pages.proofs.States.{leaves_begun, reads_begun, serves_first}
use Rattle.tw_pages.specs.declared.store.Store.{Store}
use Rattle.tw_skiplist.proofs.Growing.{Keeps-first}
use Rattle.tw_answers.specs.declared.root.RootRecord.{RootRecord}
use Rattle.tw_service.specs.Keeps.{StoreServes}
use Rattle.tw_answers.specs.Roots.{FitsStore, IsAllowed, root_kind}
use Rattle.tw_answers.proofs.RootLaws.{root-fits}
use Rattle.tw_service.specs.Stands.{IsBlankOrNew, KeepsHistory, KeepsWhole, greatest, no_history}

pub sound_none : (name : List ℕ) → IsName name → IsSound (no_history name)
sound_none name is = record { name = is; length = omega arith; steps = λ i s there. cc }

-- the root record of a history without a step, with the authenticator of its name and the label of the empty archive
abbrev pub first_record : (name : List ℕ) → (auth : List ℕ) → (label : List ℕ) → RootRecord
first_record name auth label =
    record {
      name = name;
      head = record { step = 0; auth = auth; page = 0 };
      archive = record { page = 0; label = label };
      threads = 0;
      time = None;
    }

module _ (dig : List ℕ → List ℕ) (size : (text : List ℕ) → IsDigest (dig text)) (name first empty : List ℕ)
    (is_name : IsName name) (label : first ≡ dig (genesis_text name)) (no_tree : empty ≡ dig empty_tree_text) where
  abbrev r : RootRecord
  r = first_record name first empty

  -- the authenticator of a name
  genesis : first ≡ auth dig (no_history name) 0
  unfolding auth auths
  genesis = label

  empty_label : tree_label dig Empty ≡ dig empty_tree_text
  unfolding tree_label
  empty_label = refl

  received_none : received (no_history name) 0 ≡ []
  unfolding received
  received_none = refl

  same_label : empty ≡ tree_label dig (tree (no_history name) 0)
  same_label = no_tree ∙ sym (ap (λ (t : Tree). tree_label dig t) (tree-first (no_history name)) ∙ empty_label)

  no_times : times (no_history name) 0 ≡ []
  unfolding times
  no_times = refl

  pub keeps_none : (pages : Image) → KeepsWhole dig pages (no_history name) r
  unfolding Keeps-first
  keeps_none pages = record {
    steps = Keeps-first dig pages (no_history name) r.head refl refl genesis refl;
    trees = record { nowhere = refl; trees = λ k l. absurd (omega (arith, l)) };
    archive = (λ j. record { page = 0; label = same_label j });
    threads = ap length (sym received_none);
    time = ap greatest (sym no_times);
  }

  fits_none : (used generation : ℕ) → used ≡ 4 → generation ≤ 1 → FitsStore used generation r
  fits_none used generation few low = record {
    steps = record { none = λ _. refl; some = λ some. absurd (omega (arith, some)) };
    threads = record { none = λ _. refl; some = λ some. absurd (omega (arith, some)) };
    few_threads = omega arith;
    few_pages = omega (arith, few);
    few_commits = omega (arith, low);
    timed = tt;
  }

  -- the record may stand in a store without a page, at its first generation or before it
  pub may_none : (generation : ℕ) → generation ≤ 1 → IsAllowed 4 generation r
  may_none generation low = record {
    spelled = root-fits r is_name (omega arith) (subst IsDigest (sym label) (size (genesis_text name))) (omega arith)
        (omega arith) (subst IsDigest (sym no_tree) (size empty_tree_text)) (omega arith) tt;
    fits = fits_none 4 generation refl low;
  }

  pub keeps_first : KeepsHistory dig [] r (no_history name)
  keeps_first = record { sound = sound_none name is_name; named = refl; whole = keeps_none [] }

  -- ---- a store in the making, of the history without a step

  begun : (i : Image) → IsBlankOrFirst root_kind (KeepsHistory dig) (no_history name) i → IsBlankOrNew dig name i
  begun i made = ⊎_elim (λ blank. inl blank) (λ stands. inr (record { named = refl; stands = stands })) made

  pub leaves_none : (old new : DiskView) → LeavesOnly old new (λ i. old.may_leave i ⊎ IsBlankOrNewWith root_kind r i)
      → LeavesOnly old new (λ i. old.may_leave i ⊎ IsBlankOrNew dig name i)
  leaves_none old new run = leaves_weaker old new (λ i. old.may_leave i ⊎ IsBlankOrFirst root_kind (KeepsHistory dig)
      (no_history name) i) (λ i. old.may_leave i ⊎ IsBlankOrNew dig name i)
      (λ i either. ⊎_elim (λ was. inl was) (λ made. inr (begun i made)) either)
      (leaves_begun root_kind (KeepsHistory dig) r (no_history name) keeps_first old new run)

  pub tells_none : (old new : DiskView) → Reads new (λ i. old.may_leave i ⊎ IsBlankOrNewWith root_kind r i)
      → Reads new (λ i. old.may_leave i ⊎ IsBlankOrNew dig name i)
  tells_none old new tells =
      let reads = reads_begun root_kind (KeepsHistory dig) r (no_history name) keeps_first old new tells in
      record {
        image = reads.image;
        told = reads.told;
        has = ⊎_elim (λ was. inl was) (λ made. inr (begun reads.image made)) reads.has;
      }

  pub serves_none : {D : Type 0} {g : _} (view : D → DiskView) (store : Store D g) (now : RootRecord) → now ≡ r
      → RestsWith view root_kind store (written_record r []) → StoreServes dig view store now (no_history name)
  serves_none view store now is rests = serves_first root_kind (KeepsHistory dig) r (no_history name) keeps_first view
      store now is rests
