-- One more head: its page was staged, and the record that names it is next.
use Rattle.std.proofs.Common.{◌≡◌, ℕ, ◌+◌, ◌^◌, ◌<◌, ◌≤◌, List, [], ◌∷◌, ◌++◌, length, ap, ◌∙◌, arith}
use Rattle.std.specs.Prelude.{Option, Some}
use Rattle.std.specs.Option.{option_map}
use Rattle.tw_base.specs.declared.history.thread.Thread.{Thread}
use Rattle.tw_base.specs.history.Limits.{IsThread}
use Rattle.tw_disk.specs.Disk.{DiskView}
use Rattle.tw_disk.specs.Image.{Image}
use Rattle.tw_pages.specs.StoreValue.{staged_of}
use Rattle.tw_pages.specs.Same.{IsSameStore, store_count, store_list}
use Rattle.tw_pages.specs.declared.store.Store.{Store}
use Rattle.tw_pages.specs.Records.{written_record}
use Rattle.tw_pages.specs.Rests.{RestsWith}
use Rattle.tw_pages.proofs.StagedRecords.{IsStaged}
use Rattle.tw_pages.proofs.Written.{told_list}
use Rattle.tw_follow.specs.declared.root.RootRecord.{RootRecord}
use Rattle.tw_follow.specs.HeadPages.{head_page_bytes}
use Rattle.tw_follow.specs.Roots.{IsAllowed}
use Rattle.tw_follow.specs.Stands.{root_kind}
use Rattle.tw_follow.specs.Writing.{moved_to}
use Rattle.tw_follow.proofs.Spelling.{root-fits}

-- the record of a later head may stand in the store with one page more
pub may_next : (dig : List ℕ → List ℕ) (used generation : ℕ) (r : RootRecord) (head : Thread) (number : ℕ)
    → used ≡ number + 1 → 4 ≤ number → number ≤ 4 + r.head.step → generation ≤ r.head.step + 1
    → r.head.step < head.step → IsThread head → IsAllowed dig used (generation + 1)
    (record { head = head; page = number })
may_next dig used generation r head number one_more low few commits above thread = record {
  spelled = root-fits (record { head = head; page = number }) thread.0 thread.2 (thread.3, thread.4)
      (let short : head.step < 2 ^ 40 = omega (arith, thread.2) in omega (arith, few, above, short));
  fits = record {
    page = (λ none. absurd (omega (arith, none, above)), λ none. absurd (omega (arith, none, low)));
    begun = λ none. absurd (omega (arith, none, above));
    few_pages = omega (arith, one_more, few, above);
    few_commits = omega (arith, commits, above);
  };
}

module _ {D : Type 0} {g : _} (view : D → DiskView) (dig : List ℕ → List ℕ) (old mid : Store D g) (r : RootRecord)
    (head : Thread) (number : ℕ) (page : List ℕ)
    (same : IsSameStore view old mid) (clean : staged_of old ≡ []) (number_is : number ≡ store_count old)
    (one_more : store_count mid ≡ store_count old + 1)
    (list : store_list view mid ≡ option_map (λ (pages : Image). pages ++ page ∷ []) (store_list view old))
    (few : store_count old ≤ 4 + r.head.step) (commits : old.generation ≤ r.head.step + 1)
    (above : r.head.step < head.step) (thread : IsThread head)
    (ps : Image) (rest : RestsWith view (root_kind dig) old (written_record r ps))
    (count : store_count old ≡ 4 + length ps) where
  abbrev next : RootRecord
  next = record { head = head; page = number }

  pub put : IsStaged view (root_kind dig) old mid r next ps (ps ++ page ∷ [])
  put = record {
    same = same;
    rest = rest;
    list = list ∙ ap (λ (o : Option Image). option_map (λ (pages : Image). pages ++ page ∷ []) o)
        (told_list view (root_kind dig) old (written_record r ps) rest clean);
    may = may_next dig (store_count mid) mid.generation r head number (omega (arith, one_more, number_is))
        (omega (arith, number_is, count)) (omega (arith, number_is, few)) (omega (arith, commits, same.generation))
        above thread;
  }

-- the record and pages with a later head are these
moved_is : (r : RootRecord) (head : Thread) (number : ℕ) (page : List ℕ) (ps : Image) → number ≡ 4 + length ps
    → page ≡ head_page_bytes (record { step = head.step; auth = head.auth; before = r.page })
    → written_record (record { head = head; page = number }) (ps ++ page ∷ []) ≡ moved_to (written_record r ps) head
moved_is r head number page ps number_is page_is =
    ap (λ (n : ℕ). written_record (record { head = head; page = n }) (ps ++ page ∷ [])) number_is
    ∙ ap (λ (b : List ℕ). written_record (record { head = head; page = 4 + length ps }) (ps ++ b ∷ [])) page_is

-- the same of whatever pages the store has
pub record WasPut {D : Type 0} {g : _} (view : D → DiskView) (dig : List ℕ → List ℕ) (old mid : Store D g)
    (r : RootRecord) (head : Thread) (number : ℕ) (page : List ℕ) : Type 0 where
  pub staged : (ps : Image) → RestsWith view (root_kind dig) old (written_record r ps) → IsStaged view (root_kind dig)
      old mid r (record { head = head; page = number }) ps (ps ++ page ∷ [])
  pub is : (ps : Image) → RestsWith view (root_kind dig) old (written_record r ps)
      → written_record (record { head = head; page = number }) (ps ++ page ∷ []) ≡ moved_to (written_record r ps) head

pub was_put : {D : Type 0} {g : _} (view : D → DiskView) (dig : List ℕ → List ℕ) (old mid : Store D g) (r : RootRecord)
    (head : Thread) (number : ℕ) (page : List ℕ)
    → ((ps : Image) → store_list view old ≡ Some ps → store_count old ≡ 4 + length ps)
    → IsSameStore view old mid → staged_of old ≡ [] → number ≡ store_count old → store_count mid ≡ store_count old + 1
    → page ≡ head_page_bytes (record { step = head.step; auth = head.auth; before = r.page })
    → store_list view mid ≡ option_map (λ (pages : Image). pages ++ page ∷ []) (store_list view old)
    → store_count old ≤ 4 + r.head.step → old.generation ≤ r.head.step + 1 → r.head.step < head.step → IsThread head
    → WasPut view dig old mid r head number page
was_put view dig old mid r head number page pages_told same clean number_is one_more page_is list few commits above
    thread = record {
      staged = λ ps rest. put view dig old mid r head number page same clean number_is one_more list few commits above
          thread ps rest (pages_told ps (told_list view (root_kind dig) old (written_record r ps) rest clean));
      is = λ ps rest. moved_is r head number page ps
          (number_is ∙ pages_told ps (told_list view (root_kind dig) old (written_record r ps) rest clean)) page_is;
    }
