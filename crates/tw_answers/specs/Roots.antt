-- The root record of a service.
use Rattle.std.specs.Prelude.{◌≡◌, ℕ, ◌+◌, ◌*◌, ◌<◌, ◌≤◌, List, Bool, IfSome, is_some}
use Rattle.tw_base.specs.declared.kinds.limits.TheConstants.{LAST_STEP}
use Rattle.tw_base.specs.format.Codecs.{Codec, digest_codec, name_codec, number_codec, optional, pair, seen}
use Rattle.tw_base.specs.history.HistoryCodec.{time_codec}
use Rattle.tw_disk.specs.declared.limits.TheConstants.{FIRST_PAGE}
use Rattle.tw_disk.specs.Kinds.{RecordKind}
use Rattle.tw_base.specs.format.PageBytes.{page_number_codec}
use Rattle.tw_answers.specs.declared.limits.TheConstants.{MOST_PAGES_OF_A_STEP}
use Rattle.tw_answers.specs.declared.root.RootRecord.{RootRecord}

-- the name, the number of steps, the last authenticator, the page of the last step, the page of the archive's root, the label of
-- the archive's tree, the number of threads, and, where a step has a time, the greatest one
unfoldable pub root_codec : (is_timed : Bool) → Codec RootRecord
root_codec is_timed =
    seen (λ t. record {
      name = t.0;
      head = record { step = t.1.0; auth = t.1.1.0; page = t.1.1.1.0 };
      archive = record { page = t.1.1.1.1.0; label = t.1.1.1.1.1.0 };
      threads = t.1.1.1.1.1.1.0;
      time = t.1.1.1.1.1.1.1;
    })
    (λ r. (r.name, (r.head.step, (r.head.auth, (r.head.page, (r.archive.page, (r.archive.label, (r.threads, r.time))))))))
    (pair name_codec (λ name. pair (number_codec 8 0 LAST_STEP) (λ steps. pair digest_codec (λ auth. pair page_number_codec (λ page.
    pair page_number_codec (λ archive. pair digest_codec (λ label. pair (number_codec 8 0 LAST_STEP) (λ threads. optional is_timed time_codec))))))))

-- 112 bytes, or 120 with a time
abbrev pub root_bytes : RootRecord → List ℕ
root_bytes r = (root_codec (is_some r.time)).write r

-- the last page of so many things: 0 exactly where there are none, else a page of a store of so many used pages
pub record HasLastPage (used count page : ℕ) : Type 0 where
  pub none : count ≡ 0 → page ≡ 0
  pub some : 0 < count → (FIRST_PAGE ≤ page) × (page < used)

-- the record may be the root record of a store of so many used pages and of this generation: there are no more threads than steps,
-- and one with a time has a step
pub record FitsStore (used generation : ℕ) (r : RootRecord) : Type 0 where
  pub steps : HasLastPage used r.head.step r.head.page
  pub threads : HasLastPage used r.threads r.archive.page
  pub few_threads : r.threads ≤ r.head.step
  pub few_pages : used ≤ FIRST_PAGE + MOST_PAGES_OF_A_STEP * r.head.step
  pub few_commits : generation ≤ r.head.step + 1
  pub timed : IfSome r.time (λ time. 0 < r.head.step)

-- the same, with what its fields have room for; the label isn't restricted
pub record IsAllowed (used generation : ℕ) (r : RootRecord) : Type 0 where
  pub spelled : (root_codec (is_some r.time)).Fits r
  pub fits : FitsStore used generation r

-- root records of services
abbrev pub root_kind : RecordKind RootRecord
root_kind = record { bytes = root_bytes; May = IsAllowed }
