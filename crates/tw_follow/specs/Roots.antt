-- The root record of a follower.
use Rattle.std.specs.Prelude.{◌≡◌, ◌↔◌, ℕ, ◌+◌, ◌≤◌, List}
use Rattle.tw_base.specs.declared.kinds.limits.TheConstants.{LAST_STEP}
use Rattle.tw_base.specs.format.Codecs.{Codec, digest_codec, name_codec, number_codec, pair, seen}
use Rattle.tw_base.specs.kinds.Texts.{genesis_text}
use Rattle.tw_base.specs.format.PageBytes.{page_number_codec}
use Rattle.tw_disk.specs.declared.limits.TheConstants.{FIRST_PAGE}
use Rattle.tw_follow.specs.declared.root.RootRecord.{RootRecord}

-- the name, the head's step, its authenticator there, the head's page: 64 bytes
unfoldable pub root_codec : Codec RootRecord
root_codec =
    seen (λ t. record { head = record { from = t.0; step = t.1.0; auth = t.1.1.0 }; page = t.1.1.1 })
    (λ r. (r.head.from, (r.head.step, (r.head.auth, r.page))))
    (pair name_codec (λ name. pair (number_codec 8 0 LAST_STEP) (λ step. pair digest_codec (λ auth. page_number_codec))))

abbrev pub root_bytes : RootRecord → List ℕ
root_bytes = root_codec.write

-- the page is 0 exactly at step 0, before the first head
abbrev pub HasPage : RootRecord → Type 0
HasPage r = (r.head.step ≡ 0) ↔ (r.page ≡ 0)

module _ (dig : List ℕ → List ℕ) where
  -- at step 0 the authenticator is that of the name
  abbrev pub IsBegun : RootRecord → Type 0
  IsBegun r = r.head.step ≡ 0 → r.head.auth ≡ dig (genesis_text r.head.from)

  -- the record may be the root record of a store of so many used pages and of this generation: each head took a page and a commit,
  -- and one step at least
  pub record FitsStore (used generation : ℕ) (r : RootRecord) : Type 0 where
    pub page : HasPage r
    pub begun : IsBegun r
    pub few_pages : used ≤ FIRST_PAGE + r.head.step
    pub few_commits : generation ≤ r.head.step + 1

  -- the same, with what its fields have room for
  pub record IsAllowed (used generation : ℕ) (r : RootRecord) : Type 0 where
    pub spelled : root_codec.Fits r
    pub fits : FitsStore used generation r
