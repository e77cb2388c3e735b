-- The list that has no head yet.
use Rattle.std.proofs.Common.{◌≡◌, ℕ, ◌≤◌, List, [], refl, sym, arith, subst}
use Rattle.tw_base.specs.kinds.Names.{IsName}
use Rattle.tw_base.specs.kinds.Texts.{genesis_text}
use Rattle.tw_base.proofs.lemmas.kinds.DigestBytes.{IsDigest}
use Rattle.tw_follow.specs.declared.root.RootRecord.{RootRecord}
use Rattle.tw_follow.specs.HeadLists.{no_heads}
use Rattle.tw_follow.specs.Roots.{IsAllowed}
use Rattle.tw_follow.specs.Stands.{KeepsList}
use Rattle.tw_follow.proofs.Lists.{found-none}
use Rattle.tw_follow.proofs.Spelling.{root-fits}

-- the record of a follower that begins
abbrev pub begun : (name auth : List ℕ) → RootRecord
begun name auth = record { head = record { from = name; step = 0; auth = auth }; page = 0 }

pub keeps_none : (name auth : List ℕ) → KeepsList [] (begun name auth) (no_heads name)
keeps_none name auth = record { named = refl; found = found-none [] (begun name auth) refl }

module _ (dig : List ℕ → List ℕ) (size : (text : List ℕ) → IsDigest (dig text)) (r : RootRecord)
    (is_name : IsName r.head.from) (first : r.head.step ≡ 0) (no_page : r.page ≡ 0)
    (label : r.head.auth ≡ dig (genesis_text r.head.from)) where
  pub may_none : (generation : ℕ) → generation ≤ 1 → IsAllowed dig 4 generation r
  may_none generation low = record {
    spelled = root-fits r is_name (omega (arith, first)) (subst IsDigest (sym label) (size (genesis_text r.head.from)))
        (omega (arith, no_page));
    fits = record {
      page = (λ _. no_page, λ _. first);
      begun = λ _. label;
      few_pages = omega arith;
      few_commits = omega (arith, low);
    };
  }
