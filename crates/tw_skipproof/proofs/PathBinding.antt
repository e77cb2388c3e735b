-- From an authenticator down along a path.
use Rattle.std.proofs.Common.{◌≡◌, ℕ, suc, zero, ◌-◌, ◌<◌, ◌≤◌, ◌^◌, List, [], ◌∷◌, ◌++◌, length, get_or, take, drop}
use Rattle.std.proofs.Common.{refl, ap, sym, ◌∙◌, subst, lit<, arith, inl, inr}
use Rattle.std.specs.Prelude.{Option, Some, None, MatchOption, IfSome, map}
use Rattle.std.proofs.Math.Nat.{one-le-pow}
use Rattle.std.proofs.lemmas.List.{get_or_at, length-append, length-take-le, take-append-drop}
use Rattle.tw_base.specs.kinds.Bytes.{AreBytes, HasBytes}
use Rattle.tw_base.specs.kinds.Digests.{AllDigests}
use Rattle.tw_base.specs.kinds.Lists.{Each}
use Rattle.tw_base.specs.history.History.{History}
use Rattle.tw_base.specs.kinds.Levels.{top_level}
use Rattle.tw_base.specs.history.Auth.{auth, auths, auth_text, datum_text_at, link_texts_at}
use Rattle.tw_base.specs.history.HistoryTexts.{history_texts}
use Rattle.tw_base.specs.history.Sound.{IsSound}
use Rattle.tw_base.specs.kinds.Clash.{Among, OrClash, Within}
use Rattle.tw_base.proofs.lemmas.kinds.Clashes.{and_then, same_text, Among-left, Among-right, OrClash-wider}
use Rattle.tw_base.proofs.lemmas.kinds.Clashes.{both_within}
use Rattle.tw_base.proofs.lemmas.kinds.TextFields.{authenticator-fields, link-fields}
use Rattle.tw_base.proofs.lemmas.kinds.DigestBytes.{map-digests}
use Rattle.tw_base.proofs.lemmas.kinds.Levels.{top_level-below}
use Rattle.tw_base.proofs.lemmas.kinds.ListLemmas.{Each-append, Each-map}
use Rattle.tw_base.proofs.lemmas.history.TextBytes.{authenticator_text-bytes, history_texts-bytes, link_text-bytes}
use Rattle.tw_base.proofs.lemmas.history.Auths.{auth-suc, auths-at, has-auth_text, has-link_text, label-at}
use Rattle.tw_base.proofs.lemmas.history.Auths.{link_texts-has, text_at}
use Rattle.tw_skipproof.specs.declared.path.Link.{Link}
use Rattle.tw_skipproof.specs.Paths.{HasLinkSizes, HasShape, climb_auth_text, climb_link_text, climbed, hop, hop_level}
use Rattle.tw_skipproof.specs.Paths.{path_texts, with_label}
use Rattle.tw_skipproof.proofs.Hops.{AllDigests-join, AllDigests-parts, hop-below, hop_level-le}

AllDigests-with : (others : List (List ℕ)) (level : ℕ) (label : List ℕ) → AllDigests others → HasBytes 32 label
    → AllDigests (with_label others level label)
AllDigests-with others level label p n =
    let parts = AllDigests-parts (take level others) (drop level others)
    (subst AllDigests (sym (take-append-drop level others)) p) in
    AllDigests-join (take level others) (label ∷ drop level others) parts.0 (n, parts.1)

get_or-with : (others : List (List ℕ)) (level : ℕ) (label : List ℕ) → level ≤ length others
    → get_or (with_label others level label) level [] ≡ label
get_or-with others level label h = get_or_at (take level others) label (drop level others) [] level
    (length-take-le level others h)

length-with : (others : List (List ℕ)) (level : ℕ) (label : List ℕ) → length (with_label others level label) ≡ suc
    (length others)
length-with others level label =
    length-append (take level others) (label ∷ drop level others)
    ∙ (let whole = ap length (take-append-drop level others) in let parts = length-append (take level others)
    (drop level others) in omega (arith, whole, parts))

-- what climbing hashes is bytes
pub path_texts-bytes : (dig : List ℕ → List ℕ) (size : (text : List ℕ) → length (dig text) ≡ 32) (are : (text : List ℕ)
    → AreBytes (dig text))
    (links : List Link) (upper lower : ℕ) (bottom : List ℕ) → AreBytes bottom → HasLinkSizes links
    → HasShape links upper lower → upper < 2 ^ 40 → Each AreBytes (path_texts dig links upper lower bottom)
unfolding path_texts climbed
path_texts-bytes dig size are [] upper lower bottom is sizes shape small = tt
path_texts-bytes dig size are (link ∷ links) upper lower bottom is sizes shape small =
    let level : ℕ = hop_level upper lower in
    let below : List ℕ = climbed dig links (hop upper lower) lower bottom in
    let top : top_level upper < 40 = top_level-below upper small in
    let less : level ≤ top_level upper = hop_level-le upper lower in
    let label : List ℕ = dig (climb_link_text dig link upper level below) in
    let labels = AllDigests-with link.others level label sizes.1 (size _, are _) in
    let down : hop upper lower < 2 ^ 40 = (let lower' : hop upper lower ≤ upper = omega arith in
    omega (arith, small, lower')) in
    Each-append AreBytes (path_texts dig links (hop upper lower) lower bottom) _
    (path_texts-bytes dig size are links (hop upper lower) lower bottom is sizes.2 shape.2 down) (
      link_text-bytes upper level link.datum below (omega (arith, top, less)) sizes.0.1 (below-bytes links is),
      (
        authenticator_text-bytes upper (with_label link.others level label)
            (omega (arith, top, shape.1, length-with link.others level label))
            (Each-map (HasBytes 32) AreBytes (with_label link.others level label) (λ l has. has.1) labels),
        tt,
      ),
    )
  where
    below-bytes : (links : List Link) → AreBytes bottom → AreBytes (climbed dig links (hop upper lower) lower bottom)
    below-bytes [] is = is
    below-bytes (l ∷ ls) is = are _

module _ (dig : List ℕ → List ℕ) (size : (text : List ℕ) → length (dig text) ≡ 32) (are : (text : List ℕ)
    → AreBytes (dig text)) (h : History) where
  -- the text of the history's link of step k + 1 at this level
  abbrev own_link_text : (k level : ℕ) → List ℕ
  own_link_text k level = text_at dig (dig (datum_text_at dig h (suc k))) (auths dig h k) (suc k) level

  -- one link: what is below it is the authenticator of the step that it leads to
  one_link : (texts : List (List ℕ)) → Each AreBytes texts → (k level : ℕ) (link : Link) (below : List ℕ)
      → k < length h.steps → HasBytes 32 link.datum → AllDigests link.others
      → length link.others ≡ top_level (suc k) → level ≤ top_level (suc k)
      → Within (history_texts dig h) texts
      → Among (climb_link_text dig link (suc k) level below) texts
      → Among (climb_auth_text dig link (suc k) level below) texts
      → dig (climb_auth_text dig link (suc k) level below) ≡ auth dig h (suc k)
      → OrClash dig texts (below ≡ auth dig h (suc k - 2 ^ level))
  one_link texts texts-are k level link below step datum_size sizes count at within has_link has_auth e =
      and_then dig texts _ _
      (same_text dig texts texts-are (auth_text dig h (auths dig h k) (suc k))
      (climb_auth_text dig link (suc k) level below)
      (within _ (has-auth_text dig h k step)) has_auth (sym (auth-suc dig h k) ∙ sym e))
      (λ same_auth.
      let labels = authenticator-fields (suc k) (map dig (link_texts_at dig h (auths dig h k) (suc k)))
      (with_label link.others level (dig (climb_link_text dig link (suc k) level below)))
      (map-digests dig size are _) (AllDigests-with _ level _ sizes (size _, are _)) same_auth in
      let label : dig (own_link_text k level) ≡ dig (climb_link_text dig link (suc k) level below) =
      sym (label-at dig _ _ (suc k) level (suc (top_level (suc k))) (omega arith))
      ∙ ap (λ ls. get_or ls level []) labels
      ∙ get_or-with link.others level _ (omega arith) in
      and_then dig texts _ _
      (same_text dig texts texts-are (own_link_text k level) (climb_link_text dig link (suc k) level below)
      (within _ (has-link_text dig h _ k step (link_texts-has dig _ _ (suc k) level (suc (top_level (suc k)))
      (omega arith))))
      has_link label)
      (λ same_link.
      let fields = link-fields (suc k) level _ _ _ _ (size _ ∙ sym datum_size.0) same_link in
      inl (sym fields.1 ∙ auths-at dig h k (suc k - 2 ^ level) (let some : 1 ≤ 2 ^ level =
      one-le-pow level 2 (lit< tt) in omega arith))))

  pub climb-binds : (links : List Link) (upper lower : ℕ) (bottom : List ℕ) → IsSound h → AreBytes bottom
      → HasLinkSizes links → HasShape links upper lower
      → lower ≤ upper → upper ≤ length h.steps → climbed dig links upper lower bottom ≡ auth dig h upper
      → OrClash dig (history_texts dig h ++ path_texts dig links upper lower bottom) (bottom ≡ auth dig h lower)
  unfolding climbed path_texts
  climb-binds [] upper lower bottom sound is sizes shape order within e =
      let same : upper ≡ lower = omega arith in inl (e ∙ ap (auth dig h) same)
  climb-binds (link ∷ links) zero lower bottom sound is sizes shape order within e = absurd (omega arith)
  climb-binds (link ∷ links) (suc k) lower bottom sound is sizes shape order within e =
      let level : ℕ = hop_level (suc k) lower in
      let below : List ℕ = climbed dig links (hop (suc k) lower) lower bottom in
      let texts : List (List ℕ) = history_texts dig h ++ path_texts dig (link ∷ links) (suc k) lower bottom in
      let fits : level ≤ top_level (suc k) = hop_level-le (suc k) lower in
      let small : suc k < 2 ^ 40 = (let most = sound.length in omega (arith, most, within)) in
      let texts-are : Each AreBytes texts = Each-append AreBytes (history_texts dig h) _ (history_texts-bytes dig size
      are h sound) (path_texts-bytes dig size are (link ∷ links) (suc k) lower bottom is sizes shape small) in
      let next : lower ≤ hop (suc k) lower = hop-below (suc k) lower shape.0 in
      and_then dig texts _ _
      (one_link texts texts-are k level link below within sizes.0 sizes.1 shape.1 fits
      (λ text a. Among-left text (history_texts dig h) _ a)
      (Among-right _ (history_texts dig h) _ (Among-right _ (path_texts dig links (hop (suc k) lower) lower bottom) _
      (inl refl)))
      (Among-right _ (history_texts dig h) _ (Among-right _ (path_texts dig links (hop (suc k) lower) lower bottom) _
      (inr (inl refl))))
      e)
      (λ same_below. OrClash-wider dig (history_texts dig h ++ path_texts dig links (hop (suc k) lower) lower bottom)
      texts _
      (both_within _ _ _ _ (λ text a. a)
      (λ text a. Among-left text (path_texts dig links (hop (suc k) lower) lower bottom) _ a))
      (climb-binds links (hop (suc k) lower) lower bottom sound is sizes.2 shape.2 next (omega arith) same_below))

pub climb_from : (dig : List ℕ → List ℕ) (size : (text : List ℕ) → length (dig text) ≡ 32) (are : (text : List ℕ)
    → AreBytes (dig text)) (links : List Link) (upper lower : ℕ) (bottom : List ℕ) → AreBytes bottom
    → (r : Option (List ℕ))
    → MatchOption r (HasShape links upper lower → ⊥) (λ d. HasShape links upper lower
    × (d ≡ climbed dig links upper lower bottom))
    → IfSome r (λ _. HasLinkSizes links)
    → IfSome r (λ d. (h : History) → IsSound h → lower ≤ upper → upper ≤ length h.steps → d ≡ auth dig h upper →
    OrClash dig (history_texts dig h ++ path_texts dig links upper lower bottom) (bottom ≡ auth dig h lower))
climb_from dig size are links upper lower bottom is None answer sizes = tt
climb_from dig size are links upper lower bottom is (Some d) answer sizes = λ h sound order within e.
    climb-binds dig size are h links upper lower bottom sound is sizes answer.0 order within (sym answer.1 ∙ e)
