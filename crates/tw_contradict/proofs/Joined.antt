-- Lines that a link joins, or that are one, are of one history.
use Rattle.std.proofs.Common.{◌≡◌, ℕ, ◌≤◌, List, [], ◌∷◌, ◌++◌, length, refl, sym, ap, ◌∙◌, subst, arith, inl}
use Rattle.std.specs.Prelude.{Bool, true, false, Option, Some, None, ◌&&◌, ◌==◌, nat_le, if◌then◌else◌}
use Rattle.std.specs.Str.{bytes_eq}
use Rattle.std.proofs.lemmas.Bool.{and_parts, eqb-true, leb-false, leb-true}
use Rattle.std.proofs.lemmas.Slice.Eq.{bytes_eq-Decides}
use Rattle.tw_base.specs.declared.history.thread.Thread.{Thread}
use Rattle.tw_base.specs.declared.kinds.limits.TheConstants.{LAST_STEP}
use Rattle.tw_base.specs.format.Codecs.{behind, by_kind, bytes_codec, number_codec, pair, seen, variant}
use Rattle.tw_base.specs.format.Formats.{Spells}
use Rattle.tw_base.specs.history.Auth.{auth}
use Rattle.tw_base.specs.history.Family.{AllSound, HasHistory, HasThread, HasThreads, family_texts}
use Rattle.tw_base.specs.history.History.{History}
use Rattle.tw_base.specs.history.HistoryTexts.{history_texts}
use Rattle.tw_base.specs.kinds.Bytes.{AreBytes}
use Rattle.tw_base.specs.kinds.Clash.{OrClash, Within}
use Rattle.tw_base.proofs.lemmas.format.CodecLaws.{spelled-fits}
use Rattle.tw_base.proofs.lemmas.history.ArchiveTexts.{joined_within}
use Rattle.tw_base.proofs.lemmas.history.Families.{sound_of, texts_within}
use Rattle.tw_base.proofs.lemmas.kinds.Clashes.{Among-left, Among-right, OrClash-wider, and_then}
use Rattle.tw_skipproof.specs.Paths.{Climbs, HasLinkSizes, path_texts}
use Rattle.tw_skipproof.proofs.PathBinding.{climb-binds}
use Rattle.tw_chain.specs.declared.proof.LinkProof.{LinkProof}
use Rattle.tw_chain.specs.declared.proof.Proof.TheVariants.{Linked}
use Rattle.tw_chain.specs.Finding.{climbs}
use Rattle.tw_chain.specs.Proofs.{kinds_codec, link_body, proof_codec, proof_layout}
use Rattle.tw_chain.proofs.PassesLaws.{climbs-is}
use Rattle.tw_chain.proofs.PieceSizes.{path-sizes}
use Rattle.tw_chain.proofs.ProofCodec.{proof-lawful}
use Rattle.tw_contradict.specs.ArchiveFiles.{archive_texts}
use Rattle.tw_contradict.specs.Facts.{earlier_thread, is_same_line, later}
use Rattle.tw_contradict.specs.Rules.{IsBroken, rule_texts}
use Rattle.tw_contradict.specs.Verdicts.{IsLink, NoneHas, Says, held_lines, joins, leads_down}
use Rattle.tw_contradict.specs.Verdicts.{link_proof_texts}
use Rattle.tw_contradict.specs.declared.facts.Conflict.{Conflict}
use Rattle.tw_contradict.specs.declared.facts.Facts.{Facts}
use Rattle.tw_contradict.proofs.Conflicts.{both-none}

-- ---- the link

pub record LinkSizes (l : LinkProof) : Type 0 where
  pub auth : AreBytes l.auth
  pub links : HasLinkSizes l.path.links
  pub top : l.top ≤ LAST_STEP

pub link-sizes : (bytes : List ℕ) (l : LinkProof) → Spells proof_layout bytes (Linked l) → LinkSizes l
unfolding proof_codec kinds_codec link_body behind by_kind variant pair seen bytes_codec number_codec
link-sizes bytes l spells =
    let fits = (spelled-fits proof_codec proof-lawful bytes (Linked l) spells).1.1 in
    record { auth = fits.1.1.1.0.1; links = path-sizes l.top l.step l.path.links fits.1.1.1.1; top = fits.1.1.0.1 }

-- ---- which line is which

either-line : (P : Thread → Thread → Type 0) (one other : Thread) → P (earlier_thread one other) (later one other)
    → ((a b : Thread) → P a b → P b a) → P one other
either-line P one other is turn = by (nat_le one.step other.step) is
  where
    by : (b : Bool) → P (if b then one else other) (if b then other else one) → P one other
    by true is = is
    by false is = turn other one is

in_order : (one other : Thread) → (earlier_thread one other).step ≤ (later one other).step
in_order one other = by (nat_le one.step other.step) refl
  where
    by : (b : Bool) → nat_le one.step other.step ≡ b → (if b then one else other).step ≤ (if b then other else one).step
    by true is = leb-true one.step other.step is
    by false is = (let over = leb-false one.step other.step is in omega (arith, over))

module _ (dig : List ℕ → List ℕ) (family : List History) where
  abbrev Has : Thread → Type 0
  Has t = HasThread dig family t

  has-lines : (one other : Thread) → Has (earlier_thread one other) → Has (later one other) → HasThreads dig family
      (one ∷ other ∷ [])
  has-lines one other low high =
      either-line (λ a b. HasThreads dig family (a ∷ b ∷ [])) one other (low, (high, tt))
      (λ a b is. (is.1.0, (is.0, tt)))

  same_thread : (one other : Thread) → is_same_line one other ≡ true → one ≡ other
  same_thread one other is =
      let names = and_parts (bytes_eq one.from other.from) (one.step == other.step && bytes_eq one.auth other.auth)
      is in
      let rest = and_parts (one.step == other.step) (bytes_eq one.auth other.auth) names.1 in
      let from : one.from ≡ other.from = (bytes_eq-Decides one.from other.from).0 names.0 in
      let step : one.step ≡ other.step = eqb-true one.step other.step rest.0 in
      let auth_is : one.auth ≡ other.auth = (bytes_eq-Decides one.auth other.auth).0 rest.1 in
      λ j. record { from = from j; step = step j; auth = auth_is j }

  -- one line is both
  same-lines : (one other : Thread) → is_same_line one other ≡ true → Has (later one other) → HasThreads dig family
      (one ∷ other ∷ [])
  same-lines one other is has =
      let same : one ≡ other = same_thread one other is in
      let later_is : later one other ≡ other = by (nat_le one.step other.step) in
      let of_other : Has other = subst Has later_is has in
      (subst Has (sym same) of_other, (of_other, tt))
    where
      by : (b : Bool) → (if b then other else one) ≡ other
      by true = refl
      by false = same_thread one other is

  -- what the link leads down to
  module _ (size : (text : List ℕ) → length (dig text) ≡ 32) (are : (text : List ℕ) → AreBytes (dig text))
      (sound : AllSound family) where
    led : (texts : List (List ℕ)) (lower upper : Thread) (l : LinkProof) → LinkSizes l → lower.step ≤ upper.step
        → leads_down dig lower upper l ≡ true
        → Within (path_texts dig l.path.links l.top l.step l.auth) texts → Has upper
        → OrClash dig (family_texts dig family ++ texts) (Has lower)
    led texts lower upper l sizes order is within has =
        let one = and_parts (bytes_eq l.service lower.from) _ is in
        let two = and_parts (bytes_eq l.service upper.from) _ one.1 in
        let three = and_parts (l.step == lower.step) _ two.1 in
        let four = and_parts (l.top == upper.step) _ three.1 in
        let five = and_parts (bytes_eq l.auth lower.auth) (climbs dig l.path.links l.top l.step l.auth
        (Some upper.auth)) four.1 in
        let low_name : l.service ≡ lower.from = (bytes_eq-Decides l.service lower.from).0 one.0 in
        let high_name : l.service ≡ upper.from = (bytes_eq-Decides l.service upper.from).0 two.0 in
        let low : l.step ≡ lower.step = eqb-true l.step lower.step three.0 in
        let high : l.top ≡ upper.step = eqb-true l.top upper.step four.0 in
        let bottom : l.auth ≡ lower.auth = (bytes_eq-Decides l.auth lower.auth).0 five.0 in
        let climbed : Climbs dig l.path.links l.top l.step l.auth upper.auth =
        (climbs-is dig l.path.links l.top l.step l.auth (Some upper.auth)).0 five.1 in
        let h : History = has.0 in
        let path : List (List ℕ) = path_texts dig l.path.links l.top l.step l.auth in
        let all : List (List ℕ) = family_texts dig family ++ texts in
        let inside : l.top ≤ length h.steps = (let most = has.2 in omega (arith, high, most)) in
        let reaches : auth dig h l.top ≡ upper.auth = ap (auth dig h) high ∙ has.3 in
        let name : HasHistory family lower.from h = subst (λ (n : List ℕ). HasHistory family n h)
        (sym high_name ∙ low_name) has.1 in
        and_then dig all _ _
        (OrClash-wider dig (history_texts dig h ++ path) all (l.auth ≡ auth dig h l.step)
        (joined_within (history_texts dig h) path all
        (λ t a. Among-left t (family_texts dig family) texts (texts_within dig family upper.from h has.1 t a))
        (λ t a. Among-right t (family_texts dig family) texts (within t a)))
        (climb-binds dig size are h l.path.links l.top l.step l.auth (sound_of family upper.from h sound has.1)
        sizes.auth sizes.links climbed.shape
        (omega (arith, order, low, high)) inside (climbed.reaches ∙ sym reaches)))
        (λ same. inl (h, name, omega (arith, order, high, inside, low), ap (auth dig h) (sym low) ∙ sym same ∙ bottom))

-- ---- no sound history has the later line of two that are joined

module _ (dig : List ℕ → List ℕ) (size : (text : List ℕ) → length (dig text) ≡ 32) (are : (text : List ℕ)
    → AreBytes (dig text)) (anchors others : List Thread)
    (first second : List ℕ) (one other : Facts) (c : Conflict) (said : Says dig anchors first one)
    (also : Says dig others second other) (named : IsBroken dig one other c) where
  abbrev files_texts : Option LinkProof → List (List ℕ)
  files_texts link =
      archive_texts dig said.proof ++ (archive_texts dig also.proof ++ (rule_texts c.rule ++ link_proof_texts dig link))

  pub joined-none : (link : List ℕ) (between : Option LinkProof) → IsLink link between → joins dig one.line other.line
      between ≡ true
      → NoneHas dig (later one.line other.line ∷ []) (files_texts between)
  joined-none link None is_link joined family sound has =
      both-none dig size are anchors others first second one other c [] said also named family sound
      (same-lines dig family one.line other.line joined has.0)
  joined-none link (Some l) is_link joined family sound has =
      let path : List (List ℕ) = path_texts dig l.path.links l.top l.step l.auth in
      let texts : List (List ℕ) = files_texts (Some l) in
      and_then dig (family_texts dig family ++ texts) _ _
      (led dig family size are sound texts (earlier_thread one.line other.line) (later one.line other.line) l
      (link-sizes link l is_link) (in_order one.line other.line) joined
      (λ t a. Among-right t (archive_texts dig said.proof) (archive_texts dig also.proof ++ (rule_texts c.rule ++ path))
      (Among-right t (archive_texts dig also.proof) (rule_texts c.rule ++ path)
      (Among-right t (rule_texts c.rule) path a))) has.0)
      (λ low. both-none dig size are anchors others first second one other c path said also named family sound
      (has-lines dig family one.line other.line low has.0))

  pub lines-none : (is_joined : Bool) (link : List ℕ) (between : Option LinkProof) → IsLink link between
      → joins dig one.line other.line between ≡ is_joined
      → NoneHas dig (held_lines is_joined one.line other.line) (files_texts between)
  lines-none true link between is_link joined = joined-none link between is_link joined
  lines-none false link between is_link joined = both-none dig size are anchors others first second one other c
      (link_proof_texts dig between) said also named
