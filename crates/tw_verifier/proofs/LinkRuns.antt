-- Links of a path that are taken one behind the other.
use Rattle.std.proofs.Common.{◌≡◌, ℕ, ◌+◌, ◌<◌, ◌≤◌, List, [], ◌∷◌, ◌++◌, length, take, drop, sym, subst}
use Rattle.std.specs.Prelude.{Ok}
use Rattle.std.proofs.Math.Seq.{take-add}
use Rattle.tw_base.specs.format.Formats.{Format, then_by}
use Rattle.tw_pieces.specs.Resuming.{StandsBehind}
use Rattle.tw_pieces.proofs.PieceLaws.{behind-behind}
use Rattle.tw_pieces.proofs.SegmentLaws.{segment-ended, some-bytes}
use Rattle.tw_skipproof.specs.declared.path.Link.{Link}
use Rattle.tw_skipproof.specs.Codecs.{link_codec}
use Rattle.tw_skipproof.specs.Paths.{hop}
use Rattle.tw_skipproof.proofs.LawfulCodecs.{link-lawful}
use Rattle.tw_verifier.specs.Stages.{path_of}
use Rattle.tw_verifier.proofs.StageForms.{path-more}
use Rattle.tw_verifier.proofs.StageLaws.{link-nothing}

module _ {Z : Type 0} (whole mid rest : Format Z) (held slice : List ℕ) (at size : ℕ) where
  -- behind bytes that were taken, others were
  pub behind-on : slice ≡ drop at held → StandsBehind whole (take at held) mid → StandsBehind mid (take size slice) rest
      → StandsBehind whole (take (at + size) held) rest
  behind-on is b c =
      let P : List ℕ → Type 0 = λ w. StandsBehind whole w rest in
      let Q : List ℕ → Type 0 = λ w. StandsBehind mid (take size w) rest in
      subst P (sym (take-add at size held)) (behind-behind whole mid rest (take at held) (take size (drop at held)) b
      (subst Q is c))

module _ {Z : Type 0} (links : List Link) (at to : ℕ) (next : List Link → Format Z) (held : List ℕ) (after : ℕ)
    (l : Link) (e : (link_codec at).read held 0 ≡ Ok (record { value = l; after = after })) where
  behind : Link → Format Z
  behind l = path_of (links ++ l ∷ []) (hop at to) to next

  -- a link was taken, and what follows it stands behind it
  pub link-taken : (0 < after) × (after ≤ length held) × StandsBehind (then_by (link_codec at).format
      (λ l. path_of (links ++ l ∷ []) (hop at to) to next)) (take after held) (path_of (links ++ l ∷ []) (hop at to) to
      next)
  unfolding behind
  link-taken = segment-ended (link_codec at) (link-lawful at) behind (some-bytes (link_codec at) (link-lawful at)
      (link-nothing at)) held after l e

  -- so it does behind the path up to the link
  pub link-behind : to < at → StandsBehind (path_of links at to next) (take after held)
      (path_of (links ++ l ∷ []) (hop at to) to next)
  unfolding behind
  link-behind less =
      let P : Format Z → Type 0 = λ f. StandsBehind f (take after held) (behind l) in
      subst P (sym (path-more links at to next less)) link-taken.2
