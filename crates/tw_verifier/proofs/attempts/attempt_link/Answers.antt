use Rattle.std.proofs.Common.{◌≡◌, ℕ, ◌-◌, List, [], ◌∷◌, ◌++◌, length, take, drop, ap, arith, refl}
use Rattle.std.proofs.lemmas.List.{length-drop, take_rest}
use Rattle.tw_pieces.proofs.SegmentLaws.{attempts-missed, stays-then}
use Rattle.tw_skipproof.specs.declared.path.Link.{Link}
use Rattle.tw_skipproof.specs.Codecs.{link_codec}
use Rattle.tw_skipproof.specs.Paths.{hop}
use Rattle.tw_skipproof.proofs.LawfulCodecs.{link-lawful}
use Rattle.tw_verifier.specs.declared.stage.Stage.TheVariants.{Path}
use Rattle.tw_verifier.specs.Stages.{behind_path, path_of, rest}
use Rattle.tw_verifier.proofs.LinkRuns.{behind-on, link-taken}
use Rattle.tw_verifier.proofs.StageLaws.{path-goes, way-goes}
use Rattle.tw_verifier.proofs.attempts.attempt_link.Goals as goal

pub returns-then-held-until : goal.returns-then-held-until
returns-then-held-until g c =
    let p = c.args.path in (
      refl,
      stays-then (link_codec p.at).format (λ (l : Link). path_of (p.links ++ l ∷ []) (hop p.at p.to) p.to
          (behind_path g.H.Hasher.dig c.args.anchors.now p.way))
          (λ word l s. path-goes (p.links ++ l ∷ []) (hop p.at p.to) p.to _ (way-goes g.H.Hasher.dig c.args.anchors.now
          p.way)) c.args.held.now c.link_until-until.result
          (c.link_until-until.ensures c.if-held-until.true),
    )

pub returns-in_ok-next-in-Ok : goal.returns-in_ok-next-in-Ok
returns-in_ok-next-in-Ok g c =
    let p = c.args.path in
    let held = c.args.held.now in
    let at = c.take_link.new.at in
    let slice : List ℕ = take (length held - at) (drop at held) in
    let is : slice ≡ drop at held = take_rest held at in
    let more = c.in_ok-next-in-Ok.ensures in
    let first = link-taken p.links p.at p.to (behind_path g.H.Hasher.dig c.args.anchors.now p.way) held at c.in-Ok.link
    c.in-Ok.ensures.0 in (
      omega (arith, first.0),
      omega (arith, first.1, more.within, ap length is, length-drop at held),
      behind-on (rest g.H.Hasher.dig c.args.anchors.now (Path p)) (path_of (p.links ++ c.in-Ok.link ∷ [])
          (hop p.at p.to) p.to (behind_path g.H.Hasher.dig c.args.anchors.now p.way))
          (rest g.H.Hasher.dig c.args.anchors.now c.in_ok-next-in-Ok.next) held slice at c.in_ok-next-in-Ok.more is
          first.2 more.behind,
    )

pub returns-in-Err : goal.returns-in-Err
returns-in-Err g c =
    let p = c.args.path in
    attempts-missed (rest g.H.Hasher.dig c.args.anchors.now) (link_codec p.at) (link-lawful p.at)
    (λ (l : Link). path_of (p.links ++ l ∷ []) (hop p.at p.to) p.to (behind_path g.H.Hasher.dig c.args.anchors.now
    p.way))
    (λ l fits. path-goes (p.links ++ l ∷ []) (hop p.at p.to) p.to _ (way-goes g.H.Hasher.dig c.args.anchors.now p.way))
    (λ l. l) (Path p) c.args.held.now c.take_link.new.at c.in-Err.fault
    c.missed.result refl c.in-Err.ensures c.missed.ensures
