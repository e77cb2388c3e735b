use Rattle.std.proofs.Common.{◌≡◌, ◌+◌, ◌<◌, ◌≤◌, ◌∙◌, List, [], ◌∷◌, ◌++◌, length, take, get_or, ap, sym, subst, arith}
use Rattle.std.proofs.lemmas.List.{map_more, take_all}
use Rattle.sha2.specs.Sha256.{sha256}
use Rattle.tw_script.specs.declared.line.Line.{Line}
use Rattle.tw_script.specs.declared.script.NumberedLine.{NumberedLine}
use Rattle.tw_world.specs.Hosts.{claims_none}
use Rattle.tw_world.specs.PlayedLines.{AreLinesRead, HasPlayed, PlaysOn}
use Rattle.tw_world.specs.Playing.{script_lines}
use Rattle.tw_world.specs.Runs.{RunsLines}
use Rattle.tw_world.specs.Worlds.{no_world}
use Rattle.tw_world.specs.declared.told.Told.{Told}
use Rattle.tw_world.proofs.GivenOn.{no-hosts}
use Rattle.tw_world.proofs.PlayedRuns.{asks-next, may-next, plays-more, plays-none, runs-more, runs-none}
use Rattle.tw_world.proofs.player.Player.play_lines.Goals as goal

pub loop-numbered-init : goal.loop-numbered-init
loop-numbered-init c = (
  no_world,
  subst (λ (told : List Told). RunsLines sha256 claims_none no_world [] told no_world) (sym c.new-told.ensures)
      (runs-none sha256 claims_none no_world),
  c.requires.nothing,
  subst (λ (told : List Told). PlaysOn no_world [] [] told no_world c.args.self.now.hosts.items)
      (sym c.new-told.ensures) (plays-none no_world c.args.self.now.hosts.items
      (no-hosts c.args.self.now.hosts.items c.requires.nothing.hosts)),
)

pub play_next-requires-clause-asks : goal.play_next-requires-clause-asks
play_next-requires-clause-asks c =
    let lines : List NumberedLine = c.as_slice-lines.result.now in
    let read : AreLinesRead lines = subst AreLinesRead (sym c.as_slice-lines.ensures) c.requires.read in
    asks-next lines c.loop-numbered.numbered-index c.numbered-item.result read c.loop-numbered-test.true
    (sym c.numbered-item.is)

pub play_next-requires-clause-may : goal.play_next-requires-clause-may
play_next-requires-clause-may c =
    let at = c.loop-numbered in
    let lines : List NumberedLine = c.as_slice-lines.result.now in
    let read : AreLinesRead lines = subst AreLinesRead (sym c.as_slice-lines.ensures) c.requires.read in
    let played = at.invariant in (
      played.0,
      played.2,
      may-next lines at.numbered-index c.numbered-item.result at.told played.0 read c.loop-numbered-test.true
          (sym c.numbered-item.is) played.1,
    )

pub loop-numbered-preserved : goal.loop-numbered-preserved
loop-numbered-preserved c =
    let at = c.loop-numbered in
    let lines : List NumberedLine = c.as_slice-lines.result.now in
    let i = at.numbered-index in
    let l : NumberedLine = c.numbered-item.result in
    let is : get_or lines i l ≡ l = sym c.numbered-item.is in
    let within : i < length lines = c.loop-numbered-test.true in
    let before : List Line = script_lines (take i lines) in
    let played : HasPlayed before at.told at.self = at.invariant in
    let read : AreLinesRead lines = subst AreLinesRead (sym c.as_slice-lines.ensures) c.requires.read in
    let next = c.in_ok-play_next.ensures played.0 played.2 (may-next lines i l at.told played.0 read within is played.1)
    in
    let more : script_lines (take (i + 1) lines) ≡ before ++ l.line ∷ [] =
    map_more (λ (n : NumberedLine). n.line) lines i l within ∙ ap (λ (n : NumberedLine). before ++ n.line ∷ []) is in (
      next.1,
      subst (λ (ls : List Line). RunsLines sha256 claims_none no_world ls c.play_next.new.told next.1) (sym more)
          (subst (λ (told : List Told). RunsLines sha256 claims_none no_world (before ++ l.line ∷ []) told next.1)
          (sym next.3)
          (runs-more sha256 claims_none before at.told no_world played.0 l.line next.0 next.1 played.1 next.2)),
      next.4,
      subst (λ (ls : List Line). PlaysOn no_world [] ls c.play_next.new.told next.1 c.play_next.new.self.hosts.items)
          (sym more)
          (subst (λ (told : List Told). PlaysOn no_world [] (before ++ l.line ∷ []) told next.1
          c.play_next.new.self.hosts.items) (sym next.3)
          (plays-more before at.told no_world played.0 [] at.self.hosts.items l.line next.0 next.1
          c.play_next.new.self.hosts.items played.3 next.2 next.5)),
    )

pub returns : goal.returns
returns c =
    let at = c.loop-numbered in
    let lines : List NumberedLine = c.as_slice-lines.result.now in
    let done : length lines ≤ at.numbered-index = omega (arith, c.loop-numbered-test.false) in
    subst (λ (ls : List NumberedLine). HasPlayed (script_lines ls) at.told at.self)
    (take_all at.numbered-index lines done ∙ c.as_slice-lines.ensures) at.invariant
