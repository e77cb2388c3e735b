use Rattle.std.proofs.Common.{◌==◌}
use Rattle.tw_script.proofs.PartLaws.{first-part, last-part}
use Rattle.tw_script.proofs.parts.Parts.next.Goals as goal

pub returns-in-Some : goal.returns-in-Some
returns-in-Some c =
    first-part (λ b. b == c.args.separator) c.args.self.now.text.now c.args.self.now.more c.in-Some.i
    c.if-not-self.false c.in-Some.ensures

pub returns-in-None : goal.returns-in-None
returns-in-None c = last-part (λ b. b == c.args.separator) c.args.self.now.text.now c.args.self.now.more
    c.if-not-self.false c.in-None.ensures
