use Rattle.tw_script.proofs.LimitLaws.{too-long, within-limit}
use Rattle.tw_script.proofs.script.read_script.Goals as goal

pub returns-then-bytes-gt-MOST_SCRIPT_BYTES : goal.returns-then-bytes-gt-MOST_SCRIPT_BYTES
returns-then-bytes-gt-MOST_SCRIPT_BYTES c = too-long c.args.bytes.now c.line_number_at.result
    c.if-bytes-gt-MOST_SCRIPT_BYTES.true c.line_number_at.ensures

pub returns : goal.returns
returns c = within-limit c.args.bytes.now c.read_lines.result c.if-bytes-gt-MOST_SCRIPT_BYTES.false c.read_lines.ensures
