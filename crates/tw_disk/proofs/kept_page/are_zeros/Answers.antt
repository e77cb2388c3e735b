use Rattle.std.proofs.Common.{ℕ, length, rules}
use Rattle.std.proofs.lemmas.List.{take-replicate}
use Rattle.tw_disk.proofs.kept_page.are_zeros.Goals as goal

pub returns : goal.returns
returns c = let zeros = take-replicate {X = ℕ} (length c.args.bytes.now) 512 0 c.requires in search rules
