-- The status and the text of each answer.
use Rattle.std.specs.Prelude.{ℕ, List}
use Rattle.tw_atlas.specs.AtlasTexts.{atlas_text}
use Rattle.tw_text.specs.Reports.{gap_text}
use Rattle.tw_evidence.specs.declared.fork.ForkVerdict.TheVariants.{Yes, No}
use Rattle.tw_evidence.specs.Texts.{fork_text}
use Rattle.tw_tmap.specs.Texts.{map_status, map_text}
use Rattle.tw_reachcmd.specs.AdoptTexts.{taken_status, taken_text}
use Rattle.tw_reachcmd.specs.AuditTexts.{audited_status, audited_text}
use Rattle.tw_reachcmd.specs.declared.accusing.Accused.TheVariants.{Whole, Unfit}
use Rattle.tw_reachcmd.specs.declared.answer.Answer.{Answer}
use Rattle.tw_reachcmd.specs.declared.answer.Answer.TheVariants.{Accused, Audited, Fork, Mapped, Planned, Taken}

abbrev pub answer_status : Answer → ℕ
answer_status (Accused (Whole evidence)) = 0
answer_status (Accused (Unfit place)) = 1
answer_status (Fork (Yes fork)) = 0
answer_status (Fork (No reason)) = 1
answer_status (Planned planned) = 0
answer_status (Audited audited) = audited_status audited
answer_status (Mapped verdict) = map_status verdict
answer_status (Taken taken) = taken_status taken

-- evidence and the file of a history are written as their bytes are, with no line feed behind them
abbrev pub answer_text : Answer → List ℕ
answer_text (Accused (Whole evidence)) = evidence
answer_text (Accused (Unfit place)) = gap_text place
answer_text (Fork verdict) = fork_text verdict
answer_text (Audited audited) = audited_text audited
answer_text (Planned planned) = atlas_text planned.start planned.atlas
answer_text (Mapped verdict) = map_text verdict
answer_text (Taken taken) = taken_text taken
