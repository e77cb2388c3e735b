use Rattle.std.specs.String.{string_bytes}
use Rattle.tw_words.specs.CommandLine.{file_commands, reach_commands, store_commands}
use Rattle.tw_words.proofs.FormLaws.{of_first, of_none, of_second, of_third}
use Rattle.tw_words.proofs.words.command.Goals as goal

pub returns-in-Some-store_command : goal.returns-in-Some-store_command
returns-in-Some-store_command c =
    of_first string_bytes c.in-Some.ensures.cases.0 c.as_str-word.ensures.value store_commands file_commands
    reach_commands c.in-Some-store_command.made c.in-Some-store_command.ensures

pub returns-in-Some-file_command : goal.returns-in-Some-file_command
returns-in-Some-file_command c =
    of_second string_bytes c.in-Some.ensures.cases.0 c.as_str-word.ensures.value store_commands file_commands
    reach_commands c.in-Some-file_command.made c.in_default-store_command.ensures c.in-Some-file_command.ensures

pub returns-in-Some-reach_command : goal.returns-in-Some-reach_command
returns-in-Some-reach_command c =
    of_third string_bytes c.in-Some.ensures.cases.0 c.as_str-word.ensures.value store_commands file_commands
    reach_commands c.in-Some-reach_command.made c.in_default-store_command.ensures c.in_default-file_command.ensures
    c.in-Some-reach_command.ensures

pub returns-in-None : goal.returns-in-None
returns-in-None c =
    rw c.stop-in-None.ensures (of_none string_bytes c.in-Some.ensures.cases.0 c.as_str-word.ensures.value store_commands
    file_commands reach_commands c.in_default-store_command.ensures c.in_default-file_command.ensures c.in-None.ensures)
