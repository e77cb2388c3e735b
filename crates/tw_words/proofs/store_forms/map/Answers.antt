use Rattle.std.specs.String.{string_bytes}
use Rattle.tw_words.specs.CommandLine.{bounds}
use Rattle.tw_words.specs.CommandLine as forms
use Rattle.tw_words.proofs.FormLaws.{none_goes_on}
use Rattle.tw_words.proofs.store_forms.map.Goals as goal

pub returns-in_default-as_str : goal.returns-in_default-as_str
unfolding forms.map
returns-in_default-as_str c =
    rw (c.stop-in_default-as_str.ensures, c.in_ok-path.ensures, forms.map)
    (none_goes_on string_bytes c.in-Some.ensures.cases.0 c.as_str.ensures.value bounds (assumption c.in_default-as_str))
