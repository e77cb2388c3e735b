use Rattle.std.proofs.Common.{◌≡◌, ℕ, List, length, ap, sym, ◌∙◌, Bool}
use Rattle.std.specs.Prelude.{◌&&◌}
use Rattle.tw_base.specs.format.PageBytes.{IsPageOf}
use Rattle.tw_base.proofs.lemmas.format.PageLaws.{takes-page}
use Rattle.tw_steppage.specs.declared.fields.StepFields.{StepFields}
use Rattle.tw_steppage.specs.declared.link.StepRef.{StepRef}
use Rattle.tw_steppage.specs.declared.page.StepPage.{StepPage}
use Rattle.tw_disk.specs.Found.{Found, when, ◌>>=◌, spelled}
use Rattle.tw_steppage.specs.StepBytes.{paged_codec}
use Rattle.tw_steppage.specs.StepPages.{keeps_field_rules, keeps_link_rules}
use Rattle.tw_skiplist.specs.StepPagesRead.{step_in}
use Rattle.tw_disk.proofs.FoundLaws.{is_on}
use Rattle.tw_disk.proofs.SpelledLaws.{page-is, page-none}
use Rattle.tw_steppage.proofs.StepCodecs.{in-ranges, links-count, step-lawful}
use Rattle.tw_skiplist.proofs.step_page.read_step_page.Goals as goal

abbrev parts : StepPage → StepFields × List StepRef
parts p = (p.fields, p.links.items)

pub returns-in_default-clause-answer : goal.returns-in_default-clause-answer
unfolding step_in
returns-in_default-clause-answer c =
    let page = c.args.page in
    let step = c.args.step in
    let bytes = c.args.bytes.now in
    let none = takes-page (paged_codec step) (step-lawful step) parts bytes _ _ _ c.take_step-read.ensures.takes
    c.take_step-read.ensures.memory c.in_default.ensures in
    ap (λ (f : Found (StepFields × List StepRef)). f
    >>= (λ p. when (keeps_field_rules page p.0 && keeps_link_rules page step p.1 (length p.1)) page p))
    (page-none page (paged_codec step) (step-lawful step) bytes none)

-- the page's fields and links, by whether they keep the rules
answer : (page step : ℕ) (bytes : List ℕ) (p : StepFields × List StepRef) (b : Bool)
    → IsPageOf (paged_codec step) bytes p
    → b ≡ (keeps_field_rules page p.0 && keeps_link_rules page step p.1 (length p.1))
    → step_in page step bytes ≡ when b page p
unfolding step_in
answer page step bytes p b found is =
    is_on (spelled page 4096 (paged_codec step) bytes) (λ p. when (keeps_field_rules page p.0 && keeps_link_rules page
    step p.1 (length p.1)) page p) p (page-is page (paged_codec step) (step-lawful step) bytes p found)
    ∙ ap (λ (b : Bool). when b page p) (sym is)

pub returns-then-keeps_rules : goal.returns-then-keeps_rules
returns-then-keeps_rules c =
    let p = c.in-Some.found in
    let found = takes-page (paged_codec c.args.step) (step-lawful c.args.step) parts c.args.bytes.now _ _ _
    c.take_step-read.ensures.takes c.take_step-read.ensures.memory c.in-Some.ensures in
    record {
      answer = answer c.args.page c.args.step c.args.bytes.now (parts p) _ found c.if-keeps_rules.ensures;
      link_count = links-count c.args.step p.fields p.links.items found.fits;
      ranges = in-ranges c.args.step p.fields p.links.items found.fits;
    }

pub returns-else-keeps_rules-clause-answer : goal.returns-else-keeps_rules-clause-answer
returns-else-keeps_rules-clause-answer c =
    answer c.args.page c.args.step c.args.bytes.now (parts c.in-Some.found) _
    (takes-page (paged_codec c.args.step) (step-lawful c.args.step) parts c.args.bytes.now _ _ _
    c.take_step-read.ensures.takes c.take_step-read.ensures.memory c.in-Some.ensures) c.if-keeps_rules.ensures
