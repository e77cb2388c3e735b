use Rattle.std.proofs.Common.{◌≡◌, ℕ, List, Bool, true, false, ap, ◌∙◌}
use Rattle.std.specs.Prelude.{nat_lt}
use Rattle.std.proofs.lemmas.Bool.{le-ltb, lt-ltb}
use Rattle.tw_base.specs.format.PageBytes.{IsPageOf}
use Rattle.tw_base.proofs.lemmas.format.PageLaws.{takes-page}
use Rattle.tw_disk.specs.Found.{Found, when, ◌>>=◌, spelled}
use Rattle.tw_disk.proofs.FoundLaws.{is_on}
use Rattle.tw_disk.proofs.SpelledLaws.{page-is, page-none}
use Rattle.tw_follow.specs.declared.head_page.HeadPage.{HeadPage}
use Rattle.tw_follow.specs.HeadPages.{head_codec, head_in}
use Rattle.tw_follow.proofs.Rising.{head-some}
use Rattle.tw_follow.proofs.Spelling.{head-lawful}
use Rattle.tw_follow.proofs.head_page.read_head_page.Goals as goal

-- what is tested of a head page that was read
head-found : (page : ℕ) (bytes : List ℕ) (p : HeadPage) → IsPageOf head_codec bytes p → (b : Bool)
    → nat_lt p.before page ≡ b → head_in page bytes ≡ when b page p
unfolding head_in
head-found page bytes p is b test = is_on (spelled page 4096 head_codec bytes)
    (λ q. when (nat_lt q.before page) page q) p (page-is page head_codec head-lawful bytes p is)
    ∙ ap (λ (c : Bool). when c page p) test

pub returns-in_default-clause-answer : goal.returns-in_default-clause-answer
unfolding head_in
returns-in_default-clause-answer c =
    let page = c.args.page in
    let bytes = c.args.bytes.now in
    let none = takes-page head_codec head-lawful (λ p. p) bytes _ _ _ c.take_head-read.ensures.takes
    c.take_head-read.ensures.memory c.in_default.ensures in
    ap (λ (f : Found HeadPage). f >>= (λ p. when (nat_lt p.before page) page p))
    (page-none page head_codec head-lawful bytes none)

pub returns-then-found-page-clause-answer : goal.returns-then-found-page-clause-answer
returns-then-found-page-clause-answer c = head-found c.args.page c.args.bytes.now c.in-Some.found
    (takes-page head_codec head-lawful (λ p. p) c.args.bytes.now _ _ _ c.take_head-read.ensures.takes
    c.take_head-read.ensures.memory c.in-Some.ensures) true
    (lt-ltb c.in-Some.found.before c.args.page c.if-found-page.true)

pub returns-else-found-page-clause-answer : goal.returns-else-found-page-clause-answer
returns-else-found-page-clause-answer c = head-found c.args.page c.args.bytes.now c.in-Some.found
    (takes-page head_codec head-lawful (λ p. p) c.args.bytes.now _ _ _ c.take_head-read.ensures.takes
    c.take_head-read.ensures.memory c.in-Some.ensures) false
    (le-ltb c.in-Some.found.before c.args.page c.if-found-page.false)

pub returns-then-found-page-clause-some : goal.returns-then-found-page-clause-some
returns-then-found-page-clause-some c = head-some c.args.page c.args.bytes.now c.in-Some.found
    (returns-then-found-page-clause-answer c)
