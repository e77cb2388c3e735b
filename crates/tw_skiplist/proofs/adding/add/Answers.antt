use Rattle.std.proofs.Common.{◌≡◌, ◌+◌, length, sym, ◌∙◌, refl, arith}
use Rattle.tw_disk.specs.Found.Found.{Is}
use Rattle.tw_disk.proofs.FoundLaws.{is_on}
use Rattle.tw_disk.proofs.ReadingLaws.{adds_none, only_adds_on}
use Rattle.tw_skiplist.specs.Appended.{new_labels, next_at, next_of, put_behind}
use Rattle.tw_skiplist.specs.Records.{page_labels}
use Rattle.tw_skiplist.specs.Walks.{next_links}
use Rattle.tw_skiplist.proofs.adding.add.Goals as goal

pub returns-clause-adds : goal.returns-clause-adds
unfolding put_behind
returns-clause-adds g c =
    let dig = g.H.Hasher.dig in
    let head = c.args.head.now in
    let new = c.args.new.now in
    let links = c.in_ok-gathered.gathered.items in
    let reads = c.in_ok-gathered.ensures.reads in
    let put = c.in_ok-added.ensures.adds in
    let told_so : links ≡ c.as_slice-links.result.now = sym c.as_slice-links.ensures.value in
    record {
      answer = λ ps told.
          let labels : new_labels dig ps head new links ≡ c.as_slice-labels.result.now =
          (λ j. page_labels dig (head.step + 1) (sym c.step_datum-datum.ensures.label j) (told_so j)
          (length (told_so j))) ∙ sym c.labels_of-labelled.ensures.labels ∙ sym c.as_slice-labels.ensures.value in
          let added = put.answer ps (reads.kept.list_kept ∙ told) in (
            added.0,
            added.1,
            is_on (next_links ps head) (λ links. Is (next_of dig ps head new links)) links (reads.answer ps told)
                ∙ (λ j. Is (next_at dig ps (head.step + 1) new (told_so j) (labels j)))
                ∙ added.2,
          );
      own = tt;
      kept = only_adds_on g.P.Pages.view g.P.Pages.same _ _ _ _ _ _ g.met.P.Pages.same_on (λ good. refl) (λ good. refl)
          (adds_none g.P.Pages.view g.P.Pages.same _ _ _ reads.kept) put.kept;
      faults = record { later = omega (arith, reads.faults.later, put.faults.later); rose = λ failed. cc };
    }
