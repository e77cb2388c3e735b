-- What a disk over a file tells, by what the file tells.
use Rattle.std.proofs.Common.{◌≡◌, ◌⊎◌, ℕ, suc, ◌+◌, ◌*◌, ◌/◌, ◌<◌, ◌≤◌, max, List, length, take, drop, refl, sym, ap, ◌∙◌, subst, inl, inr, arith}
use Rattle.std.specs.Prelude.{Bool, true, false, Option, Some, None, IfSome, IsSomeAnd, MatchOption}
use Rattle.std.specs.Option.{option_map}
use Rattle.tw_base.specs.declared.kinds.limits.TheConstants.{PAGE_SIZE}
use Rattle.tw_disk.specs.Disk.{IsSameDisk, FollowsByStep, TimeGoesOn, Only, KeepsRoom, grown}
use Rattle.tw_disk.specs.Image.{Image, Torn, put, page_at}
use Rattle.tw_disk.specs.PutSteps.{length-put}
use Rattle.tw_hostio.specs.FileBytes.{put_bytes, TornBytes, whole_pages}
use Rattle.tw_hostio.specs.FileDisk.{ArePagesOfOutcome, page_count, IsCountOf, file_disk_view}
use Rattle.tw_hostio.specs.PageFile.{FileView, IsSameFile, FileTimeGoesOn, FollowsByWrite, OnlyBytes}
use Rattle.std.proofs.lemmas.Bool.{cases_lt}
use Rattle.tw_hostio.proofs.ByteLaws.{length-put_bytes}
use Rattle.tw_hostio.proofs.PageLaws.{length-whole_pages, page_at-whole_pages, Torn-pages, pages-put}

-- pages of outcomes, where each outcome goes on
on : (one other : List ℕ → Type 0) (c : Image) → ((b : List ℕ) → one b → other b) → ArePagesOfOutcome one c → ArePagesOfOutcome other c
on one other c goes pages = record { bytes = pages.bytes; left = goes pages.bytes pages.left; pages = pages.pages }

-- the disk over a file that is the same
pub same_disk_over : (old new : FileView) (counted counted_new : Option ℕ) (faults faults_new : ℕ) → IsSameFile old new
    → IsSameDisk (file_disk_view old counted faults) (file_disk_view new counted_new faults_new)
same_disk_over old new counted counted_new faults faults_new same = record {
  content = ap (option_map whole_pages) same.bytes;
  images = λ c. (on new.may_leave old.may_leave c (λ b. (same.outcomes b).0), on old.may_leave new.may_leave c (λ b. (same.outcomes b).1));
  later = same.later;
  images_since = λ t c le. (
    on (new.left_since t) (old.left_since t) c (λ b. (same.outcomes_since t b le).0),
    on (old.left_since t) (new.left_since t) c (λ b. (same.outcomes_since t b le).1),
  );
}

-- the disk over a file of which time goes on
pub disk_time : (old new : FileView) (counted counted_new : Option ℕ) (faults faults_new : ℕ) → FileTimeGoesOn old new
    → TimeGoesOn (file_disk_view old counted faults) (file_disk_view new counted_new faults_new)
disk_time old new counted counted_new faults faults_new time = record {
  later = time.later;
  nothing_else = λ t c le pages. elim (time.nothing_else t pages.bytes le pages.left) [
    | inl before ↦ inl (record { bytes = pages.bytes; left = before; pages = pages.pages })
    | inr now ↦ inr (record { bytes = pages.bytes; left = now; pages = pages.pages })
  ];
  keeps = λ t c le. on (old.left_since t) (new.left_since t) c (λ b. time.keeps t b le);
}

-- what a crash may leave of the disk after a write of a page's bytes
pub disk_crash : (page : ℕ) (old new : List ℕ → Type 0) → FollowsByWrite (PAGE_SIZE * page) PAGE_SIZE old new
    → FollowsByStep (Torn page) (λ c. ArePagesOfOutcome old c) (λ c. ArePagesOfOutcome new c)
disk_crash page old new follows c pages =
    let (bytes, left, torn) = follows pages.bytes pages.left in (
      whole_pages bytes,
      record { bytes = bytes; left = left; pages = refl },
      subst (λ (i : Image). Torn page (whole_pages bytes) i) pages.pages (Torn-pages page bytes pages.bytes torn),
    )

-- a page that was read from the bytes
pub gives_page : (bytes : Option (List ℕ)) (page : ℕ) (into : List ℕ)
    → IfSome bytes (λ b. (PAGE_SIZE * page + PAGE_SIZE ≤ length b) × (into ≡ take PAGE_SIZE (drop (PAGE_SIZE * page) b)))
    → IfSome (option_map whole_pages bytes) (λ c. into ≡ page_at c page)
gives_page None page into read = tt
gives_page (Some b) page into read = read.1 ∙ sym (page_at-whole_pages b page (omega (arith, read.0)))

-- after a good write the page is put
pub puts_page : (old new : Option (List ℕ)) (page : ℕ) (from : List ℕ) → length from ≡ PAGE_SIZE → IfSome old (λ b. PAGE_SIZE * page ≤ length b)
    → new ≡ option_map (put_bytes (PAGE_SIZE * page) from) old
    → option_map whole_pages new ≡ option_map (put page from) (option_map whole_pages old)
puts_page None new page from size joins written = ap (option_map whole_pages) written
puts_page (Some b) new page from size joins written =
    ap (option_map whole_pages) written ∙ ap (λ (c : Image). Some c) (pages-put page from b size joins)

-- a torn write leaves the other pages
pub tears_page : (old new : Option (List ℕ)) (page : ℕ)
    → MatchOption old (new ≡ None) (λ b. IsSomeAnd new (TornBytes (PAGE_SIZE * page) PAGE_SIZE b))
    → MatchOption (option_map whole_pages old) (option_map whole_pages new ≡ None) (λ c. IsSomeAnd (option_map whole_pages new) (Torn page c))
tears_page None new page torn = ap (option_map whole_pages) torn
tears_page (Some b) None page torn = absurd torn
tears_page (Some b) (Some now) page torn = Torn-pages page b now torn

-- where a page may be written, its place is no further than the file's end
pub joins_place : (bytes : Option (List ℕ)) (counted : Option ℕ) (page : ℕ) → IsSomeAnd (page_count (option_map whole_pages bytes) counted) (λ n. page ≤ n)
    → IfSome bytes (λ b. PAGE_SIZE * page ≤ length b)
joins_place None counted page room = tt
joins_place (Some b) counted page room = omega (arith, length-whole_pages b, room)

-- a synced file leaves its pages alone
pub only_pages : (bytes : Option (List ℕ)) (outcomes : List ℕ → Type 0) → IfSome bytes (λ b. OnlyBytes b outcomes)
    → IfSome (option_map whole_pages bytes) (λ c. Only c (λ d. ArePagesOfOutcome outcomes d))
only_pages None outcomes only = tt
only_pages (Some b) outcomes only = λ c pages. sym pages.pages ∙ ap whole_pages (only pages.bytes pages.left)

-- after a good write the count has grown, where the page is behind the last one
pub grown_told : (old new : Option (List ℕ)) (counted : Option ℕ) (page : ℕ) (from : List ℕ) → length from ≡ PAGE_SIZE
    → IfSome old (λ b. PAGE_SIZE * page ≤ length b) → new ≡ option_map (put_bytes (PAGE_SIZE * page) from) old
    → page_count (option_map whole_pages new) (grown page counted) ≡ grown page (page_count (option_map whole_pages old) counted)
grown_told None new counted page from size joins written =
    ap (λ (o : Option (List ℕ)). page_count (option_map whole_pages o) (grown page counted)) written
grown_told (Some b) new counted page from size joins written =
    ap (λ (o : Option (List ℕ)). page_count (option_map whole_pages o) (grown page counted)) written
    ∙ ap (λ (c : Image). Some (length c)) (pages-put page from b size joins)
    ∙ ap (λ (n : ℕ). Some n) (length-put page from (whole_pages b) (omega (arith, length-whole_pages b, joins)))

abbrev MayHaveGrown : ℕ → (old new : Option ℕ) → Type 0
MayHaveGrown page old new = (new ≡ old) ⊎ (new ≡ grown page old)

length_torn : (page m n : ℕ) → page ≤ m → m ≤ n → n ≤ max m (suc page) → (n ≡ m) ⊎ (n ≡ max m (suc page))
length_torn page m n room low high = elim (cases_lt m n) [ inl more ↦ inr (omega arith) | inr no_more ↦ inl (omega arith) ]

-- after a torn write the count is the same, or has grown
pub count_torn : (old new : Option (List ℕ)) (counted : Option ℕ) (page : ℕ) → IsSomeAnd (page_count (option_map whole_pages old) counted) (λ n. page ≤ n)
    → MatchOption old (new ≡ None) (λ b. IsSomeAnd new (TornBytes (PAGE_SIZE * page) PAGE_SIZE b))
    → MayHaveGrown page (page_count (option_map whole_pages old) counted) (page_count (option_map whole_pages new) counted)
count_torn None new counted page room torn = inl (ap (λ (o : Option (List ℕ)). page_count (option_map whole_pages o) counted) torn)
count_torn (Some b) None counted page room torn = absurd torn
count_torn (Some b) (Some now) counted page room torn =
    let pages = Torn-pages page b now torn in
    elim (length_torn page (length (whole_pages b)) (length (whole_pages now)) room pages.no_shorter pages.no_longer) [
      | inl same ↦ inl (ap (λ (n : ℕ). Some n) same)
      | inr more ↦ inr (ap (λ (n : ℕ). Some n) more)
    ]

-- a count that is the same or has grown is no lower
pub keeps_room : (page : ℕ) (old new : Option ℕ) → MayHaveGrown page old new → KeepsRoom old new
keeps_room page None new grew = tt
keeps_room page (Some n) new (inl same) = subst (λ (o : Option ℕ). IsSomeAnd o (λ m. n ≤ m)) (sym same) (omega arith)
keeps_room page (Some n) new (inr more) = subst (λ (o : Option ℕ). IsSomeAnd o (λ m. n ≤ m)) (sym more) (omega arith)

-- the number that was counted is that of the bytes, after a good write
pub counted_after : (old new : Option (List ℕ)) (counted : Option ℕ) (in_doubt : Bool) (page : ℕ) (from : List ℕ) → length from ≡ PAGE_SIZE
    → IfSome old (λ b. PAGE_SIZE * page ≤ length b) → new ≡ option_map (put_bytes (PAGE_SIZE * page) from) old
    → IsCountOf old counted in_doubt → IsCountOf new (grown page counted) in_doubt
counted_after None new counted in_doubt page from size joins written is = subst (λ (o : Option (List ℕ)). IsCountOf o (grown page counted) in_doubt) (sym written) tt
counted_after (Some b) new None in_doubt page from size joins written is = subst (λ (o : Option (List ℕ)). IsCountOf o None in_doubt) (sym written) tt
counted_after (Some b) new (Some n) true page from size joins written is = subst (λ (o : Option (List ℕ)). IsCountOf o (Some (max n (suc page))) true) (sym written) tt
counted_after (Some b) new (Some n) false page from size joins written is =
    let long = length-put_bytes (PAGE_SIZE * page) from b joins in
    subst (λ (o : Option (List ℕ)). IsCountOf o (Some (max n (suc page))) false) (sym written) (omega (arith, long, size, joins, is))

-- and after one that failed, where it isn't in doubt
pub counted_still : (old new : Option (List ℕ)) (counted : Option ℕ) (in_doubt doubt : Bool) (page : ℕ)
    → MatchOption old (new ≡ None) (λ b. IsSomeAnd new (TornBytes (PAGE_SIZE * page) PAGE_SIZE b))
    → (doubt ≡ false → (in_doubt ≡ false) × IfSome counted (λ n. page < n)) → IsCountOf old counted in_doubt → IsCountOf new counted doubt
counted_still None new counted in_doubt doubt page torn sure is = subst (λ (o : Option (List ℕ)). IsCountOf o counted doubt) (sym torn) tt
counted_still (Some b) None counted in_doubt doubt page torn sure is = absurd torn
counted_still (Some b) (Some now) None in_doubt doubt page torn sure is = tt
counted_still (Some b) (Some now) (Some n) in_doubt true page torn sure is = tt
counted_still (Some b) (Some now) (Some n) true false page torn sure is = let same : true ≡ false = (sure refl).0 in cc
counted_still (Some b) (Some now) (Some n) false false page torn sure is = omega (arith, is, torn.no_shorter, torn.no_longer, (sure refl).1)

-- a number that was counted and isn't in doubt is told
pub told_counted : (bytes : Option (List ℕ)) (counted : Option ℕ) (in_doubt : Bool) (n : ℕ) → counted ≡ Some n → in_doubt ≡ false
    → IsCountOf bytes counted in_doubt → page_count (option_map whole_pages bytes) counted ≡ Some n
told_counted None counted in_doubt n was sure is = was
told_counted (Some b) None in_doubt n was sure is = cc
told_counted (Some b) (Some m) true n was sure is = cc
told_counted (Some b) (Some m) false n was sure is = let same : m ≡ n = cc in ap (λ (k : ℕ). Some k) (length-whole_pages b ∙ sym is ∙ same)

-- and so is one that is counted now
pub counted_now : (old new : Option (List ℕ)) (n : ℕ) → new ≡ old → IfSome old (λ b. n ≡ length b / PAGE_SIZE)
    → page_count (option_map whole_pages new) (Some n) ≡ Some n
counted_now None new n same is = ap (λ (o : Option (List ℕ)). page_count (option_map whole_pages o) (Some n)) same
counted_now (Some b) new n same is =
    ap (λ (o : Option (List ℕ)). page_count (option_map whole_pages o) (Some n)) same
    ∙ ap (λ (k : ℕ). Some k) (length-whole_pages b ∙ sym is)
