-- The pages of heads, and the heads that are found in them, whatever they keep.
use Rattle.std.specs.Prelude.{ℕ, suc, zero, ◌==◌, ◌&&◌, List, [], ◌∷◌, nat_lt, if◌then◌else◌}
use Rattle.std.specs.Str.{bytes_eq}
use Rattle.tw_base.specs.declared.history.thread.Thread.{Thread}
use Rattle.tw_base.specs.declared.kinds.limits.TheConstants.{LAST_STEP, PAGE_SIZE}
use Rattle.tw_base.specs.format.Codecs.{Codec, behind, digest_codec, number_codec, pair, seen}
use Rattle.tw_base.specs.format.PageBytes.{padded, page_number_codec}
use Rattle.tw_disk.specs.Found.{Found, ◌>>=◌, bytes_in, spelled, when}
use Rattle.tw_disk.specs.Found.Found.{Is}
use Rattle.tw_disk.specs.Image.{Image}
use Rattle.tw_follow.specs.declared.head_page.HeadPage.{HeadPage}
use Rattle.tw_follow.specs.declared.root.RootRecord.{RootRecord}

-- a head page: 4, the head's step, its authenticator there, the page of the head before
unfoldable pub head_codec : Codec HeadPage
head_codec =
    seen (λ t. record { step = t.0; auth = t.1.0; before = t.1.1 }) (λ p. (p.step, (p.auth, p.before)))
    (behind (4 ∷ []) (pair (number_codec 8 1 LAST_STEP) (λ step. pair digest_codec (λ auth. page_number_codec))))

abbrev pub head_page_bytes : HeadPage → List ℕ
head_page_bytes p = padded (head_codec.write p)

-- what the bytes spell, if they may stand in the page of this number: the page of the head before lies below it, and is 0 for none
unfoldable pub head_in : (page : ℕ) → List ℕ → Found HeadPage
head_in page bytes = spelled page PAGE_SIZE head_codec bytes >>= (λ p. when (nat_lt p.before page) page p)

-- the same of the page of this number
unfoldable pub page_of_head : Image → (page : ℕ) → Found HeadPage
page_of_head pages page = bytes_in pages page >>= head_in page

-- the page of the last head, which is the record's
unfoldable pub last_head_page : Image → RootRecord → Found HeadPage
last_head_page pages r = page_of_head pages r.page >>= (λ p. when (p.step == r.head.step && bytes_eq p.auth r.head.auth) r.page p)

-- the page of an earlier head, whose step lies below that of the head above it
unfoldable pub earlier_page : Image → (page above : ℕ) → Found HeadPage
earlier_page pages page above = page_of_head pages page >>= (λ p. when (nat_lt p.step above) page p)

-- the head of a page, as a thread of the service
abbrev pub head_on : (name : List ℕ) → HeadPage → Thread
head_on name p = record { from = name; step = p.step; auth = p.auth }

-- The heads from the page of this number down, in front of those above, the lowest of which has the step `above`. Each page names
-- one of a lower number, or 0 for none, so there are no more of them than the number.
unfoldable pub heads_down : (most : ℕ) → Image → (name : List ℕ) → (page above : ℕ) → List Thread → Found (List Thread)
heads_down zero pages name page above heads = Is heads
heads_down (suc most) pages name zero above heads = Is heads
heads_down (suc most) pages name (suc page) above heads =
    earlier_page pages (suc page) above >>= (λ p. heads_down most pages name p.before p.step (head_on name p ∷ heads))

-- the heads below the one on this page, in front of this head
abbrev pub heads_below : Image → HeadPage → Thread → Found (List Thread)
heads_below pages p head = heads_down p.before pages head.from p.before p.step (head ∷ [])

-- all heads, oldest first
unfoldable pub found_heads : Image → RootRecord → Found (List Thread)
found_heads pages r = if r.head.step == 0 then Is [] else (last_head_page pages r >>= (λ p. heads_below pages p r.head))
