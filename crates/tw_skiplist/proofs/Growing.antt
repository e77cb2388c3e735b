-- Pages that keep a history keep it when more pages follow.
use Rattle.std.proofs.Common.{◌≡◌, ℕ, suc, zero, ◌+◌, ◌-◌, ◌*◌, ◌<◌, ◌≤◌, List, [], ◌∷◌, ◌++◌, length, refl, ap, sym}
use Rattle.std.proofs.Common.{◌∙◌, arith, subst, length-append}
use Rattle.std.proofs.lemmas.List.{get_or_append_left}
use Rattle.tw_disk.specs.Image.{Image, page_at}
use Rattle.tw_base.specs.history.History.{History, Step}
use Rattle.tw_base.specs.history.Auth.{auth}
use Rattle.tw_skiplist.specs.declared.head.Head.{Head}
use Rattle.tw_skiplist.specs.Keeping.{Keeps, KeepsStep, KeepsSteps, KeepsStream, Place, no_place, place_of_step}
use Rattle.tw_steppage.specs.declared.limits.TheConstants.{MOST_PIECE_BYTES}

pub page_grows : (pages more : Image) (k : ℕ) (bytes : List ℕ) → k < length pages → page_at pages k ≡ bytes
    → page_at (pages ++ more) k ≡ bytes
page_grows pages more k bytes l is = get_or_append_left pages more [] k l ∙ is

-- a number of an event page is of a stream that isn't empty
pub has_bytes : (number n : ℕ) → MOST_PIECE_BYTES * number < n → 0 < n
has_bytes number n l = omega arith

pub KeepsStream-grows : (pages more : Image) (step first page : ℕ) (bytes : List ℕ) → page < 4 + length pages
    → KeepsStream pages step first page bytes → KeepsStream (pages ++ more) step first page bytes
KeepsStream-grows pages more step first page bytes below k = record {
  none = k.none;
  low = k.low;
  below = k.below;
  pieces = λ number l.
      let low = k.low (has_bytes number (length bytes) l) in
      let under = k.below number l in
      page_grows pages more (first + number - 4) _ (omega (arith, below, low, under)) (k.pieces number l);
}

module _ (dig : List ℕ → List ℕ) where
  pub KeepsStep-grows : (pages more : Image) (h : History) (places : List Place) (k : ℕ) → KeepsStep dig pages h places
      k → KeepsStep dig (pages ++ more) h places k
  KeepsStep-grows pages more h places k s = record {
    may = s.may;
    low = s.low;
    rising = s.rising;
    below = omega (arith, s.below, length-append pages more);
    small = s.small;
    archive = s.archive;
    bytes = page_grows pages more ((place_of_step places (suc k)).page - 4) _ (omega (arith, s.below, s.low)) s.bytes;
    stream = KeepsStream-grows pages more (suc k) (place_of_step places (suc k)).first
        (place_of_step places (suc k)).page _ s.below s.stream;
  }

  pub KeepsSteps-grows : (pages more : Image) (h : History) (places : List Place) → KeepsSteps dig pages h places
      → KeepsSteps dig (pages ++ more) h places
  KeepsSteps-grows pages more h places s =
      record {
        count = s.count;
        nowhere = s.nowhere;
        short = s.short;
        steps = λ k l. KeepsStep-grows pages more h places k (s.steps k l);
      }

  pub Keeps-grows : (pages more : Image) (h : History) (head : Head) → (kept : Keeps dig pages h head)
      → (still : Keeps dig (pages ++ more) h head) × (still.places ≡ kept.places)
  Keeps-grows pages more h head k = (
    record {
      places = k.places;
      keeps = KeepsSteps-grows pages more h k.places k.keeps;
      step = k.step;
      auth = k.auth;
      page = k.page;
    },
    refl,
  )

  -- a history of no step
  unfoldable pub Keeps-first : (pages : Image) (h : History) (head : Head) → h.steps ≡ [] → head.step ≡ 0
      → head.auth ≡ auth dig h 0 → head.page ≡ 0 → Keeps dig pages h head
  Keeps-first pages h head none step label page =
      let no_steps : length h.steps ≡ 0 = ap (λ (s : List Step). length s) none in
      record {
        places = no_place ∷ [];
        keeps = record {
          count = omega (arith, no_steps);
          nowhere = refl;
          short = omega (arith, no_steps);
          steps = λ k l. absurd (omega (arith, l, no_steps));
        };
        step = step ∙ sym no_steps;
        auth = label ∙ ap (λ (i : ℕ). auth dig h i) (sym no_steps);
        page = page ∙ sym (ap (λ (i : ℕ). (place_of_step (no_place ∷ []) i).page) no_steps);
      }

  -- the page of the head
  pub no_head_page : (pages : Image) (h : History) (head : Head) → Keeps dig pages h head → head.step ≡ 0
      → head.page ≡ 0
  no_head_page pages h head k none =
      k.page ∙ ap (λ (i : ℕ). (place_of_step k.places i).page) (sym k.step ∙ none) ∙ ap (λ (p : Place). p.page)
      k.keeps.nowhere

  page_of : (pages : Image) (h : History) (places : List Place) → KeepsSteps dig pages h places → (i : ℕ) → 0 < i
      → i ≤ length h.steps
      → (4 ≤ (place_of_step places i).page) × ((place_of_step places i).page < 4 + length pages)
  page_of pages h places s zero p l = absurd (omega arith)
  page_of pages h places s (suc k) p l = let one = s.steps k (omega (arith, l)) in (one.low, one.below)

  pub head_page : (pages : Image) (h : History) (head : Head) → Keeps dig pages h head → 0 < head.step → (4 ≤ head.page)
      × (head.page < 4 + length pages)
  head_page pages h head k some =
      let at = page_of pages h k.places k.keeps (length h.steps) (omega (arith, some, k.step)) (omega arith) in
      (omega (arith, at.0, k.page), omega (arith, at.1, k.page))

  -- every page of a history lies below the used count
  pub below_head : (pages : Image) (h : History) (places : List Place) → KeepsSteps dig pages h places
      → (place_of_step places (length h.steps)).page < 4 + length pages
  below_head pages h places s = last (length h.steps) (omega arith)
    where
      last : (i : ℕ) → i ≤ length h.steps → (place_of_step places i).page < 4 + length pages
      last zero l = subst (λ (p : Place). p.page < 4 + length pages) (sym s.nowhere) (omega arith)
      last (suc k) l = (s.steps k (omega (arith, l))).below
