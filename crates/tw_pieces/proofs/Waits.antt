-- Links, openings and events that come in pieces: how many bytes are waited for.
use Rattle.std.proofs.Common.{◌≡◌, ℕ, ◌+◌, ◌-◌, ◌*◌, ◌≤◌, List, [], ◌++◌, length, take, drop, ap, sym, ◌∙◌, subst}
use Rattle.std.proofs.Common.{arith, refl}
use Rattle.std.specs.Prelude.{Ok, Option}
use Rattle.std.proofs.lemmas.List.{length-append, length-drop, length-take-le, take-append-drop}
use Rattle.tw_base.specs.declared.events.event_part.EventPart.{EventPart}
use Rattle.tw_base.specs.declared.kinds.limits.TheConstants.{MOST_EVENTS, MOST_EVENT_BYTES}
use Rattle.tw_base.specs.events.AuditPath.{path_length}
use Rattle.tw_base.specs.kinds.Bytes.{AreBytes}
use Rattle.tw_base.specs.format.Codecs.{bytes_codec, digest_codec, labels_codec, many, number_codec, pair, seen}
use Rattle.tw_base.specs.format.Codecs.{sized_codec}
use Rattle.tw_base.specs.format.Fields.{byte_then, bytes, number}
use Rattle.tw_base.specs.format.Formats.{Format, Spells, SpellsNothing, then_by}
use Rattle.tw_base.specs.format.Formats.Format.{Done}
use Rattle.tw_base.specs.kinds.Levels.{top_level}
use Rattle.tw_pieces.specs.Resuming.{StaysFront}
use Rattle.tw_base.specs.kinds.Texts.{joined}
use Rattle.tw_base.proofs.lemmas.kinds.ByteLemmas.{AreBytes-drop, AreBytes-take}
use Rattle.tw_base.proofs.lemmas.format.CodecLaws.{Lawful, lawful, lawful-bytes, lawful-pair}
use Rattle.tw_base.proofs.lemmas.format.CodecSizes.{length-joined}
use Rattle.tw_pieces.proofs.SegmentLaws.{TakesAny, any-stays, labels-any, sized-stays, then_kind, then_pair, then_seen}
use Rattle.tw_skipproof.specs.declared.opening.Opening.{Opening}
use Rattle.tw_skipproof.specs.declared.path.Link.{Link}
use Rattle.tw_skipproof.specs.Codecs.{count_codec, event_part_codec, link_codec, opening_codec}
use Rattle.tw_pieces.specs.PieceSteps.{Roots, StaysUntil, roots_codec, sized_body_codec, sizes_codec}
use Rattle.tw_skipproof.proofs.LawfulCodecs.{count-lawful, link-lawful}

-- ---- a link

-- any bytes of its size are a link
link-any : (step : ℕ) → TakesAny (link_codec step).format (32 + 32 * top_level step)
unfolding link_codec seen pair bytes_codec labels_codec many
link-any step = record {
  any = λ word are size. (
      let rest = labels-any (top_level step) (drop 32 word) (AreBytes-drop 32 word are)
      (omega (arith, size, length-drop 32 word)) in
      let l : Link = record { datum = take 32 word; others = rest.0 } in
      let P : List ℕ → Type 0 = λ w. Spells (link_codec step).format w l in (
        l,
        subst P (ap (λ w. take 32 word ++ w) rest.1 ∙ take-append-drop 32 word)
            ((link-lawful step).spells l
            ((length-take-le 32 word (omega (arith, size)), AreBytes-take 32 word are), (rest.2, rest.3))),
      ));
  size = λ word l s. (
      let is = (link-lawful step).words word l s in
      omega (
        arith,
        ap length is.0,
        length-append l.datum (joined l.others),
        is.1.0.0,
        is.1.1.0,
        length-joined l.others is.1.1.1,
      ));
}

then_done : {X : Type 0} (f : Format X) → then_by f Done ≡ f
then_done (Done x) = refl
then_done (Format.Byte test more) = λ k. Format.Byte test (λ b. then_done (more b) k)

pub link-waits : (step : ℕ) (held : List ℕ) (until : ℕ) → until ≡ 32 + 32 * top_level step → AreBytes held
    → StaysUntil (link_codec step).format held until
link-waits step held until is are few =
    let P : Format Link → Type 0 = λ f. StaysFront f held until in
    let Q : ℕ → Type 0 = λ n. StaysFront (then_by (link_codec step).format Done) held n in
    subst P (then_done (link_codec step).format)
    (subst Q (sym is) (any-stays (link_codec step).format Done (32 + 32 * top_level step) (link-any step) (λ l. tt) held
    are (omega (arith, is, few))))

-- ---- an opening

roots-lawful : (least : ℕ) → least ≤ MOST_EVENTS → Lawful (roots_codec least)
unfolding roots_codec
roots-lawful least few =
    lawful-pair digest_codec _ (lawful-bytes 32) (λ event_root fits. lawful-pair digest_codec _ (lawful-bytes 32)
    (λ archive_root also. count-lawful least few))

roots-nothing : (least : ℕ) → SpellsNothing (roots_codec least).format []
unfolding roots_codec pair bytes_codec bytes byte_then
roots-nothing least r s = s

abbrev opening_of : Roots → Link → Opening
opening_of r l =
    record {
      event_root = r.0;
      archive_root = r.1.0;
      count = r.1.1.0;
      time = r.1.1.1;
      prev = l.datum;
      others = l.others;
    }

flat_opening : (least step : ℕ) → Format Opening
flat_opening least step =
    then_by digest_codec.format (λ event_root. then_by digest_codec.format
    (λ archive_root. then_by (count_codec least).format (λ count.
    then_by digest_codec.format (λ prev. then_by (labels_codec (top_level step)).format (λ others.
    Done (record {
      event_root = event_root;
      archive_root = archive_root;
      count = count.0;
      time = count.1;
      prev = prev;
      others = others;
    }))))))

opening-flat : (least step : ℕ) → (opening_codec least step).format ≡ flat_opening least step
unfolding opening_codec seen flat_opening
opening-flat least step =
    let to : (List ℕ × (List ℕ × ((ℕ × Option ℕ) × (List ℕ × List (List ℕ))))) → Opening =
    λ t. record {
      event_root = t.0;
      archive_root = t.1.0;
      count = t.1.1.0.0;
      time = t.1.1.0.1;
      prev = t.1.1.1.0;
      others = t.1.1.1.1;
    } in
    let last = λ (prev : List ℕ). labels_codec (top_level step) in
    let from_prev = λ (count : ℕ × Option ℕ). pair digest_codec last in
    let from_count = λ (archive_root : List ℕ). pair (count_codec least) from_prev in
    let from_archive = λ (event_root : List ℕ). pair digest_codec from_count in
    then_pair digest_codec from_archive (λ t. Done (to t))
    ∙ (λ k. then_by digest_codec.format (λ event_root. (
    then_pair digest_codec from_count (λ y. Done (to (event_root, y)))
    ∙ (λ k. then_by digest_codec.format (λ archive_root. (
    then_pair (count_codec least) from_prev (λ y. Done (to (event_root, (archive_root, y))))
    ∙ (λ k. then_by (count_codec least).format
    (λ count. then_pair digest_codec last (λ y. Done (to (event_root, (archive_root, (count, y))))) k))) k))) k))

roots-flat : (least step : ℕ) → then_by (roots_codec least).format
    (λ r. then_by (link_codec step).format (λ l. Done (opening_of r l))) ≡ flat_opening least step
unfolding roots_codec link_codec flat_opening
roots-flat least step =
    let last = λ (prev : List ℕ). labels_codec (top_level step) in
    let to : (List ℕ × List (List ℕ)) → Link = λ t. record { datum = t.0; others = t.1 } in
    let from : Link → (List ℕ × List (List ℕ)) = λ l. (l.datum, l.others) in
    let behind = λ (r : Roots). then_by (link_codec step).format (λ l. Done (opening_of r l)) in
    let count_part = λ (archive_root : List ℕ). count_codec least in
    then_pair digest_codec (λ event_root. pair digest_codec count_part) behind
    ∙ (λ k. then_by digest_codec.format (λ event_root. (
    then_pair digest_codec count_part (λ y. behind (event_root, y))
    ∙ (λ k. then_by digest_codec.format (λ archive_root. then_by (count_codec least).format (λ count. (
    then_seen to from (pair digest_codec last) (λ l. Done (opening_of (event_root, (archive_root, count)) l))
    ∙ then_pair digest_codec last
    (λ t. Done (opening_of (event_root, (archive_root, count)) (record { datum = t.0; others = t.1 })))) k)))) k))

pub opening-waits : (least step : ℕ) (held : List ℕ) (after until : ℕ) (r : Roots) → least ≤ MOST_EVENTS → AreBytes held
    → (roots_codec least).read held 0 ≡ Ok (record { value = r; after = after })
    → until ≡ after + (32 + 32 * top_level step) → StaysUntil (opening_codec least step).format held until
opening-waits least step held after until r few are e is short =
    let P : Format Opening → Type 0 = λ f. StaysFront f held until in
    let Q : ℕ → Type 0 = λ n. StaysFront
    (then_by (roots_codec least).format (λ r. then_by (link_codec step).format (λ l. Done (opening_of r l)))) held n in
    subst P (roots-flat least step ∙ sym (opening-flat least step))
    (subst Q (sym is) (sized-stays (roots_codec least) (roots-lawful least few) (roots-nothing least)
    (λ r. (link_codec step).format) (λ r. 32 + 32 * top_level step) (λ r. link-any step)
    (λ r l. Done (opening_of r l)) (λ r l. tt) held after r are e (omega (arith, is, short))))

-- ---- an event

sizes-lawful : (count : ℕ) → count ≤ MOST_EVENTS → Lawful (sizes_codec count)
unfolding sizes_codec
sizes-lawful count few = search (lawful, arith) depth 20

sizes-nothing : (count : ℕ) → SpellsNothing (sizes_codec count).format []
unfolding sizes_codec pair number_codec number
sizes-nothing count r s = s

body-lawful : (count : ℕ) (s : ℕ × ℕ) → Lawful (sized_body_codec count s)
unfolding sized_body_codec
body-lawful count s = search lawful depth 20

-- any bytes of its size are an event with its path
body-any : (count : ℕ) (s : ℕ × ℕ) → TakesAny (sized_body_codec count s).format (s.1 + 32 * path_length count s.0)
unfolding sized_body_codec pair bytes_codec labels_codec many
body-any count s = record {
  any = λ word are size. (
      let rest = labels-any (path_length count s.0) (drop s.1 word) (AreBytes-drop s.1 word are)
      (omega (arith, size, length-drop s.1 word)) in
      let d : List ℕ × List (List ℕ) = (take s.1 word, rest.0) in
      let P : List ℕ → Type 0 = λ w. Spells (sized_body_codec count s).format w d in (
        d,
        subst P (ap (λ w. take s.1 word ++ w) rest.1 ∙ take-append-drop s.1 word)
            ((body-lawful count s).spells d
            ((length-take-le s.1 word (omega (arith, size)), AreBytes-take s.1 word are), (rest.2, rest.3))),
      ));
  size = λ word d t. (
      let is = (body-lawful count s).words word d t in
      omega (arith, ap length is.0, length-append d.0 (joined d.1), is.1.0.0, is.1.1.0, length-joined d.1 is.1.1.1));
}

abbrev event_of : ℕ × ℕ → List ℕ × List (List ℕ) → EventPart
event_of s d = record { index = s.0; event = d.0; path = d.1 }

flat_event : (count : ℕ) → Format EventPart
flat_event count =
    then_by (number_codec 4 0 (count - 1)).format (λ index. then_by (number_codec 4 0 MOST_EVENT_BYTES).format
    (λ n. then_by (bytes_codec n).format (λ event.
    then_by (labels_codec (path_length count index)).format
    (λ path. Done (record { index = index; event = event; path = path })))))

event-flat : (count : ℕ) → (event_part_codec count).format ≡ flat_event count
unfolding event_part_codec seen flat_event sized_codec
event-flat count =
    let labels = λ (index : ℕ) (event : List ℕ). labels_codec (path_length count index) in
    let fields = λ (index : ℕ). pair (sized_codec 4 0 MOST_EVENT_BYTES) (labels index) in
    then_pair (number_codec 4 0 (count - 1)) fields (λ t. Done (record { index = t.0; event = t.1.0; path = t.1.1 }))
    ∙ (λ k. then_by (number_codec 4 0 (count - 1)).format (λ index. (
    then_pair (sized_codec 4 0 MOST_EVENT_BYTES) (labels index)
    (λ y. Done (record { index = index; event = y.0; path = y.1 }))
    ∙ then_kind length (number_codec 4 0 MOST_EVENT_BYTES) bytes_codec (λ event. then_by (labels index event).format
    (λ path. Done (record { index = index; event = event; path = path })))) k))

sizes-flat : (count : ℕ) → then_by (sizes_codec count).format (λ s. then_by (sized_body_codec count s).format
    (λ d. Done (event_of s d))) ≡ flat_event count
unfolding sizes_codec sized_body_codec flat_event
sizes-flat count =
    then_pair (number_codec 4 0 (count - 1)) (λ index. number_codec 4 0 MOST_EVENT_BYTES)
    (λ s. then_by (sized_body_codec count s).format (λ d. Done (event_of s d)))
    ∙ (λ k. then_by (number_codec 4 0 (count - 1)).format (λ index. then_by (number_codec 4 0 MOST_EVENT_BYTES).format
    (λ n.
    then_pair (bytes_codec n) (λ event. labels_codec (path_length count index)) (λ d. Done (event_of (index, n) d)) k)))

pub event-waits : (count : ℕ) (held : List ℕ) (after until : ℕ) (s : ℕ × ℕ) → count ≤ MOST_EVENTS → AreBytes held
    → (sizes_codec count).read held 0 ≡ Ok (record { value = s; after = after })
    → until ≡ after + (s.1 + 32 * path_length count s.0) → StaysUntil (event_part_codec count).format held until
event-waits count held after until s few are e is short =
    let P : Format EventPart → Type 0 = λ f. StaysFront f held until in
    let Q : ℕ → Type 0 = λ n. StaysFront (then_by (sizes_codec count).format
    (λ s. then_by (sized_body_codec count s).format (λ d. Done (event_of s d)))) held n in
    subst P (sizes-flat count ∙ sym (event-flat count))
    (subst Q (sym is) (sized-stays (sizes_codec count) (sizes-lawful count few) (sizes-nothing count)
    (λ s. (sized_body_codec count s).format) (λ s. s.1 + 32 * path_length count s.0) (body-any count)
    (λ s d. Done (event_of s d)) (λ s d. tt) held after s are e (omega (arith, is, short))))
