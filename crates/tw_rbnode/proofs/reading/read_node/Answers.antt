use Rattle.std.proofs.Common.{◌≡◌, ℕ, List, sym, ap, subst, arith, true}
use Rattle.tw_base.specs.kinds.Lists.{Each}
use Rattle.tw_base.specs.format.PageBytes.{IsPageOf}
use Rattle.tw_base.proofs.lemmas.format.PageLaws.{page-once, takes-page}
use Rattle.tw_rbnode.specs.declared.child.Child.{Child}
use Rattle.tw_rbnode.specs.declared.reading.PageFields.{PageFields}
use Rattle.tw_rbnode.specs.Children.{IsChildAt}
use Rattle.tw_rbnode.specs.NodeBytes.{Held, LiesBelow, fields_of, page_node_codec}
use Rattle.tw_rbnode.proofs.HeldPages.{Each-apart, Each-both, match_map, node-fitting}
use Rattle.tw_rbnode.proofs.NodeCodecs.{node-lawful}
use Rattle.tw_rbnode.proofs.reading.read_node.Goals as goal

abbrev fields : PageFields → ℕ × Held
fields f = (f.level, (f.held.top, (f.held.slots.items, f.held.children.items)))

pub returns-in_default : goal.returns-in_default
returns-in_default g c = λ p stand is.
    takes-page page_node_codec node-lawful fields c.args.bytes.now _ _ _ c.take_fields-read.ensures.takes
    c.take_fields-read.ensures.memory c.in_default.ensures (fields_of p) is

pub returns-then-not-are_children : goal.returns-then-not-are_children
returns-then-not-are_children g c = λ p stand is.
    let dig = g.H.Hasher.dig in
    let page = c.args.page in
    let found = takes-page page_node_codec node-lawful fields c.args.bytes.now _ _ _ c.take_fields-read.ensures.takes
    c.take_fields-read.ensures.memory c.in-Some.ensures in
    let same : fields_of p ≡ fields c.in-Some.fields = page-once page_node_codec node-lawful c.args.bytes.now
    (fields_of p) (fields c.in-Some.fields) is found in
    let both = Each-both (IsChildAt dig p.level) (LiesBelow page p.level) p.children stand.children stand.below in
    let P : ℕ × Held → Type 0 = λ f. Each (λ (x : Child). IsChildAt dig f.0 x × LiesBelow page f.0 x) f.1.1.1 in
    let Q : List Child → Type 0 = Each (λ (x : Child). IsChildAt dig c.in-Some.fields.level x × LiesBelow page
    c.in-Some.fields.level x) in
    let yes = c.are_children.ensures.1 (subst Q (sym c.as_slice.ensures.value) (subst P same both)) in
    let test = c.if-not-are_children.ensures in
    let no = c.if-not-are_children.true in
    grind arith

pub node_of-requires : goal.node_of-requires
node_of-requires g c =
    let found = takes-page page_node_codec node-lawful fields c.args.bytes.now _ _ _ c.take_fields-read.ensures.takes
    c.take_fields-read.ensures.memory c.in-Some.ensures in
    let f = node-fitting _ _ found.fits in
    record { level = f.low; some = f.some; few = f.few; top = f.top; places = f.places; ranges = f.ranges }

pub returns : goal.returns
returns g c =
    let dig = g.H.Hasher.dig in
    let page = c.args.page in
    let f = c.in-Some.fields in
    let found = takes-page page_node_codec node-lawful fields c.args.bytes.now _ _ _ c.take_fields-read.ensures.takes
    c.take_fields-read.ensures.memory c.in-Some.ensures in
    let test = c.if-not-are_children.ensures in
    let no = c.if-not-are_children.false in
    let yes : c.are_children.result ≡ true = grind arith in
    let Q : List Child → Type 0 = Each (λ (x : Child). IsChildAt dig c.in-Some.fields.level x × LiesBelow page
    c.in-Some.fields.level x) in
    let all = subst Q c.as_slice.ensures.value (c.are_children.ensures.0 yes) in
    match_map c.node_of.result c.node_of.ensures
    (λ none p stand is.
    let same : fields_of p ≡ fields f = page-once page_node_codec node-lawful c.args.bytes.now (fields_of p) (fields f)
    is found in
    none p stand.node (ap (λ (h : ℕ × Held). h.1) same))
    (λ n is.
    let same : fields f ≡ fields_of n = λ i. (sym is.1 i, sym is.2 i) in
    let R : ℕ × Held → Type 0 = λ h. Each (λ (x : Child). IsChildAt dig h.0 x × LiesBelow page h.0 x) h.1.1.1 in
    let apart = Each-apart (IsChildAt dig n.level) (LiesBelow page n.level) n.children (subst R same all) in (
      record { node = is.0; children = apart.0; below = apart.1 },
      subst (λ (h : ℕ × Held). IsPageOf page_node_codec c.args.bytes.now h) same found,
    ))
