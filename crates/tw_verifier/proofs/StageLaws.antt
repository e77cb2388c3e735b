-- The segments of a proof that comes in pieces are lawful and have a byte or more, and no front of what follows breaks.
use Rattle.std.proofs.Common.{◌≡◌, ℕ, ◌-◌, ◌≤◌, List, [], ◌∷◌, ◌++◌, length, lit≤, arith, refl}
use Rattle.std.specs.Prelude.{Bool, true, false, Option, Some, None, nat_lt, ◌==◌, if◌then◌else◌}
use Rattle.tw_base.specs.declared.events.event_part.EventPart.{EventPart}
use Rattle.tw_base.specs.declared.kinds.limits.TheConstants.{LAST_STEP, MOST_EVENTS, MOST_EVENT_BYTES, MOST_HOPS}
use Rattle.tw_base.specs.declared.history.thread.Entry.{Entry}
use Rattle.tw_base.specs.declared.history.thread.Key.{Key}
use Rattle.tw_base.specs.declared.history.thread.Thread.{Thread}
use Rattle.tw_base.specs.declared.history.tree_proof.TreeProof.{TreeProof}
use Rattle.tw_base.specs.format.Codecs.{Codec, behind, bytes_codec, digest_codec, each, each_format, labels_codec, many}
use Rattle.tw_base.specs.format.Codecs.{name_codec, number_codec, optional, pair, seen, sized_codec, by_kind, counted}
use Rattle.tw_base.specs.format.Codecs.{variant}
use Rattle.tw_base.specs.format.Fields.{byte_then, bytes, name, name_part, number, text}
use Rattle.tw_base.specs.history.EntryCodec.{entry_codec}
use Rattle.tw_base.specs.format.Formats.{Format, GoesOn, SpellsNothing, then_by}
use Rattle.tw_base.specs.format.Formats.Format.{Done, Byte}
use Rattle.tw_pieces.specs.Resuming.{StaysFront}
use Rattle.tw_base.specs.history.HistoryCodec.{thread_codec}
use Rattle.tw_base.proofs.lemmas.format.CodecLaws.{Lawful, goes-then, lawful, lawful-each, lawful-optional}
use Rattle.tw_skipproof.specs.declared.existence.Part.{Part}
use Rattle.tw_skipproof.specs.declared.opening.Opening.{Opening}
use Rattle.tw_skipproof.specs.declared.path.Link.{Link}
use Rattle.tw_skipproof.specs.Codecs.{event_part_codec, link_codec, opening_codec, path_codec, proof_magic}
use Rattle.tw_skipproof.specs.Codecs.{step_number_codec}
use Rattle.tw_skipproof.proofs.LawfulCodecs.{event-lawful, opening-few, opening-lawful, path-lawful}
use Rattle.tw_treeproof.specs.Codecs.{ancestor_codec, gap_codec, present_codec}
use Rattle.tw_treeproof.proofs.LawfulCodecs.{ancestor-lawful, gap-lawful, present-lawful}
use Rattle.tw_base.proofs.lemmas.history.EntryCodecLaws.{entry-lawful}
use Rattle.tw_verifier.specs.declared.chain.Chain.{Chain}
use Rattle.tw_verifier.specs.declared.judgement.Judgement.{Judgement}
use Rattle.tw_verifier.specs.declared.stage.Asked.{Asked}
use Rattle.tw_verifier.specs.declared.stage.Asked.TheVariants as asked
use Rattle.tw_verifier.specs.declared.stage.Goal.{Goal}
use Rattle.tw_verifier.specs.declared.stage.Goal.TheVariants as goal
use Rattle.tw_verifier.specs.declared.stage.Opens.{Opens}
use Rattle.tw_verifier.specs.declared.stage.Opens.TheVariants as opens
use Rattle.tw_verifier.specs.declared.stage.Role.{Role}
use Rattle.tw_verifier.specs.declared.stage.Role.TheVariants as role
use Rattle.tw_verifier.specs.declared.stage.Shower.{Shower}
use Rattle.tw_verifier.specs.declared.stage.Shower.TheVariants as shower
use Rattle.tw_verifier.specs.declared.stage.Stage.{Stage}
use Rattle.tw_verifier.specs.declared.stage.Stage.TheVariants as stage
use Rattle.tw_verifier.specs.declared.stage.Way.{Way}
use Rattle.tw_verifier.specs.declared.stage.Way.TheVariants as way
use Rattle.tw_verifier.specs.Chaining.{behind_chain}
use Rattle.tw_chain.specs.Checks.{last_hop_thread}
use Rattle.tw_chain.specs.Proofs.{following, hop_bytes, hop_codec, key_codec, kind_codec, last_step, tail_codec}
use Rattle.tw_verifier.specs.Stages.{behind_absent, behind_archived, behind_before, behind_entry, behind_event}
use Rattle.tw_verifier.specs.Stages.{behind_first, behind_kind, behind_link, behind_only, behind_opening, behind_part}
use Rattle.tw_verifier.specs.Stages.{behind_path, behind_second, behind_shown, behind_tree, chain_with, counted_hops}
use Rattle.tw_verifier.specs.Stages.{event_stage, gap_head, head_stage, kind_head, least_of, least_opened, link_head}
use Rattle.tw_verifier.specs.Stages.{link_stage, nodes_of, part_head, part_stage, path_of, present_head, rest}
use Rattle.tw_verifier.specs.Stages.{step_opened}
use Rattle.tw_chain.proofs.ProofCodec.{hop-lawful, hop-written, key-lawful, tail-lawful}

-- ---- segments

pub kind-lawful : Lawful kind_head
unfolding kind_head
kind-lawful = search lawful

pub kind-nothing : SpellsNothing kind_head.format []
unfolding kind_head behind text byte_then
kind-nothing x s = s

pub number-nothing : (least most : ℕ) → SpellsNothing (number_codec 1 least most).format []
unfolding number_codec number
number-nothing least most x s = s

pub step-nothing : (least most : ℕ) → SpellsNothing (number_codec 8 least most).format []
unfolding number_codec number
step-nothing least most x s = s

pub part-lawful : Lawful part_head
unfolding part_head
part-lawful = search lawful depth 20

pub part-nothing : SpellsNothing part_head.format []
unfolding part_head pair name_codec name name_part byte_then
part-nothing x s = s

pub head-lawful : Lawful link_head
unfolding link_head
head-lawful = search lawful depth 20

pub head-nothing : SpellsNothing link_head.format []
unfolding link_head pair name_codec name name_part byte_then
head-nothing x s = s

pub present-head-lawful : Lawful present_head
unfolding present_head
present-head-lawful = search lawful depth 20

pub present-head-nothing : SpellsNothing present_head.format []
unfolding present_head pair number_codec number
present-head-nothing x s = s

pub gap-head-lawful : Lawful gap_head
unfolding gap_head
gap-head-lawful = search lawful

pub gap-head-nothing : SpellsNothing gap_head.format []
unfolding gap_head number_codec number
gap-head-nothing x s = s

pub link-nothing : (step : ℕ) → SpellsNothing (link_codec step).format []
unfolding link_codec seen pair bytes_codec bytes byte_then
link-nothing step x s = s

pub opening-nothing : (least step : ℕ) → SpellsNothing (opening_codec least step).format []
unfolding opening_codec seen pair bytes_codec bytes byte_then
opening-nothing least step x s = s

pub event-nothing : (count : ℕ) → SpellsNothing (event_part_codec count).format []
unfolding event_part_codec seen pair number_codec number
event-nothing count x s = s

pub entry-nothing : SpellsNothing entry_codec.format []
unfolding entry_codec thread_codec seen pair name_codec name name_part byte_then
entry-nothing x s = s

pub key-nothing : SpellsNothing key_codec.format []
unfolding key_codec seen pair name_codec name name_part byte_then
key-nothing x s = s

pub ancestor-nothing : SpellsNothing ancestor_codec.format []
unfolding ancestor_codec entry_codec thread_codec seen pair name_codec name name_part byte_then
ancestor-nothing x s = s

pub bind-lawful : Lawful (number_codec 8 0 LAST_STEP)
bind-lawful = search lawful

pub step-lawful : Lawful step_number_codec
step-lawful = search lawful

-- ---- what follows

module _ {Z : Type 0} where
  pub path-goes : (links : List Link) (at to : ℕ) (next : List Link → Format Z) → ((ls : List Link) → GoesOn (next ls))
      → GoesOn (path_of links at to next)
  unfolding path_codec each
  path-goes links at to next goes = goes-then (path_codec at to).format _ (path-lawful at to).goes
      (λ word more s. goes (links ++ more))

  pub opening-goes : (least step : ℕ) (next : Opening → Format Z) → least ≤ MOST_EVENTS
      → ((o : Opening) → o.count ≤ MOST_EVENTS → GoesOn (next o))
      → GoesOn (then_by (opening_codec least step).format next)
  opening-goes least step next few goes =
      goes-then (opening_codec least step).format next (opening-lawful least step few).goes
      (λ word o s. goes o (opening-few least step o ((opening-lawful least step few).words word o s).1))

  pub part-goes : (least : ℕ) (next : Part → Format Z) → least ≤ MOST_EVENTS
      → ((at : Part) → at.opening.count ≤ MOST_EVENTS → GoesOn (next at)) → (service : List ℕ) (step top : ℕ)
      → GoesOn (part_stage least next service step top)
  part-goes least next few goes service step top =
      path-goes [] top step _ (λ links. opening-goes least step _ few
      (λ o small. goes
      (record { service = service; step = step; top = top; path = record { links = links }; opening = o }) small))

  pub head-goes : (least : ℕ) (next : Part → Format Z) → least ≤ MOST_EVENTS
      → ((at : Part) → at.opening.count ≤ MOST_EVENTS → GoesOn (next at)) → GoesOn (head_stage least next)
  head-goes least next few goes = goes-then part_head.format _ part-lawful.goes
      (λ word t s. part-goes least next few goes t.0 t.1.0 t.1.1)

  pub event-goes : (next : Part → EventPart → Format Z) (at : Part) → at.opening.count ≤ MOST_EVENTS
      → ((e : EventPart) → GoesOn (next at e)) → GoesOn (event_stage next at)
  event-goes next at few goes = goes-then (event_part_codec at.opening.count).format (next at)
      (event-lawful at.opening.count few).goes (λ word e s. goes e)

  optional-goes : (is : Bool) (step : ℕ) (next : Option Opening → Format Z) → ((o : Option Opening) → GoesOn (next o))
      → GoesOn (then_by (optional is (opening_codec 0 step)).format next)
  optional-goes is step next goes =
      goes-then (optional is (opening_codec 0 step)).format next
      (lawful-optional (opening_codec 0 step) (opening-lawful 0 step (lit≤ tt)) is).goes (λ word o s. goes o)

hops-goes : (more : ℕ) → GoesOn (each_format hop_bytes hop_codec (following more))
unfolding each
hops-goes more = (lawful-each hop_bytes hop_codec hop-lawful hop-written (following more)).goes

module _ (dig : List ℕ → List ℕ) (anchors : List Thread) where
  pub chain-goes : (c : Chain) → GoesOn (behind_chain dig anchors c)
  unfolding behind_chain
  chain-goes c =
      goes-then (each_format hop_bytes hop_codec (following c.more)) _ (hops-goes c.more) (λ word hops s.
      goes-then (tail_codec (last_hop_thread c.known hops).step).format _
      (tail-lawful (last_hop_thread c.known hops).step).goes (λ word tail t. tt))

  pub before-goes : (head : Part) (e : EventPart) (hops : ℕ) (before : Option Opening)
      → GoesOn (behind_before dig anchors head e hops before)
  unfolding each
  before-goes head e hops before =
      goes-then (each hop_bytes hop_codec (following hops)).format _ (hops-goes hops) (λ word list s.
      goes-then (tail_codec (last_step (head.step - 1) list)).format _
      (tail-lawful (last_step (head.step - 1) list)).goes (λ word tail t. tt))

  second-goes : (hops : ℕ) (head : Part) (e : EventPart) → GoesOn (behind_second dig anchors hops head e)
  second-goes hops head e = optional-goes (nat_lt 0 hops) (head.step - 1) _ (before-goes head e hops)

  pub role-goes : (r : Role) (at : Part) (e : EventPart) → GoesOn (behind_event dig anchors r at e)
  role-goes role.Only at e = tt
  role-goes (role.Second hops) at e = second-goes hops.count at e
  role-goes (role.First onward) at e = tt

  link-goes : (c : Chain) (entry : Entry) (shown : TreeProof) (bind : ℕ) (links : List Link)
      → GoesOn (behind_link dig anchors c entry shown bind links)
  link-goes c entry shown bind links = optional-goes (nat_lt 0 (c.more - 1)) entry.thread.step _
      (λ o. chain-goes (chain_with dig anchors c entry shown bind links o))

  pub bind-goes : (c : Chain) (entry : Entry) (shown : TreeProof) (bind : ℕ)
      → GoesOn (path_of [] bind entry.thread.step (behind_link dig anchors c entry shown bind))
  bind-goes c entry shown bind = path-goes [] bind entry.thread.step _ (link-goes c entry shown bind)

  shown-goes : (c : Chain) (entry : Entry) (shown : TreeProof) → GoesOn (behind_shown dig anchors c entry shown)
  shown-goes c entry shown = goes-then (number_codec 8 0 LAST_STEP).format _ bind-lawful.goes
      (λ word bind s. bind-goes c entry shown bind)

  pub tree-goes : (a : Asked) (shown : TreeProof) → GoesOn (behind_tree dig anchors a shown)
  tree-goes (asked.Archived at entry) shown = tt
  tree-goes (asked.Absent at key) shown = tt
  tree-goes (asked.Hop h) shown = shown-goes h.further.onward.chain.value h.entry shown

  pub nodes-goes : (next : TreeProof → Format Judgement) → ((shown : TreeProof) → GoesOn (next shown))
      → (shown : TreeProof) (more : ℕ) → GoesOn (nodes_of dig anchors next shown more)
  nodes-goes next goes shown more = goes-then (many more ancestor_codec).format _ (nodes-lawful more).goes
      (λ word up s. goes _)
    where
      nodes-lawful : (more : ℕ) → Lawful (many more ancestor_codec)
      nodes-lawful more = search (lawful, ancestor-lawful)

  archived-goes : (at : Part) (entry : Entry) → GoesOn (behind_archived dig anchors at entry)
  archived-goes at entry = goes-then present_codec.format _ present-lawful.goes (λ word shown s. tt)

  pub absent-goes : (at : Part) (key : Key) → GoesOn (behind_absent dig anchors at key)
  absent-goes at key = goes-then gap_codec.format _ gap-lawful.goes (λ word shown s. tt)

  pub entry-goes : (s : Shower) (entry : Entry) → GoesOn (behind_entry dig anchors s entry)
  entry-goes (shower.At r) entry = archived-goes r.part entry
  entry-goes (shower.Behind f) entry = goes-then present_codec.format _ present-lawful.goes
      (λ word shown s. shown-goes f.onward.chain.value entry shown)

  pub goal-goes : (g : Goal) (at : Part) → at.opening.count ≤ MOST_EVENTS → GoesOn (behind_part dig anchors g at)
  goal-goes (goal.Event r) at few = event-goes (behind_event dig anchors r) at few (role-goes r at)
  goal-goes goal.Archived at few = goes-then entry_codec.format _ entry-lawful.goes
      (λ word entry s. archived-goes at entry)
  goal-goes goal.Absent at few = goes-then key_codec.format _ key-lawful.goes (λ word key s. absent-goes at key)

  pub opened-goes : (o : Opens) (opening : Opening) → opening.count ≤ MOST_EVENTS
      → GoesOn (behind_opening dig anchors o opening)
  opened-goes (opens.Part g under links) opening few = goal-goes g _ few
  opened-goes (opens.Before s) opening few = before-goes s.head.part s.event s.hops.count (Some opening)
  opened-goes (opens.Hop h links) opening few = chain-goes _

  least-few : (g : Goal) → least_of g ≤ MOST_EVENTS
  least-few (goal.Event r) = lit≤ tt
  least-few goal.Archived = lit≤ tt
  least-few goal.Absent = lit≤ tt

  pub goal-head-goes : (g : Goal) → GoesOn (head_stage (least_of g) (behind_part dig anchors g))
  goal-head-goes g = head-goes (least_of g) (behind_part dig anchors g) (least-few g) (goal-goes g)

  pub goal-part-goes : (g : Goal) (service : List ℕ) (step top : ℕ)
      → GoesOn (part_stage (least_of g) (behind_part dig anchors g) service step top)
  goal-part-goes g = part-goes (least_of g) (behind_part dig anchors g) (least-few g) (goal-goes g)

  pub way-goes : (w : Way) (links : List Link) → GoesOn (behind_path dig anchors w links)
  way-goes (way.Part g under) links = opening-goes (least_of g) under.step _ (least-few g) (λ o few. goal-goes g _ few)
  way-goes (way.Bind h) links = link-goes h.hop.further.onward.chain.value h.hop.entry h.shown h.bind links
  way-goes (way.Link l) links = tt

  linked-goes : GoesOn (link_stage dig anchors)
  linked-goes = goes-then link_head.format _ head-lawful.goes (λ word t s. path-goes [] t.1.1.0 t.1.0 _ (λ links. tt))

  pub counted-goes : (hops : ℕ) → GoesOn (head_stage 1 (event_stage (behind_second dig anchors hops)))
  counted-goes hops = head-goes 1 _ (lit≤ tt) (λ at few. event-goes (behind_second dig anchors hops) at few
      (second-goes hops at))

  pub hops-number : Lawful (number_codec 1 0 MOST_HOPS)
  hops-number = search lawful

  chosen : (b : Bool) (one other : Format Judgement) → GoesOn one → GoesOn other → GoesOn (if b then one else other)
  chosen true one other f g = f
  chosen false one other f g = g

  pub kind-goes : (kind : ℕ) → GoesOn (behind_kind dig anchors kind)
  kind-goes kind =
      chosen (kind == 1) _ _ (head-goes 1 _ (lit≤ tt) (λ at few. event-goes (behind_only dig anchors) at few (λ e. tt)))
      (chosen (kind == 2) _ _ (goes-then (number_codec 1 0 MOST_HOPS).format _ hops-number.goes
      (λ word hops s. counted-goes hops))
      (chosen (kind == 3) _ _ (goal-head-goes goal.Archived)
      (chosen (kind == 4) _ _ (goal-head-goes goal.Absent) linked-goes)))

  pub first-goes : (c : Chain) (service : List ℕ) (step top : ℕ)
      → GoesOn (part_stage 1 (event_stage (behind_first dig anchors c)) service step top)
  first-goes c = part-goes 1 _ (lit≤ tt) (λ at few. event-goes (behind_first dig anchors c) at few (λ e. tt))

-- ---- sizes of what is taken

pub event-small : (count : ℕ) (e : EventPart) → (event_part_codec count).Fits e → length e.event ≤ MOST_EVENT_BYTES
unfolding event_part_codec seen pair sized_codec by_kind number_codec
event-small count e fits = fits.1.0.0.1

pub entry-within : (entry : Entry) → entry_codec.Fits entry → entry.thread.step ≤ LAST_STEP
unfolding entry_codec thread_codec seen pair number_codec
entry-within entry fits = fits.0.1.0.1

-- ---- the end

module _ {X : Type 0} (x : X) where
  pub done-stays : (held : List ℕ) → length held ≡ 0 → StaysFront (Done x) held 0
  done-stays [] e [] bytes none = (([], x, refl), λ some. absurd (omega (arith, some)))
  done-stays [] e (b ∷ more) bytes none = let no = none (omega arith) in absurd (omega (arith, no))
  done-stays (b ∷ held) e more bytes none = absurd (omega (arith, e))

module _ {X Z : Type 0} where
  nothing-first : (f : Format X) (next : X → Format Z) → SpellsNothing f [] → SpellsNothing (then_by f next) []
  nothing-first (Done x) next n z s = absurd (n x refl)
  nothing-first (Byte test more) next n z s = s

present-nothing : SpellsNothing present_codec.format []
unfolding present_codec variant by_kind number_codec number
present-nothing x s = s

gap-nothing : SpellsNothing gap_codec.format []
unfolding gap_codec variant counted by_kind number_codec number
gap-nothing x s = s

-- no bytes end a proof but behind the whole
pub unfinished : (dig : List ℕ → List ℕ) (anchors : List Thread) (s : Stage) → ((j : Judgement) → s ≡ stage.Done j → ⊥)
    → SpellsNothing (rest dig anchors s) []
unfinished dig anchors stage.Begun not = nothing-first kind_head.format _ kind-nothing
unfinished dig anchors stage.Counted not = nothing-first (number_codec 1 0 MOST_HOPS).format _
    (number-nothing 0 MOST_HOPS)
unfinished dig anchors (stage.Head g) not = nothing-first part_head.format _ part-nothing
unfinished dig anchors stage.LinkHead not = nothing-first link_head.format _ head-nothing
unfinished dig anchors (stage.Path p) not = nothing-first (link_codec p.at).format _ (link-nothing p.at)
unfinished dig anchors (stage.Opening o) not = nothing-first (opening_codec (least_opened o) (step_opened o)).format _
    (opening-nothing (least_opened o) (step_opened o))
unfinished dig anchors (stage.Event e) not = nothing-first (event_part_codec e.at.part.opening.count).format _
    (event-nothing e.at.part.opening.count)
unfinished dig anchors (stage.Entry s) not = nothing-first entry_codec.format _ entry-nothing
unfinished dig anchors (stage.Key r) not = nothing-first key_codec.format _ key-nothing
unfinished dig anchors (stage.Tree (asked.Archived at entry)) not = nothing-first present_codec.format _ present-nothing
unfinished dig anchors (stage.Tree (asked.Absent at key)) not = nothing-first gap_codec.format _ gap-nothing
unfinished dig anchors (stage.Tree (asked.Hop h)) not = nothing-first present_codec.format _ present-nothing
unfinished dig anchors (stage.Nodes c) not = nothing-first ancestor_codec.format _ ancestor-nothing
unfinished dig anchors (stage.Bind h shown) not = nothing-first (number_codec 8 0 LAST_STEP).format _
    (step-nothing 0 LAST_STEP)
unfinished dig anchors (stage.Tail onward) not = nothing-first step_number_codec.format _ (step-nothing 1 LAST_STEP)
unfinished dig anchors (stage.Done j) not = absurd (not j refl)
