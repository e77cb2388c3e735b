-- What is read of pages that keep a history is the history's.
use Rattle.std.proofs.Common.{◌≡◌, ℕ, suc, zero, ◌+◌, ◌-◌, ◌^◌, ◌<◌, ◌≤◌, List, [], ◌∷◌, ◌++◌, length, refl, ap, sym}
use Rattle.std.proofs.Common.{◌∙◌, arith, inl, inr, append_assoc}
use Rattle.std.proofs.lemmas.Bool.{cases_lt}
use Rattle.std.proofs.lemmas.List.{append-nil}
use Rattle.tw_disk.specs.Image.{Image}
use Rattle.tw_base.specs.history.Auth.{auth}
use Rattle.tw_base.specs.history.History.{History, events_at}
use Rattle.tw_base.specs.kinds.Levels.{top_level}
use Rattle.tw_base.proofs.lemmas.kinds.DigestBytes.{IsDigest}
use Rattle.tw_skipproof.specs.declared.path.Link.{Link}
use Rattle.tw_skipproof.specs.declared.path.Path.{Path}
use Rattle.tw_skipproof.specs.HistoryProofs.{IsPathOf}
use Rattle.tw_skipproof.specs.Paths.{greedy_steps, hop, hop_level}
use Rattle.tw_skipproof.proofs.GreedySteps.{hop-less}
use Rattle.tw_skipproof.proofs.Hops.{hop-below, hop_level-le}
use Rattle.tw_skiplist.specs.declared.head.Head.{Head}
use Rattle.tw_steppage.specs.declared.link.StepRef.{StepRef}
use Rattle.tw_skiplist.specs.declared.info.StepInfo.{StepInfo}
use Rattle.tw_skiplist.specs.declared.collecting.Collected.{Collected}
use Rattle.tw_skiplist.specs.declared.info.StepLink.{StepLink}
use Rattle.tw_skiplist.specs.declared.info.StepProof.{StepProof}
use Rattle.tw_skiplist.specs.Events.{events_of_info}
use Rattle.tw_disk.specs.Found.{Found, ◌>>=◌}
use Rattle.tw_disk.specs.Found.Found.{Is}
use Rattle.tw_skiplist.specs.Infos.{IsInfoOf}
use Rattle.tw_skiplist.specs.Keeping.{Keeps, KeepsSteps, Place, fields_at, link_to, links_at, place_of_step}
use Rattle.tw_skiplist.specs.Readings.{found_events, found_link, found_proof, found_skip_path, found_step, found_way}
use Rattle.tw_skiplist.specs.Records.{info_record, link_record}
use Rattle.tw_steppage.specs.StepPages.{link_at_level, no_ref}
use Rattle.tw_skiplist.specs.StepPagesRead.{page_of_step}
use Rattle.tw_skiplist.specs.Walks.{collect_along, collected, head_ref, hop_in, info_in, link_in, walk}
use Rattle.tw_disk.proofs.FoundLaws.{is_on}
use Rattle.tw_skiplist.proofs.Kept.{get_or-links_to, kept_link_in, kept_page}
use Rattle.tw_skiplist.proofs.KeptEvents.{events_are}
use Rattle.tw_skiplist.proofs.Recording.{kept_info, kept_link}
use Rattle.tw_skiplist.proofs.WalkLaws.{collected-here, collected-on, walk-here, walk-on}

module _ (dig : List ℕ → List ℕ) (size : (text : List ℕ) → IsDigest (dig text)) (h : History) (places : List Place)
    (ps : Image) (kept : KeepsSteps dig ps h places) where
  abbrev to_step : ℕ → StepRef
  to_step i = link_to dig h places i

  abbrev page : ℕ → ℕ
  page i = (place_of_step places i).page

  -- a link of a step that has one at the level
  pub link_kept : (i level : ℕ) → 0 < i → i ≤ length h.steps → level ≤ top_level i → link_in ps (page i) i level ≡ Is
      (to_step (i - 2 ^ level))
  link_kept zero level some l fine = absurd (omega arith)
  link_kept (suc k) level some l fine = kept_link_in dig size h places ps kept k level (omega (arith, l)) fine

  walk_kept : (d from to : ℕ) → to ≤ from → from ≤ to + d → from ≤ length h.steps → walk ps (to_step from) from to ≡ Is
      (to_step to)
  walk_kept zero from to order near l =
      let same : from ≡ to = omega (arith, order, near) in
      walk-here ps (to_step from) from to (omega (arith, near)) ∙ ap (λ (i : ℕ). Is (to_step i)) same
  walk_kept (suc d) from to order near l =
      elim (cases_lt to from) [
        | inr end ↦ (
            let same : from ≡ to = omega (arith, order, end) in
            walk-here ps (to_step from) from to end ∙ ap (λ (i : ℕ). Is (to_step i)) same)
        | inl under ↦ (
            let less = hop-less from to under in
            walk-on ps (to_step from) from to under
            ∙ is_on (link_in ps (page from) from (hop_level from to)) (λ next. walk ps next (hop from to) to)
            (to_step (hop from to)) (link_kept from (hop_level from to) (omega (arith, under)) l (hop_level-le from to))
            ∙ walk_kept d (hop from to) to (hop-below from to under) (omega (arith, less, near))
            (omega (arith, less, l)))
      ]

  pub walk_is : (from to : ℕ) → to ≤ from → from ≤ length h.steps → walk ps (to_step from) from to ≡ Is (to_step to)
  walk_is from to order l = walk_kept from from to order (omega arith) l

  -- a path of the history, and the link to its lower step, which are found behind any links
  pub record Collects (from to : ℕ) : Type 0 where
    pub links : List Link
    pub is : (before : List Link) → collect_along dig ps to (greedy_steps from to) before (to_step from) ≡ Is
        (record { links = before ++ links; last = to_step to })
    pub path : IsPathOf dig h links from to

  hop_kept : (i level : ℕ) → 0 < i → i ≤ length h.steps → level ≤ top_level i → hop_in dig ps (page i) i level
      ≡ Is (record {
        link = link_record dig i (fields_at dig h places i) (links_at dig h places i) level;
        next = to_step (i - 2 ^ level);
      })
  hop_kept zero level some l fine = absurd (omega arith)
  hop_kept (suc k) level some l fine =
      is_on (page_of_step ps (page (suc k)) (suc k))
      (λ p. Is (record { link = link_record dig (suc k) p.0 p.1 level; next = link_at_level p.1 level }))
      (fields_at dig h places (suc k), links_at dig h places (suc k))
      (kept_page dig size h places ps kept k (omega (arith, l)))
      ∙ ap (λ (next : StepRef). Is
      (record {
        link = link_record dig (suc k) (fields_at dig h places (suc k)) (links_at dig h places (suc k)) level;
        next = next;
      }))
      (get_or-links_to dig size h places no_ref (suc k) (suc (top_level (suc k))) level (omega (arith, fine)))

  path_on : (from to : ℕ) → to < from → from ≤ length h.steps → (links : List Link) → IsPathOf dig h links (hop from to)
      to
      → IsPathOf dig h (link_record dig from (fields_at dig h places from) (links_at dig h places from)
      (hop_level from to) ∷ links) from to
  path_on zero to under l links path = absurd (omega arith)
  path_on (suc k) to under l links path = let own = kept_link dig size h places ps kept k (hop_level (suc k) to)
      (omega (arith, l)) in (under, own.0, own.1, path)

  collected_end : (from to : ℕ) → to ≤ from → from ≤ to → Collects from to
  collected_end from to order end =
      let same : from ≡ to = omega (arith, order, end) in
      record {
        links = [];
        is = λ before. collected-here dig ps before (to_step from) from to end
            ∙ (λ j. Is (record { links = sym (append-nil before) j; last = to_step (same j) }));
        path = end;
      }

  collected_kept : (d from to : ℕ) → to ≤ from → from ≤ to + d → from ≤ length h.steps → Collects from to
  collected_kept zero from to order near l = collected_end from to order (omega (arith, near))
  collected_kept (suc d) from to order near l =
      elim (cases_lt to from) [
        | inr end ↦ collected_end from to order end
        | inl under ↦ (
            let less = hop-less from to under in
            let rest = collected_kept d (hop from to) to (hop-below from to under) (omega (arith, less, near))
            (omega (arith, less, l)) in
            let link : Link = link_record dig from (fields_at dig h places from) (links_at dig h places from)
            (hop_level from to) in
            record {
              links = link ∷ rest.links;
              is = λ before.
                  collected-on dig ps before (to_step from) from to under
                  ∙ is_on (hop_in dig ps (page from) from (hop_level from to)) (λ hopped. collect_along dig ps to
                  (greedy_steps (hop from to) to) (before ++ hopped.link ∷ []) hopped.next)
                  (record { link = link; next = to_step (hop from to) })
                  (hop_kept from (hop_level from to) (omega (arith, under)) l (hop_level-le from to))
                  ∙ rest.is (before ++ link ∷ [])
                  ∙ ap (λ (ls : List Link). Is (record { links = ls; last = to_step to }))
                  (append_assoc before (link ∷ []) rest.links);
              path = path_on from to under l rest.links rest.path;
            })
      ]

  pub collects : (from to : ℕ) → to ≤ from → from ≤ length h.steps → Collects from to
  collects from to order l = collected_kept from from to order (omega arith) l

  -- what is told of a step
  pub record Tells (i : ℕ) : Type 0 where
    pub info : StepInfo
    pub is : info_in dig ps (page i) i ≡ Is info
    pub of : IsInfoOf dig ps h places i info

  pub tells : (i : ℕ) → 0 < i → i ≤ length h.steps → Tells i
  unfolding info_in
  tells zero some l = absurd (omega arith)
  tells (suc k) some l = record {
    info = info_record dig (page (suc k)) (suc k) (fields_at dig h places (suc k)) (links_at dig h places (suc k));
    is = is_on (page_of_step ps (page (suc k)) (suc k)) (λ p. Is (info_record dig (page (suc k)) (suc k) p.0 p.1))
        (fields_at dig h places (suc k), links_at dig h places (suc k))
        (kept_page dig size h places ps kept k (omega (arith, l)));
    of = kept_info dig size h places ps kept k (omega (arith, l));
  }

-- ---- under a head

module _ (dig : List ℕ → List ℕ) (size : (text : List ℕ) → IsDigest (dig text)) (ps : Image) (h : History) (head : Head)
    (keeps : Keeps dig ps h head) where
  abbrev places : List Place
  places = keeps.places

  -- the head is the link to the last step
  pub first_is : head_ref head ≡ link_to dig h places head.step
  first_is = (λ j. record {
    page = (keeps.page ∙ ap (λ (i : ℕ). (place_of_step places i).page) (sym keeps.step)) j;
    auth = (keeps.auth ∙ ap (λ (i : ℕ). auth dig h i) (sym keeps.step)) j;
  })

  down : (to : ℕ) → to ≤ head.step → walk ps (head_ref head) head.step to ≡ Is (link_to dig h places to)
  down to order =
      ap (λ (first : StepRef). walk ps first head.step to) first_is ∙ walk_is dig size h places ps keeps.keeps head.step
      to order (omega (arith, keeps.step))

  pub step_found : (i : ℕ) → 1 ≤ i → i ≤ head.step → (info : StepInfo) × (found_step dig ps head i ≡ Is info)
      × IsInfoOf dig ps h places i info
  unfolding found_step
  step_found i some order =
      let told = tells dig size h places ps keeps.keeps i some (omega (arith, order, keeps.step)) in (
        told.info,
        is_on (walk ps (head_ref head) head.step i) (λ link. info_in dig ps link.page i) (link_to dig h places i)
            (down i order) ∙ told.is,
        told.of,
      )

  -- a step under the link that leads to it
  pub here_found : (link : Head) (i : ℕ) → 1 ≤ i → i ≤ head.step → link.step ≡ i
      → link.page ≡ (place_of_step places i).page → (info : StepInfo) × (found_step dig ps link i ≡ Is info)
      × IsInfoOf dig ps h places i info
  unfolding found_step
  here_found link i some order at page =
      let told = tells dig size h places ps keeps.keeps i some (omega (arith, order, keeps.step)) in (
        told.info,
        is_on (walk ps (head_ref link) link.step i) (λ l. info_in dig ps l.page i) (head_ref link)
            (walk-here ps (head_ref link) link.step i (omega (arith, at)))
            ∙ ap (λ (p : ℕ). info_in dig ps p i) page
            ∙ told.is,
        told.of,
      )

  -- the way between two steps
  way_found : (n i : ℕ) → i ≤ n → n ≤ head.step → (links : List Link)
      × (found_way dig ps head n i ≡ Is (record { links = links; last = link_to dig h places i })) × IsPathOf dig h
      links n i
  unfolding found_way
  way_found n i order below =
      let way = collects dig size h places ps keeps.keeps n i order (omega (arith, below, keeps.step)) in (
        way.links,
        is_on (walk ps (head_ref head) head.step n) (λ middle. collected dig ps middle n i) (link_to dig h places n)
            (down n below) ∙ way.is [],
        way.path,
      )

  pub link_found : (n i : ℕ) → i ≤ n → n ≤ head.step → (link : StepLink) × (found_link dig ps head n i ≡ Is link)
      × IsPathOf dig h link.path.links n i × (link.auth ≡ auth dig h i)
  unfolding found_link
  link_found n i order below =
      let way = way_found n i order below in
      let ends : Collected → Found StepLink =
      λ way. Is (record { path = record { links = way.links }; auth = way.last.auth }) in (
        record { path = record { links = way.0 }; auth = auth dig h i },
        is_on (found_way dig ps head n i) ends (record { links = way.0; last = link_to dig h places i }) way.1,
        way.2,
        refl,
      )

  pub path_found : (n i : ℕ) → i ≤ n → n ≤ head.step → (path : Path) × (found_skip_path dig ps head n i ≡ Is path)
      × IsPathOf dig h path.links n i
  unfolding found_skip_path
  path_found n i order below =
      let own = link_found n i order below in
      (own.0.path, is_on (found_link dig ps head n i) (λ link. Is link.path) own.0 own.1, own.2)

  pub proof_found : (top i : ℕ) → 1 ≤ i → i ≤ top → top ≤ head.step
      → (proof : StepProof) × (found_proof dig ps head top i ≡ Is proof) × IsPathOf dig h proof.path.links top i
      × IsInfoOf dig ps h places i proof.info
  unfolding found_proof
  proof_found top i some order below =
      let way = way_found top i order below in
      let told = tells dig size h places ps keeps.keeps i some (omega (arith, order, below, keeps.step)) in
      let tell : Collected → StepInfo → Found StepProof =
      λ way info. Is (record { path = record { links = way.links }; info = info }) in
      let end : Collected = record { links = way.0; last = link_to dig h places i } in (
        record { path = record { links = way.0 }; info = told.info },
        is_on (found_way dig ps head top i) (λ (way : Collected). info_in dig ps way.last.page i >>= tell way) end way.1
            ∙ is_on (info_in dig ps (place_of_step places i).page i) (tell end) told.info told.is,
        way.2,
        told.of,
      )

  pub events_found : (i : ℕ) → 1 ≤ i → i ≤ head.step → found_events dig ps head i ≡ Is (events_at h i)
  unfolding found_events
  events_found i some order =
      let told = step_found i some order in
      is_on (found_step dig ps head i) (events_of_info ps) told.0 told.1 ∙ events_are dig ps h places i told.0 told.2
