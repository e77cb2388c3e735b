-- A map that has the ends of ordered hops as its keys.
use Rattle.std.proofs.Common.{◌≡◌, ℕ, ◌+◌, ◌<◌, List, [], ◌∷◌, length, take, get_or, refl, ◌∙◌, ap, sym}
use Rattle.std.specs.Prelude.{map}
use Rattle.std.specs.BTreeMap.{insert_entry}
use Rattle.std.proofs.lemmas.List.Sums.{fold_more}
use Rattle.std.specs.Ordering.{match_ordering, ordering_then}
use Rattle.std.specs.declared.cmp.Ordering.{Ordering}
use Rattle.std.specs.declared.cmp.Ordering.TheVariants.{Less, Equal, Greater}
use Rattle.tw_base.specs.declared.history.report.Hop.{Hop}
use Rattle.tw_base.specs.declared.history.thread.Key.{Key}
use Rattle.tw_base.specs.history.Entries.{key_cmp}
use Rattle.tw_atlas.specs.HopEnds.{ends_of, hop_between, hop_entries}
use Rattle.tw_atlas.specs.Reaching.{source, target}
use Rattle.tw_atlas.specs.Rounds.{hop_cmp, ordered, put_hop}

abbrev pub ends_cmp : Key × Key → Key × Key → Ordering
ends_cmp x y = ordering_then (key_cmp x.0 y.0) (key_cmp x.1 y.1)

pub put-entry : (hop : Hop) (hops : List Hop) → insert_entry ends_cmp (hop_entries hops) (ends_of hop) tt ≡ hop_entries
    (put_hop hop hops)
put-entry hop [] = refl
put-entry hop (first ∷ rest) = by (hop_cmp hop first) (put-entry hop rest)
  where
    by : (o : Ordering) → insert_entry ends_cmp (hop_entries rest) (ends_of hop) tt ≡ hop_entries (put_hop hop rest)
        → match_ordering o ((ends_of hop, tt) ∷ hop_entries (first ∷ rest)) (hop_entries (first ∷ rest))
        ((ends_of first, tt) ∷ insert_entry ends_cmp (hop_entries rest) (ends_of hop) tt)
        ≡ hop_entries (match_ordering o (hop ∷ first ∷ rest) (first ∷ rest) (first ∷ put_hop hop rest))
    by Less more = refl
    by Equal more = refl
    by Greater more = ap (λ (es : List ((Key × Key) × Unit {0})). (ends_of first, tt) ∷ es) more

-- the hops between the keys of such a map
pub hops-between : (hops : List Hop) → map (λ (ends : Key × Key). hop_between ends.0 ends.1)
    (map (λ (e : (Key × Key) × Unit {0}). e.0) (hop_entries hops)) ≡ hops
hops-between [] = refl
hops-between (hop ∷ hops) = ap (λ (hs : List Hop). hop ∷ hs) (hops-between hops)

-- one hop more
pub ends-more : (hops : List Hop) (i : ℕ) (hop : Hop) (old new : List ((Key × Key) × Unit {0})) (from to : Key)
    → i < length hops → hop ≡ get_or hops i hop
    → old ≡ hop_entries (ordered (take i hops)) → from ≡ source hop → to ≡ target hop → new ≡ insert_entry ends_cmp old
    (from, to) tt
    → new ≡ hop_entries (ordered (take (i + 1) hops))
ends-more hops i hop old new from to high is before departs lands put =
    put ∙ ap (λ (es : List ((Key × Key) × Unit {0})). insert_entry ends_cmp es (from, to) tt) before
    ∙ ap (λ (k : Key). insert_entry ends_cmp (hop_entries (ordered (take i hops))) (k, to) tt) departs
    ∙ ap (λ (k : Key). insert_entry ends_cmp (hop_entries (ordered (take i hops))) (source hop, k) tt) lands
    ∙ put-entry hop (ordered (take i hops))
    ∙ ap (λ (h : Hop). hop_entries (put_hop h (ordered (take i hops)))) is
    ∙ ap hop_entries (sym (fold_more (λ put hop. put_hop hop put) [] hops i hop high))
