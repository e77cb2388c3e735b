-- A sound history whose nodes are in the ranges of the file is spelled by its written bytes.
use Rattle.std.proofs.Common.{◌≡◌, ℕ, suc, ◌≤◌, List, [], ◌∷◌, length, refl, arith}
use Rattle.std.specs.Prelude.{Some, slice_get}
use Rattle.tw_base.specs.declared.history.content.Content.{Content}
use Rattle.tw_base.specs.declared.history.content.Content.TheVariants.{Events, Received}
use Rattle.tw_base.specs.declared.kinds.limits.TheConstants.{MOST_EVENT_BYTES}
use Rattle.tw_base.specs.kinds.Bytes.{AreBytes}
use Rattle.tw_base.specs.format.Codecs.{by_kind, bytes_codec, number_codec, sized_codec}
use Rattle.tw_base.specs.format.Formats.{Spells}
use Rattle.tw_base.specs.history.History.{History, Step}
use Rattle.tw_base.specs.history.HistoryCodec.{content_codec, event_codec, history_bytes, history_layout, node_codec}
use Rattle.tw_base.specs.history.HistoryCodec.{step_codec}
use Rattle.tw_base.specs.history.Limits.{IsTimeWithinLimits, IsWithinLimits}
use Rattle.tw_base.specs.kinds.Lists.{Each}
use Rattle.tw_base.specs.history.Sound.{IsSound}
use Rattle.tw_base.proofs.lemmas.history.HistoryCodecLaws.{history-lawful}
use Rattle.tw_base.proofs.lemmas.kinds.ListLemmas.{Each-map}
use Rattle.tw_history.specs.WritingSteps.{has_events}
use Rattle.tw_history.specs.FileRanges.{IsInFileRange, IsNodeInRange, IsStepInRange}
use Rattle.tw_history.proofs.FileFits.{events-fit, history-fits, node-fits, recorded-fits, step-fits, thread-fits}
use Rattle.tw_history.proofs.FileFits.{thread-parts}

all_events : (events : List (List ℕ)) → Each (λ event. length event ≤ MOST_EVENT_BYTES) events → Each AreBytes events
    → Each event_codec.Fits events
unfolding sized_codec by_kind number_codec bytes_codec
all_events [] short are = tt
all_events (event ∷ events) short are = (((omega arith, short.0), (refl, are.0)), all_events events short.1 are.1)

content_fits : (c : Content) → IsWithinLimits c → (content_codec (has_events c)).Fits c
content_fits (Events events) are = events-fit events are.count (all_events events are.sizes are.bytes)
content_fits (Received t) is = thread-fits t (thread-parts t is.1 is.2 is.0 (is.3, is.4))

all_steps : (steps : List Step) → ((i : ℕ) (s : Step) → slice_get steps i ≡ Some s → IsWithinLimits s.content
    × IsTimeWithinLimits s.time) → Each IsStepInRange steps → Each step_codec.Fits steps
all_steps [] limits within = tt
all_steps (s ∷ steps) limits within =
    let nodes = Each-map IsNodeInRange node_codec.Fits s.fresh node-fits within.0.nodes in (
      step-fits s within.0.count within.0.root (recorded-fits s.time s.content (limits 0 s refl).1
          (content_fits s.content (limits 0 s refl).0)) nodes,
      all_steps steps (λ i t there. limits (suc i) t there) within.1,
    )

pub sound_spelled : (h : History) → IsSound h → IsInFileRange h → Spells history_layout (history_bytes h) h
sound_spelled h sound within =
    history-lawful.spells h (history-fits h sound.length sound.name
    (all_steps h.steps (λ i s there. ((sound.steps i s there).limits, (sound.steps i s there).time)) within))
