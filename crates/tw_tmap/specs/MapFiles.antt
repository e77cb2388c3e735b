-- The bytes of map files: of the low one, which a service gives of a step of its own, and of the high one, which its peer gives.
use Rattle.std.specs.Prelude.{ℕ, ◌-◌, List, nat_lt}
use Rattle.tw_base.specs.format.Codecs.{Codec, behind, name_codec, optional, pair, seen}
use Rattle.tw_base.specs.format.Formats.{Format}
use Rattle.tw_skipproof.specs.Codecs.{opening_codec, path_codec, step_number_codec}
use Rattle.tw_treeproof.specs.Codecs.{gap_codec}
use Rattle.tw_chain.specs.Proofs.{kind_bytes}
use Rattle.tw_tmap.specs.declared.map_file.HighFile.{HighFile}
use Rattle.tw_tmap.specs.declared.map_file.LowFile.{LowFile}
use Rattle.tw_tmap.specs.declared.map_file.LowPart.{LowPart}

-- a step under a top: the path, the opening, and the tree proof of an empty place in its archive
unfoldable pub low_part_codec : (top step : ℕ) → Codec LowPart
low_part_codec top step =
    seen (λ t. record { path = record { links = t.0 }; opening = t.1.0; shown = t.1.1 }) (λ p. (p.path.links, (p.opening, p.shown)))
    (pair (path_codec top step) (λ links. pair (opening_codec 0 step) (λ opening. gap_codec)))

-- kind 6: a service, a step of it, the peer, and a top; from step 2 on the step before it under the top
unfoldable pub low_codec : Codec LowFile
low_codec =
    behind (kind_bytes 6)
    (seen (λ t. record { service = t.0; step = t.1.0; peer = t.1.1.0; top = t.1.1.1.0; shown = t.1.1.1.1 })
    (λ f. (f.service, (f.step, (f.peer, (f.top, f.shown)))))
    (pair name_codec (λ service. pair step_number_codec (λ step. pair name_codec (λ peer. pair step_number_codec (λ top.
    optional (nat_lt 1 step) (low_part_codec top (step - 1))))))))

-- kind 7: the peer, its top, the service and the step; the opening of the top, and the tree proof of an empty place in its archive
unfoldable pub high_codec : Codec HighFile
high_codec =
    behind (kind_bytes 7)
    (seen (λ t. record { service = t.0; top = t.1.0; peer = t.1.1.0; step = t.1.1.1.0; opening = t.1.1.1.1.0; shown = t.1.1.1.1.1 })
    (λ f. (f.service, (f.top, (f.peer, (f.step, (f.opening, f.shown))))))
    (pair name_codec (λ service. pair step_number_codec (λ top. pair name_codec (λ peer. pair step_number_codec (λ step.
    pair (opening_codec 0 top) (λ opening. gap_codec)))))))

abbrev pub low_layout : Format LowFile
low_layout = low_codec.format

abbrev pub high_layout : Format HighFile
high_layout = high_codec.format

abbrev pub low_bytes : LowFile → List ℕ
low_bytes = low_codec.write

abbrev pub high_bytes : HighFile → List ℕ
high_bytes = high_codec.write
