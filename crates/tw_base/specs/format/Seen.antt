-- The codecs that readers and writers look into, in groups: whoever unfolds a group's name unfolds all of them.
use Rattle.tw_base.specs.format.Codecs.{behind, by_kind, bytes_codec, counted, each, labels_codec, many, name_codec, nothing, number_codec, pair, present, seen, sized_codec, text_codec, variant, written}

-- single fields
unfoldable pub fields : Unit {0}
unfolding by_kind bytes_codec labels_codec name_codec number_codec sized_codec text_codec
fields = tt

-- one field and then others
unfoldable pub records : Unit {0}
unfolding behind pair seen
records = tt

-- one of several forms, or none
unfoldable pub choices : Unit {0}
unfolding nothing present variant
choices = tt

-- all of them
unfoldable pub codecs : Unit {0}
unfolding choices counted each fields many records written
codecs = tt
