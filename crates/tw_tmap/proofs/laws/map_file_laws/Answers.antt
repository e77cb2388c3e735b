use Rattle.tw_base.proofs.lemmas.format.CodecLaws.{unambiguous}
use Rattle.tw_tmap.specs.MapFiles.{high_codec, low_codec}
use Rattle.tw_tmap.proofs.MapCodec.{high-lawful, low-lawful}
use Rattle.tw_tmap.proofs.MapSizes.{high-size, low-size}
use Rattle.tw_tmap.proofs.laws.map_file_laws.Goals as goal

pub returns : goal.returns
returns c = record {
  low_once = unambiguous low_codec low-lawful;
  high_once = unambiguous high_codec high-lawful;
  low_size = low-size;
  high_size = high-size;
}
