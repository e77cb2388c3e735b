-- The codec of messages is lawful; which messages fit it, and the size of their bytes.
use Rattle.std.proofs.Common.{ℕ, List, [], ◌∷◌, refl, arith}
use Rattle.tw_base.specs.format.Codecs.{EachFits, behind, bytes_codec, each, labels_codec, many, number_codec, pair}
use Rattle.tw_base.specs.format.Codecs.{seen}
use Rattle.tw_base.specs.history.HistoryCodec.{thread_codec}
use Rattle.tw_base.specs.history.Limits.{IsThread}
use Rattle.tw_base.specs.kinds.Lists.{Each}
use Rattle.tw_base.proofs.lemmas.format.CodecLaws.{Lawful, lawful-behind, lawful-number, lawful-pair, lawful-seen}
use Rattle.tw_base.proofs.lemmas.format.CodecSizes.{AtMost, at_most-behind, at_most-number, at_most-pair, at_most-seen}
use Rattle.tw_base.proofs.lemmas.history.HistoryCodecLaws.{thread-lawful}
use Rattle.tw_skipproof.specs.declared.path.Link.{Link}
use Rattle.tw_skipproof.specs.Codecs.{link_bytes, link_codec, path_codec}
use Rattle.tw_skipproof.specs.Paths.{HasLinkSizes}
use Rattle.tw_skipproof.specs.Spelling.{FitsAsLink}
use Rattle.tw_skipproof.proofs.LawfulCodecs.{path-fits, path-lawful}
use Rattle.tw_skipproof.proofs.Shapes.{path-most, path-shape}
use Rattle.tw_msg.specs.declared.message.Message.{Message}
use Rattle.tw_msg.specs.Messages.{IsLinked, message_codec}
use Rattle.tw_msg.proofs.ThreadBytes.{thread-fits, thread-size, thread-within}

pub message-lawful : Lawful message_codec
unfolding message_codec
message-lawful =
    lawful-seen _ _ _ (λ t. refl) (λ m. refl)
    (lawful-behind _ _ (lawful-pair thread_codec _ thread-lawful (λ thread fits.
    let is = thread-within thread fits in
    lawful-pair (number_codec 8 0 thread.step) _ (lawful-number 8 0 thread.step (omega arith) (omega (arith, is.2)))
    (λ since _. path-lawful thread.step since))))

-- the digests of links that fit are 32 bytes, and such links fit
links-sizes : (steps : List ℕ) (links : List Link) → EachFits link_bytes link_codec steps links → HasLinkSizes links
unfolding link_codec seen pair labels_codec many bytes_codec
links-sizes steps [] fits = tt
links-sizes [] (l ∷ links) fits = cc
links-sizes (step ∷ steps) (l ∷ links) fits = (fits.0.0, fits.0.1.1, links-sizes steps links fits.1)

links-fit : (links : List Link) → HasLinkSizes links → Each FitsAsLink links
unfolding link_codec seen pair labels_codec many bytes_codec
links-fit [] sizes = tt
links-fit (l ∷ links) sizes = (λ step count. (sizes.0, (count, sizes.1)), links-fit links sizes.2)

pub message-within : (m : Message) → message_codec.Fits m → IsLinked m × IsThread m.thread × HasLinkSizes m.link.links
unfolding message_codec seen behind pair number_codec path_codec each
message-within m fits =
    let is = thread-within m.thread fits.0 in (
      record { step = (is.1, is.2); since = fits.1.0.1; link = path-shape m.link.links m.thread.step m.since fits.1.1 },
      is,
      links-sizes _ m.link.links fits.1.1,
    )

pub message-fits : (m : Message) → IsLinked m → IsThread m.thread → HasLinkSizes m.link.links → message_codec.Fits m
unfolding message_codec seen behind pair number_codec path_codec each
message-fits m linked thread sizes = (
  thread-fits m.thread thread,
  (
    (omega arith, linked.since),
    path-fits m.link.links m.thread.step m.since (links-fit m.link.links sizes) linked.link,
  ),
)

thread-most : AtMost thread_codec 56
thread-most t fits = omega (arith, thread-size t fits)

pub message-most : AtMost message_codec 53828
unfolding message_codec
message-most =
    at_most-seen _ _ _ 53828 (at_most-behind _ _ 53824 (at_most-pair _ _ 56 53768 thread-most (λ thread fits.
    let is = thread-within thread fits in
    at_most-pair _ _ 8 53760 (at_most-number 8 0 thread.step)
    (λ since _. path-most thread.step since (omega (arith, is.2))))))
