-- Each law of this crate, under the name of its function.
use Rattle.loads.proofs.Words.{KnownIsImage, List, Mention, ap, journal, known, numbered_mentions, packet_for, with_record_numbers, ◌∙◌}
use Rattle.loads.proofs.Renamed.{known_renamed}
use Rattle.loads.proofs.NamedEntries.{mentions_named, journal_named, packets_tell}

pub known_is_image : KnownIsImage
known_is_image H n a m p =
    ap (λ (ms : List Mention). known ms m p) (mentions_named (packet_for H) a (journal n H).entries (journal n (with_record_numbers H)).entries (journal_named (packet_for H) H n (packets_tell H)))
    ∙ known_renamed (packet_for H) (numbered_mentions H n a) m p
