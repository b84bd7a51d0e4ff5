-- What a world lends of the wire.
use Rattle.history.specs.Full.{Item, udp, six}
use Rattle.world.specs.declared.wire_entry.WireEntry.{WireEntry}
use Rattle.world.specs.declared.wire_entry.WireEntry.TheVariants.{Udp, Six}

-- the entry that is lent
abbrev pub item_lent : WireEntry → Item
item_lent (Udp src dst bytes) = udp src dst bytes.now
item_lent (Six relay bytes) = six relay bytes.now
