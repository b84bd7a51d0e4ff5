-- The line of a fault: what it is, and at which place.
use Rattle.std.specs.Prelude.{ℕ, List, [], ◌∷◌, ◌++◌, codes}
use Rattle.hex.specs.Hex.{encode_lower}
use Rattle.ipv6_packet.specs.declared.fault.PacketFault.{PacketFault}
use Rattle.ipv6_packet.specs.declared.fault.PacketFault.TheVariants.{Short, Version, Length}
use Rattle.indications.specs.declared.fault.LeadFault.{LeadFault}
use Rattle.indications.specs.declared.fault.LeadFault.TheVariants.{Cut, Order, Kind}
use Rattle.bubble.specs.declared.fault.PayloadFault.{PayloadFault}
use Rattle.bubble.specs.declared.fault.PayloadFault.TheVariants as faults
use Rattle.show.specs.Lines.{field}

-- a word that is no hexadecimal text
abbrev pub hex_fault_line : ℕ → List ℕ
hex_fault_line place = field (codes "fault hex at ") place ++ codes "\n"

-- what is wrong with what stands in front of the packet
abbrev pub lead_fault_words : LeadFault → List ℕ
lead_fault_words (Cut at) = field (codes " cut at ") at
lead_fault_words (Order at) = field (codes " order at ") at
lead_fault_words (Kind at byte) = codes " kind " ++ (encode_lower (byte ∷ []) ++ field (codes " at ") at)

-- What is wrong with a packet. It begins where the first four bits are 6, so the version never is.
abbrev pub packet_fault_words : PacketFault → List ℕ
packet_fault_words (Short len) = field (codes " short ") len
packet_fault_words (Version nibble) = field (codes " version ") nibble
packet_fault_words (Length said there) = field (codes " length said ") said ++ field (codes " there ") there

-- what is wrong with a payload, and at which place: each word stands behind a space
unfoldable pub payload_fault_words : PayloadFault → List ℕ
payload_fault_words (faults.Long len) = field (codes " long ") len
payload_fault_words (faults.Lead f) = lead_fault_words f
payload_fault_words (faults.Packet at f) = packet_fault_words f ++ field (codes " at ") at

-- the line of a fault
unfoldable pub fault_line : PayloadFault → List ℕ
fault_line f = codes "fault" ++ (payload_fault_words f ++ codes "\n")
