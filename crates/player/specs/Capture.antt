-- What a capture has of a history: a head, and for each entry of the wire a record of the moment at which it was made.
use Rattle.std.specs.Prelude.{ℕ, ◌*◌, ◌/◌, ◌%◌, ◌^◌, List, [], ◌∷◌, ◌++◌, length, map, false}
use Rattle.topology.specs.Rows.{TopologyState}
use Rattle.history.specs.Full.{Item, udp, six, Full, items_of}
use Rattle.td_ipv4.specs.Checksums.{made_bytes}
use Rattle.td_pcap.specs.declared.head.Head.{Head}
use Rattle.td_pcap.specs.declared.record.TheConstants.{KEPT_MAX}
use Rattle.td_pcap.specs.Heads.{head_bytes}
use Rattle.td_pcap.specs.Records.{Captured, record_bytes}
use Rattle.player.specs.declared.entry_record.TheConstants.{SECOND_MS, MILLI_MICROS}

-- network order, microseconds, and whole packets
abbrev pub capture_head : Head
capture_head = record { little = false; nano = false; zone = 0; figs = 0; snap = KEPT_MAX }

-- an entry as it is on the wire: a datagram with both its headers, or the IPv6 packet
abbrev pub packet_of : Item → List ℕ
packet_of (udp src dst bytes) = made_bytes src dst bytes
packet_of (six relay bytes) = bytes

-- an entry that was made at this moment: whole seconds, which begin again after 2^32, and the rest in microseconds
abbrev pub entry_record : ℕ → Item → Captured
entry_record moment item = record {
  sec = moment / SECOND_MS % 2 ^ 32;
  frac = moment % SECOND_MS * MILLI_MICROS;
  orig = length (packet_of item);
  bytes = packet_of item;
}

-- a record for each entry, at the moment of the step that made it
abbrev pub step_records : Full → List Captured
step_records r = map (entry_record r.moment) (items_of r)

-- *capture of a history*: a head, and a record for each entry of the wire, in order, with the moment of the record that
-- made it.
abbrev pub capture_records : List Full → List Captured
capture_records [] = []
capture_records (r ∷ H) = capture_records H ++ step_records r

-- the bytes of records, each a piece of its own
abbrev pub record_pieces : List Captured → List (List ℕ)
record_pieces rs = map (record_bytes false) rs

-- the head, and the record of each entry
abbrev pub capture_pieces : TopologyState → List Full → List (List ℕ)
capture_pieces t H = head_bytes capture_head ∷ record_pieces (capture_records H)
