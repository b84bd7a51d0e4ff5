-- What the rows are in the end, when the undelivered entries are known.
use Rattle.std.specs.Prelude.{ℕ, Bool, true, false, List, map, drop, Option, Some, None}
use Rattle.topology.specs.Rows.{TopologyState}
use Rattle.history.specs.Full.{Full}
use Rattle.loads.specs.declared.load.Load.{Load}
use Rattle.loads.specs.declared.load.Load.TheVariants.{Packet, ReplyTo}
use Rattle.loads.specs.Loads.{loads}
use Rattle.loads.specs.Ends.{NumberedSaying, NumberedPacket, Whereabouts, all_sayings, end_of, handed_in, open_entry}
use Rattle.load_ends.specs.declared.load_row.LoadRow.{LoadRow}
use Rattle.load_ends.specs.declared.packet_row.PacketRow.{PacketRow}
use Rattle.load_ends.specs.declared.at_end.PacketEnds.{PacketEnds}
use Rattle.load_ends.specs.Changes.{rows_with_entry}
use Rattle.load_ends.specs.Table.{part_told, row_told}

-- what is kept of a load in the end, where the wire carries this
abbrev pub part_in_end : List Full → List (Option Load) → List NumberedSaying → Load → LoadRow
part_in_end H wire ts l = part_told ts (open_entry H l 0 wire) l

-- the least entry from number i on that carries a load and wasn't delivered
abbrev pub entries_from : List Full → List (Option Load) → ℕ → Load → Option ℕ
entries_from H wire i l = open_entry H l i (drop i wire)

-- the rows where the entries from number i on are known
abbrev pub rows_from : TopologyState → List Full → ℕ → List PacketRow
rows_from t H i = map (row_told (all_sayings t H) (entries_from H (loads t H).wire i)) (handed_in H)

-- the rows once it is known of an entry what it carries, and whether it was delivered
abbrev pub rows_by_entry : ℕ → Option Load → (delivered : Bool) → List PacketRow → List PacketRow
rows_by_entry e l true rows = rows
rows_by_entry e None false rows = rows
rows_by_entry e (Some l) false rows = rows_with_entry e l rows

-- where a packet is, by what is written of it
abbrev pub where_is : PacketEnds → Whereabouts
where_is w = record {
  packet_in = record { number = w.packet.number; record_number = w.packet.record; node = w.packet.node };
  is_at = w.end;
  reply_is_at = w.back;
}

-- where a packet is after a history, where this was said
abbrev pub whereabouts_of : TopologyState → List Full → List NumberedSaying → NumberedPacket → Whereabouts
whereabouts_of t H ts p = record { packet_in = p; is_at = end_of t H (loads t H) ts (Packet p.number); reply_is_at = end_of t H (loads t H) ts (ReplyTo p.number) }
