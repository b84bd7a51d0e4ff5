-- Which history a table tells of.
use Rattle.std.specs.Prelude.{◌≡◌, ℕ, List, map, filter, Option, None}
use Rattle.topology.specs.Rows.{TopologyState}
use Rattle.history.specs.Full.{Full}
use Rattle.loads.specs.declared.load.Load.{Load}
use Rattle.loads.specs.declared.load.Load.TheVariants.{Packet, ReplyTo}
use Rattle.loads.specs.Ends.{NumberedSaying, NumberedPacket, all_sayings, is_said_of, is_arrival_of, first_number, last_number_of, handed_in}
use Rattle.load_ends.specs.declared.load_row.LoadRow.{LoadRow}
use Rattle.load_ends.specs.declared.packet_row.PacketRow.{PacketRow}
use Rattle.load_ends.specs.declared.ends_table.EndsTable.{EndsTable}

-- what is kept of a load of which this was said, with an entry
abbrev pub part_told : List NumberedSaying → Option ℕ → Load → LoadRow
part_told ts e l = record { arrived = first_number (filter (is_arrival_of l) ts); last = last_number_of (filter (is_said_of l) ts); undelivered = e }

-- the row of a packet, with an entry for each load
abbrev pub row_told : List NumberedSaying → (Load → Option ℕ) → NumberedPacket → PacketRow
row_told ts entries p = record {
  record_number = p.record_number;
  node = p.node;
  packet = part_told ts (entries (Packet p.number)) (Packet p.number);
  reply = part_told ts (entries (ReplyTo p.number)) (ReplyTo p.number);
}

-- no load has an entry
abbrev pub no_entries : Load → Option ℕ
no_entries l = None

-- The table has a row for each packet that was handed in during a history, in order, with what was said of it and of its reply.
pub record TellsEnds (t : TopologyState) (table : EndsTable) (H : List Full) : Type 0 where
  pub rows : table.rows.items ≡ map (row_told (all_sayings t H) no_entries) (handed_in H)
