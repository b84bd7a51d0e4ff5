-- How the rows of packets change.
use Rattle.std.specs.Prelude.{ℕ, zero, suc, Bool, true, false, if◌then◌else◌, List, [], ◌∷◌, Option, Some, None}
use Rattle.std.specs.Option.{option_or}
use Rattle.loads.specs.declared.load.Load.{Load}
use Rattle.loads.specs.declared.load.Load.TheVariants.{Packet, ReplyTo}
use Rattle.loads.specs.declared.saying.Saying.{Saying}
use Rattle.loads.specs.Ends.{is_arrival}
use Rattle.load_ends.specs.declared.load_row.LoadRow.{LoadRow}
use Rattle.load_ends.specs.declared.packet_row.PacketRow.{PacketRow}

-- the number of the packet of a load
abbrev pub packet_number : Load → ℕ
packet_number (Packet k) = k
packet_number (ReplyTo k) = k

-- what a row keeps of a load: of its packet, or of the reply
abbrev pub kept_in_row : Load → PacketRow → LoadRow
kept_in_row (Packet k) row = row.packet
kept_in_row (ReplyTo k) row = row.reply

-- the row with this kept of the load
abbrev pub with_part : Load → LoadRow → PacketRow → PacketRow
with_part (Packet k) part row = record row { packet = part }
with_part (ReplyTo k) part row = record row { reply = part }

-- what is kept of a load once record i said something of it: the first arrival stays
abbrev pub part_after_saying : ℕ → (arrives : Bool) → LoadRow → LoadRow
part_after_saying i arrives part = record part { arrived = if arrives then option_or part.arrived (Some i) else part.arrived; last = Some i }

-- what is kept of a load once entry e is known, which carries it and wasn't delivered
abbrev pub part_with_entry : ℕ → LoadRow → LoadRow
part_with_entry e part = record part { undelivered = Some e }

-- these rows, of which the one at a place is changed
abbrev pub rows_changed_at : (PacketRow → PacketRow) → ℕ → List PacketRow → List PacketRow
rows_changed_at change k [] = []
rows_changed_at change zero (row ∷ rows) = change row ∷ rows
rows_changed_at change (suc k) (row ∷ rows) = row ∷ rows_changed_at change k rows

-- these rows, where what is kept of a load is changed
abbrev pub rows_changed : (LoadRow → LoadRow) → Load → List PacketRow → List PacketRow
rows_changed change l rows = rows_changed_at (λ (row : PacketRow). with_part l (change (kept_in_row l row)) row) (packet_number l) rows

-- these rows once record i said this
abbrev pub rows_after_saying : ℕ → List PacketRow → Saying → List PacketRow
rows_after_saying i rows s = rows_changed (part_after_saying i (is_arrival s.way)) s.load rows

-- these rows once entry e is known, which carries the load and wasn't delivered
abbrev pub rows_with_entry : ℕ → Load → List PacketRow → List PacketRow
rows_with_entry e l rows = rows_changed (part_with_entry e) l rows

-- nothing was said of a load
abbrev pub unsaid : LoadRow
unsaid = record { arrived = None; last = None; undelivered = None }

-- the row that is added by record i at this node, where it hands in a packet
abbrev pub rows_handed_in : (hands : Bool) → ℕ → Option ℕ → List PacketRow
rows_handed_in true i n = record { record_number = i; node = n; packet = unsaid; reply = unsaid } ∷ []
rows_handed_in false i n = []
