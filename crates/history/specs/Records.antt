-- What a report needs of a full record.
use Rattle.std.specs.Prelude.{ℕ, ◌+◌, List, [], ◌∷◌, length, map, Option, Some, None, option_map}
use Rattle.teredo_node.specs.Journal.{Entry}
use Rattle.history.specs.declared.mark.Mark.{Mark}
use Rattle.history.specs.declared.mark.Mark.TheVariants as mark
use Rattle.history.specs.declared.records.Record.{Record}
use Rattle.history.specs.Full.{udp, six, Made, sent, lost, Full}

-- what the line of a record tells of one thing that it made
abbrev pub mark_of : ℕ → Made → Mark
mark_of number (sent (udp src dst bytes)) = mark.Udp number src dst (length bytes)
mark_of number (sent (six relay bytes)) = mark.Six number relay (length bytes)
mark_of number (lost why dst bytes) = mark.Lost why dst (length bytes)

-- the number of the next entry, after a send
abbrev pub after_made : ℕ → Made → ℕ
after_made number (sent item) = number + 1
after_made number (lost why dst bytes) = number

-- a mark for each send, where the next entry has this number
abbrev pub marks_of : ℕ → List Made → List Mark
marks_of number [] = []
marks_of number (m ∷ ms) = mark_of number m ∷ marks_of (after_made number m) ms

-- the length of the packet that went to a client's host
abbrev pub handed_of : Full → Option ℕ
handed_of r = option_map length r.handed

-- how many packets that waited or were held were dropped
abbrev pub gone_of : Option Entry → ℕ
gone_of None = 0
gone_of (Some e) = e.step.gone

-- what the line of a record tells of a full record
abbrev pub record_of : Full → Record
record_of r = record {
  event = r.event;
  moment = record { 0 = r.moment };
  act = r.act;
  node = r.node;
  fate = r.fate;
  address = r.address;
  handed = handed_of r;
  late = map length r.late;
  gone = gone_of r.entry;
  marks = marks_of r.first r.made;
}
