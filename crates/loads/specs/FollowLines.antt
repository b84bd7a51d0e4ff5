-- The lines on where each packet went.
use Rattle.std.specs.Prelude.{ℕ, Bool, true, false, List, [], ◌∷◌, ◌++◌, length, map, count_by, codes, decimal, Option, Some, None}
use Rattle.teredo_node.specs.Fate.{fate_word}
use Rattle.topology.specs.Rows.{TopologyState}
use Rattle.history.specs.Full.{Full}
use Rattle.report.specs.Lines.{node_text, mark_text}
use Rattle.loads.specs.declared.load.Load.{Load}
use Rattle.loads.specs.declared.load.Load.TheVariants.{Packet, ReplyTo}
use Rattle.loads.specs.declared.way.Way.{Way}
use Rattle.loads.specs.declared.way.Way.TheVariants.{Goes, Waits, Held, Arrives, Ends}
use Rattle.loads.specs.declared.end.End.{End}
use Rattle.loads.specs.declared.end.End.TheVariants.{Arrived, WaitsAt, HeldAt, OnWire, Lost}
use Rattle.loads.specs.Loads.{loads}
use Rattle.loads.specs.Ends.{NumberedSaying, all_sayings, Whereabouts, whereabouts}

-- the text of a load
abbrev pub load_text : Load → List ℕ
load_text (Packet k) = codes " " ++ decimal k
load_text (ReplyTo k) = codes " " ++ (decimal k ++ codes " back")

-- the text of what a record does with a load
abbrev pub way_text : TopologyState → Way → List ℕ
way_text t (Goes mark) = codes " goes" ++ mark_text t mark
way_text t Waits = codes " waits"
way_text t Held = codes " held"
way_text t Arrives = codes " arrives"
way_text t Ends = codes " ends"

-- I M NODE FATE: the number of a record, its moment, its node and its fate
abbrev pub front_text : TopologyState → ℕ → Full → List ℕ
front_text t i r = decimal i ++ (codes " " ++ (decimal r.moment ++ (codes " " ++ (node_text t r.node ++ (codes " " ++ fate_word r.fate)))))

-- the line on what a record does with a load
abbrev pub told_line : TopologyState → NumberedSaying → List ℕ
told_line t s = front_text t s.number s.by ++ (load_text s.saying.load ++ (way_text t s.saying.way ++ codes "\n"))

-- the lines on what each record of a history does with loads, in order
abbrev pub follow_lines : TopologyState → List Full → List (List ℕ)
follow_lines t H = map (told_line t) (all_sayings t H)

-- THE END

-- the text of where a load is
abbrev pub end_text : TopologyState → End → List ℕ
end_text t (Arrived i) = codes " arrived " ++ decimal i
end_text t (WaitsAt n) = codes " waits " ++ node_text t (Some n)
end_text t (HeldAt n) = codes " held " ++ node_text t (Some n)
end_text t (OnWire e) = codes " wire " ++ decimal e
end_text t (Lost i) = codes " lost " ++ decimal i

-- the same, or nothing where nothing carried the load
abbrev pub end_text_if : TopologyState → Option End → List ℕ
end_text_if t None = []
end_text_if t (Some e) = end_text t e

-- the text of where the reply to a packet is, where something carried one
abbrev pub back_text : TopologyState → Option End → List ℕ
back_text t None = []
back_text t (Some e) = codes " back" ++ end_text t e

-- the line on where a packet is: packet K I NODE, then its end, then that of its reply
abbrev pub whereabouts_line : TopologyState → Whereabouts → List ℕ
whereabouts_line t w = codes "packet " ++ (decimal w.packet_in.number ++ (codes " " ++ (decimal w.packet_in.record_number ++ (codes " " ++ (node_text t w.packet_in.node
    ++ (end_text_if t w.is_at ++ (back_text t w.reply_is_at ++ codes "\n")))))))

-- how many packets have an end that passes
abbrev pub count_ends : (Option End → Bool) → List Whereabouts → ℕ
count_ends test ws = count_by (λ (w : Whereabouts). test w.is_at) ws

-- The packet arrived.
abbrev pub has_arrived : Option End → Bool
has_arrived (Some (Arrived i)) = true
has_arrived _ = false

-- The packet still waits.
abbrev pub still_waits : Option End → Bool
still_waits (Some (WaitsAt n)) = true
still_waits _ = false

-- The packet is still held.
abbrev pub is_still_held : Option End → Bool
is_still_held (Some (HeldAt n)) = true
is_still_held _ = false

-- The packet is still on the wire.
abbrev pub is_still_on_wire : Option End → Bool
is_still_on_wire (Some (OnWire e)) = true
is_still_on_wire _ = false

-- The packet was lost.
abbrev pub has_been_lost : Option End → Bool
has_been_lost (Some (Lost i)) = true
has_been_lost _ = false

-- the last line: total packets P arrived A waits W held H wire U lost L
abbrev pub packets_line : List Whereabouts → List ℕ
packets_line ws = codes "total packets " ++ (decimal (length ws)
    ++ (codes " arrived " ++ (decimal (count_ends has_arrived ws)
    ++ (codes " waits " ++ (decimal (count_ends still_waits ws)
    ++ (codes " held " ++ (decimal (count_ends is_still_held ws)
    ++ (codes " wire " ++ (decimal (count_ends is_still_on_wire ws)
    ++ (codes " lost " ++ (decimal (count_ends has_been_lost ws) ++ codes "\n")))))))))))

-- a line on each packet, and the last one
abbrev pub lines_of_ends : TopologyState → List Whereabouts → List (List ℕ)
lines_of_ends t ws = map (whereabouts_line t) ws ++ packets_line ws ∷ []

-- the lines on where each packet of a history is, and the last one
abbrev pub end_lines : TopologyState → List Full → List (List ℕ)
end_lines t H = lines_of_ends t (whereabouts t H (loads t H) (all_sayings t H))
