-- The line of a record.
use Rattle.std.specs.Prelude.{ℕ, ◌==◌, List, [], ◌∷◌, ◌++◌, length, codes, decimal, Option, Some, None, if◌then◌else◌}
use Rattle.td_base.specs.declared.ipv6.Ip6.{Ip6}
use Rattle.td_base.specs.Ip6Texts.{ip6_text}
use Rattle.td_base.specs.Texts.{ep_text}
use Rattle.topology.specs.Names.{name_text}
use Rattle.teredo_node.specs.Fate.{fate_word}
use Rattle.history.specs.declared.act.Act.{Act}
use Rattle.history.specs.declared.act.Act.TheVariants as act
use Rattle.history.specs.declared.mark.Loss.{Loss}
use Rattle.history.specs.declared.mark.Loss.TheVariants as loss
use Rattle.history.specs.declared.mark.Mark.{Mark}
use Rattle.history.specs.declared.mark.Mark.TheVariants as mark
use Rattle.history.specs.declared.records.Record.{Record}
use Rattle.topology.specs.Rows.{TopologyState}
use Rattle.topology.specs.declared.node.Node.{Node}
use Rattle.topology.specs.Topology.{name_of, node_at}
use Rattle.events.specs.Verbs.{verb_word}
use Rattle.history.specs.Full.{Full}
use Rattle.history.specs.Records.{record_of}

-- the text of what was done
abbrev pub act_text : Act → List ℕ
act_text act.Tick = codes "tick"
act_text (act.Deliver number) = codes "deliver:" ++ decimal number
act_text (act.Copy number) = codes "copy:" ++ decimal number
act_text (act.Plain verb) = verb_word verb

-- the name of a node, or a dash
abbrev pub node_name : Option Node → List ℕ
node_name None = codes "-"
node_name (Some a) = name_text (name_of a)

-- the name of the node of a number, or a dash
abbrev pub node_text : TopologyState → Option ℕ → List ℕ
node_text t None = codes "-"
node_text t (Some n) = node_name (node_at t n)

-- the address that a client got
abbrev pub address_text : Option Ip6 → List ℕ
address_text None = []
address_text (Some ip) = codes " is " ++ ip6_text ip

-- the length of the packet that was handed to a client's host
abbrev pub handed_text : Option ℕ → List ℕ
handed_text None = []
handed_text (Some len) = codes " handed/" ++ decimal len

-- the lengths of the packets that it was handed late
abbrev pub late_text : List ℕ → List ℕ
late_text [] = []
late_text (len ∷ lens) = (codes " late/" ++ decimal len) ++ late_text lens

-- how many packets that waited or were held were dropped, where any were
abbrev pub gone_text : ℕ → List ℕ
gone_text gone = if gone == 0 then [] else codes " gone/" ++ decimal gone

-- the word of why something was lost
abbrev pub loss_word : Loss → List ℕ
loss_word loss.Hairpin = codes "hairpin"
loss_word loss.Full = codes "full"
loss_word loss.Fault = codes "fault"

-- a send, by the entry that it became or by why it became none
abbrev pub mark_text : TopologyState → Mark → List ℕ
mark_text t (mark.Udp number src dst len) = codes " #" ++ (decimal number
    ++ (codes "=" ++ (ep_text src ++ (codes ">" ++ (ep_text dst ++ (codes "/" ++ decimal len))))))
mark_text t (mark.Six number None len) = codes " #" ++ (decimal number ++ (codes "=six/" ++ decimal len))
mark_text t (mark.Six number (Some relay) len) = codes " #" ++ (decimal number ++ (codes "=six:" ++ (node_text t (Some relay) ++ (codes "/" ++ decimal len))))
mark_text t (mark.Lost why dst len) = codes " !" ++ (loss_word why ++ (codes "=" ++ (ep_text dst ++ (codes "/" ++ decimal len))))

-- the texts of what a record made, in order
abbrev pub marks_text : TopologyState → List Mark → List ℕ
marks_text t [] = []
marks_text t (m ∷ ms) = mark_text t m ++ marks_text t ms

-- INDEX MOMENT EVENT ACT NODE FATE
abbrev pub head_text : TopologyState → ℕ → Record → List ℕ
head_text t index r = decimal index ++ (codes " " ++ (decimal r.moment.0
    ++ (codes " " ++ (decimal r.event ++ (codes " " ++ (act_text r.act
    ++ (codes " " ++ (node_text t r.node ++ (codes " " ++ fate_word r.fate)))))))))

-- what the record says of a client, and a mark for each send
abbrev pub tail_text : TopologyState → Record → List ℕ
tail_text t r = address_text r.address ++ (handed_text r.handed ++ (late_text r.late ++ (gone_text r.gone ++ (marks_text t r.marks ++ codes "\n"))))

-- the line of a record
abbrev pub record_line : TopologyState → ℕ → Record → List ℕ
record_line t index r = head_text t index r ++ tail_text t r

-- one line after the other
abbrev pub lines_text : List (List ℕ) → List ℕ
lines_text [] = []
lines_text (line ∷ lines) = line ++ lines_text lines

-- the lines of a history, which has its latest record first
abbrev pub record_lines : TopologyState → List Full → List (List ℕ)
record_lines t [] = []
record_lines t (r ∷ H) = record_lines t H ++ record_line t (length H) (record_of r) ∷ []
