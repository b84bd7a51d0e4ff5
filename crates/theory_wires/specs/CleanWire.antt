-- What a server sends in a laboratory is licensed: an audit of the wire finds nothing (RFC 4380, section 5.3).
use Rattle.std.specs.Prelude.{◌≡◌, ◌≤◌, ℕ, not, ◌&&◌, Bool, true, false, List, length, count_by, slice_get, Some}
use Rattle.std.specs.List.{list_any}
use Rattle.topology.specs.declared.server_node.ServerNode.{ServerNode}
use Rattle.topology.specs.declared.node.Node.TheVariants.{Server as server}
use Rattle.topology.specs.Rules.{IsTopology}
use Rattle.topology.specs.Topology.{node_at, is_at}
use Rattle.history.specs.Full.{Item, udp, six, Full, wire}
use Rattle.legal.specs.Lab.{Lab}
use Rattle.legal.specs.Past.{is_number}
use Rattle.legal.specs.Legal.{Grown}
use Rattle.theory_origins.specs.Voices.{speaks_for, is_sent_by}
use Rattle.td_audit.specs.declared.verdict.Verdict.{Verdict}
use Rattle.td_audit.specs.declared.verdict.Verdict.TheVariants.{Clean}
use Rattle.td_audit.specs.Verdicts.{audited, IsJudged}
use Rattle.theory_wires.specs.ReadsBack.{capture_text}

-- THE PREMISE

-- *own voice*: of a server in a history: no `stranger` and no `copy` has one of its endpoints as its source.
-- no event of these records puts a datagram onto the wire that says that it comes from an endpoint of the server
abbrev pub IsOwnVoice : ServerNode → List Full → Type 0
IsOwnVoice a H = list_any (λ (r : Full). speaks_for a r.asked) H ≡ false

-- a datagram to an endpoint of the server
abbrev pub is_sent_to : ServerNode → Item → Bool
is_sent_to a (udp src dst bytes) = is_at dst (server a)
is_sent_to a (six relay bytes) = false

-- how often entry number i was delivered
abbrev pub times_delivered : ℕ → List Full → ℕ
times_delivered i H = count_by (λ (r : Full). is_number i r.delivered) H

-- *heard once*: of a server in a history: no entry to an endpoint of it was delivered twice.
-- none to an endpoint of the server was delivered twice
abbrev pub IsHeardOnce : ServerNode → List Full → Type 0
IsHeardOnce a H = (i : ℕ) (x : Item) → slice_get (wire H) i ≡ Some x → is_sent_to a x ≡ true → times_delivered i H ≤ 1

-- THE VERDICT

-- how many entries the wire has, how many to the server, from it, and neither
abbrev pub clean_wire : ServerNode → List Full → Verdict
clean_wire a H = Clean (length (wire H)) (count_by (is_sent_to a) (wire H)) (count_by (is_sent_by a) (wire H))
    (count_by (λ (x : Item). not (is_sent_to a x) && not (is_sent_by a x)) (wire H))

-- an audit of the wire says this for each such server
abbrev pub IsCleanWire : Lab → List Full → Type 0
IsCleanWire lab H = (n : ℕ) (a : ServerNode) → node_at lab.topology n ≡ Some (server a) → IsOwnVoice a H → IsHeardOnce a H
    → IsJudged (audited a.primary a.secondary) (clean_wire a H) (capture_text lab H)

-- so of each wire
abbrev pub EachWireIsClean : Type 0
EachWireIsClean = (lab : Lab) (H : List Full) → IsTopology lab.topology → Grown lab H → IsCleanWire lab H
