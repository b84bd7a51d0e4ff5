-- The lines on what nodes keep.
use Rattle.std.specs.Prelude.{ℕ, List, [], ◌∷◌, ◌++◌, length, map, codes, decimal, Option, Some, None}
use Rattle.hex.specs.Hex.{encode_lower}
use Rattle.byteorder.specs.Endian.{big_bytes}
use Rattle.td_base.specs.declared.endpoint.Ep.{Ep}
use Rattle.td_base.specs.Texts.{ip4_text, ep_text}
use Rattle.td_base.specs.Ip6Texts.{ip6_text}
use Rattle.qualify.specs.declared.phase.Phase.{Phase}
use Rattle.qualify.specs.declared.phase.Phase.TheVariants as phase
use Rattle.topology.specs.Rows.{TopologyState}
use Rattle.history.specs.Full.{Full}
use Rattle.report.specs.Lines.{node_text}
use Rattle.legal.specs.Lab.{Lab}
use Rattle.legal.specs.Past.{now, new_journal, journal, nat_pasts}
use Rattle.states.specs.Facts.{Whom, with_address, with_endpoint, PeerFact, Fact, nothing, forgets, holds_port, lets, client_is, relay_is, client_knows, relay_knows, NodeFact}
use Rattle.states.specs.Kept.{all_facts}
use Rattle.states.specs.Concerned.{concerned}

-- TEXTS

-- the text of a value, or a dash where there is none
abbrev pub or_dash : {A : Type 0} → (A → List ℕ) → Option A → List ℕ
or_dash text None = codes "-"
or_dash text (Some a) = text a

-- the word of a client's phase
abbrev pub phase_word : Phase → List ℕ
phase_word phase.Cone = codes "cone"
phase_word phase.Restricted = codes "restricted"
phase_word phase.Secondary = codes "secondary"
phase_word phase.Qualified = codes "qualified"
phase_word phase.Symmetric = codes "symmetric"
phase_word phase.OffLine = codes "offline"

-- the text of whom a NAT lets in
abbrev pub whom_text : Whom → List ℕ
whom_text (with_address ip) = ip4_text ip
whom_text (with_endpoint ep) = ep_text ep

-- moments behind the first one, with a comma before each
abbrev pub further_moments : List ℕ → List ℕ
further_moments [] = []
further_moments (m ∷ ms) = codes "," ++ (decimal m ++ further_moments ms)

-- moments with commas between them, or a dash where there are none
abbrev pub moments_text : List ℕ → List ℕ
moments_text [] = codes "-"
moments_text (m ∷ ms) = decimal m ++ further_moments ms

-- a nonce as 16 digits
abbrev pub nonce_text : ℕ → List ℕ
nonce_text nonce = encode_lower (big_bytes 8 nonce)

-- what lines say of a peer at a client and at a relay alike: peer P at EP heard H touched T tries T,T
abbrev pub peer_text : PeerFact → List ℕ
peer_text p = codes " peer " ++ (ip6_text p.who
    ++ (codes " at " ++ (or_dash ep_text p.trusted
    ++ (codes " heard " ++ (or_dash decimal p.heard
    ++ (codes " touched " ++ (or_dash decimal p.touched
    ++ (codes " tries " ++ moments_text p.tries))))))))

-- the destination that a port is for, where it is for one alone
abbrev pub toward_text : Option Ep → List ℕ
toward_text None = []
toward_text (Some to) = codes " to " ++ ep_text to

-- until when something lasts
abbrev pub until_text : ℕ → List ℕ
until_text end = codes " until " ++ decimal end

-- the text of a fact
abbrev pub fact_text : Fact → List ℕ
fact_text nothing = codes " -"
fact_text (forgets inside) = codes " inside " ++ (ep_text inside ++ codes " -")
fact_text (holds_port port inside to end) = codes " port " ++ (decimal port ++ (codes " inside " ++ (ep_text inside ++ (toward_text to ++ until_text end))))
fact_text (lets port whom end) = codes " port " ++ (decimal port ++ (codes " lets " ++ (whom_text whom ++ until_text end)))
fact_text (client_is p address due) = codes " " ++ (phase_word p ++ (codes " " ++ (or_dash ip6_text address ++ (codes " due " ++ or_dash decimal due))))
fact_text (relay_is due) = codes " due " ++ or_dash decimal due
fact_text (client_knows p) = peer_text p
    ++ (codes " nonce " ++ (or_dash nonce_text p.nonce ++ (codes " waits " ++ (decimal p.waits ++ (codes " held " ++ decimal p.held)))))
fact_text (relay_knows p) = peer_text p ++ (codes " waits " ++ decimal p.waits)

-- LINES

-- I M NODE: of which record a line is, or a dash before any; the moment; and the name of the node
abbrev pub stamp_text : TopologyState → Option ℕ → ℕ → ℕ → List ℕ
stamp_text t i m n = or_dash decimal i ++ (codes " " ++ (decimal m ++ (codes " " ++ node_text t (Some n))))

-- the line on a fact, as it was at a record of this number and moment
abbrev pub fact_line : TopologyState → Option ℕ → ℕ → NodeFact → List ℕ
fact_line t i m f = stamp_text t i m f.node ++ (fact_text f.fact ++ codes "\n")

-- the lines on what all nodes keep before any record
abbrev pub first_lines : TopologyState → List (List ℕ)
first_lines t = map (fact_line t None 0) (all_facts t (λ k. []) (λ k. new_journal 0) 0)

-- the lines on what a record concerned, of the record after these
abbrev pub concerned_lines : TopologyState → List Full → Full → List (List ℕ)
concerned_lines t H r = map (fact_line t (Some (length H)) r.moment) (concerned t H r)

-- the lines on what all nodes keep at first, and then those on what each record concerned
abbrev pub each_lines : TopologyState → List Full → List (List ℕ)
each_lines t [] = first_lines t
each_lines t (r ∷ H) = each_lines t H ++ concerned_lines t H r

-- the number of the latest record
abbrev pub last_number : List Full → Option ℕ
last_number [] = None
last_number (r ∷ H) = Some (length H)

-- the lines on what all nodes keep in the end
abbrev pub last_lines : Lab → List Full → List (List ℕ)
last_lines lab H = map (fact_line lab.topology (last_number H) (now H)) (all_facts lab.topology (nat_pasts lab H) (λ k. journal k H) (now H))

-- the last line: total records R
abbrev pub records_line : List Full → List ℕ
records_line H = codes "total records " ++ (decimal (length H) ++ codes "\n")
