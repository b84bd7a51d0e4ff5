-- What is left of an advance: it falls with each further record, so each advance has an end.
use Rattle.std.specs.Prelude.{ℕ, ◌+◌, ◌-◌, nat_le, max, if◌then◌else◌, List, [], ◌∷◌, ◌++◌, filter, flat_map, sum_by, option_to_list}
use Rattle.td_base.specs.declared.ipv6.Ip6.{Ip6}
use Rattle.peer_list.specs.Mentions.{Mention}
use Rattle.peer_list.specs.Listed.{listed}
use Rattle.peer_list.specs.Peers.{Peer, known}
use Rattle.peer_list.specs.Judged.{is_none, due_of}
use Rattle.qualify.specs.Qualification.{qualification}
use Rattle.client_rules.specs.Bearings as client_bearings
use Rattle.relay_rules.specs.Bearings.{relay_mentions}
use Rattle.topology.specs.declared.node.Node.{Node}
use Rattle.topology.specs.declared.node.Node.TheVariants.{Client as client, Relay as relay}
use Rattle.topology.specs.Topology.{nodes}
use Rattle.history.specs.Full.{Full}
use Rattle.legal.specs.Settings.{client_settings}
use Rattle.legal.specs.Past.{now, journal}
use Rattle.legal.specs.Lab.{Lab}

-- when the packets that wait for a listed peer are due
abbrev pub waits_until : Peer → List ℕ
waits_until peer = if is_none peer.waiting then [] else due_of peer ∷ []

-- the due moments of all peers, as a journal mentions them, at a moment
abbrev pub peers_due : List Mention → ℕ → List ℕ
peers_due j m = flat_map (λ (p : Ip6). waits_until (known j m p)) (listed j m)

-- all due moments of a node: a client's phase or refresh, and its peers; a relay's peers
abbrev pub due_moments : Lab → List Full → ℕ → Node → List ℕ
due_moments lab H n (client c) = option_to_list (qualification (client_settings lab.topology c) (journal n H)).due
    ++ peers_due (client_bearings.mentions (journal n H).entries) (now H)
due_moments lab H n (relay r) = peers_due (relay_mentions (journal n H).entries) (now H)
due_moments lab H n _ = []

-- the moments at which nodes have something due
abbrev pub all_due : Lab → List Full → ℕ → List Node → List ℕ
all_due lab H n [] = []
all_due lab H n (a ∷ rest) = due_moments lab H n a ++ all_due lab H (n + 1) rest

-- over the due moments up to `end`, the time from each on, or from now on where it is past
abbrev pub time_left : (end at : ℕ) → List ℕ → ℕ
time_left end at moments = sum_by (λ m. end + 1 - max m at) (filter (λ m. nat_le m end) moments)

-- for an advance that ends at `end`
abbrev pub left_to : Lab → List Full → ℕ → ℕ
left_to lab H end = time_left end (now H) (all_due lab H 0 (nodes lab.topology))
