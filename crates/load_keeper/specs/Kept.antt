-- What a node keeps of its peers, as far as loads go: whom it touched, what waits, what is held.
use Rattle.std.specs.Prelude.{◌≡◌, ◌≤◌, ℕ, Bool, true, false, not, if◌then◌else◌, List, [], ◌∷◌, ◌++◌, map, filter, filter_map, find, reverse, Option, Some, None, option_map, unwrap_or}
use Rattle.td_base.specs.declared.endpoint.Ep.{Ep}
use Rattle.td_base.specs.declared.ipv6.Ip6.{Ip6}
use Rattle.td_base.specs.Ip6.{same_ip6}
use Rattle.peer_list.specs.declared.held.Held.{Held}
use Rattle.peer_list.specs.Mentions.{Mention}
use Rattle.peer_list.specs.Listed.{touched}
use Rattle.peer_list.specs.Peers.{Peer, peer_at}
use Rattle.loads.specs.declared.load.Load.{Load}
use Rattle.loads.specs.Loads.{load_at}
use Rattle.loads.specs.Numbered.{number_in}
use Rattle.load_keeper.specs.declared.touch.Touch.{Touch}
use Rattle.load_keeper.specs.declared.kept_load.KeptLoad.{KeptLoad}
use Rattle.load_keeper.specs.declared.held_load.HeldLoad.{HeldLoad}
use Rattle.load_keeper.specs.declared.node_loads.NodeLoads.{NodeLoads}
use Rattle.load_keeper.specs.declared.effect.Effect.{Effect}
use Rattle.load_keeper.specs.declared.effect.Effect.TheVariants.{Nothing, Touches, Queues, Hears, Tests, Holds, GivesUp}
use Rattle.load_keeper.specs.Touches.{touches_peer, is_young_touch}

-- WHOM A NODE TOUCHED

-- a peer is listed at n, by these touches
abbrev pub lists_peer : List Touch → ℕ → Ip6 → Bool
lists_peer ts n p = is_young_touch n (find (touches_peer p) ts)

-- these touches, with the latest one of a peer behind the others
abbrev pub with_touch : Ip6 → ℕ → List Touch → List Touch
with_touch p m ts = filter (λ (t : Touch). not (touches_peer p t)) ts ++ record { who = p; at = record { 0 = m } } ∷ []

-- WHAT WAITS AND IS HELD

-- it is kept of this peer
abbrev pub is_kept_of : Ip6 → KeptLoad → Bool
is_kept_of p k = same_ip6 p k.who

-- what is kept of all others
abbrev pub kept_of_others : Ip6 → List KeptLoad → List KeptLoad
kept_of_others p ks = filter (λ (k : KeptLoad). not (is_kept_of p k)) ks

-- what waits, by the loads of it alone: what is held has none here
abbrev pub load_that_waits : Option Ep → Option Load → Option (Option Load)
load_that_waits None l = Some l
load_that_waits (Some from) l = None

-- what is held: what waits has none here
abbrev pub load_that_is_held : Option Ep → Option Load → Option HeldLoad
load_that_is_held None l = None
load_that_is_held (Some from) l = Some (record { from = from; load = l })

-- what is known of a peer, with loads in place of packets
pub record PeerLoads : Type 0 where
  pub waiting : List (Option Load)
  pub held : List HeldLoad

-- nothing waits, and nothing is held
abbrev pub no_loads : PeerLoads
no_loads = record { waiting = []; held = [] }

-- what waits for a peer, in order
abbrev pub loads_waiting : List KeptLoad → Ip6 → List (Option Load)
loads_waiting ks p = filter_map (λ (k : KeptLoad). load_that_waits k.from k.load) (filter (is_kept_of p) ks)

-- what is held of a peer, in order
abbrev pub loads_held : List KeptLoad → Ip6 → List HeldLoad
loads_held ks p = filter_map (λ (k : KeptLoad). load_that_is_held k.from k.load) (filter (is_kept_of p) ks)

-- both
abbrev pub loads_of_peer : List KeptLoad → Ip6 → PeerLoads
loads_of_peer ks p = record { waiting = loads_waiting ks p; held = loads_held ks p }

-- ONE NODE

-- what a node keeps
pub record NodeKept : Type 0 where
  pub touches : List Touch  -- the latest one of each peer, the latest of all at the end
  pub kept : List KeptLoad  -- in the order in which it came

-- what the lists of a node hold
abbrev pub node_kept : NodeLoads → NodeKept
node_kept s = record { touches = s.touches.items; kept = s.kept.items }

-- a node that keeps nothing
abbrev pub nothing_kept : NodeKept
nothing_kept = record { touches = []; kept = [] }

-- what is known at n of the loads of a peer, where it is listed
abbrev pub loads_known : NodeKept → ℕ → Ip6 → Option PeerLoads
loads_known s n p = if lists_peer s.touches n p then Some (loads_of_peer s.kept p) else None

-- the same, be it listed or not
abbrev pub loads_known_or_none : NodeKept → ℕ → Ip6 → PeerLoads
loads_known_or_none s n p = unwrap_or (loads_known s n p) no_loads

-- a peer is touched at m: where it isn't listed, what was kept of it is kept no longer
abbrev pub after_touch : Ip6 → ℕ → NodeKept → NodeKept
after_touch p m s = record {
  touches = with_touch p m s.touches;
  kept = if lists_peer s.touches m p then s.kept else kept_of_others p s.kept;
}

-- one more thing is kept
abbrev pub after_keeping : KeptLoad → NodeKept → NodeKept
after_keeping k s = record s { kept = s.kept ++ k ∷ [] }

-- it has an endpoint that it came from
abbrev pub is_held_from : Option Ep → Bool
is_held_from None = false
is_held_from (Some from) = true

-- it is held, or is kept of another peer
abbrev pub outlasts_giving_up : Ip6 → KeptLoad → Bool
outlasts_giving_up p k = if is_kept_of p k then is_held_from k.from else true

-- what a node keeps after something that means this for a peer; `l` is the load of the record's packet, and `from` where that came from
abbrev pub after_effect : Effect → Ip6 → ℕ → Option Ep → Option Load → NodeKept → NodeKept
after_effect Nothing p m from l s = s
after_effect Touches p m from l s = after_touch p m s
after_effect Queues p m from l s = after_keeping (record { who = p; from = None; load = l }) (after_touch p m s)
after_effect Hears p m from l s = record (after_touch p m s) { kept = kept_of_others p (after_touch p m s).kept }
after_effect Tests p m from l s = after_keeping (record { who = p; from = from; load = l }) (after_touch p m s)
after_effect Holds p m from l s = after_keeping (record { who = p; from = from; load = l }) s
after_effect GivesUp p m from l s = record s { kept = filter (outlasts_giving_up p) s.kept }

-- WHAT IT STANDS FOR

-- what is known of a peer, with the loads that these records carried in place of their packets
abbrev pub loads_for_peer : List (Option Load) → Peer → PeerLoads
loads_for_peer ls peer = record {
  waiting = map (λ (x : List ℕ). load_at ls (number_in x)) peer.waiting;
  held = map (λ (h : Held). record { from = h.from; load = load_at ls (number_in h.packet) }) peer.held;
}

-- What a node keeps is what these mentions say from the moment m on, with the loads that records carried in place of their packets.
pub record KeepsLoadsOf (ls : List (Option Load)) (j : List Mention) (m : ℕ) (s : NodeKept) : Type 0 where
  pub whom : map (λ (t : Touch). t.who) s.touches ≡ reverse (touched j)
  pub known : (n : ℕ) (p : Ip6) → m ≤ n → loads_known s n p ≡ option_map (loads_for_peer ls) (peer_at j n p)
