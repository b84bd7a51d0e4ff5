-- A delivery to a client eases.
use Rattle.theory_storms.proofs.Words.{Bool, ClientNode, Entry, Ep, Fields, HasServer, IfSome, Ip4, Ip6, IsIndirect, IsIp6, IsJournal, IsMadeInput, IsMadeStanding, IsSuspect, Item, Journal, List, Mention, Node, None, Option, Settings, Some, TopologyState, Words, ap, arith, arrived, client, client_in, client_is_there, client_made, client_packet, client_settings, cond, datagram_weight, done_with, each_standing_is_made, eases_at, eases_datagram, entry_input, eqb-true, false, false≢true, is_at, is_eased, is_nat_at, is_some_server, is_trusted_for, journal, legal_client_journals, less, list_any, mentions, nat, next_mentions, nodes, origin_in, refl, same_ip, same_ip-self, same_ip6-true, six, source_in, subst, sum_by, sym, true, udp, value_in, waiting_at, waiting_packets, weight_at, wire_is_made, words, ℕ, ◌&&◌, ◌==◌, ◌||◌, ◌∙◌, ◌∷◌, ◌≡◌, ◌≤◌}
use Rattle.client_rules.specs.Reception as reception
use Rattle.theory_storms.proofs.Weighed.{datagram_most}
use Rattle.theory_storms.proofs.EasedWeights.{Ease, eased_is, eased_least, known_lasts}
use Rattle.theory_storms.proofs.PeersWait.{waits_in, waiting_is}
use Rattle.theory_storms.proofs.Places.{first_is, any_there}
use Rattle.theory_storms.proofs.Freights.{foreign_weight, indirect_weight}
use Rattle.theory_storms.proofs.Reached.{Weighing, topology_of, after, Comes, weigh_before, weigh_after, NodeEases}
use Rattle.theory_storms.proofs.clients.ClientServers.{from_server_is}
use Rattle.theory_storms.proofs.clients.AtClient.{mentions_after, calm, IsLight, AtClient, seen_of, peer_of, own_of, IsAtClient}
use Rattle.theory_storms.proofs.clients.ClientsLighten.{datagram_lightens}

-- a datagram that is let in to a client, after a history
abbrev given : Weighing → ℕ → ClientNode → Ep → Ep → List ℕ → AtClient
given s n c src dst x = record {
  ease = s.ease;
  after = s.full ∷ s.before;
  lab = s.lab;
  c = c;
  m = s.full.moment;
  j = journal n s.before;
  w = words s.lab n s.before;
  src = src;
  x = x;
  heavy = weigh_before s (udp src dst x);
}

-- THE RECORD

-- whom a datagram is about
peer_came : (s : Settings) (j : Journal) (m : ℕ) (from : Ep) (x : List ℕ) (w : Words) → (client_in s j m from x w).peer ≡ source_in x
unfolding client_in
peer_came s j m from x w = refl

-- a packet from outside Teredo is eased where the host's relay trusts the client before it
less_by : (ease : ℕ) (b c : Bool) → (b ≡ true → c ≡ true) → less ease c 8 ≤ less ease b 8
less_by ease true true f = omega arith
less_by ease true false f = absurd (false≢true (f refl))
less_by ease false true f = omega arith
less_by ease false false f = omega arith

-- what is eased weighs more than a bubble that comes through the server
three_left : (z : Ease) (k : Bool) (w least : ℕ) → least ≤ 3 → least ≤ w → least ≤ less z.amount ((w == 7) || ((w == 8) && k)) w
three_left z k w least small under = by (w == 7) (w == 8) refl refl where
  by : (b c : Bool) → (w == 7) ≡ b → (w == 8) ≡ c → least ≤ less z.amount (b || (c && k)) w
  by true c is e =
      let seven = eqb-true w 7 is in
      let few = z.few in
      omega (arith, seven, few, small)
  by false false is e = under
  by false true is e = eased k where
    eased : (b : Bool) → least ≤ less z.amount b w
    eased true =
        let eight = eqb-true w 8 e in
        let few = z.few in
        omega (arith, eight, few, small)
    eased false = under

module _ (s : Weighing) (n : ℕ) (c : ClientNode) where
  abbrev t : TopologyState
  t = topology_of s

  abbrev did : Item → Entry
  did x = done_with s.lab s.before s.full n (client c) x

  -- what waits in the client, as the journal's mentions have it
  waits_after : (x : Item) → Comes s n (client c) x
      → waiting_at s.ease.amount t (after s) n (client c)
      ≡ waits_in client_packet (mentions_after (did x) (mentions (journal n s.before).entries)) s.full.moment
  waits_after x h =
      ap (λ (j : Journal). sum_by client_packet (waiting_packets (mentions j.entries) s.full.moment)) h.act.later
      ∙ waiting_is client_packet (mentions (did x ∷ (journal n s.before).entries)) s.full.moment
      ∙ ap (λ (ms : List Mention). waits_in client_packet ms s.full.moment) (next_mentions (did x) (journal n s.before).entries)

  waits_before : (x : Item) → Comes s n (client c) x
      → waiting_at s.ease.amount t s.before n (client c) ≡ waits_in client_packet (mentions (journal n s.before).entries) s.full.moment
  waits_before x h = ap (λ (k : ℕ). sum_by client_packet (waiting_packets (mentions (journal n s.before).entries) k)) (sym h.moment)
      ∙ waiting_is client_packet (mentions (journal n s.before).entries) s.full.moment

  light : (x : Item) → Comes s n (client c) x → IsLight (weigh_after s) s.full.moment (journal n s.before) (did x) (weigh_before s x)
      → NodeEases s n (client c) x
  light x h less_than =
      let one = less_than s.full.made h.own (h.fresh s.is) in
      let new = waits_after x h in
      let old = waits_before x h in
      omega (arith, one, new, old)

  -- A DATAGRAM

  module _ (src dst : Ep) (x : List ℕ) (h : Comes s n (client c) (udp src dst x)) where
    abbrev d : AtClient
    d = given s n c src dst x

    abbrev p : Fields
    p = (value_in x).packet

    served : HasServer t c
    served = client_is_there.server_of t n c s.is h.act.there

    -- it goes to a NAT
    is_there : is_at dst (nat h.goes.row) ≡ true
    is_there = ap (λ (ip : Ip4). same_ip ip h.goes.row.external) h.goes.external ∙ same_ip-self h.goes.row.external

    to_nat : list_any (is_nat_at dst) (nodes t) ≡ true
    to_nat = any_there (is_nat_at dst) (nodes t) h.goes.outer (nat h.goes.row) h.goes.there is_there

    -- so it weighs this
    weighs_so : d.heavy ≡ less s.ease.amount (eases_datagram t s.before p (datagram_weight t src dst x)) (datagram_weight t src dst x)
    weighs_so = eased_is s.ease t s.before (udp src dst x) (is_eased t s.before (udp src dst x)) refl
        ∙ ap (λ (o : Option Node). less s.ease.amount (eases_at t s.before src dst x o) (weight_at t src dst x o))
        (first_is t dst h.goes.outer (nat h.goes.row) s.is h.goes.there is_there)

    -- a bubble that comes through the server
    small : (b : Bool) → cond b 3 2 ≤ 3
    small true = omega arith
    small false = omega arith

    indirect_by : IsIndirect (seen_of d) → (o : Ep) → origin_in (value_in x).lead ≡ Some o → cond (is_some_server t o) 3 2 ≤ d.heavy
    unfolding reception.seen
    indirect_by only o told =
        let most = indirect_weight t src dst x to_nat only.mine.sound.payload (from_server_is t c src served only.server) only.bubble told in
        let left = three_left s.ease (is_trusted_for t s.before p.src p.dst) (datagram_weight t src dst x) (cond (is_some_server t o) 3 2)
        (small (is_some_server t o)) most in
        let so = weighs_so in
        omega (arith, left, so)

    -- a packet from outside Teredo, which is tested
    suspect_weighs : {full : Bool} → IsSuspect full (seen_of d) → datagram_weight t src dst x ≡ 8
    unfolding reception.seen
    suspect_weighs only =
        let least = foreign_weight t src dst x to_nat only.direct.mine.sound.payload only.global only.native only.no_bubble only.no_reply in
        let most = datagram_most t src dst x in
        omega (arith, least, most)

    mine_is : {full : Bool} → IsSuspect full (seen_of d) → p.dst ≡ own_of d
    unfolding reception.seen
    mine_is only = same_ip6-true p.dst (own_of d) only.direct.mine.mine

    suspect_by : (full : Bool) → IsSuspect full (seen_of d) → less s.ease.amount (is_trusted_for t (after s) (peer_of d) (own_of d)) 8 ≤ d.heavy
    suspect_by full only =
        let eight = ap (λ (w : ℕ). less s.ease.amount (eases_datagram t s.before p w) w) (suspect_weighs only) in
        let most = less_by s.ease.amount (is_trusted_for t s.before p.src p.dst) (is_trusted_for t (after s) (peer_of d) (own_of d)) (λ trusted.
        ap (is_trusted_for t (after s) p.src) (sym (mine_is only)) ∙ known_lasts t s.before (after s) s.lasts p.src p.dst trusted) in
        let so = weighs_so in
        omega (arith, eight, most, so)

    -- what the client has is made of bytes
    made_standing : IsMadeStanding (client_settings t c) (journal n s.before) (did (udp src dst x))
    made_standing =
        let next = subst (IsJournal (client_settings t c)) h.act.later (legal_client_journals s.lab (after s) n c s.grown h.act.there).journal in
        let input = subst IsMadeInput (sym (entry_input s.lab s.before s.full.moment n dst (arrived src x) (client c))) ((h.came s.is).source, (h.came s.is).bytes) in
        each_standing_is_made (client_settings t c) (journal n s.before) (did (udp src dst x)) next (client_made t n c s.is h.act.there) input
        ((wire_is_made s.lab s.before s.is s.grown.1).journals n)

    is_given : IsAtClient d
    is_given = record {
      least = eased_least s.ease t s.before (udp src dst x);
      indirect = indirect_by;
      suspect = suspect_by;
      is_j = (legal_client_journals s.lab s.before n c s.grown.1 h.act.there).journal;
      made_own = made_standing.address;
      made_peer = subst (λ (o : Option Ip6). IfSome o IsIp6) (peer_came (client_settings t c) (journal n s.before) s.full.moment src x (words s.lab n s.before))
          made_standing.peer;
      rules = s.is;
      served = served;
    }

    reached : NodeEases s n (client c) (udp src dst x)
    reached = light (udp src dst x) h (datagram_lightens d is_given)

  pub client_eases : (x : Item) → Comes s n (client c) x → NodeEases s n (client c) x
  client_eases (six None bytes) h = absurd h.goes
  client_eases (six (Some k) bytes) h =
      let x : Item = six (Some k) bytes in
      light x h
      (calm (weigh_after s) s.full.moment (journal n s.before) (did x) (weigh_before s x) (eased_least s.ease t s.before x) (refl, refl, refl, refl))
  client_eases (udp src dst bytes) h = reached src dst bytes h
