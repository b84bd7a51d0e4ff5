-- What a world shows of its hosts.
use Rattle.reach_query.proofs.Words.{Astray, Behind, Bool, ChainsState, ClientHere, ClientNode, ClientStandsFor, Closed, Draws, Ep, Full, Ip6, IsClientHere, IsThere, Journal, Lab, List, Node, Option, Reaches, Route, Settings, TopologyState, WorldState, ap, asks_at, by_route, client_address, embedded, ends_at, false, goes_to, has_symmetric, is_all_cone, is_cone_kind, is_led_to, is_symmetric, journal, lab_in, last_nat, list_all, list_any, nat_set_up, nats_from, not, outer_in, outermost, qualification, reach_node, refl, settings_of, sym, there_at, true, way_out, ℕ, ◌&&◌, ◌∙◌, ◌≡◌}

-- where a route ends
pub led : (t : TopologyState) (r : Route) (n : ℕ) → IsThere t r → goes_to n r ≡ ends_at n (by_route t r)
led t (Reaches k) n there = sym (ap (λ (o : Option Node). ends_at n (reach_node k o)) (there_at t k there).1)
led t (Closed k) n there = refl
led t Astray n there = refl

-- the NATs of a way, as a world shows its NATs
pub symmetric_shown : (d : Draws) (w : WorldState) (nats : ChainsState) (row : ClientNode) (b : Bool) → nats.topology ≡ w.topology → nats.chain ≡ w.chain
    → b ≡ list_any (λ (k : ℕ). is_symmetric (nat_set_up nats.topology k).kind) (way_out nats.chain row.nat) → b ≡ has_symmetric (lab_in d w) row
symmetric_shown d w nats row b same chain is =
    is ∙ (λ i. list_any (λ (k : ℕ). is_symmetric (nat_set_up (same i) k).kind) (way_out (chain i) row.nat))

pub cone_shown : (d : Draws) (w : WorldState) (nats : ChainsState) (row : ClientNode) (b : Bool) → nats.topology ≡ w.topology → nats.chain ≡ w.chain
    → b ≡ list_all (λ (k : ℕ). is_cone_kind (nat_set_up nats.topology k).kind) (way_out nats.chain row.nat) → b ≡ is_all_cone (lab_in d w) row
cone_shown d w nats row b same chain is =
    is ∙ (λ i. list_all (λ (k : ℕ). is_cone_kind (nat_set_up (same i) k).kind) (way_out (chain i) row.nat))

-- the outermost of them
pub outermost_shown : (d : Draws) (w : WorldState) (chain : List Behind) (row : ClientNode) (n : ℕ) → chain ≡ w.chain
    → n ≡ last_nat row.nat (nats_from chain chain (outer_in chain row.nat)) → n ≡ outermost (lab_in d w) row
outermost_shown d w chain row n same is = is ∙ ap (λ (x : List Behind). last_nat row.nat (nats_from x x (outer_in x row.nat))) same

-- a client's address, by what happened to it
pub address_seen : (lab : Lab) (H : List Full) (c : ClientHere) → IsClientHere lab H c → (o : Option Ip6)
    → ((j : Journal) → ClientStandsFor c.client.now j → o ≡ (qualification (settings_of c.client.now) j).address)
    → o ≡ client_address lab H c.number c.row
address_seen lab H c is o told =
    told (journal c.number H) is.kept.stands ∙ ap (λ (s : Settings). (qualification s (journal c.number H)).address) is.kept.settings

-- what a client's server sends to the endpoint in its address
pub led_seen : (lab : Lab) (H : List Full) (row : ClientNode) (own : Ip6) (n : ℕ) (src dst : Ep) (b : Bool) → b ≡ is_led_to lab H src dst n
    → src ≡ asks_at lab row → dst ≡ embedded own → b ≡ is_led_to lab H (asks_at lab row) (embedded own) n
led_seen lab H row own n src dst b is from to = is ∙ ap (λ (e : Ep). is_led_to lab H e dst n) from ∙ ap (λ (e : Ep). is_led_to lab H (asks_at lab row) e n) to

-- no NAT of the way is symmetric, and the server's datagrams are led to the client: then the cone bit decides
pub settled_when : (symmetric led rest x : Bool) → symmetric ≡ false → led ≡ true → x ≡ rest → x ≡ (not symmetric && (led && rest))
settled_when symmetric led rest x none is same =
    same ∙ sym (ap (λ (b : Bool). b && rest) is) ∙ sym (ap (λ (b : Bool). not b && (led && rest)) none)
