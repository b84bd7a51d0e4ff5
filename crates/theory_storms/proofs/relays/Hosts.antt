-- Each host has one relay, which serves it.
use Rattle.theory_storms.proofs.Words.{AllByRecursion, AreDistinct, Bool, Ip6, IsTopology, List, NativeNode, Node, RelayNode, Some, TopologyState, [], all_at, all_joined, all_mapped, ap, client, cond, eqb-true, false, false≢true, filter, host_relay, list_any, map, nat, native, node_at, nodes, refl, relay, relay_among, right_distinct, same_ip6, same_ip6-true, served, server, sym, true, ℕ, ◌++◌, ◌==◌, ◌||◌, ◌∙◌, ◌∷◌, ◌≡◌}

abbrev six_of : NativeNode → Ip6
six_of h = h.six

-- a host's address leads to its relay
abbrev Leads : List NativeNode → NativeNode → Type 0
Leads hs h = (ip : Ip6) → same_ip6 ip h.six ≡ true → relay_among ip hs ≡ Some h.relay

-- no other has it
behind : (first : NativeNode) (all hs : List NativeNode) → list_any (same_ip6 first.six) (map six_of hs) ≡ false → AllByRecursion (Leads all) hs
    → AllByRecursion (Leads (first ∷ all)) hs
behind first all [] other leads = tt
behind first all (h ∷ hs) other leads = by (same_ip6 first.six h.six) refl other (behind first all hs) where
  by : (b : Bool) → same_ip6 first.six h.six ≡ b → (b || list_any (same_ip6 first.six) (map six_of hs)) ≡ false
      → (list_any (same_ip6 first.six) (map six_of hs) ≡ false → AllByRecursion (Leads all) hs → AllByRecursion (Leads (first ∷ all)) hs)
      → AllByRecursion (Leads (first ∷ all)) (h ∷ hs)
  by true e o ih = absurd (false≢true (sym o))
  by false e o ih = ((λ ip same. here ip same (same_ip6 ip first.six) refl), ih o leads.1) where
    here : (ip : Ip6) → same_ip6 ip h.six ≡ true → (c : Bool) → same_ip6 ip first.six ≡ c → cond c (Some first.relay) (relay_among ip all) ≡ Some h.relay
    here ip same false f = leads.0 ip same
    here ip same true f =
        let is : first.six ≡ h.six = sym (same_ip6-true ip first.six f) ∙ same_ip6-true ip h.six same in
        absurd (false≢true (sym (ap (λ (z : Ip6). same_ip6 z h.six) (same_ip6-true ip first.six f) ∙ e) ∙ same))

each_leads : (hs : List NativeNode) → AreDistinct same_ip6 (map six_of hs) → AllByRecursion (Leads hs) hs
each_leads [] d = tt
each_leads (h ∷ hs) d =
    ((λ ip same. ap (λ (b : Bool). cond b (Some h.relay) (relay_among ip hs)) same), behind h hs hs d.0 (each_leads hs d.1))

natives_lead : (t : TopologyState) → IsTopology t → AllByRecursion (Leads t.natives) t.natives
natives_lead t is = each_leads t.natives (right_distinct same_ip6 (map (λ (r : RelayNode). r.six) t.relays) (map six_of t.natives) is.sixes)

-- THE RELAY OF A NODE THAT IS A HOST

abbrev LeadsNode : TopologyState → Node → Type 0
LeadsNode t (native h) = Leads t.natives h
LeadsNode t _ = Unit {0}

none : {A : Type 0} (xs : List A) → AllByRecursion (λ (x : A). Unit {0}) xs
none [] = tt
none (x ∷ xs) = (tt, none xs)

nodes_lead : (t : TopologyState) → IsTopology t → AllByRecursion (LeadsNode t) (nodes t)
nodes_lead t is =
    all_joined (LeadsNode t) (map server t.servers) (map nat t.nats ++ (map client t.clients ++ (map relay t.relays ++ map native t.natives)))
    (all_mapped (LeadsNode t) server t.servers (none t.servers))
    (all_joined (LeadsNode t) (map nat t.nats) (map client t.clients ++ (map relay t.relays ++ map native t.natives))
    (all_mapped (LeadsNode t) nat t.nats (none t.nats))
    (all_joined (LeadsNode t) (map client t.clients) (map relay t.relays ++ map native t.natives)
    (all_mapped (LeadsNode t) client t.clients (none t.clients))
    (all_joined (LeadsNode t) (map relay t.relays) (map native t.natives) (all_mapped (LeadsNode t) relay t.relays (none t.relays))
    (all_mapped (LeadsNode t) native t.natives (natives_lead t is)))))

pub relay_of_host : (t : TopologyState) (n : ℕ) (h : NativeNode) (ip : Ip6) → IsTopology t → node_at t n ≡ Some (native h) → same_ip6 ip h.six ≡ true
    → host_relay t ip ≡ Some h.relay
unfolding host_relay
relay_of_host t n h ip is there same = all_at (LeadsNode t) (nodes t) n (native h) (nodes_lead t is) there ip same

-- A HOST THAT A RELAY SERVES

served_leads : (n : ℕ) (all hs : List NativeNode) (ip : Ip6) → AllByRecursion (Leads all) hs
    → list_any (same_ip6 ip) (map six_of (filter (λ (h : NativeNode). h.relay == n) hs)) ≡ true → relay_among ip all ≡ Some n
served_leads n all [] ip leads some = absurd (false≢true some)
served_leads n all (h ∷ hs) ip leads some = by (h.relay == n) (same_ip6 ip h.six) refl refl some (served_leads n all hs ip leads.1) where
  by : (b c : Bool) → (h.relay == n) ≡ b → same_ip6 ip h.six ≡ c
      → list_any (same_ip6 ip) (map six_of (cond b (h ∷ filter (λ (x : NativeNode). x.relay == n) hs) (filter (λ (x : NativeNode). x.relay == n) hs))) ≡ true
      → (list_any (same_ip6 ip) (map six_of (filter (λ (x : NativeNode). x.relay == n) hs)) ≡ true → relay_among ip all ≡ Some n)
      → relay_among ip all ≡ Some n
  by false c e f g ih = ih g
  by true true e f g ih = leads.0 ip f ∙ ap (λ (k : ℕ). Some k) (eqb-true h.relay n e)
  by true false e f g ih = ih (ap (λ (d : Bool). d || list_any (same_ip6 ip) (map six_of (filter (λ (x : NativeNode). x.relay == n) hs))) (sym f) ∙ g)

pub relay_of_served : (t : TopologyState) (n : ℕ) (ip : Ip6) → IsTopology t → list_any (same_ip6 ip) (served t n) ≡ true → host_relay t ip ≡ Some n
unfolding host_relay
relay_of_served t n ip is some = served_leads n t.natives t.natives ip (natives_lead t is) some
