-- Who speaks for a client's server.
use Rattle.theory_origins.proofs.Words.{Bool, ClientNode, Cone, Ep, Event, Forges, Full, HasServer, HonestIsForEach, Ip4, IsServerNode, IsTopology, Lab, List, OffLine, Phase, Qualification, Qualified, Restricted, Symmetric, TopologyState, [], and_from, and_parts, ap, are_honest, are_honest_for, client_is_there, client_settings, copied, each_node, expected, expected_in, false, false≢true, has_address, is_cone, is_honest_event, is_honest_event_for, is_its_server, is_taken, not, not-true, or_right, refl, same_ep, same_ep-self, same_ep-true, same_ip, same_ip-self, server, server_ep, strange, subst, sym, taken, true, ℕ, ◌||◌, ◌∙◌, ◌∷◌, ◌≡◌}
use Rattle.qualify.specs.declared.phase.Phase.TheVariants.{Secondary}
use Rattle.events.specs.declared.event.Event.TheVariants as event

-- a forged source isn't its server's
pub not_its : (t : TopologyState) (c : ClientNode) (H : List Full) {src dst : Ep} {bytes : List ℕ} {e : Event} → Forges H src dst bytes e
    → is_honest_event_for t c e ≡ true → is_its_server t c src ≡ false
not_its t c H {src} strange h = not-true (is_its_server t c src) h
not_its t c H {src} (copied number x at is) h = not-true (is_its_server t c src) h

-- the server has the addresses of these
pub its_has : (t : TopologyState) (c : ClientNode) (src : Ep) (b : HasServer t c) → is_its_server t c src ≡ true
    → has_address src.ip (server b.row) ≡ true
its_has t c src b its = by (same_ep src (server_ep (client_settings t c).primary)) refl its where
  by : (x : Bool) → same_ep src (server_ep (client_settings t c).primary) ≡ x → (x || same_ep src (server_ep (client_settings t c).secondary)) ≡ true
      → has_address src.ip (server b.row) ≡ true
  by true e h = subst (λ (ip : Ip4). has_address ip (server b.row) ≡ true)
      (sym (ap (λ (x : Ep). x.ip) (same_ep-true src (server_ep (client_settings t c).primary) e) ∙ b.primary)) b.has_primary
  by false e h = subst (λ (ip : Ip4). has_address ip (server b.row) ≡ true)
      (sym (ap (λ (x : Ep). x.ip) (same_ep-true src (server_ep (client_settings t c).secondary) h) ∙ b.secondary)) b.has_secondary

-- its two addresses are apart
pub two_addresses : (lab : Lab) (c : ClientNode) → IsTopology lab.topology → HasServer lab.topology c
    → (client_settings lab.topology c).primary ≡ (client_settings lab.topology c).secondary → ⊥
two_addresses lab c is b same =
    let keeps : IsServerNode b.row = each_node lab.topology c.server (server b.row) is b.there in
    false≢true (sym keeps.apart ∙ ap (same_ip b.row.primary) (sym b.secondary ∙ sym same ∙ b.primary) ∙ same_ip-self b.row.primary)

-- WHERE A CLIENT EXPECTS ITS ANSWERS FROM

-- the first
first : (t : TopologyState) (c : ClientNode) → is_its_server t c (server_ep (client_settings t c).primary) ≡ true
first t c = ap (λ (b : Bool). b || same_ep (server_ep (client_settings t c).primary) (server_ep (client_settings t c).secondary))
    (same_ep-self (server_ep (client_settings t c).primary))

-- the second
second : (t : TopologyState) (c : ClientNode) → is_its_server t c (server_ep (client_settings t c).secondary) ≡ true
second t c = or_right (same_ep (server_ep (client_settings t c).secondary) (server_ep (client_settings t c).primary))
    (same_ep (server_ep (client_settings t c).secondary) (server_ep (client_settings t c).secondary))
    (same_ep-self (server_ep (client_settings t c).secondary))

-- in each phase it is one of the two
expected_is_its : (t : TopologyState) (c : ClientNode) (phase : Phase) (cone : Bool) → is_its_server t c (expected_in (client_settings t c) phase cone) ≡ true
expected_is_its t c Cone cone = second t c
expected_is_its t c Restricted cone = first t c
expected_is_its t c Secondary cone = second t c
expected_is_its t c Qualified true = second t c
expected_is_its t c Qualified false = first t c
expected_is_its t c Symmetric cone = first t c
expected_is_its t c OffLine cone = first t c

-- so is what comes from where it is expected
pub from_its : (t : TopologyState) (c : ClientNode) (q : Qualification) (from : Ep) → from ≡ expected (client_settings t c) q → is_its_server t c from ≡ true
unfolding expected
from_its t c q from same = subst (λ (e : Ep). is_its_server t c e ≡ true) (sym same) (expected_is_its t c q.phase (is_cone q))

-- WHAT IS HONEST IS SO FOR EACH CLIENT

module _ (t : TopologyState) (c : ClientNode) (b : HasServer t c) where
  -- no node's address is no address of the server
  of_source : (src : Ep) → not (is_taken t src.ip) ≡ true → not (is_its_server t c src) ≡ true
  of_source src h = by (is_its_server t c src) refl where
    by : (x : Bool) → is_its_server t c src ≡ x → not x ≡ true
    by false e = refl
    by true e = absurd (false≢true (sym (not-true (is_taken t src.ip) h) ∙ taken t c.server (server b.row) src.ip b.there (its_has t c src b e)))

  -- an event
  of_event : (e : Event) → is_honest_event t e ≡ true → is_honest_event_for t c e ≡ true
  of_event (event.Stranger src dst bytes) h = of_source src h
  of_event (event.Copy number src dst) h = of_source src h
  of_event _ h = refl

  -- and the events of a history
  of_all : (H : List Full) → are_honest t H ≡ true → are_honest_for t c H ≡ true
  of_all [] h = refl
  of_all (r ∷ H) h = let both = and_parts (is_honest_event t r.asked) (are_honest t H) h in
      and_from (is_honest_event_for t c r.asked) (are_honest_for t c H) (of_event r.asked both.0) (of_all H both.1)

-- for each client
pub honest_is_for_each : HonestIsForEach
honest_is_for_each t n c H is at = of_all t c (client_is_there.server_of t n c is (client_is_there.node t n c at)) H
