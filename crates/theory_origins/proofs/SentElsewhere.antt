-- No NAT sends a datagram to its own address.
use Rattle.theory_origins.proofs.Words.{Bool, EachGoesElsewhere, Ep, Err, Full, GoesElsewhere, Hairpin, Ip4, IsTopology, Item, Lab, List, MadeBy, NatEntry, NatNode, NatRefusal, NatSettings, Node, Ok, Passing, Result, [], after_passing, all_joined, all_map, and_parts, answered, ap, are_honest, by_client, by_native, by_relay, by_server, cond, crossing, false, false≢true, from_nowhere, has_address, is_honest_event, items_are_made, items_of, live_after, live_port, nat, nat_answer, nat_pasts, nat_set_up, nats_from, outer_in, own_ep, passing, port_for, refl, relay, same_ip, same_ip-self, server, subst, sym, taken, to_six, true, wire, ℕ, ◌||◌, ◌∙◌, ◌∷◌, ◌≡◌}
use Rattle.theory_origins.proofs.SentFrom.{untaken, server_has, one_has, same_node, ip_or, is_ep, Outward, leaving}

-- a NAT that answers with a port was asked about another address
goes_out : (s : NatSettings) (h : List NatEntry) (n : ℕ) (inside dst : Ep) (port : ℕ) → nat_answer s h n inside dst ≡ Ok port → dst.ip ≡ s.external → ⊥
goes_out s h n inside dst port is same = by (same_ip dst.ip s.external) (subst (λ (ip : Ip4). same_ip dst.ip ip ≡ true) same (same_ip-self dst.ip)) is where
  by : (b : Bool) → b ≡ true → cond b (Err Hairpin) (port_for (live_port s.kind inside dst (live_after s h n)) (live_after s h n)) ≡ Ok port → ⊥
  by true e f = false≢true (ap is_port f) where
    is_port : Result ℕ NatRefusal → Bool
    is_port (Ok p) = true
    is_port (Err why) = false
  by false e f = false≢true e

-- so what leaves a way goes elsewhere than where it leaves from
pub leaves_elsewhere : (o : Outward) (k : ℕ) (way : List ℕ) (from : Ep) (passed : List Passing) (e : Ep) → leaving o (k ∷ way) from passed ≡ Ok e
    → o.to.ip ≡ e.ip → ⊥
leaves_elsewhere o k [] from passed e is same = by (nat_answer (nat_set_up o.rows k) (after_passing passed o.pasts k) o.moment from o.to) refl is where
  by : (r : Result ℕ NatRefusal) → nat_answer (nat_set_up o.rows k) (after_passing passed o.pasts k) o.moment from o.to ≡ r
      → (answered o.rows o.moment k from o.to passed (crossing o.rows o.pasts o.moment o.to []) r).leaves ≡ Ok e → ⊥
  by (Ok port) f g = goes_out (nat_set_up o.rows k) (after_passing passed o.pasts k) o.moment from o.to port f (same ∙ sym (ap (ip_or e.ip) g))
  by (Err why) f g = false≢true (ap is_ep g)
leaves_elsewhere o k (j ∷ way) from passed e is same = by (nat_answer (nat_set_up o.rows k) (after_passing passed o.pasts k) o.moment from o.to) is
    (λ (f : Ep) (ps : List Passing). λ g. leaves_elsewhere o j way f ps e g same) where
      by : (r : Result ℕ NatRefusal) → (answered o.rows o.moment k from o.to passed (crossing o.rows o.pasts o.moment o.to (j ∷ way)) r).leaves ≡ Ok e
          → ((f : Ep) (ps : List Passing) → leaving o (j ∷ way) f ps ≡ Ok e → ⊥) → ⊥
      by (Ok port) g ih = ih (record { ip = (nat_set_up o.rows k).external; port = port }) (passing k o.moment from o.to port ∷ passed) g
      by (Err why) g ih = false≢true (ap is_ep g)

-- a NAT has its address
pub at_nat : (ip : Ip4) (a : NatNode) → ip ≡ a.external → has_address ip (nat a) ≡ true
at_nat ip a same = subst (λ (x : Ip4). has_address ip (nat a) ≡ true) same (subst (λ (x : Ip4). (same_ip ip x || false) ≡ true) same (one_has ip))

-- the node is a NAT
abbrev is_nat : Node → Bool
is_nat (nat a) = true
is_nat _ = false

-- so each datagram from the address of a NAT goes elsewhere
elsewhere : (lab : Lab) (H : List Full) (r : Full) (x : Item) → IsTopology lab.topology → is_honest_event lab.topology r.asked ≡ true
    → MadeBy lab H r x → GoesElsewhere lab x
elsewhere lab H r x is honest (from_nowhere src dst bytes forged e) = subst (GoesElsewhere lab) (sym e) (λ k a at same to.
    false≢true (sym (untaken lab.topology H src dst bytes r.asked forged honest) ∙ taken lab.topology k (nat a) src.ip at (at_nat src.ip a same)))
elsewhere lab H r x is honest (by_server n b e s act c same) = subst (GoesElsewhere lab) (sym same) (λ k a at from to.
    false≢true (ap is_nat (same_node lab.topology n k (own_ep (server b) s.side).ip is
    (record { node = server b; at = act.there; has = server_has b s.side })
    (record { node = nat a; at = at; has = at_nat (own_ep (server b) s.side).ip a from })).1))
elsewhere lab H r x is honest (by_relay n b e s act c same) = subst (GoesElsewhere lab) (sym same) (λ k a at from to.
    false≢true (ap is_nat (same_node lab.topology n k b.at.ip is
    (record { node = relay b; at = act.there; has = one_has b.at.ip }) (record { node = nat a; at = at; has = at_nat b.at.ip a from })).1))
elsewhere lab H r x is honest (by_client n c e s src act held leaves same) = subst (GoesElsewhere lab) (sym same) (λ k a at from to.
    leaves_elsewhere (record { rows = lab.topology; pasts = nat_pasts lab H; moment = r.moment; to = s.to }) c.nat
    (nats_from lab.chain lab.chain (outer_in lab.chain c.nat)) c.inside leaves.before src leaves.leaves (to ∙ sym from))
elsewhere lab H r x is honest (by_native n h e bytes act p same) = subst (GoesElsewhere lab) (sym same) tt
elsewhere lab H r x is honest (to_six n a e from bytes span act i p same) = subst (GoesElsewhere lab) (sym same) tt

-- of a history
pub each_goes_elsewhere : EachGoesElsewhere
each_goes_elsewhere lab [] is g honest = tt
each_goes_elsewhere lab (r ∷ H) is g honest =
    let both = and_parts (is_honest_event lab.topology r.asked) (are_honest lab.topology H) honest in
    all_joined (GoesElsewhere lab) (wire H) (items_of r) (each_goes_elsewhere lab H is g.1 both.1)
    (all_map (MadeBy lab H r) (GoesElsewhere lab) (items_of r) (λ x m. elsewhere lab H r x is both.0 m) (items_are_made lab H r g))
