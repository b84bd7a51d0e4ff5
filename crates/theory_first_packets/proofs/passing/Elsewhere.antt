-- A client's endpoint and another one's server: nodes of different kinds share no address, nor do two outermost NATs.
use Rattle.theory_first_packets.proofs.Words.{Ep, Ip4, Ip6, IsTopology, Lab, NatNode, Some, addresses_are_apart, ap, embedded, false, false_from_ne_true, false≢true, has_address, inl, inr, is_from_server, is_inner, nat, nat_of, nats_of, node_at, or_from, outermost, primary_has, refl, same_ep, same_ep-true, same_ip, same_ip-self, same_ip-true, same_ip6, same_ip6-true, secondary_has, server, server_ep, server_in, subst, sym, true, ℕ, ◌∙◌, ◌≡◌, ◌≢◌}
use Rattle.theory_first_packets.proofs.tables.Lists.{each_so, each_pair}
use Rattle.theory_first_packets.proofs.passing.Addresses.{other_kind, nat_has}
use Rattle.theory_first_packets.proofs.passing.OnWay.{IsOnWay, IsLastOrInner}
use Rattle.theory_first_packets.proofs.passing.Sent.{IsElsewhere}
use Rattle.theory_first_packets.proofs.passing.Ends.{IsEnd}
use Rattle.theory_first_packets.proofs.passing.Sides.{Side, setup}

-- what comes from neither address of a client's server isn't from the server
pub from_no_server : (lab : Lab) (a : Side) (an : IsEnd lab a.n a.c a.own) (from : Ep) → same_ip from.ip an.server_row.primary ≡ false
    → same_ip from.ip an.server_row.secondary ≡ false → is_from_server (setup lab a) from ≡ false
unfolding is_from_server
from_no_server lab a an from first second =
    or_from (same_ep from (server_ep (setup lab a).primary)) (same_ep from (server_ep (setup lab a).secondary))
    (false_from_ne_true (same_ep from (server_ep (setup lab a).primary)) (λ h.
    false≢true (sym first ∙ ap (λ (z : Ip4). same_ip z an.server_row.primary)
    (ap (λ (e : Ep). e.ip) (same_ep-true from (server_ep (setup lab a).primary) h) ∙ an.primary) ∙ same_ip-self an.server_row.primary)))
    (false_from_ne_true (same_ep from (server_ep (setup lab a).secondary)) (λ h.
    false≢true (sym second ∙ ap (λ (z : Ip4). same_ip z an.server_row.secondary)
    (ap (λ (e : Ep). e.ip) (same_ep-true from (server_ep (setup lab a).secondary) h) ∙ an.secondary) ∙ same_ip-self an.server_row.secondary)))

-- two clients whose ways out end in the Internet
pub record TwoEnds : Type 0 where
  pub lab : Lab
  pub is : IsTopology lab.topology
  pub a : Side
  pub b : Side
  pub an : IsEnd lab a.n a.c a.own
  pub bn : IsEnd lab b.n b.c b.own

-- two clients
module _ (ends : TwoEnds) where
  open ends use {lab, is, a, b, an, bn}

  -- no NAT has a server's address
  no_nat_there : {ip : Ip4} → has_address ip (server an.server_row) ≡ true → (k : ℕ) {row : NatNode} → node_at lab.topology k ≡ Some (nat row)
      → row.external ≡ ip → ⊥
  no_nat_there {ip} has k {row} at same = other_kind lab.topology ip is
      (record { number = a.c.server; node = server an.server_row; at = an.server_is; has = has })
      (record { number = k; node = nat row; at = at; has = subst (λ (z : Ip4). has_address z (nat row) ≡ true) same (nat_has row) }) refl refl

  not_server : {ip : Ip4} → has_address ip (server an.server_row) ≡ true → (embedded b.own).ip ≡ ip → ⊥
  not_server {ip} has same = no_nat_there has (outermost lab b.c) bn.nat_is (sym bn.external ∙ same)

  -- b's endpoint is none of a's server
  pub no_server_address : same_ip (embedded b.own).ip an.server_row.primary ≡ false
  no_server_address = false_from_ne_true (same_ip (embedded b.own).ip an.server_row.primary)
      (λ h. not_server (primary_has an.server_row) (same_ip-true (embedded b.own).ip an.server_row.primary h))

  pub no_server_second : same_ip (embedded b.own).ip an.server_row.secondary ≡ false
  no_server_second = false_from_ne_true (same_ip (embedded b.own).ip an.server_row.secondary)
      (λ h. not_server (secondary_has an.server_row) (same_ip-true (embedded b.own).ip an.server_row.secondary h))

  pub no_server : is_from_server (setup lab a) (embedded b.own) ≡ false
  no_server = from_no_server lab a an (embedded b.own) no_server_address no_server_second

  -- the server that a's address tells isn't at a NAT of b's way
  pub server_elsewhere : IsElsewhere lab (server_in a.own) (nats_of lab b.c)
  server_elsewhere = each_so (λ k (on : IsOnWay lab k). false_from_ne_true (same_ip (server_in a.own) (nat_of lab k).external) (λ h.
      no_nat_there (primary_has an.server_row) k on.at
      (sym on.external ∙ sym (same_ip-true (server_in a.own) (nat_of lab k).external h) ∙ an.address.of.server_is ∙ an.primary)))
      (nats_of lab b.c) bn.nats

  -- clients whose outermost NATs differ
  module _ (differ : outermost lab a.c ≢ outermost lab b.c) where
    -- a NAT with the address that b's has embedded is b's outermost one
    is_its : (k : ℕ) {row : NatNode} → node_at lab.topology k ≡ Some (nat row) → (embedded b.own).ip ≡ row.external → k ≡ outermost lab b.c
    is_its k {row} at same = addresses_are_apart lab.topology k (outermost lab b.c) (nat row) (nat bn.nat_row) row.external is at bn.nat_is (nat_has row)
        (subst (λ (z : Ip4). has_address z (nat bn.nat_row) ≡ true) (sym bn.external ∙ same) (nat_has bn.nat_row))

    not_one : (embedded a.own).ip ≡ (embedded b.own).ip → ⊥
    not_one same = differ (is_its (outermost lab a.c) an.nat_is (sym same ∙ an.external))

    pub others : same_ip6 b.own a.own ≡ false
    others = false_from_ne_true (same_ip6 b.own a.own) (λ h. not_one (ap (λ (z : Ip6). (embedded z).ip) (sym (same_ip6-true b.own a.own h))))

    -- and on no other way
    not_there : {k : ℕ} → IsLastOrInner lab (outermost lab a.c) k → k ≡ outermost lab b.c → ⊥
    not_there (inl last) same = differ (sym last ∙ same)
    not_there (inr inner) same = false≢true (sym bn.outside ∙ ap (λ (j : ℕ). is_inner lab.chain j) (sym same) ∙ inner)

    -- b's endpoint isn't at a NAT of a's way
    pub elsewhere : IsElsewhere lab (embedded b.own).ip (nats_of lab a.c)
    elsewhere = each_pair (λ k (on : IsOnWay lab k) (place : IsLastOrInner lab (outermost lab a.c) k).
        false_from_ne_true (same_ip (embedded b.own).ip (nat_of lab k).external) (λ h.
        not_there place (is_its k on.at (same_ip-true (embedded b.own).ip (nat_of lab k).external h ∙ on.external))))
        (nats_of lab a.c) an.nats an.places
