-- Endpoints: which are the same, and their order.
use Rattle.std.specs.Ordering.{nat_cmp, ordering_then, as_partial_cmp, eq_by_cmp}
use Rattle.std.specs.declared.cmp.Ordering.{Ordering}
use Rattle.std.specs.Cmp.{IsTotalOrder, IsPartialOrder, IsEquivalence, po, both_tied, unsigned_ties, on_total, on_equiv}
use Rattle.std.specs.Cmp.{nat_cmp_total, nat_eq_equiv, then_total, and_equiv}
use Rattle.std.proofs.Common.{ap}
use Rattle.std.specs.Prelude.{◌≡◌, ◌<◌, ◌^◌, ℕ, Bool, true, ◌==◌, ◌&&◌, refl}
use Rattle.std.specs.Bool.{Decides}
use Rattle.std.proofs.lemmas.Bool.{and_parts, and_from}
use Rattle.std.proofs.lemmas.Bool.Decides.{Decides-eqb}
use Rattle.td_base.specs.Ip4.{IsIp4, same_ip, same_ip_equiv, same_ip_decides, cmp_ip, cmp_ip_total, cmp_ip_ties}
use Rattle.td_base.specs.declared.ipv4.Ip4.{Ip4}
use Rattle.td_base.specs.declared.endpoint.Ep.{Ep}

-- an address, and a port of 16 bits: what a clause over every endpoint ranges over
abbrev pub IsEp : Ep → Type 0
IsEp ep = IsIp4 ep.ip × (ep.port < 2 ^ 16)

-- the port of Teredo servers (RFC 4380, section 2.7)
abbrev pub teredo_port : ℕ
teredo_port = 3544

-- a server's endpoint at an address
abbrev pub server_ep : Ip4 → Ep
server_ep ip = record { ip = ip; port = teredo_port }

-- the endpoints are the same
unfoldable pub same_ep : Ep → Ep → Bool
same_ep a b = same_ip a.ip b.ip && (a.port == b.port)

-- sameness of endpoints is an equivalence
pub same_ep_equiv : IsEquivalence same_ep
unfolding same_ep
same_ep_equiv = and_equiv (on_equiv (λ (a : Ep). a.ip) same_ip_equiv) (on_equiv (λ (a : Ep). a.port) nat_eq_equiv)

-- the endpoint of an address and a port
unfoldable pub ep : Ip4 → ℕ → Ep
ep ip port = record { ip = ip; port = port }

alike : (x y : Ip4) (p q : ℕ) → x ≡ y → p ≡ q → ep x p ≡ ep y q
alike x y p q e f = cc

same_parts : (a b : Ep) → a.ip ≡ b.ip → a.port ≡ b.port → a ≡ b
unfolding ep
same_parts a b e f = alike a.ip b.ip a.port b.port e f

-- the test of sameness decides equality of endpoints
pub same_ep_decides : (a b : Ep) → Decides (same_ep a b) (a ≡ b)
unfolding same_ep
same_ep_decides a b =
    let ip = same_ip_decides a.ip b.ip in
    let port = Decides-eqb a.port b.port in (
      λ t. let both = and_parts _ _ t in same_parts a b (ip.0 both.0) (port.0 both.1),
      λ e. and_from _ _ (ip.1 (ap (λ (x : Ep). x.ip) e)) (port.1 (ap (λ (x : Ep). x.port) e)),
    )

-- an endpoint is the same as itself
pub same_ep-self : (a : Ep) → same_ep a a ≡ true
same_ep-self a = (same_ep_decides a a).1 refl

-- endpoints that are the same are equal
pub same_ep-true : (a b : Ep) → same_ep a b ≡ true → a ≡ b
same_ep-true a b = (same_ep_decides a b).0

-- by address, and then by port
unfoldable pub cmp_ep : Ep → Ep → Ordering
cmp_ep a b = ordering_then (cmp_ip a.ip b.ip) (nat_cmp a.port b.port)

-- the order of endpoints is total
pub cmp_ep_total : IsTotalOrder cmp_ep
unfolding cmp_ep
cmp_ep_total = then_total (on_total (λ (a : Ep). a.ip) cmp_ip_total) (on_total (λ (a : Ep). a.port) nat_cmp_total)

-- endpoints are the same exactly where the order makes no difference between them
pub cmp_ep_ties : (a b : Ep) → same_ep a b ≡ eq_by_cmp cmp_ep a b
unfolding cmp_ep same_ep
cmp_ep_ties a b = both_tied (same_ip a.ip b.ip) (a.port == b.port) (cmp_ip a.ip b.ip) (nat_cmp a.port b.port)
    (cmp_ip_ties a.ip b.ip) (unsigned_ties a.port b.port)

-- the order of endpoints agrees with their sameness
pub cmp_ep_po : IsPartialOrder same_ep (as_partial_cmp cmp_ep)
cmp_ep_po = po cmp_ep_total cmp_ep_ties
