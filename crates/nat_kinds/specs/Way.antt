-- What a NAT finds mappings and permissions by: an inside endpoint, and another endpoint.
use Rattle.std.specs.Cmp.{IsEquivalence, and_equiv, on_equiv}
use Rattle.std.specs.Prelude.{◌≡◌, ℕ, ◌+◌, ◌*◌, Bool, true, ◌&&◌, List, ◌++◌, refl}
use Rattle.std.specs.Bool.{Decides}
use Rattle.std.specs.Hash as fed
use Rattle.std.proofs.Common.{ap}
use Rattle.std.proofs.lemmas.Bool.{and_parts, and_from}
use Rattle.td_base.specs.Bytes.{number_at}
use Rattle.td_base.specs.Ep.{same_ep, same_ep_equiv, same_ep_decides}
use Rattle.td_base.specs.declared.endpoint.Ep.{Ep}
use Rattle.nat_kinds.specs.declared.kind.NatKind.{NatKind}
use Rattle.nat_kinds.specs.declared.kind.NatKind.TheVariants.{Cone, Restricted, Port, Symmetric}
use Rattle.nat_kinds.specs.declared.way.Way.{Way}

-- both endpoints are the same
unfoldable pub same_way : Way → Way → Bool
same_way a b = same_ep a.inside b.inside && same_ep a.other b.other

-- sameness of ways is an equivalence
pub same_way_equiv : IsEquivalence same_way
unfolding same_way
same_way_equiv = and_equiv (on_equiv (λ (a : Way). a.inside) same_ep_equiv) (on_equiv (λ (a : Way). a.other) same_ep_equiv)

-- the way from an inside endpoint to another endpoint
unfoldable pub way : Ep → Ep → Way
way inside other = record { inside = inside; other = other }

alike : (x y p q : Ep) → x ≡ y → p ≡ q → way x p ≡ way y q
alike x y p q e f = cc

-- ways with the same ends are equal
pub same_parts : (a b : Way) → a.inside ≡ b.inside → a.other ≡ b.other → a ≡ b
unfolding way
same_parts a b e f = alike a.inside b.inside a.other b.other e f

-- the test of sameness decides equality of ways
pub same_way_decides : (a b : Way) → Decides (same_way a b) (a ≡ b)
unfolding same_way
same_way_decides a b =
    let inside = same_ep_decides a.inside b.inside in
    let other = same_ep_decides a.other b.other in (
      λ t. let both = and_parts _ _ t in same_parts a b (inside.0 both.0) (other.0 both.1),
      λ e. and_from _ _ (inside.1 (ap (λ (x : Way). x.inside) e)) (other.1 (ap (λ (x : Way). x.other) e)),
    )

-- ways that are the same are equal
pub same_way-true : (a b : Way) → same_way a b ≡ true → a ≡ b
same_way-true a b = (same_way_decides a b).0

-- a way is the same as itself
pub same_way-self : (a : Way) → same_way a a ≡ true
same_way-self a = (same_way_decides a a).1 refl

-- an endpoint as one number, for hashes
unfoldable pub endpoint_number : Ep → ℕ
endpoint_number ep = number_at 0 4 ep.ip.0 * 65536 + ep.port

-- what a hash is fed of a way
abbrev pub fed_way : Way → List (List ℕ)
fed_way w = fed.u64 (endpoint_number w.inside) ++ fed.u64 (endpoint_number w.other)

-- the same is fed of ways that are the same
pub same_fed : (a b : Way) → same_way a b ≡ true → fed_way a ≡ fed_way b
same_fed a b t = ap fed_way (same_way-true a b t)

-- the key of a datagram: its destination stands in it for a symmetric NAT alone
abbrev pub key_way : NatKind → Ep → Ep → Way
key_way Cone inside dst = record { inside = inside; other = inside }
key_way Restricted inside dst = record { inside = inside; other = inside }
key_way Port inside dst = record { inside = inside; other = inside }
key_way Symmetric inside dst = record { inside = inside; other = dst }

-- what an inside endpoint asked, as far as the kind looks: the address for a restricted NAT, else the endpoint
abbrev pub asked_way : NatKind → Ep → Ep → Way
asked_way Cone inside dst = record { inside = inside; other = dst }
asked_way Restricted inside dst = record { inside = inside; other = record { ip = dst.ip; port = 0 } }
asked_way Port inside dst = record { inside = inside; other = dst }
asked_way Symmetric inside dst = record { inside = inside; other = dst }
