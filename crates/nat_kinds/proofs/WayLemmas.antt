-- What two datagrams asked is the same way where the kind's test says so.
use Rattle.nat_kinds.proofs.Words.{Bool, Cone, Ep, NatKind, Outward, Port, Restricted, Symmetric, ap, asked_way, false, refl, same_ep, same_ip, same_way, true, ◌&&◌, ◌∙◌, ◌≡◌}

abbrev pub asked_test : NatKind → Outward → Ep → Ep → Bool
asked_test Cone e inside src = same_ep e.inside inside && same_ep e.dst src
asked_test Restricted e inside src = same_ep e.inside inside && same_ip e.dst.ip src.ip
asked_test Port e inside src = same_ep e.inside inside && same_ep e.dst src
asked_test Symmetric e inside src = same_ep e.inside inside && same_ep e.dst src

and_true : (b : Bool) → (b && true) ≡ b
and_true true = refl
and_true false = refl

pub asked_port : (a b c d : Ep) → same_way (record { inside = a; other = c }) (record { inside = b; other = d }) ≡ (same_ep a b && same_ep c d)
unfolding same_way
asked_port a b c d = refl

ip_alone : (a b : Ep) → same_ep (record { ip = a.ip; port = 0 }) (record { ip = b.ip; port = 0 }) ≡ same_ip a.ip b.ip
unfolding same_ep
ip_alone a b = and_true (same_ip a.ip b.ip)

asked_restricted : (e : Outward) (inside src : Ep) → same_way (asked_way Restricted e.inside e.dst) (asked_way Restricted inside src) ≡ (same_ep e.inside inside && same_ip e.dst.ip src.ip)
asked_restricted e inside src = asked_port e.inside inside _ _ ∙ ap (λ b. same_ep e.inside inside && b) (ip_alone e.dst src)

-- of a kind that looks at it
pub asked_same : (kind : NatKind) (e : Outward) (inside src : Ep) → same_way (asked_way kind e.inside e.dst) (asked_way kind inside src) ≡ asked_test kind e inside src
asked_same Cone e inside src = asked_port e.inside inside e.dst src
asked_same Restricted e inside src = asked_restricted e inside src
asked_same Port e inside src = asked_port e.inside inside e.dst src
asked_same Symmetric e inside src = asked_port e.inside inside e.dst src
