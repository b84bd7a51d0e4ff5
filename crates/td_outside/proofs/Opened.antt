-- When a link is open on two addresses.
use Rattle.td_outside.proofs.Words.{Addresses, Both, Client, Ip4, IsTrue, None, Option, Place, Some, and_from, and_parts, ap, open_on, same_ip, same_ip_decides, ◌&&◌, ◌↔◌, ◌∙◌, ◌≡◌}

same_parts : (on : Addresses) (primary secondary : Ip4) → on.primary ≡ primary → on.secondary ≡ secondary → Some (Both on) ≡ open_on primary secondary
same_parts on primary secondary e f =
    ap (λ (ip : Ip4). open_on ip on.secondary) e ∙ ap (λ (ip : Ip4). open_on primary ip) f

abbrev addresses_of : Addresses → Option Place → Addresses
addresses_of other None = other
addresses_of other (Some (Both on)) = on
addresses_of other (Some (Client at)) = other

parts_of : (on : Addresses) (primary secondary : Ip4) → Some (Both on) ≡ open_on primary secondary → (on.primary ≡ primary) × (on.secondary ≡ secondary)
parts_of on primary secondary e =
    (ap (λ (o : Option Place). (addresses_of on o).primary) e, ap (λ (o : Option Place). (addresses_of on o).secondary) e)

-- It is where both are the same.
pub on_both : (on : Addresses) (primary secondary : Ip4) → IsTrue (same_ip on.primary primary && same_ip on.secondary secondary) ↔ (Some (Both on) ≡ open_on primary secondary)
on_both on primary secondary =
    let first = same_ip_decides on.primary primary in
    let second = same_ip_decides on.secondary secondary in
    (λ both. let parts = and_parts _ _ both in same_parts on primary secondary (first.0 parts.0) (second.0 parts.1), λ e. let parts = parts_of on primary secondary e in and_from _ _ (first.1 parts.0) (second.1 parts.1))
