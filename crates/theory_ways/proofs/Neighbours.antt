-- Clients with one outermost NAT never hear each other.
use Rattle.theory_ways.proofs.Words.{Ep, GoesElsewhere, NeighboursAreUnheard, address_there, all_at, ap, goes_elsewhere, is_brought, nat_of, now, outermost, sym, udp, wire, ℕ, ◌∙◌, ◌≡◌}
use Rattle.theory_ways.proofs.chains.Climbs.{is_outermost}

pub neighbours_are_unheard : NeighboursAreUnheard
neighbours_are_unheard lab H r is chained g honest n c x hands teredo same =
    let b = is_brought lab H r n c x g hands in
    let in_ = b.let_in in
    let one : GoesElsewhere lab (udp b.src b.dst b.bytes) = all_at (GoesElsewhere lab) (wire H) b.number (udp b.src b.dst b.bytes)
    (goes_elsewhere lab H is g.1 honest) b.datagram in
    let outer : outermost lab c ≡ in_.outer = is_outermost lab H (now H) b.src b.dst c chained in_ in
    let from : b.src.ip ≡ in_.row.external = ap (λ (e : Ep). e.ip) (b.embeds teredo) ∙ same ∙ ap (λ (k : ℕ). (nat_of lab k).external) outer
    ∙ sym (address_there lab.topology in_.outer in_.row in_.there) in
    one in_.outer in_.row in_.there from in_.external
