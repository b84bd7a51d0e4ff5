-- What leaves a node through a NAT leaves through one that is there.
use Rattle.world.proofs.Words.{Err, HasItsNat, IsTopology, Node, None, Ok, OnOk, Option, Outlet, Result, Some, TopologyState, as_nat, client, false≢true, is_nat, is_some, nat, native, node_at, option_and_then, outlet_of, refl, relay, rows_keep_rules, server, subst, sym, true, ℕ, ◌≡◌}

-- a node whose row is a NAT's is one
is_one : (o : Option Node) → is_some (option_and_then as_nat o) ≡ true → is_nat o ≡ true
is_one None e = absurd (false≢true e)
is_one (Some (server a)) e = absurd (false≢true e)
is_one (Some (nat a)) e = refl
is_one (Some (client a)) e = absurd (false≢true e)
is_one (Some (relay a)) e = absurd (false≢true e)
is_one (Some (native a)) e = absurd (false≢true e)

-- the NAT of a client is there
of_row : (t : TopologyState) (n : ℕ) (a : Node) → IsTopology t → node_at t n ≡ Some a → HasItsNat (outlet_of a) t
of_row t n (client c) rules there = is_one (node_at t c.nat) (rows_keep_rules t n c rules there).behind
of_row t n (server a) rules there = tt
of_row t n (nat a) rules there = tt
of_row t n (relay a) rules there = tt
of_row t n (native a) rules there = tt

pub has_its_nat : (t : TopologyState) (n : ℕ) (a : Node) (outlet : Outlet) → IsTopology t → node_at t n ≡ Some a → outlet ≡ outlet_of a → HasItsNat outlet t
has_its_nat t n a outlet rules there e = subst (λ (o : Outlet). HasItsNat o t) (sym e) (of_row t n a rules there)

pub on_ok_always : {T E P : Type 0} (r : Result T E) → P → OnOk r P
on_ok_always (Ok x) p = p
on_ok_always (Err e) p = tt
