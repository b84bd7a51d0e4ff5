-- What is on its way on the IPv6 side is for a relay that is there, or for none.
use Rattle.legal.proofs.Words.{Bool, Full, IfSome, IsNativeNode, IsTopology, Item, Lab, List, MadeBy, NamesRelay, NativeNode, None, Some, TopologyState, by_client, by_native, by_relay, by_server, cond, each_node, false, fields_in, from_nowhere, is_some, is_teredo, native, relay_at, relay_for, subst, sym, to_six, true, ℕ, ◌≡◌}

-- a native's relay is there
relay_there : (t : TopologyState) (h : NativeNode) (x : List ℕ) → IsNativeNode t h → IfSome (relay_for h x) (λ (n : ℕ). is_some (relay_at t n) ≡ true)
relay_there t h x keeps = by (is_teredo (fields_in x).dst) where
  by : (b : Bool) → IfSome (cond b (Some h.relay) None) (λ (n : ℕ). is_some (relay_at t n) ≡ true)
  by true = keeps.through
  by false = tt

pub names_relay : (lab : Lab) (H : List Full) (r : Full) (x : Item) → IsTopology lab.topology → MadeBy lab H r x → NamesRelay lab.topology x
names_relay lab H r x is (from_nowhere src dst bytes forged same) = subst (NamesRelay lab.topology) (sym same) tt
names_relay lab H r x is (by_server n a e s act c same) = subst (NamesRelay lab.topology) (sym same) tt
names_relay lab H r x is (by_relay n a e s act c same) = subst (NamesRelay lab.topology) (sym same) tt
names_relay lab H r x is (by_client n c e s src act held leaves same) = subst (NamesRelay lab.topology) (sym same) tt
names_relay lab H r x is (by_native n h e bytes act p same) =
    let keeps : IsNativeNode lab.topology h = each_node lab.topology n (native h) is act.there in
    subst (NamesRelay lab.topology) (sym same) (relay_there lab.topology h bytes keeps)
names_relay lab H r x is (to_six n a e from bytes span act i p same) = subst (NamesRelay lab.topology) (sym same) tt
