-- There is no word on a node without a host.
use Rattle.reach_query.proofs.Words.{ClientNode, Full, Lab, List, NativeNode, Node, None, Option, Some, client, false, false≢true, has_host, nat, native, node_at, reach_between, reach_of, refl, relay, server, sym, ℕ, ◌≡◌}

-- where the sender has no host there is no word
no_sender : (lab : Lab) (H : List Full) (n m : ℕ) (o p : Option Node) → has_host o ≡ false → reach_between lab H n m o p ≡ None
no_sender lab H n m None p e = refl
no_sender lab H n m (Some (server x)) p e = refl
no_sender lab H n m (Some (nat x)) p e = refl
no_sender lab H n m (Some (client x)) p e = absurd (false≢true (sym e))
no_sender lab H n m (Some (relay x)) p e = refl
no_sender lab H n m (Some (native x)) p e = absurd (false≢true (sym e))

of_client : (lab : Lab) (H : List Full) (n m : ℕ) (c : ClientNode) (p : Option Node) → has_host p ≡ false → reach_between lab H n m (Some (client c)) p ≡ None
of_client lab H n m c None e = refl
of_client lab H n m c (Some (server x)) e = refl
of_client lab H n m c (Some (nat x)) e = refl
of_client lab H n m c (Some (client x)) e = absurd (false≢true (sym e))
of_client lab H n m c (Some (relay x)) e = refl
of_client lab H n m c (Some (native x)) e = absurd (false≢true (sym e))

of_native : (lab : Lab) (H : List Full) (n m : ℕ) (h : NativeNode) (p : Option Node) → has_host p ≡ false → reach_between lab H n m (Some (native h)) p ≡ None
of_native lab H n m h None e = refl
of_native lab H n m h (Some (server x)) e = refl
of_native lab H n m h (Some (nat x)) e = refl
of_native lab H n m h (Some (client x)) e = absurd (false≢true (sym e))
of_native lab H n m h (Some (relay x)) e = refl
of_native lab H n m h (Some (native x)) e = absurd (false≢true (sym e))

-- nor where the receiver has none
no_receiver : (lab : Lab) (H : List Full) (n m : ℕ) (o p : Option Node) → has_host p ≡ false → reach_between lab H n m o p ≡ None
no_receiver lab H n m None p e = refl
no_receiver lab H n m (Some (server x)) p e = refl
no_receiver lab H n m (Some (nat x)) p e = refl
no_receiver lab H n m (Some (client x)) p e = of_client lab H n m x p e
no_receiver lab H n m (Some (relay x)) p e = refl
no_receiver lab H n m (Some (native x)) p e = of_native lab H n m x p e

pub from_nobody : (lab : Lab) (H : List Full) (n m : ℕ) → has_host (node_at lab.topology n) ≡ false → reach_of lab H n m ≡ None
unfolding reach_of
from_nobody lab H n m e = no_sender lab H n m (node_at lab.topology n) (node_at lab.topology m) e

pub to_nobody : (lab : Lab) (H : List Full) (n m : ℕ) → has_host (node_at lab.topology m) ≡ false → reach_of lab H n m ≡ None
unfolding reach_of
to_nobody lab H n m e = no_receiver lab H n m (node_at lab.topology n) (node_at lab.topology m) e
