-- The packet of an entry is that of its input.
use Rattle.theory_loads.proofs.Words.{Bool, Ep, Full, IfSome, Input, Lab, List, Node, None, Option, Some, arrived, client, client_in, client_out, client_tick, entry_of, false, from_six, given, if◌then◌else◌, is_packet, nat, native, packet_given, packet_in, refl, relay, relay_in, relay_six, relay_tick, server, ticked, true, ℕ, ◌≡◌}
use Rattle.theory_loads.proofs.Given.{packet_in_input}

itself : (o : Option (List ℕ)) → IfSome o (λ (y : List ℕ). o ≡ Some y)
itself None = tt
itself (Some y) = refl

given_whole : (x : List ℕ) → IfSome (packet_given x) (λ (y : List ℕ). Some x ≡ Some y)
unfolding packet_given
given_whole x = by (is_packet x) where
  by : (b : Bool) → IfSome (if b then Some x else None) (λ (y : List ℕ). Some x ≡ Some y)
  by true = refl
  by false = tt

-- the packet of an entry is that of its input
pub entry_packet : (lab : Lab) (H : List Full) (m n : ℕ) (dst : Ep) (input : Input) (a : Node) → IfSome (entry_of lab H m n dst input a).packet (λ (y : List ℕ). packet_in_input input ≡ Some y)
unfolding client_in client_out client_tick relay_in relay_six relay_tick
entry_packet lab H m n dst (arrived from x) (server a) = tt
entry_packet lab H m n dst (arrived from x) (nat a) = tt
entry_packet lab H m n dst (arrived from x) (client a) = itself (packet_in x)
entry_packet lab H m n dst (arrived from x) (relay a) = itself (packet_in x)
entry_packet lab H m n dst (arrived from x) (native a) = tt
entry_packet lab H m n dst (given x) (server a) = tt
entry_packet lab H m n dst (given x) (nat a) = tt
entry_packet lab H m n dst (given x) (client a) = given_whole x
entry_packet lab H m n dst (given x) (relay a) = tt
entry_packet lab H m n dst (given x) (native a) = tt
entry_packet lab H m n dst (from_six x) (server a) = tt
entry_packet lab H m n dst (from_six x) (nat a) = tt
entry_packet lab H m n dst (from_six x) (client a) = tt
entry_packet lab H m n dst (from_six x) (relay a) = given_whole x
entry_packet lab H m n dst (from_six x) (native a) = tt
entry_packet lab H m n dst ticked (server a) = tt
entry_packet lab H m n dst ticked (nat a) = tt
entry_packet lab H m n dst ticked (client a) = tt
entry_packet lab H m n dst ticked (relay a) = tt
entry_packet lab H m n dst ticked (native a) = tt
