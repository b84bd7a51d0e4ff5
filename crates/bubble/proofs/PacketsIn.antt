-- The packet in what a node is given, where it is known that there is one.
use Rattle.bubble.proofs.Words.{List, None, Some, Value, if◌then◌else◌, is_packet, is_payload, packet_given, source_in, true, value_in, ℕ, ◌≡◌}

pub source_there : (x : List ℕ) (v : Value) → is_payload x ≡ true → value_in x ≡ v → source_in x ≡ Some v.packet.src
unfolding source_in
source_there x v payload value = λ i. if payload i then Some (value i).packet.src else None

pub packet_there : (x : List ℕ) → is_packet x ≡ true → packet_given x ≡ Some x
unfolding packet_given
packet_there x packet = λ i. if packet i then Some x else None
