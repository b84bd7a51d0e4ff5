-- What an entry of a node is: its moment, its input, the packet that its meaning keeps, and the kind of its fate.
use Rattle.follow_writer.proofs.Words.{ClientNode, Entry, Ep, Full, Input, KeepsItsPacket, Lab, List, NatNode, NativeNode, Node, None, RelayNode, ServerNode, Some, arrived, client, client_entry, client_settings, effect_at, entry_of, from_six, given, journal, nat, native, refl, relay, relay_entry, relay_settings, server, source_of, ticked, true, words, ℕ, ◌≡◌}
use Rattle.follow_writer.proofs.ClientFates as client_fates
use Rattle.follow_writer.proofs.OfClients as clients
use Rattle.follow_writer.proofs.RelayFates as relay_fates
use Rattle.follow_writer.proofs.OfRelays as relays

-- it is of this moment and input, and has the packet that its meaning keeps
pub record IsEntryAt (m : ℕ) (input : Input) (a : Node) (e : Entry) : Type 0 where
  pub moment : e.moment ≡ m
  pub input_is : e.input ≡ input
  pub keeps : KeepsItsPacket (effect_at (Some a) e.step.fate) e.packet (source_of e.input)

module _ (lab : Lab) (H : List Full) (m n : ℕ) (dst : Ep) where
  of_client : (c : ClientNode) (input : Input) → IsEntryAt m input (client c) (client_entry (client_settings lab.topology c) (journal n H) m input (words lab n H))
  of_client c input =
      let at = clients.entry_at (client_settings lab.topology c) (journal n H) m input (words lab n H) in
      record { moment = at.0; input_is = at.1; keeps = clients.entry_keeps (client_settings lab.topology c) (journal n H) m input (words lab n H) }

  of_relay : (q : RelayNode) (input : Input) → IsEntryAt m input (relay q) (relay_entry (relay_settings lab.topology n q) (journal n H).entries m input)
  of_relay q input =
      let at = relays.entry_at (relay_settings lab.topology n q) (journal n H).entries m input in
      record { moment = at.0; input_is = at.1; keeps = relays.entry_keeps (relay_settings lab.topology n q) (journal n H).entries m input }

  pub entry_is : (a : Node) (input : Input) → IsEntryAt m input a (entry_of lab H m n dst input a)
  entry_is (server x) (arrived from bytes) = record { moment = refl; input_is = refl; keeps = tt }
  entry_is (server x) (given bytes) = record { moment = refl; input_is = refl; keeps = tt }
  entry_is (server x) (from_six bytes) = record { moment = refl; input_is = refl; keeps = tt }
  entry_is (server x) ticked = record { moment = refl; input_is = refl; keeps = tt }
  entry_is (nat x) (arrived from bytes) = record { moment = refl; input_is = refl; keeps = tt }
  entry_is (nat x) (given bytes) = record { moment = refl; input_is = refl; keeps = tt }
  entry_is (nat x) (from_six bytes) = record { moment = refl; input_is = refl; keeps = tt }
  entry_is (nat x) ticked = record { moment = refl; input_is = refl; keeps = tt }
  entry_is (native x) (arrived from bytes) = record { moment = refl; input_is = refl; keeps = tt }
  entry_is (native x) (given bytes) = record { moment = refl; input_is = refl; keeps = tt }
  entry_is (native x) (from_six bytes) = record { moment = refl; input_is = refl; keeps = tt }
  entry_is (native x) ticked = record { moment = refl; input_is = refl; keeps = tt }
  entry_is (client c) (arrived from bytes) = of_client c (arrived from bytes)
  entry_is (client c) (given bytes) = of_client c (given bytes)
  entry_is (client c) (from_six bytes) = of_client c (from_six bytes)
  entry_is (client c) ticked = of_client c ticked
  entry_is (relay q) (arrived from bytes) = of_relay q (arrived from bytes)
  entry_is (relay q) (given bytes) = of_relay q (given bytes)
  entry_is (relay q) (from_six bytes) = of_relay q (from_six bytes)
  entry_is (relay q) ticked = of_relay q ticked

  -- other nodes have no peer
  pub server_peer : (x : ServerNode) (input : Input) → (entry_of lab H m n dst input (server x)).peer ≡ None
  server_peer x (arrived from bytes) = refl
  server_peer x (given bytes) = refl
  server_peer x (from_six bytes) = refl
  server_peer x ticked = refl

  pub native_peer : (x : NativeNode) (input : Input) → (entry_of lab H m n dst input (native x)).peer ≡ None
  native_peer x (arrived from bytes) = refl
  native_peer x (given bytes) = refl
  native_peer x (from_six bytes) = refl
  native_peer x ticked = refl

  pub nat_peer : (x : NatNode) (input : Input) → (entry_of lab H m n dst input (nat x)).peer ≡ None
  nat_peer x (arrived from bytes) = refl
  nat_peer x (given bytes) = refl
  nat_peer x (from_six bytes) = refl
  nat_peer x ticked = refl

  -- its fate is one of its kind's
  pub client_is : (c : ClientNode) (input : Input) → client_fates.is_clients (entry_of lab H m n dst input (client c)).step.fate ≡ true
  client_is c (arrived from bytes) = clients.entry_is (client_settings lab.topology c) (journal n H) m (arrived from bytes) (words lab n H)
  client_is c (given bytes) = clients.entry_is (client_settings lab.topology c) (journal n H) m (given bytes) (words lab n H)
  client_is c (from_six bytes) = clients.entry_is (client_settings lab.topology c) (journal n H) m (from_six bytes) (words lab n H)
  client_is c ticked = clients.entry_is (client_settings lab.topology c) (journal n H) m ticked (words lab n H)

  pub relay_is : (q : RelayNode) (input : Input) → relay_fates.is_relays (entry_of lab H m n dst input (relay q)).step.fate ≡ true
  relay_is q (arrived from bytes) = relays.entry_is (relay_settings lab.topology n q) (journal n H).entries m (arrived from bytes)
  relay_is q (given bytes) = relays.entry_is (relay_settings lab.topology n q) (journal n H).entries m (given bytes)
  relay_is q (from_six bytes) = relays.entry_is (relay_settings lab.topology n q) (journal n H).entries m (from_six bytes)
  relay_is q ticked = relays.entry_is (relay_settings lab.topology n q) (journal n H).entries m ticked
