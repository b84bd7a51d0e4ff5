-- Addresses stay: what a client is told again, behind a NAT that keeps what it has of it, is the address that it has (RFC 4380,
-- section 5.2.5).
use Rattle.std.specs.Prelude.{◌≡◌, ◌⊎◌, ℕ, true, false, List, [], Some}
use Rattle.std.specs.List.{list_any}
use Rattle.teredo_node.specs.Journal.{Entry, is_changed}
use Rattle.topology.specs.declared.client_node.ClientNode.{ClientNode}
use Rattle.topology.specs.Rules.{IsTopology}
use Rattle.topology.specs.Topology.{client_at}
use Rattle.history.specs.Full.{Full}
use Rattle.legal.specs.Lab.{Lab}
use Rattle.legal.specs.Past.{journal}
use Rattle.legal.specs.Legal.{Grown}
use Rattle.legal.specs.Honest.{are_honest_for}
use Rattle.theory_verdicts.specs.Undisturbed.{IsUndisturbed, IsKeptOpen}

-- *stays*, of an address: no entry since the client's start changes it.
-- no entry since the start of node n changes its address
abbrev pub AddressStays : List Full → ℕ → Type 0
AddressStays H n = list_any (λ (e : Entry). is_changed e.step.fate) (journal n H).entries ≡ false

-- where no NAT is behind another one, that of each undisturbed client stays; so does that of one which doesn't try the cone
-- phase and whose NAT was kept open
abbrev pub EachAddressStays : Type 0
EachAddressStays = (lab : Lab) (H : List Full) (n : ℕ) (c : ClientNode) → lab.chain ≡ [] → IsTopology lab.topology → Grown lab H
    → are_honest_for lab.topology c H ≡ true → client_at lab.topology n ≡ Some c
    → IsUndisturbed lab H n c ⊎ ((c.cone_try ≡ false) × IsKeptOpen lab H n c) → AddressStays H n
