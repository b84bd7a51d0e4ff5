-- What becomes of a node's sends: each goes onto the wire or is lost, one by one and in their order.
use Rattle.std.specs.Prelude.{◌≡◌, ℕ, List, [], ◌∷◌, ◌++◌}
use Rattle.teredo_node.specs.Step.{Send}
use Rattle.teredo_node.specs.Journal.{Entry}
use Rattle.topology.specs.declared.node.Node.{Node}
use Rattle.topology.specs.declared.node.Node.TheVariants.{Server as server, Nat as nat, Client as client, Relay as relay, Native as native}
use Rattle.history.specs.Full.{udp, six, Made, sent, lost, Full}
use Rattle.legal.specs.Lab.{Lab}
use Rattle.legal.specs.Emit.{six_made, native_packet, native_made}
use Rattle.legal.specs.Actors.{IsActOf}

-- it is what became of this send
abbrev pub IsOfSend : Made → Send → Type 0
IsOfSend (sent (udp src dst bytes)) s = (dst ≡ s.to) × (bytes ≡ s.bytes)
IsOfSend (sent (six to bytes)) s = ⊥
IsOfSend (lost why dst bytes) s = (dst ≡ s.to) × (bytes ≡ s.bytes)

-- what was made is what becomes of these sends, one by one
abbrev pub AreOfSends : List Made → List Send → Type 0
AreOfSends [] [] = Unit {0}
AreOfSends (m ∷ ms) (s ∷ ss) = IsOfSend m s × AreOfSends ms ss
AreOfSends _ _ = ⊥

-- first what became of the sends, and then this
pub record AreOfSendsAnd (sends : List Send) (more made : List Made) : Type 0 where
  pub front : List Made
  pub split : made ≡ front ++ more
  pub each : AreOfSends front sends

-- what a node's record made: of a client its sends alone, of a server and a relay also the packet for the IPv6 side, of a
-- native host its packet, of a NAT nothing
abbrev pub AreOwn : Node → Entry → List Made → Type 0
AreOwn (server a) e made = AreOfSendsAnd e.step.sends (six_made e.input e.step.six) made
AreOwn (nat a) e made = made ≡ []
AreOwn (client c) e made = AreOfSends made e.step.sends
AreOwn (relay r) e made = AreOfSendsAnd e.step.sends (six_made e.input e.step.six) made
AreOwn (native h) e made = made ≡ native_made h (native_packet h e.input)

-- what a node's record made is what became of its sends, one by one, and its packet for the IPv6 side
abbrev pub EachMakesItsOwn : Type 0
EachMakesItsOwn = (lab : Lab) (H : List Full) (r : Full) (n : ℕ) (a : Node) (e : Entry) → IsActOf lab H r n a e → AreOwn a e r.made
