-- What a native host's packet for a client makes: the packet, for the host's relay.
use Rattle.theory_reaching.proofs.Words.{ClientNode, Did, Full, Grown, Handing, HostHandsIn, Ip6, IsBytes, IsCalmNext, IsHandedIn, IsSentNext, Lab, List, NativeNode, RelayNode, Some, [], address_at, address_of, ap, entry_of, false, fields_in, filter_map, is_big, is_global6, is_teredo, item_in, items_of, length, native, native_gives, no_ep, now, sent, six, subst, true, wire, ℕ, ◌∙◌, ◌∷◌, ◌≡◌}
use Rattle.teredo_node.specs.Journal.{given}
use Rattle.theory_first_packets.proofs.HandedIn as handed_in
use Rattle.theory_reaching.proofs.relays.RelayEnds.{end}
use Rattle.theory_reaching.proofs.relays.Relays.{RelayedHosts, AreRelayed}

-- in the record q after H the host of native m hands in x for client n
pub record IsFromHost (lab : Lab) (H : List Full) (q : Full) (n m : ℕ) (c : ClientNode) (h : NativeNode) (r : RelayNode) (x : List ℕ) : Type 0 where
  pub are : AreRelayed lab H n m c h r
  pub grown : Grown lab (q ∷ H)
  pub handed : HostHandsIn q m h.six (address_at lab H n) x

-- so it is where it is the next packet from the host for the client
pub is_from_host : (the : RelayedHosts) (q : Full) (x : List ℕ) → Grown the.lab (q ∷ the.H) → IsSentNext the.lab the.H q the.m the.n (native the.h) x
    → IsFromHost the.lab the.H q the.n the.m the.c the.h the.r x
is_from_host the q x g next = record {
  are = the.are;
  grown = g;
  handed = subst (λ (z : Ip6). HostHandsIn q the.m z (address_at the.lab the.H the.n) x) (ap (address_of the.lab the.H the.m) the.are.host_is) next.handed;
}

-- so it is in this laboratory, of this host
pub record FromHost : Type 0 where
  pub lab : Lab
  pub H : List Full
  pub q : Full
  pub n : ℕ
  pub m : ℕ
  pub c : ClientNode
  pub h : NativeNode
  pub r : RelayNode
  pub x : List ℕ
  pub from : IsFromHost lab H q n m c h r x

module _ (the : FromHost) where
  open the use {lab, H, q, n, m, c, h, r, x, from}

  abbrev are : AreRelayed lab H n m c h r
  are = from.are

  abbrev own : Ip6
  own = address_at lab H n

  abbrev k : ℕ
  k = h.relay

  is_handed_in : IsHandedIn lab H q m (native h) x
  is_handed_in = record { rules = are.rules; grown = from.grown; there = are.host_is; own = h.six; other = own; handed = from.handed }

  hand : Handing lab H q m (native h) x
  hand = handed_in.hand lab H q m (native h) x is_handed_in

  pub did : Did lab H q m (native h) (entry_of lab H (now H) m no_ep (given x) (native h))
  did = handed_in.did lab H q m (native h) x is_handed_in

  pub small : is_big (fields_in x) ≡ false
  small = handed_in.small lab H q m (native h) x is_handed_in

  pub bytes : IsBytes x
  bytes = handed_in.bytes lab H q m (native h) x is_handed_in

  pub number : q.first ≡ length (wire H)
  number = handed_in.number lab H q m (native h) x is_handed_in

  pub next : IsCalmNext lab H q
  next = record { follows = from.grown.0; calm = hand.calm; moment = did.moment }

  abbrev the_three : RelayedHosts
  the_three = record { lab = lab; H = H; n = n; m = m; c = c; h = h; r = r; are = are }

  pub teredo : is_teredo (fields_in x).dst ≡ true
  teredo = ap is_teredo from.handed.packet.destination ∙ (end the_three).address.of.teredo

  made : q.made ≡ sent (six (Some k) x) ∷ []
  made = native_gives (record { lab = lab; H = H; q = q; m = m; h = h; x = x }) did from.handed.packet.packet small from.handed.packet.source
      (ap is_global6 from.handed.packet.destination ∙ (end the_three).address.of.global) teredo

  pub makes : items_of q ≡ six (Some k) x ∷ []
  makes = ap (filter_map item_in) made
