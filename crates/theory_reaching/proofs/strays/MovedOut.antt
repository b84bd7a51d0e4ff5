-- What leaves of a packet that goes at once to where its sender doesn't speak to, or to where nobody answers: that packet, from where such a
-- datagram leaves, or nothing.
use Rattle.theory_reaching.proofs.Words.{AllByRecursion, Bool, ClientNode, DATAGRAM_MAX, Did, Ep, Err, Full, Grown, HostHandsIn, Ip6, IsBytes, IsHandedIn, IsTopology, Item, Lab, List, Made, NatRefusal, None, Ok, Option, ReadsPayload, Result, Send, Settings, Some, [], address_at, address_is, ap, armed, by_way, client, client_address, client_journals, client_made, client_settings, crossing_unless, entry_of, false, false≢true, fields_in, filter_map, inl, inr, is_at_place, is_big, is_global6, is_link_local, is_on, is_some, is_teredo, item_in, items_of, journal, length, marked, no_ep, node_at, now, or_loss, own_is_teredo, qualified_has_address, refl, send, somebody_answers, speaks_to, subst, sym, true, udp, value_written, way_out, way_to, ℕ, ◌∙◌, ◌∷◌, ◌≡◌, ◌≤◌, ◌⊎◌}
use Rattle.teredo_node.specs.Journal.{given}
use Rattle.theory_origins.proofs.FromServers as own_of
use Rattle.theory_first_packets.proofs.HandedIn as handed_in
use Rattle.theory_reaching.proofs.clients.SettledClients.{own_is}
use Rattle.theory_reaching.proofs.entries.StraightOut.{IsOneOrNone}

-- a packet for a host of the IPv6 Internet goes where no server and no relay answers
pub record IsForNobody (lab : Lab) (D : Ep) (dst : Ip6) : Type 0 where
  pub unanswered : somebody_answers lab D ≡ false
  pub native : is_teredo dst ≡ false
  pub global : is_global6 dst ≡ true

-- what client n sends of a packet of its host
abbrev pub sends_of : Lab → List Full → ℕ → ClientNode → List ℕ → List Send
sends_of lab H n c x = (entry_of lab H (now H) n no_ep (given x) (client c)).step.sends

-- in the record q after H the host of client n hands in x, of which nothing goes out but z, a packet from the client's address, to D; and the
-- client doesn't speak to D, or nobody is there
pub record IsMoved (lab : Lab) (H : List Full) (q : Full) (n : ℕ) (c : ClientNode) (x z : List ℕ) (D : Ep) : Type 0 where
  pub rules : IsTopology lab.topology
  pub grown : Grown lab (q ∷ H)
  pub at : node_at lab.topology n ≡ Some (client c)
  pub on : is_on lab H n c ≡ true
  pub dst : Ip6
  pub handed : HostHandsIn q n (address_at lab H n) dst x
  pub one : IsOneOrNone D z (sends_of lab H n c x)
  pub small : is_big (fields_in z) ≡ false
  pub source : (fields_in z).src ≡ address_at lab H n
  pub reads : IsBytes z → length z ≤ DATAGRAM_MAX → ReadsPayload (value_written None None (fields_in z)) z
  pub gone : (speaks_to lab H c (address_at lab H n) D ≡ false) ⊎ IsForNobody lab D (fields_in z).dst

-- a qualified client has an address, which is a Teredo one
pub address_when_on : (lab : Lab) (H : List Full) (n : ℕ) (c : ClientNode) → IsTopology lab.topology → Grown lab H
    → node_at lab.topology n ≡ Some (client c) → is_on lab H n c ≡ true
    → (client_address lab H n c ≡ Some (address_at lab H n)) × (is_teredo (address_at lab H n) ≡ true)
address_when_on lab H n c rules g at on =
    (address, own_is_teredo (client_settings lab.topology c) (journal n H) (address_at lab H n) address) where
      by : (o : Option Ip6) → client_address lab H n c ≡ o → is_some o ≡ true → client_address lab H n c ≡ Some (address_at lab H n)
      by None e some = absurd (false≢true some)
      by (Some z) e some = e ∙ ap (λ (y : Ip6). Some y) (sym (own_is lab H n c z at e))

      address : client_address lab H n c ≡ Some (address_at lab H n)
      address = by (client_address lab H n c) refl
          (qualified_has_address (client_settings lab.topology c) (journal n H) (client_journals lab H n c g at).journal ∙ on)

-- so it is in this laboratory, of this client
pub record Moving : Type 0 where
  pub lab : Lab
  pub H : List Full
  pub q : Full
  pub n : ℕ
  pub c : ClientNode
  pub x : List ℕ
  pub z : List ℕ
  pub D : Ep
  pub is : IsMoved lab H q n c x z D

module _ (the : Moving) where
  open the use {lab, H, q, n, c, x, z, D, is}

  abbrev own : Ip6
  own = address_at lab H n

  abbrev s : Settings
  s = client_settings lab.topology c

  -- THE SENDER

  abbrev there : (client_address lab H n c ≡ Some own) × (is_teredo own ≡ true)
  there = address_when_on lab H n c is.rules is.grown.1 is.at is.on

  address : client_address lab H n c ≡ Some own
  address = there.0

  pub teredo : is_teredo own ≡ true
  teredo = there.1

  pub no_link : is_link_local own ≡ false
  no_link = subst (λ (z : Ip6). is_link_local z ≡ false) (address_is s (journal n H) own address)
      (own_of.own_is s (journal n H) (client_made lab.topology n c is.rules is.at).primary).no_link

  pub is_handed_in : IsHandedIn lab H q n (client c) x
  is_handed_in = record { rules = is.rules; grown = is.grown; there = is.at; own = own; other = is.dst; handed = is.handed }

  did : Did lab H q n (client c) (entry_of lab H (now H) n no_ep (given x) (client c))
  did = handed_in.did lab H q n (client c) x is_handed_in

  -- WHAT IT SENDS

  abbrev sends : List Send
  sends = sends_of lab H n c x

  -- a datagram with the packet, from where such a one leaves
  pub record IsStrayItem (y : Item) : Type 0 where
    pub src : Ep
    pub leaves : (way_to lab H c D).leaves ≡ Ok src
    pub same : y ≡ udp src D z

  abbrev made_of : List Send → List Made
  made_of xs = (by_way lab H (now H) (way_out lab.chain c.nat) c.inside (armed H) 0 [] xs).made

  abbrev AreStray : List Made → Type 0
  AreStray ms = AllByRecursion IsStrayItem (filter_map item_in ms)

  of_leaves : (r : Result Ep NatRefusal) → (way_to lab H c D).leaves ≡ r → AreStray (marked (send D z) (or_loss false r) ∷ [])
  of_leaves (Ok src) e = (record { src = src; leaves = e; same = refl }, tt)
  of_leaves (Err why) e = tt

  of_sends : (xs : List Send) → IsOneOrNone D z xs → AreStray (made_of xs)
  of_sends xs (inl none) = subst (λ (zs : List Send). AreStray (made_of zs)) (sym none) tt
  of_sends xs (inr one) = subst (λ (zs : List Send). AreStray (made_of zs)) (sym one) (by (is_at_place 0 (armed H))) where
    by : (b : Bool) → AreStray (marked (send D z) (or_loss b (crossing_unless b lab H (now H) D (way_out lab.chain c.nat) c.inside []).leaves) ∷ [])
    by true = tt
    by false = of_leaves (way_to lab H c D).leaves refl

  pub all_stray : AllByRecursion IsStrayItem (items_of q)
  all_stray = subst AreStray (sym did.made) (of_sends sends is.one)
