-- No datagram that a record makes of one without a nonce has one, nor does one that it makes of a packet of a host: an advertisement answers a
-- client's tick alone.
use Rattle.theory_reaching.proofs.Words.{AllByRecursion, AreOfSends, AreOfSendsAnd, ClientNode, DATAGRAM_MAX, Entry, Full, Grown, Input, IsActOf, IsBytes, IsMadeItem, IsReached, IsRelayJournal, IsTopology, Item, Journal, Lab, List, Made, NativeNode, Node, None, Option, Send, ServerNode, Some, Span, [], all_right, ap, arrived, client, client_journals, client_out, client_settings, done_with, each_node, entry_of, filter_map, from_six, item_in, items_of, journal, length, lost, makes_its_own, nat, native, native_made, native_packet, relay, relay_journals, relay_settings, sent, server, server_settings, side_at, six, six_made, subst, sym, ticked, udp, wire, wire_is_made, words, ℕ, ◌++◌, ◌∙◌, ◌∷◌, ◌≡◌, ◌≤◌}
use Rattle.std.proofs.Common.{append-nil}
use Rattle.teredo_node.specs.Journal.{given}
use Rattle.theory_reaching.proofs.no_address.Nonceless.{HasNoNonce, IsPlain, has_none}
use Rattle.theory_reaching.proofs.no_address.NoncelessClients as clients
use Rattle.theory_reaching.proofs.no_address.NoncelessClients.{ArePlain}
use Rattle.theory_reaching.proofs.no_address.NoncelessOthers.{of_server, of_relay}

-- an entry without one
abbrev pub IsNonceless : Item → Type 0
IsNonceless (udp src dst bytes) = HasNoNonce bytes
IsNonceless (six to bytes) = Unit {0}

abbrev AreNonceless : List Made → Type 0
AreNonceless ms = AllByRecursion IsNonceless (filter_map item_in ms)

abbrev AreMadeItems : List Made → Type 0
AreMadeItems ms = AllByRecursion IsMadeItem (filter_map item_in ms)

-- WHAT BECOMES OF SENDS

-- of sends that are so, where bytes that are so have none
module _ (P : List ℕ → Type 0) (none : (x : List ℕ) → IsBytes x → length x ≤ DATAGRAM_MAX → P x → HasNoNonce x) where
  abbrev Sends : List Send → Type 0
  Sends xs = AllByRecursion (λ (z : Send). P z.bytes) xs

  of_front : (front more : List Made) (xs : List Send) → AreOfSends front xs → Sends xs → AreNonceless more → AreMadeItems (front ++ more)
      → AreNonceless (front ++ more)
  of_front [] more [] own all rest made = rest
  of_front [] more (z ∷ xs) own all rest made = absurd own
  of_front (m ∷ front) more [] own all rest made = absurd own
  of_front (sent (udp src dst bytes) ∷ front) more (z ∷ xs) own all rest made = (
    none bytes made.0.bytes made.0.short (subst P (sym own.0.1) all.0),
    of_front front more xs own.1 all.1 rest made.1,
  )
  of_front (sent (six to bytes) ∷ front) more (z ∷ xs) own all rest made = absurd own.0
  of_front (lost why dst bytes ∷ front) more (z ∷ xs) own all rest made = of_front front more xs own.1 all.1 rest made

  of_both : (xs : List Send) (more ms : List Made) → AreOfSendsAnd xs more ms → Sends xs → AreNonceless more → AreMadeItems ms → AreNonceless ms
  of_both xs more ms own all rest made =
      subst AreNonceless (sym own.split) (of_front own.front more xs own.each all rest (subst AreMadeItems own.split made))

  of_sends : (xs : List Send) (ms : List Made) → AreOfSends ms xs → Sends xs → AreMadeItems ms → AreNonceless ms
  of_sends xs ms own all made = subst AreNonceless (append-nil ms) (of_front ms [] xs own all tt (subst AreMadeItems (sym (append-nil ms)) made))

for_six : (i : Input) (o : Option Span) → AreNonceless (six_made i o)
for_six (arrived from x) None = tt
for_six (arrived from x) (Some span) = (tt, tt)
for_six (given x) o = tt
for_six (from_six x) o = tt
for_six ticked o = tt

by_native : (h : NativeNode) (o : Option (List ℕ)) → AreNonceless (native_made h o)
by_native h None = tt
by_native h (Some x) = (tt, tt)

-- A DELIVERY

-- the last record of a history of a topology that keeps its rules
pub record LastRecord : Type 0 where
  pub lab : Lab
  pub rules : IsTopology lab.topology
  pub G : List Full
  pub p : Full
  pub g : Grown lab (p ∷ G)

module _ (last_record : LastRecord) where
  open last_record use {lab, rules, G, p, g}

  packets : (xs : List Send) (ms : List Made) → AreOfSends ms xs → ArePlain xs → AreMadeItems ms → AreNonceless ms
  packets = of_sends IsPlain (has_none)

  -- of a server
  at_server : (i : ℕ) (row : ServerNode) (y : Item) → IsNonceless y → IsReached lab G p i (server row) y → AreNonceless p.made
  at_server i row (udp src dst bytes) none reached =
      let came = reached.came rules in
      let keeps = each_node lab.topology i (server row) rules reached.act.there in
      of_both HasNoNonce (λ x _ _ is. is) _ _ p.made reached.own
      (of_server (server_settings row) (side_at (server row) dst) src bytes keeps.primary.made came.source came.bytes none)
      (for_six (arrived src bytes) _) (reached.fresh rules)
  at_server i row (six to bytes) none reached =
      of_both HasNoNonce (λ x _ _ is. is) [] _ p.made reached.own tt (for_six (from_six bytes) (done_with lab G p i (server row) (six to bytes)).step.six)
      (reached.fresh rules)

  -- of a client
  at_client : (i : ℕ) (c : ClientNode) (y : Item) → IsNonceless y → IsReached lab G p i (client c) y → AreNonceless p.made
  at_client i c (udp src dst bytes) none reached =
      packets _ p.made reached.own
      (clients.of_datagram (client_settings lab.topology c) (journal i G) p.moment bytes (words lab i G)
      (client_journals lab G i c g.1 reached.act.there).journal src none) (reached.fresh rules)
  at_client i c (six to bytes) none reached = packets [] p.made reached.own tt (reached.fresh rules)

  -- of each node
  pub of_delivery : (i : ℕ) (a : Node) (y : Item) → IsNonceless y → IsReached lab G p i a y → AllByRecursion IsNonceless (items_of p)
  of_delivery i (server row) y none reached = at_server i row y none reached
  of_delivery i (nat row) y none reached = subst AreNonceless (sym reached.own) tt
  of_delivery i (client c) y none reached = at_client i c y none reached
  of_delivery i (relay r) y none reached =
      let e = done_with lab G p i (relay r) y in
      let is : IsRelayJournal (relay_settings lab.topology i r) (e ∷ (journal i G).entries) =
      subst (λ (j : Journal). IsRelayJournal (relay_settings lab.topology i r) j.entries) reached.act.later
      (relay_journals lab (p ∷ G) i r g reached.act.there).journal in
      of_both IsPlain (has_none) e.step.sends _ p.made reached.own
      (of_relay (relay_settings lab.topology i r) (journal i G).entries e is) (for_six e.input e.step.six) (reached.fresh rules)
  of_delivery i (native h) y none reached =
      let e = done_with lab G p i (native h) y in
      subst AreNonceless (sym reached.own) (by_native h (native_packet h e.input))

  -- A PACKET OF A HOST

  fresh_items : AreMadeItems p.made
  fresh_items = all_right IsMadeItem (wire G) (items_of p) (wire_is_made lab (p ∷ G) rules g).wire

  pub of_client_host : (n : ℕ) (c : ClientNode) (e : Entry) (x : List ℕ) (act : IsActOf lab G p n (client c) e) → act.input ≡ given x
      → AllByRecursion IsNonceless (items_of p)
  of_client_host n c e x act input =
      let s = client_settings lab.topology c in
      let is : e ≡ client_out s (journal n G) p.moment x (words lab n G) = act.step
      ∙ ap (λ (i : Input). entry_of lab G p.moment n act.dst i (client c)) input in
      packets e.step.sends p.made (makes_its_own lab G p n (client c) e act)
      (subst (λ (f : Entry). ArePlain f.step.sends) (sym is) (clients.of_host s (journal n G) p.moment x (words lab n G))) fresh_items

  pub of_native_host : (n : ℕ) (h : NativeNode) (e : Entry) → IsActOf lab G p n (native h) e → AllByRecursion IsNonceless (items_of p)
  of_native_host n h e act = subst AreNonceless (sym (makes_its_own lab G p n (native h) e act)) (by_native h (native_packet h e.input))
