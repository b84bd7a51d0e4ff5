-- A client's packet for a native host that isn't fresh, where the relay trusts the client and isn't let in to it: what its record makes,
-- and what comes of that.
use Rattle.theory_reaching.proofs.Words.{AllByRecursion, Bool, ClientNode, Did, Entry, Full, Grown, Handing, HasNoFault, HostHandsIn, Ip4, Ip6, IsCalmNext, IsElsewhere, IsHandedIn, IsOnWay, Item, Lab, List, Made, NativeNode, None, Passing, RelayNode, Send, ServerNode, Some, [], address_at, address_is, all_leaves, ap, armed, client, client_settings, cond, each_so, embedded, entry_of, false, fields_in, filter_map, is_fresh, is_teredo, item_in, items_of, journal, known, length, map, mentions, nat_history, nats_of, no_ep, nonce_from, not_of, now, outs_at, own_address, qualification, refl, send, sent, server_elsewhere, server_ep, six, subst, sym, test_bytes, true, udp, wire, words, ℕ, ◌++◌, ◌∙◌, ◌∷◌, ◌≡◌}
use Rattle.teredo_node.specs.Journal.{given}
use Rattle.legal.specs.Past.{at_nat}
use Rattle.theory_first_packets.proofs.HandedIn as handed_in
use Rattle.theory_reaching.proofs.relays.Relays.{RelayedHosts, AreRelayed}
use Rattle.theory_reaching.proofs.relays.RelayEnds.{c_side, end, here, along, way, native_keeps}
use Rattle.theory_reaching.proofs.schedules.OpensElsewhere.{all_passed_to}
use Rattle.theory_reaching.proofs.entries.TestTried.{DrawsTest, silent, tests, draws_its_test}

-- in the record q after H the host of client n hands in x for native m
pub record IsAsking (lab : Lab) (H : List Full) (q : Full) (n m : ℕ) (c : ClientNode) (h : NativeNode) (r : RelayNode) (x : List ℕ) : Type 0 where
  pub are : AreRelayed lab H n m c h r
  pub grown : Grown lab (q ∷ H)
  pub handed : HostHandsIn q n (address_at lab H n) h.six x
  pub sound : HasNoFault q
  pub stale : is_fresh (now H) (known (mentions (journal n H).entries) (now H) h.six) ≡ false

-- so it is in this laboratory, of this client
pub record AskingHost : Type 0 where
  pub lab : Lab
  pub H : List Full
  pub q : Full
  pub n : ℕ
  pub m : ℕ
  pub c : ClientNode
  pub h : NativeNode
  pub r : RelayNode
  pub x : List ℕ
  pub asks : IsAsking lab H q n m c h r x

module _ (the : AskingHost) where
  open the use {lab, H, q, n, m, c, h, r, x, asks}

  abbrev are : AreRelayed lab H n m c h r
  are = asks.are

  abbrev own : Ip6
  own = address_at lab H n

  abbrev the_three : RelayedHosts
  the_three = record { lab = lab; H = H; n = n; m = m; c = c; h = h; r = r; are = are }

  abbrev pub server_row : ServerNode
  server_row = (end the_three).server_row

  -- the test
  abbrev pub test : List ℕ
  test = test_bytes own h.six (nonce_from (words lab n H))

  is_handed_in : IsHandedIn lab H q n (client c) x
  is_handed_in = record { rules = are.rules; grown = asks.grown; there = are.client_is; own = own; other = h.six; handed = asks.handed }

  pub hand : Handing lab H q n (client c) x
  hand = handed_in.hand lab H q n (client c) x is_handed_in

  pub did : Did lab H q n (client c) (entry_of lab H (now H) n no_ep (given x) (client c))
  did = handed_in.did lab H q n (client c) x is_handed_in

  pub number : q.first ≡ length (wire H)
  number = handed_in.number lab H q n (client c) x is_handed_in

  pub next : IsCalmNext lab H q
  next = record { follows = asks.grown.0; calm = hand.calm; moment = did.moment }

  pub teredo : is_teredo own ≡ true
  teredo = (end the_three).address.of.teredo

  pub native_is : is_teredo h.six ≡ false
  native_is = (native_keeps the_three).outside.other

  -- WHAT IS ON ITS WAY

  -- the test to the client's server, and from there to the host; the answer to the relay; and what the relay sends to the client
  pub data IsTestItem (y : Item) : Type 0 where
    asking : y ≡ udp (embedded own) (server_ep server_row.primary) test → IsTestItem y
    tested : y ≡ six None test → IsTestItem y
    answering : (z : List ℕ) → y ≡ six (Some h.relay) z → (fields_in z).dst ≡ own → IsTestItem y
    returning : (z : List ℕ) → y ≡ udp r.at (embedded own) z → IsTestItem y

  abbrev pub the_test : Send
  the_test = send (server_ep server_row.primary) test

  abbrev pub nonce : ℕ
  nonce = nonce_from (words lab n H)

  -- what the client did with the packet
  abbrev pub done : Entry
  done = entry_of lab H (now H) n no_ep (given x) (client c)

  abbrev sends : List Send
  sends = done.step.sends

  -- it sent the test, and drew its nonce; or neither
  pub drawn : DrawsTest the_test nonce done
  drawn =
      let s = client_settings lab.topology c in
      let dst = asks.handed.packet.destination in
      subst (λ (ip : Ip4). DrawsTest (send (server_ep ip) test) nonce done) (end the_three).primary
      (subst (λ (p : Ip6). DrawsTest (send (server_ep s.primary) (test_bytes p h.six nonce)) nonce done)
      (address_is s (journal n H) own (here the_three).address)
      (subst (λ (p : Ip6). DrawsTest (send (server_ep s.primary) (test_bytes (own_address (qualification s (journal n H))) p nonce)) nonce done) dst
      (draws_its_test s (journal n H) (now H) x (words lab n H) asks.handed.packet.packet (ap is_teredo dst ∙ native_is)
      (ap (λ (z : Ip6). is_fresh (now H) (known (mentions (journal n H).entries) (now H) z)) dst ∙ asks.stale))))

  all_tests : AllByRecursion (λ (z : Send). z ≡ the_test) sends
  all_tests = by drawn where
    by : DrawsTest the_test nonce done → AllByRecursion (λ (z : Send). z ≡ the_test) sends
    by (silent none _) = subst (AllByRecursion (λ (z : Send). z ≡ the_test)) (sym none) tt
    by (tests one _) = subst (AllByRecursion (λ (z : Send). z ≡ the_test)) (sym one) (refl, tt)

  -- the client's server is at none of its NATs
  elsewhere : IsElsewhere lab server_row.primary (nats_of lab c)
  elsewhere =
      let e = end the_three in
      let s = c_side the_three in
      subst (λ (ip : Ip4). IsElsewhere lab ip (nats_of lab c)) (e.address.of.server_is ∙ e.primary)
      (server_elsewhere (record { lab = lab; is = are.rules; a = s; b = s; an = e; bn = e }))

  -- so all that it sends leaves
  pub leaves : q.made ≡ map (λ (z : Send). sent (udp (embedded own) z.to z.bytes)) sends
  leaves = (all_leaves {lab = lab} {H = H} {q = q} {a = (c_side the_three)} {e = done} (record {
    end = end the_three;
    kinds = (along the_three).kinds;
    grown = are.grown;
    way = way the_three;
    did = did;
    sound = asks.sound;
  }) sends refl (each_so (λ z same. subst (λ (u : Send). IsElsewhere lab u.to.ip (nats_of lab c)) (sym same) elsewhere) sends all_tests)).made

  -- and each entry that the record makes is such as the test on its way to the server is
  module _ (P : Item → Type 0) (is : P (udp (embedded own) (server_ep server_row.primary) test)) where
    items : (xs : List Send) → AllByRecursion (λ (z : Send). z ≡ the_test) xs
        → AllByRecursion P (filter_map item_in (map (λ (z : Send). sent (udp (embedded own) z.to z.bytes)) xs))
    items [] all = tt
    items (z ∷ xs) all = (subst P (sym (ap (λ (u : Send). udp (embedded own) u.to u.bytes) all.0)) is, items xs all.1)

    pub all_made : AllByRecursion P (items_of q)
    all_made = subst (λ (ms : List Made). AllByRecursion P (filter_map item_in ms)) (sym leaves) (items sends all_tests)

  pub all_on_way : AllByRecursion IsTestItem (items_of q)
  all_on_way = all_made IsTestItem (asking refl)

  -- AFTER IT

  -- its datagrams go to the client's server alone
  pub passed_to : AllByRecursion (λ (p : Passing). p.datagram.dst ≡ server_ep server_row.primary) q.passed
  passed_to = subst (λ (ps : List Passing). AllByRecursion (λ (p : Passing). p.datagram.dst ≡ server_ep server_row.primary) ps) (sym did.passed)
      (all_passed_to lab H (now H) (server_ep server_row.primary) (nats_of lab c) c.inside (armed H) 0 [] sends
      (each_so (λ z same. ap (λ (u : Send). u.to) same) sends all_tests) tt)

  pub grew : AllByRecursion (λ (k : ℕ). nat_history lab k (q ∷ H) ≡ outs_at k q.passed ++ nat_history lab k H) (nats_of lab c)
  grew = each_so (λ k (on : IsOnWay lab k). ap (λ (b : Bool). cond b (at_nat lab q.asked q.act) (outs_at k q.passed) ++ nat_history lab k H) (not_of are.client_is refl q did.node on))
      (nats_of lab c) (end the_three).nats
