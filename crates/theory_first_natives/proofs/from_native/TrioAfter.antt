-- A record that follows at once: what it leaves of the ground.
use Rattle.theory_first_natives.proofs.Words.{ComesIn, Contains, Did, DoesSend, Entry, Ep, Fields, Follows, Full, GivesToHost, HasNoFault, IsCalmNext, IsHere, IsLetIn, IsMadeItem, Item, Journal, LeavesNats, List, None, Ok, Option, ReadsPayload, Some, [], all_at, ap, arith, asks_at, bytes_of, client, client_address, embedded, enters_along, false≢true, inl, inr, is_here, is_let_in, is_some, journal, nats_of, now, packet_at, packet_is_payload, qualification, refl, server, setup, slice_get, still_in, subst, sym, two_kinds, unwrap_or, value_written, wire, wire_is_made, with_entry, ℕ, ◌<◌, ◌∙◌, ◌∷◌, ◌≡◌, ◌⊎◌}
use Rattle.theory_first_natives.proofs.Apart.{is_server_node, is_relay_node, is_native_node}
use Rattle.theory_first_natives.proofs.from_native.Trio.{Trio, IsTrio}
use Rattle.theory_first_natives.proofs.from_native.TrioStages.{Ground, IsOpen}

-- A RECORD

-- q follows H, of which the ground holds, and no send of it fails by itself
pub record IsRecord (p : Trio) (H : List Full) (q : Full) : Type 0 where
  pub trio : IsTrio p
  pub ground : Ground p H
  pub follows : Follows p.lab H q
  pub sound : HasNoFault q

-- a record of these three, after a history
pub record TrioRecord : Type 0 where
  pub p : Trio
  pub H : List Full
  pub q : Full
  pub r : IsRecord p H q

module _ (the : TrioRecord) where
  open the use {p, H, q, r}

  pub no_relay_client : p.k ≡ p.a.n → ⊥
  no_relay_client = two_kinds p.lab.topology {i = p.k} {j = p.a.n} is_relay_node r.trio.relay_there r.trio.end.there refl refl

  pub no_native_client : p.m ≡ p.a.n → ⊥
  no_native_client = two_kinds p.lab.topology {i = p.m} {j = p.a.n} is_native_node r.trio.native_there r.trio.end.there refl refl

  pub no_native_relay : p.m ≡ p.k → ⊥
  no_native_relay = two_kinds p.lab.topology {i = p.m} {j = p.k} is_native_node r.trio.native_there r.trio.relay_there refl refl

  pub no_server_client : p.a.c.server ≡ p.a.n → ⊥
  no_server_client = two_kinds p.lab.topology {i = p.a.c.server} {j = p.a.n} is_server_node
      r.trio.end.server_is r.trio.end.there refl refl

  pub no_server_relay : p.a.c.server ≡ p.k → ⊥
  no_server_relay = two_kinds p.lab.topology {i = p.a.c.server} {j = p.k} is_server_node
      r.trio.end.server_is r.trio.relay_there refl refl

  -- a record of another node hands the client's host nothing
  pub of_another : (k : ℕ) → q.node ≡ Some k → (k ≡ p.a.n → ⊥) → GivesToHost p.a.n p.x q → ⊥
  of_another k node apart gives = apart (ap (λ (o : Option ℕ). unwrap_or o k) (sym node ∙ gives.node))

  -- nor does one that hands nothing over
  pub of_none : q.handed ≡ None → q.late ≡ [] → GivesToHost p.a.n p.x q → ⊥
  of_none handed late gives = by gives.packet where
    nowhere : Contains [] p.x → ⊥
    nowhere i = let within : i.0 < 0 = i.1 in omega (arith, within)

    by : (q.handed ≡ Some p.x) ⊎ Contains q.late p.x → ⊥
    by (inl over) = false≢true (ap (λ (o : Option (List ℕ)). is_some o) (sym handed ∙ over))
    by (inr one) = nowhere (subst (λ (xs : List (List ℕ)). Contains xs p.x) late one)

  pub next_is : LeavesNats p.lab q → q.moment ≡ now H → IsCalmNext p.lab H q
  next_is calm moment = record { follows = r.follows; calm = calm; moment = moment }

  -- ways in stay
  pub still_open : IsCalmNext p.lab H q → IsOpen p H → IsOpen p (q ∷ H)
  still_open next way = still_in H next p.r.at (nats_of p.lab p.a.c) p.a.c.inside (embedded p.a.own) way

  -- so does the ground, where the client keeps its address
  pub ground_on : IsCalmNext p.lab H q → client_address p.lab (q ∷ H) p.a.n p.a.c ≡ client_address p.lab H p.a.n p.a.c → Ground p (q ∷ H)
  ground_on next address = record {
    grown = (r.follows, r.ground.grown);
    address = address ∙ r.ground.address;
    way = still_in H next (asks_at p.lab p.a.c) (nats_of p.lab p.a.c) p.a.c.inside (embedded p.a.own) r.ground.way;
  }

  pub same_address : journal p.a.n (q ∷ H) ≡ journal p.a.n H → client_address p.lab (q ∷ H) p.a.n p.a.c ≡ client_address p.lab H p.a.n p.a.c
  same_address same = ap (λ (j : Journal). (qualification (setup p.lab p.a) j).address) same

  pub same_after : (e : Entry) → journal p.a.n (q ∷ H) ≡ with_entry (journal p.a.n H) e
      → (qualification (setup p.lab p.a) (with_entry (journal p.a.n H) e)).address ≡ (qualification (setup p.lab p.a) (journal p.a.n H)).address
      → client_address p.lab (q ∷ H) p.a.n p.a.c ≡ client_address p.lab H p.a.n p.a.c
  same_after e later stays = ap (λ (j : Journal). (qualification (setup p.lab p.a) j).address) later ∙ stays

  -- what comes in by a way is let in
  pub let_in : (src : Ep) → ComesIn p.lab H src p.a → IsLetIn p.lab H (now H) src (embedded p.a.own) p.a.c
  let_in src way = is_let_in p.lab H (now H) src (embedded p.a.own) p.a.n p.a.c r.trio.rules r.trio.chained r.trio.client_there
      (enters_along p.lab H r.ground.grown src (nats_of p.lab p.a.c) p.a.c.inside (embedded p.a.own) way)

  -- the client has its address, so it is qualified
  pub here : IsHere (setup p.lab p.a) (journal p.a.n H) p.a.own
  here = is_here p.lab H p.a.n p.a.c p.a.own
      (record { grown = r.ground.grown; there = r.trio.end.there; address = r.ground.address })

  -- and may send
  pub sends : (e : Entry) → Did p.lab H q p.a.n (client p.a.c) e → DoesSend p.lab H q p.a e
  sends e did = record {
    end = r.trio.end;
    kinds = r.trio.kinds;
    grown = r.ground.grown;
    way = r.ground.way;
    did = did;
    sound = r.sound;
  }

  -- a packet on the wire is a payload with nothing in front
  pub payload : (last : ℕ) (item : Item) → slice_get (wire H) last ≡ Some item → (f : Fields) → packet_at (bytes_of item) ≡ Ok f
      → ReadsPayload (value_written None None f) (bytes_of item)
  payload last item at f read =
      let made : IsMadeItem item = all_at IsMadeItem (wire H) last item (wire_is_made p.lab H r.trio.rules r.ground.grown).wire at in
      packet_is_payload (bytes_of item) f made.bytes made.short read
