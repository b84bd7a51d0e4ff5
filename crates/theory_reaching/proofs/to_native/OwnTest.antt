-- A client's packet for a native host that isn't fresh, where it is, byte for byte, the test that the packet's own record draws: the server
-- brings it to the host by the second delivery. A packet that isn't comes as the other files say, and where no test is drawn nothing does.
use Rattle.theory_reaching.proofs.Words.{AreFresh, ClientNode, ComesInTime, Entry, Full, Grown, Ip6, IsOwnTest, Item, Lab, List, NativeNode, None, NoneButItsTest, Option, Send, Some, SomeBrings, [], address_at, alone, ap, bearing_of, client, client_out, client_settings, embedded, false≢true, fields_in, filter_map, is_fresh, is_some, item_in, items_of, journal, known_by, map, native, now, refl, sent, server_ep, six, subst, suc, sym, test_bytes, true, udp, unwrap_or, words, ℕ, ◌++◌, ◌∙◌, ◌∷◌, ◌≡◌}
use Rattle.theory_first_packets.proofs.HandedIn as handed_in
use Rattle.theory_reaching.proofs.to_native.AtNative.{brought}
use Rattle.theory_reaching.proofs.to_native.Outwards as outwards
use Rattle.theory_reaching.proofs.to_native.Outwards.{GoesOutwards}
use Rattle.theory_reaching.proofs.to_native.TestItems as items
use Rattle.theory_reaching.proofs.entries.TestTried.{DrawsTest, silent, tests, draws_none_of_fresh}
use Rattle.theory_reaching.proofs.to_native.TestUnlike.{IsNoTest}
use Rattle.theory_reaching.proofs.to_native.TestsOut as out
use Rattle.theory_reaching.proofs.to_native.TestsOut.{AskingHost}
use Rattle.theory_reaching.proofs.schedules.TwoDeliveries.{second_brings}

-- THE NONCE

-- what a record did is one entry
same_entry : (q : Full) (e f : Entry) → q.entry ≡ Some e → q.entry ≡ Some f → e ≡ f
same_entry q e f one other = ap (λ (o : Option Entry). unwrap_or o f) (sym one ∙ other)

-- so there is no test of a record that draws no nonce
no_own_test : (q : Full) (own host : Ip6) (x : List ℕ) (e : Entry) → q.entry ≡ Some e → (bearing_of e.step.fate e).nonce ≡ None
    → IsOwnTest q own host x → ⊥
no_own_test q own host x e did none is =
    let same = same_entry q is.entry e is.did did in
    false≢true (sym (ap (λ (f : Entry). is_some (bearing_of f.step.fate f).nonce) same ∙ ap (λ (o : Option ℕ). is_some o) none)
    ∙ ap (λ (o : Option ℕ). is_some o) is.drew)

-- of a packet for a host that is fresh none is drawn
pub none_of_fresh : (lab : Lab) (H : List Full) (q : Full) (later : List Full) (n m : ℕ) (c : ClientNode) (h : NativeNode) (x : List ℕ)
    → GoesOutwards lab H q later n m c h x → is_fresh (now H) (known_by H n h.six) ≡ true → IsOwnTest q (fields_in x).src h.six x → ⊥
none_of_fresh lab H q later n m c h x goes fresh =
    let handed = outwards.handed (record { lab = lab; H = H; q = q; later = later; n = n; m = m; c = c; h = h; x = x; goes = goes }) in
    let hand = handed_in.hand lab H q n (client c) x (record {
      rules = goes.rules;
      grown = outwards.there (record { lab = lab; H = H; q = q; later = later; n = n; m = m; c = c; h = h; x = x; goes = goes });
      there = goes.client_is;
      own = address_at lab H n;
      other = h.six;
      handed = handed;
    }) in
    no_own_test q (fields_in x).src h.six x (client_out (client_settings lab.topology c) (journal n H) (now H) x (words lab n H)) hand.entry
    (draws_none_of_fresh (client_settings lab.topology c) (journal n H) (now H) x (words lab n H) handed.packet.packet
    (ap (λ (z : Ip6). is_fresh (now H) (known_by H n z)) handed.packet.destination ∙ fresh))

module _ (the : AskingHost) where
  open the use {lab, H, q, n, m, c, h, r, x, asks}

  abbrev own : Ip6
  own = address_at lab H n

  abbrev test : List ℕ
  test = out.test the

  abbrev e : Entry
  e = out.done the

  abbrev one : Item
  one = udp (embedded own) (server_ep (out.server_row the).primary) test

  abbrev its_sends : List Send
  its_sends = out.the_test the ∷ []

  did : q.entry ≡ Some e
  did = (out.hand the).entry

  -- nothing sent is nothing made
  sends_nothing : e.step.sends ≡ [] → q.made ≡ []
  sends_nothing nothing = out.leaves the ∙ ap (map (λ (z : Send). sent (udp (embedded own) z.to z.bytes))) nothing

  -- where it is the record's own test, this went out alone, and has these bytes
  record IsSentTest : Type 0 where
    sends : e.step.sends ≡ its_sends
    same : test ≡ x

  is_sent_test : IsOwnTest q own h.six x → IsSentTest
  is_sent_test is = by (out.drawn the) where
    by : DrawsTest (out.the_test the) (out.nonce the) e → IsSentTest
    by (silent nothing none) = absurd (no_own_test q own h.six x e did none is)
    by (tests sends nonce) =
        let same = same_entry q is.entry e is.did did in
        let drew : Some is.nonce ≡ Some (out.nonce the) = sym is.drew
        ∙ ap (λ (f : Entry). (bearing_of f.step.fate f).nonce) same ∙ nonce in
        let its : is.nonce ≡ out.nonce the = ap (λ (o : Option ℕ). unwrap_or o is.nonce) drew in
        record { sends = sends; same = sym (is.same ∙ ap (λ (k : ℕ). test_bytes own h.six k) its) }

  -- THE TWO DELIVERIES

  module _ (sends : e.step.sends ≡ its_sends) where
    makes : items_of q ≡ one ∷ []
    makes = ap (filter_map item_in) (out.leaves the
        ∙ ap (map (λ (z : Send). sent (udp (embedded own) z.to z.bytes))) sends)

    test_comes : (later : List Full) → Grown lab (later ++ q ∷ H) → AreFresh q later → ComesInTime H q m (native h) test later 2
    test_comes = second_brings (record {
      lab = lab;
      H = H;
      q = q;
      one = one;
      two = six None test;
      number = out.number the;
      makes = makes;
      goes_on = λ p g sound delivered at. ap (filter_map item_in) (items.made_by_server the
          (record { G = q ∷ H; p = p; serial = q.first; y = one; g = g; delivered = delivered; at = at }) refl);
    }) m (native h) test (λ s p g sound delivered at again to. brought lab (p ∷ q ∷ H) s (suc q.first) m h test
        (items.goes_to_host the (p ∷ q ∷ H)) g again to)

  -- EACH PACKET

  -- a word that says of all other packets that none comes says this
  pub none_but_the_test : (later : List Full) → Grown lab (later ++ q ∷ H) → AreFresh q later
      → (IsNoTest lab H n h x → SomeBrings m (native h) x later → ⊥) → NoneButItsTest H q m h x later
  none_but_the_test later g fresh others = record {
    test = λ is. comes (subst (λ (u : Ip6). IsOwnTest q u h.six x) asks.handed.packet.source is);
    others = λ isnt. shut (λ is. isnt (subst (λ (u : Ip6). IsOwnTest q u h.six x) (sym asks.handed.packet.source) is));
  } where
    comes : IsOwnTest q own h.six x → ComesInTime H q m (native h) x later 2
    comes is = let t = is_sent_test is in subst (λ (z : List ℕ). ComesInTime H q m (native h) z later 2) t.same (test_comes t.sends later g fresh)

    shut : (IsOwnTest q own h.six x → ⊥) → SomeBrings m (native h) x later → ⊥
    shut isnt = by (out.drawn the) where
      by : DrawsTest (out.the_test the) (out.nonce the) e
          → SomeBrings m (native h) x later → ⊥
      by (silent nothing none) come = subst (SomeBrings m (native h) x) (alone lab H q asks.grown (sends_nothing nothing) later g fresh) come
      by (tests sends nonce) come = others (λ same. isnt (record { entry = e; did = did; nonce = _; drew = nonce; same = sym same })) come
