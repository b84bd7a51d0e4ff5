-- A test on its way to the native, its reply, and the relay's bubble on its way to the client: where a delivery of it goes, and what
-- that makes.
use Rattle.theory_first_natives.proofs.Words.{Arrival, At, Delivery, Fields, Full, GoesBetween, Ip4, Ip6, IsIp6, Item, Lab, LeavesNats, List, None, ReadsPacket, Some, [], ap, arrival, asks_at, bubble_bytes, each_is_reached, embedded, false, fields_in, inl, is_big, is_teredo, native, now, packet_reads_back, refl, same_ip6, same_ip6-self, sent, server, server_ep, server_in, six, sym, udp, ℕ, ◌∙◌, ◌∷◌, ◌≡◌}
use Rattle.theory_first_packets.proofs.tables.AtServer as server_tells
use Rattle.theory_first_natives.proofs.tables.NativeReads.{test_fields, native_answers}
use Rattle.theory_first_natives.proofs.from_native.Trio.{IsTrio, native_keeps}
use Rattle.theory_first_natives.proofs.from_native.TrioStages.{OnSix, test_of, reply_of}
use Rattle.theory_first_natives.proofs.from_native.TrioAfter.{TrioRecord, payload}
use Rattle.theory_first_natives.proofs.tables.ServerTells.{told, may_tell}
use Rattle.theory_first_natives.proofs.tables.ServerGives as server_gives
use Rattle.theory_first_natives.proofs.tables.Makes.{server_gives_test, native_echoes}
use Rattle.theory_first_natives.proofs.tables.Reply as reply

-- the record is of node k, and made one entry
pub record Makes (lab : Lab) (H : List Full) (q : Full) (k : ℕ) (x : Item) : Type 0 where
  pub node : q.node ≡ Some k
  pub calm : LeavesNats lab q
  pub moment : q.moment ≡ now H
  pub made : q.made ≡ sent x ∷ []

module _ (the : TrioRecord) where
  open the use {p, H, q, r}

  abbrev is : IsTrio p
  is = r.trio

  abbrev own : Ip6
  own = p.a.own

  pub six_of_own : IsIp6 own
  six_of_own = is.end.address.of.sixteen

  pub six_of_host : IsIp6 p.h.six
  six_of_host = (native_keeps p is).six

  -- THE RELAY'S BUBBLE

  -- at the server, which tells the client of it
  pub bubble_at_server : (last : ℕ) → Delivery p.lab H q last → At H last p.r.at (server_ep (server_in own)) (bubble_bytes p.r.six own)
      → Makes p.lab H q p.a.c.server (udp (asks_at p.lab p.a.c) (embedded own) (told p is))
  bubble_at_server last d at =
      let b : Ip4 = is.end.server_row.primary in
      let there = at ∙ ap (λ (ip : Ip4). Some (udp p.r.at (server_ep ip) (bubble_bytes p.r.six own))) (is.end.address.of.server_is ∙ is.end.primary) in
      let came : Arrival p.lab H q p.a.c.server (server is.end.server_row) (udp p.r.at (server_ep b) (bubble_bytes p.r.six own)) =
      arrival p.lab H q last d (record {
        number = p.a.c.server;
        node = server is.end.server_row;
        item = udp p.r.at (server_ep b) (bubble_bytes p.r.six own);
        at = there;
        goes = each_is_reached p.lab H (now H) (udp p.r.at (server_ep b) (bubble_bytes p.r.six own)) p.a.c.server
            (server is.end.server_row) is.rules is.end.server_is (inl refl);
      }) in
      record {
        node = came.did.node;
        calm = came.calm;
        moment = came.did.moment;
        made = server_tells.passes_on (record { lab = p.lab; a = p.a; end = is.end; peer = p.r.six; from = p.r.at; may = may_tell p is }) H q (server_ep b) came.did r.sound
            ∙ ap (λ (ip : Ip4). sent (udp (server_ep ip) (embedded own) (told p is)) ∷ []) (sym is.end.primary);
      }

  -- THE TEST, AND ITS REPLY

  module _ (nonce : ℕ) where
    test_reads : ReadsPacket (server_gives.test p is nonce) (test_of p nonce)
    test_reads = packet_reads_back (server_gives.test p is nonce) (server_gives.carries p is nonce).packet

    -- the reply goes from the native to the client, and is small
    pub reply_goes : GoesBetween p.h.six own (reply_of p nonce)
    reply_goes = reply.reply_goes own p.h.six six_of_own six_of_host nonce

    pub reply_small : is_big (fields_in (reply_of p nonce)) ≡ false
    reply_small = reply.reply_small own p.h.six six_of_own six_of_host nonce

    -- the test, at the server, which gives it to the IPv6 side
    pub test_at_server : (last : ℕ) → Delivery p.lab H q last → At H last (embedded own) (asks_at p.lab p.a.c) (test_of p nonce)
        → Makes p.lab H q p.a.c.server (six None (test_of p nonce))
    test_at_server last d at =
        let b : Ip4 = is.end.server_row.primary in
        let there = at ∙ ap (λ (ip : Ip4). Some (udp (embedded own) (server_ep ip) (test_of p nonce))) is.end.primary in
        let came : Arrival p.lab H q p.a.c.server (server is.end.server_row) (udp (embedded own) (server_ep b) (test_of p nonce)) =
        arrival p.lab H q last d (record {
          number = p.a.c.server;
          node = server is.end.server_row;
          item = udp (embedded own) (server_ep b) (test_of p nonce);
          at = there;
          goes = each_is_reached p.lab H (now H) (udp (embedded own) (server_ep b) (test_of p nonce)) p.a.c.server (server is.end.server_row) is.rules
              is.end.server_is (inl refl);
        }) in
        let reads = payload the last (udp (embedded own) (server_ep b) (test_of p nonce)) there
        (server_gives.test p is nonce) test_reads.read in
        record {
          node = came.did.node;
          calm = came.calm;
          moment = came.did.moment;
          made = server_gives_test p is H q (server_ep b) nonce reads came.did;
        }

    -- at the native, which sends the reply to its relay
    pub test_at_native : (last : ℕ) → Delivery p.lab H q last → OnSix H last None (test_of p nonce) → Makes p.lab H q p.m (six (Some p.k) (reply_of p nonce))
    test_at_native last d at =
        let came : Arrival p.lab H q p.m (native p.h) (six None (test_of p nonce)) = arrival p.lab H q last d (record {
          number = p.m;
          node = native p.h;
          item = six None (test_of p nonce);
          at = at;
          goes = each_is_reached p.lab H (now H) (six None (test_of p nonce)) p.m (native p.h) is.rules is.native_there (record {
            packet = test_reads.is_one;
            destination = ap (λ (f : Fields). same_ip6 f.dst p.h.six) (test_fields own p.h.six six_of_own six_of_host nonce)
                ∙ same_ip6-self p.h.six;
          });
        }) in
        record {
          node = came.did.node;
          calm = came.calm;
          moment = came.did.moment;
          made = native_echoes (record { lab = p.lab; H = H; q = q; m = p.m; h = p.h; x = test_of p nonce }) came.did (reply_of p nonce)
              (native_answers own p.h.six six_of_own six_of_host nonce is.end.address.of.global)
              (ap is_teredo reply_goes.destination ∙ is.end.address.of.teredo)
              ∙ ap (λ (k : ℕ). sent (six (Some k) (reply_of p nonce)) ∷ []) is.through;
        }
