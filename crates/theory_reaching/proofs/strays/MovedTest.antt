-- `moved` of a test: a client that doesn't speak to its own server sends it one that leaves from elsewhere, so that the server drops it.
use Rattle.theory_reaching.proofs.Words.{Fields, Grown, HEADER, HostHandsIn, Ip6, IsIp6, IsNativeNode, List, MovedTests, None, PACKET_MAX, ReadsPayload, Settings, Some, address_at, address_is, address_of, ap, asks_at, client_address, client_made, client_settings, each_node, fields_in, inl, is_big, is_fresh, is_teredo, journal, known_by, nat_lt, native, nonce_from, now, own_address, own_address_is, packet_is_payload, qualification, subst, sym, test_bytes, test_carries, test_fields, test_reads, value_written, wire_is_made, words, ℕ, ◌+◌, ◌∙◌, ◌∷◌, ◌≡◌}
use Rattle.theory_settled.proofs.Earlier.{earlier}
use Rattle.theory_first_natives.proofs.tables.NativeReads as echoes_of
use Rattle.theory_reaching.proofs.strays.Moved.{none_come}
use Rattle.theory_reaching.proofs.strays.MovedOut.{sends_of, address_when_on}
use Rattle.theory_reaching.proofs.entries.StraightOut.{IsOneOrNone, sends_test}

pub of_tests : MovedTests
unfolding is_big
of_tests lab H q later n m c h x is g at to on stale moved sent fresh =
    none_come (record {
      lab = lab;
      H = H;
      q = q;
      n = n;
      c = c;
      x = x;
      z = its_test;
      D = asks_at lab c;
      is = record {
        rules = is;
        grown = there;
        at = at;
        on = on;
        dst = h.six;
        handed = handed;
        one = subst (λ (z : Ip6). IsOneOrNone (asks_at lab c) (test_bytes z h.six nonce) (sends_of lab H n c x)) own_is
            (subst (λ (z : Ip6). IsOneOrNone (asks_at lab c) (test_bytes (own_address (qualification s (journal n H))) z nonce)
            (sends_of lab H n c x)) goes
            (sends_test s (journal n H) (now H) x (words lab n H) handed.packet.packet (ap is_teredo goes ∙ keeps.outside.other)
            (ap (λ (z : Ip6). is_fresh (now H) (known_by H n z)) goes ∙ stale)));
        small = ap is_big fields ∙ ap (λ (k : ℕ). nat_lt PACKET_MAX (HEADER + k)) (test_carries own h.six sixteen keeps.six nonce).long;
        source = ap (λ (p : Fields). p.src) fields;
        reads = λ bytes short. subst (λ (p : Fields). ReadsPayload (value_written None None p) its_test) (sym fields)
            (packet_is_payload its_test test bytes short (test_reads own h.six sixteen keeps.six nonce).read);
        gone = inl moved;
      };
    }) m (native h) later g fresh where
      there : Grown lab (q ∷ H)
      there = earlier lab later (q ∷ H) g

      s : Settings
      s = client_settings lab.topology c

      own : Ip6
      own = address_at lab H n

      nonce : ℕ
      nonce = nonce_from (words lab n H)

      address : client_address lab H n c ≡ Some own
      address = (address_when_on lab H n c is there.1 at on).0

      own_is : own_address (qualification s (journal n H)) ≡ own
      own_is = address_is s (journal n H) own address

      handed : HostHandsIn q n own h.six x
      handed = subst (λ (z : Ip6). HostHandsIn q n own z x) (ap (address_of lab H m) to) sent.handed

      goes : (fields_in x).dst ≡ h.six
      goes = handed.packet.destination

      keeps : IsNativeNode lab.topology h
      keeps = each_node lab.topology m (native h) is to

      sixteen : IsIp6 own
      sixteen = (own_address_is s (journal n H) own (client_made lab.topology n c is at)
          ((wire_is_made lab H is there.1).journals n) address).of.sixteen

      its_test : List ℕ
      its_test = test_bytes own h.six nonce

      test : Fields
      test = echoes_of.test own h.six sixteen keeps.six nonce

      fields : fields_in its_test ≡ test
      fields = test_fields own h.six sixteen keeps.six nonce
