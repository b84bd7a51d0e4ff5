-- `within 2`: between a client and a native host, through a relay that knows the client.
use Rattle.theory_reaching.proofs.Words.{Bool, ClientNode, ComesInTime, Grown, HostHandsIn, Ip6, KeepsItsPromise, NativeNode, Node, Reach, RelayNode, Relayed, Some, TwoClients, WayIn, address_at, address_of, and_parts, ap, asked_along, between_clients_lines, between_clients_row, by_lines, client, embedded, enters_by_its_way, false, inl, inr, known_by_relay, late_native_lines, native, nats_of, not, now, refl, relay_at, relayed, sound_first, subst, sym, to_native_row, true, two_clients, ◌&&◌, ◌∷◌, ◌≡◌, ◌⊎◌}
use Rattle.theory_settled.proofs.Earlier.{earlier}
use Rattle.theory_reaching.specs.declared.word.Reach.TheVariants as word
use Rattle.theory_reaching.proofs.to_native.OpeningLines.{past_opening}
use Rattle.theory_reaching.proofs.Tests.{elsewhere, held, failed, second_fails}
use Rattle.theory_reaching.proofs.Lines.{which_held}
use Rattle.theory_reaching.proofs.clients.MayMeetByWord.{no_packets}
use Rattle.theory_reaching.proofs.Pairs.{SaidBy, between_clients, to_native, from_native, said_by}
use Rattle.theory_reaching.proofs.clients.SettledClients.{let_in}
use Rattle.theory_reaching.proofs.from_native.BackToClient as back
use Rattle.theory_reaching.proofs.from_native.FromHost.{is_from_host}
use Rattle.theory_reaching.proofs.from_native.FromNativesInTime as from_host
use Rattle.theory_reaching.proofs.from_native.NativeMayMeetByWord.{PassesTo, IsKnownBack, SaysBack, says_back}
use Rattle.theory_reaching.proofs.to_native.ToNatives as out
use Rattle.theory_reaching.proofs.NextPacket.{NextPacket, of_nodes}

-- WHAT THE LINES SAY

abbrev is_two : Reach → Bool
is_two word.Within2 = true
is_two _ = false

-- to a native host: the two know each other, and so does the relay, which keeps nothing
record IsKnownOut (a : Relayed) : Type 0 where
  settled : a.settled ≡ true
  unlisted : (a.fresh && (a.trusted && not a.listed)) ≡ false
  known : (a.fresh && (a.trusted && not a.relay_keeps)) ≡ true

known_out : (a : Relayed) → is_two (to_native_row a) ≡ true → IsKnownOut a
known_out a = past_opening (λ (r : Reach). is_two r ≡ true → IsKnownOut a) a (λ e. elsewhere e) (λ e. elsewhere e) (by_lines (λ (r : Reach). is_two r ≡ true → IsKnownOut a) (late_native_lines a) word.Within6 (
  (λ _ e. elsewhere e),
  (λ settled. (
    (λ _ e. elsewhere e),
    (λ unlisted. (
      (λ known _. record { settled = held a.settled settled; unlisted = unlisted; known = known }),
      (λ _. (
        (λ _ e. elsewhere e),
        (λ _. (
          (λ _ e. elsewhere e),
          (λ _. (
            (λ _ e. elsewhere e),
            (λ _. ((λ _ e. elsewhere e), (λ _. ((λ _ e. elsewhere e), (λ _ e. elsewhere e))))),
          )),
        )),
      )),
    )),
  )),
))

-- it is never said of two clients
never_between : (a : TwoClients) → is_two (between_clients_row a) ≡ true → ⊥
never_between a e = which_held is_two (between_clients_lines a) word.Within5 refl e

-- THE WORD

module _ (c : ClientNode) (h : NativeNode) (the : NextPacket (client c) (native h)) where
  open the use {lab, H, is, chained, q, later, n, m, x, g, at, to, sent, fresh}

  outwards : (r : RelayNode) → relay_at lab.topology h.relay ≡ Some r → IsKnownOut (relayed lab H n c h r)
      → ComesInTime H q m (native h) x later 2
  unfolding relayed
  outwards r through s =
      let there : Grown lab (q ∷ H) = earlier lab later (q ∷ H) g in
      let w = relayed lab H n c h r in
      let first = and_parts w.fresh (w.trusted && not w.relay_keeps) s.known in
      let second = and_parts w.trusted (not w.relay_keeps) first.1 in
      out.in_time (record {
        lab = lab;
        H = H;
        q = q;
        n = n;
        m = m;
        c = c;
        h = h;
        r = r;
        x = x;
        sent_out = record {
          are = record {
            rules = is;
            chained = chained;
            grown = there.1;
            client_is = at;
            host_is = to;
            relay_is = through;
            settled = s.settled;
          };
          grown = there;
          handed = subst (λ (z : Ip6). HostHandsIn q n (address_at lab H n) z x) (ap (address_of lab H m) to) sent.handed;
          sound = sound_first q later fresh;
          fresh = first.0;
          trusted = second.0;
        };
      }) (record {
        listed = held w.listed (second_fails w.trusted (not w.listed) (second_fails w.fresh (w.trusted && not w.listed) s.unlisted first.0) second.0);
        nothing_waits = no_packets (known_by_relay H h.relay (address_at lab H n)) (failed w.relay_keeps second.1);
      }) later g fresh

module _ (h : NativeNode) (c : ClientNode) (the : NextPacket (native h) (client c)) where
  open the use {lab, H, is, chained, q, later, n, m, x, g, at, to, sent, fresh}

  backwards : (r : RelayNode) → relay_at lab.topology h.relay ≡ Some r → IsKnownBack (relayed lab H m c h r)
      → ComesInTime H q m (client c) x later 2
  unfolding relayed
  backwards r through s =
      let there : Grown lab (q ∷ H) = earlier lab later (q ∷ H) g in
      let w = relayed lab H m c h r in
      let known = and_parts w.trusts w.trusted s.known in
      let own = address_at lab H m in
      let way : WayIn lab H r.at (nats_of lab c) c.inside (embedded own) =
      asked_along lab H there.1 r.at (nats_of lab c) c.inside (embedded own)
      (enters_by_its_way lab H (now H) r.at (embedded own) c chained
      (let_in lab H m c r.at (embedded own) to (held w.let_in (second_fails w.trusts (not w.let_in) s.let_in known.0)))) in
      back.in_time (record {
        lab = lab;
        H = H;
        q = q;
        n = m;
        m = n;
        c = c;
        h = h;
        r = r;
        x = x;
        back = record {
          from = is_from_host (record {
            lab = lab;
            H = H;
            n = m;
            m = n;
            c = c;
            h = h;
            r = r;
            are = record { rules = is; chained = chained; grown = there.1; client_is = to; host_is = at; relay_is = through; settled = s.settled };
          }) q x there sent;
          trusts = known.0;
        };
      }) way known.1 later g fresh

pub two_is_kept : KeepsItsPromise word.Within2
two_is_kept lab H is chained q later n m a b x g at to said sent fresh = by (said_by (record { lab = lab; H = H; n = n; m = m; said = word.Within2 }) a b at to said) where
  the : NextPacket a b
  the = record { lab = lab; H = H; is = is; chained = chained; q = q; later = later; n = n; m = m; x = x; g = g; at = at; to = to; sent = sent; fresh = fresh }

  by : SaidBy lab H n m a b word.Within2 → ComesInTime H q m b x later 2
  by (between_clients c d same other e) = absurd (never_between (two_clients lab H n m c d) (ap is_two e))
  by (to_native c h r same other through e) = subst (λ (z : Node). ComesInTime H q m z x later 2) (sym other)
      (outwards c h (of_nodes the same other) r through (known_out (relayed lab H n c h r) (ap is_two e)))
  by (from_native h c r same other through e) = subst (λ (z : Node). ComesInTime H q m z x later 2) (sym other)
      (either_way (subst (SaysBack (relayed lab H m c h r)) e (says_back (relayed lab H m c h r)))) where
        either_way : IsKnownBack (relayed lab H m c h r) ⊎ PassesTo true false (relayed lab H m c h r) → ComesInTime H q m (client c) x later 2
        either_way (inl s) = backwards h c (of_nodes the same other) r through s
        either_way (inr p) = from_host.through h c (of_nodes the same other) r through true false p
