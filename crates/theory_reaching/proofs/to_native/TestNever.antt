-- A fresh schedule after a packet for which the client asks first: the answer to its test isn't let in to it, so the packet never leaves.
use Rattle.theory_reaching.proofs.Words.{AllByRecursion, EntersPast, Ep, Full, Ip6, Item, Journal, List, Passing, address_at, ap, asked_along, asks_at, at_same_moment, embedded, enters_along, false, false≢true, is_led_to, is_some, journal, known, native, nats_of, now, other_journal, relay_mentions, same_ip, same_ip-self, server_ep, still_in, subst, sym, true, ℕ, ◌∙◌, ◌∷◌, ◌≡◌}
use Rattle.theory_reaching.proofs.relays.NodesApart.{client_relay}
use Rattle.theory_reaching.proofs.relays.RelayEnds.{end, along, way, no_primary}
use Rattle.theory_reaching.proofs.to_native.TestsOut.{AskingHost, IsTestItem, did, number, next, all_on_way}
use Rattle.theory_reaching.proofs.to_native.TestsOut.{passed_to, grew}
use Rattle.theory_reaching.proofs.schedules.OpensElsewhere.{was_let_in}
use Rattle.theory_reaching.proofs.schedules.Throughout.{none_brings, NoneBrings}
use Rattle.theory_reaching.proofs.to_native.TestShut.{IsShutOff, shut_before, step}
use Rattle.theory_reaching.proofs.to_native.TestUnlike.{IsNoTest}
use Rattle.theory_reaching.proofs.relays.Relays.{RelayedHosts}

module _ (the : AskingHost)
    (trusts : is_some (known (relay_mentions (journal the.h.relay the.H).entries) (now the.H) (address_at the.lab the.H the.n)).trusted ≡ true)
    (led : is_led_to the.lab the.H the.r.at (embedded (address_at the.lab the.H the.n)) the.n ≡ false) (no_request : IsNoTest the.lab the.H the.n the.h the.x) where
  open the use {lab, H, q, n, m, c, h, r, x, asks}

  abbrev own : Ip6
  own = address_at lab H n

  abbrev k : ℕ
  k = h.relay

  abbrev IsIt : Item → Type 0
  IsIt = IsTestItem the

  abbrev Enters : List Full → ℕ → Type 0
  Enters G t = EntersPast lab G t r.at (nats_of lab c) c.inside (embedded own)

  abbrev the_three : RelayedHosts
  the_three = record { lab = lab; H = H; n = n; m = m; c = c; h = h; r = r; are = asks.are }

  -- the client sent to its server alone, so the relay isn't let in after it either
  shut_then : Enters (q ∷ H) (now (q ∷ H)) → ⊥
  shut_then enters =
      let e = end the_three in
      let step = next the in
      let to_asks : server_ep e.server_row.primary ≡ asks_at lab c = ap server_ep (sym e.primary) in
      shut_before (record { the = the; trusts = trusts; led = led; no_request = no_request }) (enters_along lab H asks.are.grown r.at (nats_of lab c) c.inside (embedded own)
      (was_let_in (record {
        lab = lab;
        H = H;
        q = q;
        s = asks_at lab c;
        src = r.at;
        g = asks.grown;
        next = step;
        other = apart;
        all = subst (λ (s : Ep). AllByRecursion (λ (p : Passing). p.datagram.dst ≡ s) q.passed) to_asks (passed_to the);
      }) (nats_of lab c) c.inside (embedded own) (along the_three).kinds (grew the)
      (way the_three)
      (asked_along lab (q ∷ H) asks.grown r.at (nats_of lab c) c.inside (embedded own) enters)))
    where
      apart : r.at.ip ≡ (asks_at lab c).ip → ⊥
      apart same = false≢true (sym (no_primary the_three)
          ∙ ap (same_ip r.at.ip) (sym (end the_three).primary ∙ sym same) ∙ same_ip-self r.at.ip)

  at_first : IsShutOff (record { the = the; trusts = trusts; led = led; no_request = no_request }) (q ∷ H)
  at_first =
      let step = next the in
      record {
        trusted = at_same_moment (λ (j : Journal) (t : ℕ). is_some (known (relay_mentions j.entries) t own).trusted ≡ true) H q k (journal k H) step.moment
            (other_journal lab H q n k (did the).node
            (client_relay the_three)) trusts;
        shut = shut_then;
        way = still_in H step (asks_at lab c) (nats_of lab c) c.inside (embedded own)
            (way the_three);
      }

  -- so no delivery brings it
  pub none_come : NoneBrings lab H q m (native h) x
  none_come = none_brings lab H q m (native h) x IsIt (IsShutOff (record { the = the; trusts = trusts; led = led; no_request = no_request }))
      (λ this sound is off.
      step (record { the = the; trusts = trusts; led = led; no_request = no_request }) this off is) (number the)
      (all_on_way the) at_first
