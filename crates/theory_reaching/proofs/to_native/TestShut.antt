-- A delivery on the way of a client's test, where the relay isn't let in to the client: the packet doesn't leave, and nobody is let in.
use Rattle.theory_reaching.proofs.Words.{AllByRecursion, Comes, Delivery, EntersPast, Full, Ip6, IsLetIn, IsMissed, Item, Journal, List, Node, Some, WayIn, [], address_at, ap, as_client, asks_at, at_same_moment, comes_or_not, deliveries, each_so, embedded, ends_at, enters_along, enters_by_its_way, false, false≢true, filter_map, is_led_to, is_let_in, is_nat_node, is_reached, is_some, item_in, journal, known, leaves_nats, let_in_too, nat_history, native, nats_of, node_at, now, option_and_then, other_journal, reaches, refl, relay, relay_mentions, route, same_number, server, shut_there, still_in, subst, sym, to_client, to_node, to_none, true, udp, with_entry, ℕ, ◌∙◌, ◌∷◌, ◌≡◌}
use Rattle.legal.specs.Deliveries.{to_nobody}
use Rattle.theory_reaching.proofs.schedules.WayStays as way_stays
use Rattle.theory_reaching.proofs.schedules.ApartWays.{entered_before}
use Rattle.theory_reaching.proofs.relays.NodesApart.{server_relay, native_relay}
use Rattle.theory_reaching.proofs.relays.RelayEnds.{end, relay_there}
use Rattle.theory_reaching.proofs.to_native.TestItems.{to_its_server, made_there, to_host, made_at_host}
use Rattle.theory_reaching.proofs.to_native.TestAnswered.{to_relay, done, still_trusted, made_at_relay}
use Rattle.theory_reaching.proofs.to_native.TestsOut.{AskingHost, IsTestItem, asking, tested, answering, returning}
use Rattle.theory_reaching.proofs.schedules.Throughout.{Goes, OneDelivery}
use Rattle.theory_reaching.proofs.to_native.TestUnlike.{IsNoTest, same_item, silent}
use Rattle.theory_reaching.proofs.relays.Relays.{RelayedHosts}

-- a test whose answer isn't let in
pub record ShutTest : Type 0 where
  pub the : AskingHost
  pub trusts : is_some (known (relay_mentions (journal the.h.relay the.H).entries) (now the.H) (address_at the.lab the.H the.n)).trusted ≡ true
  pub led : is_led_to the.lab the.H the.r.at (embedded (address_at the.lab the.H the.n)) the.n ≡ false
  pub no_request : IsNoTest the.lab the.H the.n the.h the.x

module _ (shut_test : ShutTest) where
  open shut_test use {the, led, no_request}
  open the use {lab, H, q, n, m, c, h, r, x, asks}

  abbrev own : Ip6
  own = address_at lab H n

  abbrev k : ℕ
  k = h.relay

  abbrev there : option_and_then as_client (node_at lab.topology n) ≡ Some c
  there = ap (option_and_then as_client) asks.are.client_is

  abbrev IsIt : Item → Type 0
  IsIt = IsTestItem the

  abbrev Enters : List Full → ℕ → Type 0
  Enters G t = EntersPast lab G t r.at (nats_of lab c) c.inside (embedded own)

  -- the relay trusts the client and isn't let in to it, and the client's server is
  pub record IsShutOff (G : List Full) : Type 0 where
    pub trusted : is_some (known (relay_mentions (journal k G).entries) (now G) own).trusted ≡ true
    pub shut : Enters G (now G) → ⊥
    pub way : WayIn lab G (asks_at lab c) (nats_of lab c) c.inside (embedded own)

  pub shut_before : Enters H (now H) → ⊥
  unfolding is_led_to
  shut_before enters =
      let goes = to_client lab asks.are.rules H n [] asks.are.client_is
      (is_let_in lab H (now H) r.at (embedded own) n c asks.are.rules asks.are.chained there enters) in
      false≢true (sym led ∙ ap (ends_at n) goes ∙ same_number n)

  -- THE NODES

  abbrev relay_node : node_at lab.topology k ≡ Some (relay r)
  relay_node = relay_there (record { lab = lab; H = H; n = n; m = m; c = c; h = h; r = r; are = asks.are })

  -- A DELIVERY

  module _ (this : OneDelivery lab) (off : IsShutOff this.G) where
    open this use {G, p, serial, y, g, delivered}

    abbrev Result : Type 0
    Result = Goes lab H q m (native h) x IsIt IsShutOff G p

    abbrev Stay : Type 0
    Stay = AllByRecursion (λ (j : ℕ). nat_history lab j (p ∷ G) ≡ nat_history lab j G) (nats_of lab c)

    abbrev the_three : RelayedHosts
    the_three = record { lab = lab; H = H; n = n; m = m; c = c; h = h; r = r; are = asks.are }

    -- the NATs of the client's way stay as they were where its node is none
    stay : (b : ℕ) (a : Node) → p.node ≡ Some b → p.passed ≡ [] → node_at lab.topology b ≡ Some a → is_nat_node a ≡ false → Stay
    stay b a node passed there kind = way_stays.stay lab G p b a node passed there kind (nats_of lab c)
        (end the_three).nats

    stays : (j : Journal) → p.moment ≡ now G → Stay → journal k (p ∷ G) ≡ j → is_some (known (relay_mentions j.entries) (now G) own).trusted ≡ true
        → IsShutOff (p ∷ G)
    stays j moment same later trusted = record {
      trusted = at_same_moment (λ (u : Journal) (t : ℕ). is_some (known (relay_mentions u.entries) t own).trusted ≡ true) G p k j moment later trusted;
      shut = λ enters. off.shut (entered_before lab G (p ∷ G) (now G) r.at (nats_of lab c) c.inside (embedded own) same (subst (Enters (p ∷ G)) moment enters));
      way = still_in {lab = lab} G {r = p} (record {
        follows = g.0;
        calm = leaves_nats lab G p serial (deliveries lab G p serial g delivered);
        moment = moment;
      }) (asks_at lab c) (nats_of lab c) c.inside (embedded own) off.way;
    }

    missed : IsIt y → (z : Item) → IsMissed lab G p z → Result
    missed is z miss = record {
      made = subst (AllByRecursion IsIt) (sym (ap (filter_map item_in) miss.made)) tt;
      stays = stays (journal k G) miss.moment (each_so (λ j _. miss.nats j) (nats_of lab c) (end the_three).nats)
          (miss.journals k) off.trusted;
      silent = silent the no_request this is;
    }

    server_in : IsLetIn lab G (now G) (asks_at lab c) (embedded own) c
    server_in = is_let_in lab G (now G) (asks_at lab c) (embedded own) n c asks.are.rules asks.are.chained there
        (enters_along lab G g.1 (asks_at lab c) (nats_of lab c) c.inside (embedded own) off.way)

    -- what the relay sends to the client comes to nobody
    to_no_node : (z : List ℕ) (j : ℕ) (a : Node) → route lab G (now G) (udp r.at (embedded own) z) ≡ reaches j a → ⊥
    to_no_node z j a goes = by (comes_or_not (record {
      lab = lab;
      H = G;
      g = g.1;
      src = asks_at lab c;
      other = r.at;
    }) (embedded own) c server_in) where
      by : Comes (record { lab = lab; H = G; g = g.1; src = asks_at lab c; other = r.at }) (embedded own) c → ⊥
      by (let_in_too enters) = off.shut (enters_by_its_way lab G (now G) r.at (embedded own) c asks.are.chained enters)
      by (shut_there b out) = false≢true (ap is_reached (sym (to_none lab asks.are.rules G r.at (embedded own) z b out) ∙ goes))

    goes_off : (z : List ℕ) → y ≡ udp r.at (embedded own) z → Result
    goes_off z is = by (deliveries lab G p serial g delivered) where
      by : Delivery lab G p serial → Result
      by (to_node j a u to reached) = absurd (to_no_node z j a (ap (route lab G (now G))
          (sym (same_item the no_request this u to ∙ is)) ∙ reached.leads))
      by (to_nobody u to miss) = missed (returning z is) u miss

    pub step : IsIt y → Result
    step (asking is) =
        let e = end the_three in
        let d = (to_its_server the this is).did in
        record {
          made = made_there the this is;
          stays = stays (journal k G) d.moment (stay c.server (server e.server_row) d.node d.passed e.server_is refl)
              (other_journal lab G p c.server k d.node (server_relay the_three)) off.trusted;
          silent = silent the no_request this (asking is);
        }
    step (tested is) =
        let d = (to_host the this is).did in
        record {
          made = made_at_host the this is;
          stays = stays (journal k G) d.moment (stay m (native h) d.node d.passed asks.are.host_is refl)
              (other_journal lab G p m k d.node (native_relay the_three)) off.trusted;
          silent = silent the no_request this (tested is);
        }
    step (answering z is to_own) =
        let d = (to_relay the this (record { z = z; is = is; to_own = to_own; trusted = off.trusted })).did in
        record {
          made = made_at_relay the this (record { z = z; is = is; to_own = to_own; trusted = off.trusted });
          stays = stays (with_entry (journal k G) (done the this (record { z = z; is = is; to_own = to_own; trusted = off.trusted }))) d.moment
              (stay k (relay r) d.node d.passed relay_node refl) d.later
              (still_trusted the this (record { z = z; is = is; to_own = to_own; trusted = off.trusted }));
          silent = silent the no_request this (answering z is to_own);
        }
    step (returning z is) = goes_off z is
