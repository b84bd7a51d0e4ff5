-- A packet for a native host that goes to its relay at once, where the relay doesn't list the client: it is dropped there.
use Rattle.theory_reaching.proofs.Words.{AllByRecursion, Arrival, Entry, Ep, Full, Input, Ip6, Item, Journal, List, None, Option, ReadsPayload, RelaySettings, Send, Some, Value, [], address_at, ap, armed, arrival, arrived, at_same_moment, deliveries, embedded, entry_in, false, fields_in, filter_map, is_big, is_listed, is_teredo, item_in, journal, length, listed_is_known, native, node_at, node_is_reached, now, other_journal, outright, own_ep, packet_in, packet_is_payload, read_as, refl, relay, relay_in, relay_mention, relay_mentions, relay_reception_step, relay_settings, relay_standing_at, same_ep-self, six_made, subst, sym, true, udp, unkeyed, unlisted_is_dropped, unwrap_or, value_written, with_entry, wordless_entry, ℕ, ◌++◌, ◌∙◌, ◌∷◌, ◌≡◌}
use Rattle.teredo_node.specs.declared.fate.Fate.TheVariants as fate
use Rattle.theory_first_natives.proofs.tables.RelayHears.{seen_here}
use Rattle.theory_reaching.proofs.relays.NodesApart.{client_relay, relay_native}
use Rattle.theory_reaching.proofs.relays.RelayEnds.{relay_there}
use Rattle.theory_reaching.proofs.schedules.Throughout.{Goes, NoneBrings, none_brings, OneDelivery}
use Rattle.theory_reaching.proofs.to_native.ToRelay.{SentOut, did, small, bytes, number, makes, teredo, fits}
use Rattle.theory_reaching.proofs.clients.Unheard.{as_listed}
use Rattle.theory_reaching.proofs.relays.Relays.{RelayedHosts}

-- THE RELAY'S TABLE

-- nothing is sent, and the client isn't listed afterwards
record IsDropped (j : List Entry) (n : ℕ) (p : Ip6) (from : Ep) (x : List ℕ) (e : Entry) : Type 0 where
  sends : e.step.sends ≡ []
  six : e.step.six ≡ None
  input : e.input ≡ arrived from x
  listed : is_listed p n (relay_mentions (e ∷ j)) ≡ is_listed p n (relay_mentions j)

module _ (s : RelaySettings) (j : List Entry) (n : ℕ) (x : List ℕ) (reads : ReadsPayload (value_written None None (fields_in x)) x)
    (short : is_big (fields_in x) ≡ false) (teredo_src : is_teredo (fields_in x).src ≡ true)
    (unlisted : is_listed (fields_in x).src n (relay_mentions j) ≡ false) where
  abbrev peer : Ip6
  peer = (fields_in x).src

  abbrev from : Ep
  from = embedded peer

  abbrev v : Value
  v = value_written None None (fields_in x)

  abbrev got : Entry
  got = wordless_entry n (arrived from x) (packet_in x) (Some peer) (relay_reception_step (relay_standing_at j n peer) x v fate.Unlisted)

  is_dropped : IsDropped j n peer from x (relay_in s j n from x)
  unfolding relay_standing_at relay_mentions
  is_dropped = subst (IsDropped j n peer from x) (sym (entry_in s j n from x v reads
      (unlisted_is_dropped (seen_here s j n from x v reads) refl (unkeyed (fields_in x)) short teredo_src (same_ep-self from)
      (listed_is_known (relay_mentions j) n peer ∙ unlisted))))
      (record { sends = refl; six = refl; input = refl; listed = as_listed (relay_mention got) (relay_mentions j) n refl peer })

-- THE SCHEDULE

module _ (the : SentOut)
    (unlisted : is_listed (address_at the.lab the.H the.n) (now the.H) (relay_mentions (journal the.h.relay the.H).entries) ≡ false) where
  open the use {lab, H, q, n, m, c, h, r, x, sent_out}

  abbrev own : Ip6
  own = address_at lab H n

  abbrev k : ℕ
  k = h.relay

  abbrev the_three : RelayedHosts
  the_three = record { lab = lab; H = H; n = n; m = m; c = c; h = h; r = r; are = sent_out.are }

  abbrev there : node_at lab.topology k ≡ Some (relay r)
  there = relay_there the_three

  abbrev IsIt : Item → Type 0
  IsIt y = y ≡ udp (embedded own) r.at x

  abbrev IsUnlisted : List Full → Type 0
  IsUnlisted G = is_listed own (now G) (relay_mentions (journal k G).entries) ≡ false

  module _ (this : OneDelivery lab) (is : IsIt this.y) (not_listed : IsUnlisted this.G) where
    open this use {G, p, serial, g, delivered, at}

    came : Arrival lab G p k (relay r) (udp (embedded own) r.at x)
    came = arrival lab G p serial (deliveries lab G p serial g delivered) (record {
      number = k;
      node = relay r;
      item = udp (embedded own) r.at x;
      at = at ∙ ap (λ (z : Item). Some z) is;
      goes = node_is_reached lab G (now G) (udp (embedded own) r.at x) k (relay r) sent_out.are.rules there refl;
    })

    abbrev e : Entry
    e = relay_in (relay_settings lab.topology k r) (journal k G).entries (now G) (embedded own) x

    it : IsDropped (journal k G).entries (now G) own (embedded own) x e
    it =
        let src = sent_out.handed.packet.source in
        subst (λ (z : Ip6). IsDropped (journal k G).entries (now G) z (embedded z) x
        (relay_in (relay_settings lab.topology k r) (journal k G).entries (now G) (embedded z) x)) src
        (is_dropped (relay_settings lab.topology k r) (journal k G).entries (now G) x
        (packet_is_payload x (fields_in x) (bytes the)
        (fits the (length x) sent_out.handed.packet.short) (read_as x sent_out.handed.packet.packet))
        (small the) (ap is_teredo src ∙ teredo the)
        (ap (λ (z : Ip6). is_listed z (now G) (relay_mentions (journal k G).entries)) src ∙ not_listed))

    nothing : p.made ≡ []
    nothing = came.did.made
        ∙ ap (λ (xs : List Send). outright (own_ep (relay r)) (armed G) 0 xs ++ six_made e.input e.step.six) it.sends
        ∙ ap (λ (u : Input). six_made u e.step.six) it.input
        ∙ ap (six_made (arrived (embedded own) x)) it.six

    step : Goes lab H q m (native h) x IsIt IsUnlisted G p
    step = record {
      made = subst (AllByRecursion IsIt) (sym (ap (filter_map item_in) nothing)) tt;
      stays = at_same_moment (λ (j : Journal) (t : ℕ). is_listed own t (relay_mentions j.entries) ≡ false) G p k (with_entry (journal k G) e) came.did.moment
          came.did.later (it.listed ∙ not_listed);
      silent = λ b. relay_native the_three (ap (λ (o : Option ℕ). unwrap_or o k) (sym came.did.node ∙ b.node));
    }

  -- so no delivery brings it
  pub none_come : NoneBrings lab H q m (native h) x
  none_come = none_brings lab H q m (native h) x IsIt IsUnlisted (λ this sound is off. step this is off)
      (number the) (subst (AllByRecursion IsIt) (sym (makes the)) (refl, tt))
      (at_same_moment (λ (j : Journal) (t : ℕ). is_listed own t (relay_mentions j.entries) ≡ false) H q k (journal k H)
      (did the).moment
      (other_journal lab H q n k (did the).node (client_relay the_three)) unlisted)
