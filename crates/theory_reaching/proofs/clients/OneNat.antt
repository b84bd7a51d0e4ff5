-- `one_nat`: what comes from a NAT's address goes to another one, so a packet of a client behind the receiver's outermost NAT doesn't
-- come, whoever spoke for others before.
use Rattle.theory_reaching.proofs.Words.{All-contains, All-from_recursion, AllByRecursion, ClientNode, Contains, Delivers, EntersPast, Ep, Event, Full, GivesToHost, GoesElsewhere, Grown, Ip6, IsBrought, IsLetIn, IsSettledAlong, Item, KeepsBetweenClients, Lab, List, Option, Reach, Some, SomeBrings, TwoClients, Verb, [], address_at, and_parts, ap, as_client, asked_for, asks_at, between_clients_row, by_lines, client, client_at, client_settings, early_client_lines, embedded, enters_by_its_way, eqb-true, false, false≢true, fields_in, first_is, host_hands, inl, inr, is_brought, is_settled, is_teredo, items_of, journal, last_nat, late_is_foreign, nat_of, now, option_and_then, outer_nats_of, outermost, own_is_teredo, refl, slice_get, subst, sym, true, two_clients, udp, unwrap_or, wire, ℕ, ◌∙◌, ◌∷◌, ◌≡◌, ◌⊎◌}
use Rattle.legal.specs.Kinds.{Hands}
use Rattle.events.specs.declared.event.Event.TheVariants as event
use Rattle.theory_settled.proofs.Earlier.{earlier}
use Rattle.theory_reaching.specs.declared.word.Reach.TheVariants as word
use Rattle.theory_reaching.proofs.clients.LateLines.{past_opening, late_word, never_later}
use Rattle.theory_reaching.proofs.Tests.{elsewhere, held}
use Rattle.theory_reaching.proofs.WordTests.{is_one_nat}
use Rattle.theory_reaching.proofs.clients.GoesOn.{is_delivery}
use Rattle.theory_reaching.proofs.strays.LeavesElsewhere.{is_put, all_elsewhere}
use Rattle.theory_reaching.proofs.schedules.Throughout.{Goes, none_brings, OneDelivery}
use Rattle.theory_reaching.proofs.clients.SettledClients.{settled_along}
use Rattle.theory_reaching.proofs.Pairs.{of_clients}
use Rattle.theory_reaching.proofs.NextPacket.{NextPacket}

-- WHAT THE LINES SAY

record AreNeighbours (a : TwoClients) : Type 0 where
  settled : a.settled ≡ true
  one_nat : a.one_nat ≡ true

neighbours : (a : TwoClients) → is_one_nat (between_clients_row a) ≡ true → AreNeighbours a
neighbours a = past_opening (λ (r : Reach). is_one_nat r ≡ true → AreNeighbours a) a (λ e. elsewhere e) (λ e. elsewhere e) (λ e. elsewhere e) (λ e. elsewhere e) (by_lines
    (λ (r : Reach). is_one_nat r ≡ true → AreNeighbours a) (early_client_lines a)
    (late_word a) (
      (λ _ e. elsewhere e),
      (λ settled. (
        (λ one _. record { settled = held a.settled settled; one_nat = one }),
        (λ _. (
          (λ _ e. elsewhere e),
          (λ _. (
            (λ _ e. elsewhere e),
            (λ _. (
              (λ _ e. elsewhere e),
              (λ _. (
                (λ _ e. elsewhere e),
                (λ _. (
                  (λ _ e. elsewhere e),
                  (λ _. ((λ _ e. elsewhere e), (λ _ e. never_later is_one_nat a (refl, (refl, (refl, (refl, (refl, (refl, (refl, (refl, (refl, (refl, tt)))))))))) refl e))),
                )),
              )),
            )),
          )),
        )),
      )),
    ))

-- EVENTS

-- no delivery puts a datagram onto the wire that no node sent, and no host does
delivery_puts_none : (H : List Full) (e : Event) (k : ℕ) → Delivers H e k → is_put e ≡ false
delivery_puts_none H (event.Stranger src dst bytes) k d = absurd d
delivery_puts_none H (event.Copy number src dst) k d = absurd d
delivery_puts_none H _ k d = refl

host_puts_none : (lab : Lab) (H : List Full) (e : Event) (v : Verb) (n : ℕ) (x : List ℕ) → Hands lab H e v n x → is_put e ≡ false
host_puts_none lab H (event.Stranger src dst bytes) v n x h = absurd h
host_puts_none lab H (event.Copy number src dst) v n x h = absurd h
host_puts_none lab H _ v n x h = refl

-- THE SENDER'S ADDRESS

-- a way in leads from the address of its last NAT
last_address : (lab : Lab) (H : List Full) (m : ℕ) (src : Ep) (k : ℕ) (way : List ℕ) (inside dst : Ep) → EntersPast lab H m src (k ∷ way) inside dst
    → dst.ip ≡ (nat_of lab (last_nat k way)).external
last_address lab H m src k [] inside dst w = subst (λ (e : Ep). e.ip ≡ (nat_of lab k).external) w.3 w.1
last_address lab H m src k (j ∷ way) inside dst w = last_address lab H m src j way w.0 dst w.3

module _ (c d : ClientNode) (the : NextPacket (client c) (client d)) (settled : IsSettledAlong the.lab the.H the.n c (address_at the.lab the.H the.n))
    (same : outermost the.lab c ≡ outermost the.lab d) where
  open the use {lab, H, is, chained, q, later, n, m, x, to, sent}

  abbrev own : Ip6
  own = address_at lab H n

  -- what is let in to a client goes to the address of its outermost NAT
  goes_to_outermost : (G : List Full) (t : ℕ) (src dst : Ep) (e : ClientNode) → IsLetIn lab G t src dst e → dst.ip ≡ (nat_of lab (outermost lab e)).external
  goes_to_outermost G t src dst e in_ =
      last_address lab G t src e.nat (outer_nats_of lab e) e.inside dst (enters_by_its_way lab G t src dst e chained in_)

  -- so the sender's address says where the receiver's own datagrams leave
  external : (embedded own).ip ≡ (nat_of lab (outermost lab d)).external
  external =
      goes_to_outermost H (now H) (asks_at lab c) (embedded own) c settled.reached
      ∙ ap (λ (k : ℕ). (nat_of lab k).external) same

  teredo : is_teredo (fields_in x).src ≡ true
  teredo =
      ap is_teredo sent.handed.packet.source ∙ own_is_teredo (client_settings lab.topology c) (journal n H) own settled.address

  -- THE SCHEDULE

  -- each entry of it that comes from a NAT's address goes to another one; of the records nothing more is wanted
  abbrev Anything : List Full → Type 0
  Anything G = Unit {0}

  module _ (this : OneDelivery lab) (goes : GoesElsewhere lab this.y) where
    open this use {G, p, serial, y, g, delivered, at}

    there : client_at lab.topology m ≡ Some d
    there = ap (option_and_then as_client) to

    -- what brings the packet would go back to where it comes from
    comes_back : IsBrought lab G p d x → ⊥
    comes_back b =
        let number : b.number ≡ serial = ap (λ (o : Option ℕ). unwrap_or o b.number) (sym b.delivered ∙ delivered) in
        let item : y ≡ udp b.src b.dst b.bytes =
        ap (λ (o : Option Item). unwrap_or o y) (sym at ∙ ap (λ (i : ℕ). slice_get (wire G) i) (sym number) ∙ b.datagram) in
        let one : GoesElsewhere lab (udp b.src b.dst b.bytes) = subst (GoesElsewhere lab) item goes in
        let back : b.src.ip ≡ b.dst.ip =
        ap (λ (e : Ep). e.ip) (b.embeds teredo) ∙ ap (λ (z : Ip6). (embedded z).ip) sent.handed.packet.source ∙ external
        ∙ sym (goes_to_outermost G (now G) b.src b.dst d b.let_in) in
        one b.let_in.outer b.let_in.row b.let_in.there (back ∙ b.let_in.external) b.let_in.external

    silent : GivesToHost m x p → ⊥
    silent b = by b.packet where
      by : (p.handed ≡ Some x) ⊎ Contains p.late x → ⊥
      by (inl handed) = comes_back (is_brought lab G p m d x g (record { node = b.node; client = there; packet = handed }))
      by (inr late) = false≢true (sym (All-contains (λ (z : List ℕ). is_teredo (fields_in z).src ≡ false) p.late x
          (All-from_recursion (λ (z : List ℕ). is_teredo (fields_in z).src ≡ false) p.late (late_is_foreign lab G p m d g b.node there)) late) ∙ teredo)

    step : Goes lab H q m (client d) x (GoesElsewhere lab) Anything G p
    step = record {
      made = all_elsewhere lab G p (delivery_puts_none G p.asked serial (is_delivery G p serial (asked_for lab G p g.0) delivered).asked) is g;
      stays = tt;
      silent = silent;
    }

  first_made : Grown lab (q ∷ H) → AllByRecursion (GoesElsewhere lab) (items_of q)
  first_made g =
      let taken = host_hands H the.at g.0 sent.handed in
      all_elsewhere lab H q (host_puts_none lab H q.asked taken.verb n x taken.hands) is g

  -- so no delivery brings it
  none_come : SomeBrings m (client d) x later → ⊥
  none_come =
      let grown : Grown lab (q ∷ H) = earlier lab later (q ∷ H) the.g in
      none_brings lab H q m (client d) x (GoesElsewhere lab) Anything
      (λ this sound goes any. step this goes)
      (first_is lab H q grown) (first_made grown) tt later the.g the.fresh

pub one_nat_is_kept : KeepsBetweenClients word.OneNat
unfolding two_clients
one_nat_is_kept lab H is chained q later n m c d x g at to said sent fresh =
    two (of_clients (record { lab = lab; H = H; n = n; m = m; said = word.OneNat }) AreNeighbours (λ a w. neighbours a (ap is_one_nat w)) c d at to said) where
      two : AreNeighbours (two_clients lab H n m c d) → SomeBrings m (client d) x later → ⊥
      two are =
          let both = and_parts (is_settled lab H n c) (is_settled lab H m d) are.settled in
          none_come c d (record {
            lab = lab;
            H = H;
            is = is;
            chained = chained;
            q = q;
            later = later;
            n = n;
            m = m;
            x = x;
            g = g;
            at = at;
            to = to;
            sent = sent;
            fresh = fresh;
          }) (settled_along lab H n c at both.0) (eqb-true (outermost lab c) (outermost lab d) are.one_nat)
