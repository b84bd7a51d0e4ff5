-- What a relay sends, by the fates.
use Rattle.relay_rules.proofs.Words.{AllByRecursion, Bool, EachRelaySend, Entry, Ep, Fate, Input, Ip6, IsForeignTo, IsOfPeer, IsRelayJournal, IsRelaySending, List, Listing, None, Option, RelayGoesOut, RelayReceivedOnlyIf, RelaySentOnlyIf, RelaySettings, RelayStanding, Send, Some, Value, [], ap, arrived, bubbles, carries, cond, destination_in, due_by, embedded, false, fields_in, from_six, given, is_barred, is_spent, refl, relay_entry, relay_first_peer, relay_given, relay_in, relay_known_in, relay_peer_of_due, relay_queues, relay_reception, relay_reception_row, relay_reception_step, relay_seen, relay_six, relay_standing_at, relay_standing_of, relay_tick, relay_tick_step, relay_transmission, relay_transmission_row, relay_transmission_step, relay_tries_peer, released, releases, send, source_in, subst, sym, ticked, true, unspecified, unwrap_or, value_in, ℕ, ◌∷◌, ◌≡◌}
use Rattle.teredo_node.specs.declared.fate.Fate.TheVariants as fate
use Rattle.relay_rules.proofs.Warranted.{reception_is_warranted, transmission_is_warranted}
use Rattle.relay_rules.proofs.Held.{foreign_to, waiting_is_foreign}

-- EACH FATE

-- what holds of all that a datagram's fate may send
record OfRelayReception (P : Send → Type 0) (a : RelayStanding) (v : Value) (f : Fate) : Type 0 where
  bubble : f ≡ fate.FromClientBubble → AllByRecursion P (released a v)
  client : f ≡ fate.FromClient → AllByRecursion P (released a v)
  unserved : f ≡ fate.Unserved → AllByRecursion P (released a v)

by_reception : (P : Send → Type 0) (a : RelayStanding) (x : List ℕ) (v : Value) (f : Fate) → OfRelayReception P a v f → AllByRecursion P (relay_reception_step a x v f).sends
by_reception P a x v fate.FromClientBubble h = h.bubble refl
by_reception P a x v fate.FromClient h = h.client refl
by_reception P a x v fate.Unserved h = h.unserved refl
by_reception P a x v _ h = tt

-- and a packet's
record OfRelayTransmission (P : Send → Type 0) (s : RelaySettings) (a : RelayStanding) (x : List ℕ) (p : Ip6) (f : Fate) : Type 0 where
  sent : f ≡ fate.Sent → AllByRecursion P (send (embedded p) x ∷ [])
  sent_cone : f ≡ fate.SentCone → AllByRecursion P (send (embedded p) x ∷ [])
  queued : f ≡ fate.Queued → AllByRecursion P (relay_queues (is_barred a.moment (relay_known_in a)) s p).sends

by_transmission : (P : Send → Type 0) (s : RelaySettings) (a : RelayStanding) (x : List ℕ) (p : Ip6) (f : Fate) → OfRelayTransmission P s a x p f → AllByRecursion P (relay_transmission_step s a x p f).sends
by_transmission P s a x p fate.Sent h = h.sent refl
by_transmission P s a x p fate.SentCone h = h.sent_cone refl
by_transmission P s a x p fate.Queued h = h.queued refl
by_transmission P s a x p _ h = tt

-- DATAGRAMS

carried : (s : RelaySettings) (peer : Option Ip6) (p : Ip6) (xs : List (List ℕ)) → peer ≡ Some p → AllByRecursion (IsForeignTo peer) xs → AllByRecursion (IsRelaySending s peer) (releases (embedded p) xs)
carried s peer p [] is a = tt
carried s peer p (x ∷ xs) is a = (carries p x is a.0 refl, carried s peer p xs is a.1)

-- what waits for this peer
abbrev IsReady : RelayStanding → Option Ip6 → Type 0
IsReady a peer = AllByRecursion (IsForeignTo (Some (unwrap_or peer unspecified))) (relay_known_in a).waiting

source_is : (s : RelaySettings) (a : RelayStanding) (from : Ep) (x : List ℕ) → IsOfPeer (relay_seen s a from x) → source_in x ≡ Some (value_in x).packet.src
unfolding relay_seen source_in
source_is s a from x m = ap (λ (b : Bool). cond b (Some (value_in x).packet.src) None) m.payload

given_back : (o : Option Ip6) (p : Ip6) → o ≡ Some p → Some (unwrap_or o unspecified) ≡ o
given_back o p h = subst (λ k. Some (unwrap_or k unspecified) ≡ k) (sym h) refl

all_released : (s : RelaySettings) (a : RelayStanding) (from : Ep) (x : List ℕ) → IsReady a (source_in x) → IsOfPeer (relay_seen s a from x) → AllByRecursion (IsRelaySending s (source_in x)) (released a (value_in x))
all_released s a from x r m =
    let is = source_is s a from x m in
    carried s (source_in x) (value_in x).packet.src (relay_known_in a).waiting is (subst (λ to. AllByRecursion (IsForeignTo to) (relay_known_in a).waiting) (given_back (source_in x) (value_in x).packet.src is) r)

of_datagram : (s : RelaySettings) (a : RelayStanding) (from : Ep) (x : List ℕ) → IsReady a (source_in x) → AllByRecursion (IsRelaySending s (source_in x)) (relay_reception s a from x).sends
unfolding relay_reception
of_datagram s a from x r =
    let f = relay_reception_row (relay_seen s a from x) in
    let told : (g : Fate) → f ≡ g → RelayReceivedOnlyIf g (relay_seen s a from x) = λ g k. subst (λ i. RelayReceivedOnlyIf i (relay_seen s a from x)) k (reception_is_warranted s a from x) in
    by_reception (IsRelaySending s (source_in x)) a x (value_in x) f (record {
      bubble = λ k. all_released s a from x r (told fate.FromClientBubble k).peer;
      client = λ k. all_released s a from x r (told fate.FromClient k).peer;
      unserved = λ k. all_released s a from x r (told fate.Unserved k).peer;
    })

-- PACKETS OF THE IPV6 SIDE

queued_try : (b : Bool) (s : RelaySettings) (p : Ip6) → AllByRecursion (IsRelaySending s (Some p)) (relay_queues b s p).sends
queued_try true s p = tt
queued_try false s p = (bubbles p refl refl, tt)

sent_there : (s : RelaySettings) (a : RelayStanding) (x : List ℕ) → RelayGoesOut (relay_given s a x) → AllByRecursion (IsRelaySending s (destination_in x)) (send (embedded (fields_in x).dst) x ∷ [])
sent_there s a x out = let own = foreign_to s a x out in (carries (fields_in x).dst x own.destination own refl, tt)

of_packet : (s : RelaySettings) (a : RelayStanding) (x : List ℕ) → AllByRecursion (IsRelaySending s (destination_in x)) (relay_transmission s a x).sends
unfolding relay_transmission
of_packet s a x =
    let f = relay_transmission_row (relay_given s a x) in
    let told : (g : Fate) → f ≡ g → RelaySentOnlyIf g (relay_given s a x) = λ g k. subst (λ i. RelaySentOnlyIf i (relay_given s a x)) k (transmission_is_warranted s a x) in
    by_transmission (IsRelaySending s (destination_in x)) s a x (fields_in x).dst f (record {
      sent = λ k. sent_there s a x (told fate.Sent k).out;
      sent_cone = λ k. sent_there s a x (told fate.SentCone k).out;
      queued = λ k.
          let own = foreign_to s a x (told fate.Queued k).out in
          subst (λ peer. AllByRecursion (IsRelaySending s peer) (relay_queues (is_barred a.moment (relay_known_in a)) s (fields_in x).dst).sends) (sym own.destination)
          (queued_try (is_barred a.moment (relay_known_in a)) s (fields_in x).dst);
    })

-- TICKS

tried_peer : (spent : Bool) (s : RelaySettings) (l : Listing) → AllByRecursion (IsRelaySending s (Some l.who)) (relay_tries_peer spent s l).sends
tried_peer true s l = tt
tried_peer false s l = (bubbles l.who refl refl, tt)

of_due : (s : RelaySettings) (n : ℕ) (due : Option Listing) → AllByRecursion (IsRelaySending s (relay_peer_of_due due)) (relay_tick_step s n due).sends
of_due s n None = tt
of_due s n (Some l) = tried_peer (is_spent n l.peer) s l

-- ANY ENTRY

ready : (s : RelaySettings) (j : List Entry) (n : ℕ) (peer : Option Ip6) → IsRelayJournal s j → IsReady (relay_standing_of j n peer) peer
unfolding relay_standing_at
ready s j n peer a = waiting_is_foreign s j n (unwrap_or peer unspecified) a

of_entry : (s : RelaySettings) (j : List Entry) (n : ℕ) (input : Input) → IsRelayJournal s j → AllByRecursion (IsRelaySending s (relay_entry s j n input).peer) (relay_entry s j n input).step.sends
unfolding relay_in relay_six relay_tick
of_entry s j n (arrived from x) a = of_datagram s (relay_standing_of j n (source_in x)) from x (ready s j n (source_in x) a)
of_entry s j n (from_six x) a = of_packet s (relay_standing_of j n (destination_in x)) x
of_entry s j n ticked a = of_due s n (due_by n (relay_first_peer j n))
of_entry s j n (given x) a = tt

pub each_send : EachRelaySend
each_send s j e a =
    subst (λ (x : Entry). AllByRecursion (IsRelaySending s x.peer) x.step.sends) (sym a.0.is) (of_entry s j e.moment e.input a.1)
