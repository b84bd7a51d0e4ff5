-- The packets that wait, and where a relay trusts.
use Rattle.relay_rules.proofs.Words.{AllByRecursion, Bool, Entry, Ep, Fate, HoldsNothing, IfSome, Input, Ip6, IsForeignTo, IsRelayJournal, List, Mention, None, Option, RelayGoesLater, RelayGoesOut, RelaySeen, RelaySentOnlyIf, RelaySettings, RelayStanding, RelayTrustedIsEmbedded, Some, WaitingIsForeign, [], ap, arrived, by_lines, cond, destination_in, embedded, false, false≢true, fields_in, from_six, given, held_is_kept, is_about, is_global6, is_packet, is_peer, is_teredo, kept, known, map, not, option_map, packet_given, packet_in, peer_is, reception_lines, refl, relay_entry, relay_given, relay_in, relay_mention, relay_mentions, relay_reception, relay_reception_row, relay_seen, relay_six, relay_standing_of, relay_tick, relay_transmission, same_ip6-true, source_in, subst, sym, ticked, true, trust_is_kept, waiting_is_kept, wordless_entry, ℕ, ◌||◌, ◌∙◌, ◌∷◌, ◌≡◌}
use Rattle.teredo_node.specs.declared.fate.Fate.TheVariants as fate
use Rattle.relay_rules.proofs.Fates.{fate_of_reception, fate_of_transmission}
use Rattle.relay_rules.proofs.Warranted.{transmission_is_warranted}
use Rattle.relay_rules.proofs.Bearings.{queued_by, trusted_by, holds_none}

-- PACKETS THAT WAIT

abbrev pub is_queued : Fate → Bool
is_queued fate.Queued = true
is_queued _ = false

-- no datagram is queued
pub never_queued : (a : RelaySeen) → is_queued (relay_reception_row a) ≡ false
never_queued a = by_lines (λ (f : Fate). is_queued f ≡ false) (reception_lines a) fate.Unserved (
  (λ _. refl),
  (λ _. (
    (λ _. refl),
    (λ _. (
      (λ _. refl),
      (λ _. (
        (λ _. refl),
        (λ _. (
          (λ _. refl),
          (λ _. ((λ _. refl), (λ _. ((λ _. refl), (λ _. ((λ _. refl), (λ _. refl))))))),
        )),
      )),
    )),
  )),
)

-- an entry queues, if anything, a packet from outside to its peer
abbrev QueuesForeign : Entry → Type 0
QueuesForeign e = IfSome (relay_mention e).bearing.queues (IsForeignTo e.peer)

both_hold : (t g : Bool) → not (t || not g) ≡ true → (t ≡ false) × (g ≡ true)
both_hold true g h = absurd (false≢true h)
both_hold false true h = (refl, refl)
both_hold false false h = absurd (false≢true h)

if_there : (b : Bool) (x : List ℕ) (P : List ℕ → Type 0) → P x → IfSome (cond b (Some x) None) P
if_there true x P h = h
if_there false x P h = tt

-- a packet that goes out is from outside
pub foreign_to : (s : RelaySettings) (a : RelayStanding) (x : List ℕ) → RelayGoesOut (relay_given s a x) → IsForeignTo (destination_in x) x
unfolding relay_given destination_in
foreign_to s a x out =
    let source = both_hold (is_teredo (fields_in x).src) (is_global6 (fields_in x).src) out.foreign_source in
    record {
      well_formed = out.packet;
      short = out.short;
      native = source.0;
      global = source.1;
      destination = ap (λ (b : Bool). cond b (Some (fields_in x).dst) None) out.packet;
    }

foreign : (s : RelaySettings) (a : RelayStanding) (x : List ℕ) → RelayGoesLater (relay_given s a x) → IfSome (packet_given x) (IsForeignTo (destination_in x))
unfolding packet_given
foreign s a x g = if_there (is_packet x) x (IsForeignTo (destination_in x)) (foreign_to s a x g.out)

of_packet : (s : RelaySettings) (a : RelayStanding) (n : ℕ) (x : List ℕ) → QueuesForeign (wordless_entry n (from_six x) (packet_given x) (destination_in x) (relay_transmission s a x))
of_packet s a n x = queued_by (relay_transmission s a x).fate (wordless_entry n (from_six x) (packet_given x) (destination_in x) (relay_transmission s a x)) (IsForeignTo (destination_in x))
    (λ k. foreign s a x (subst (λ f. RelaySentOnlyIf f (relay_given s a x)) (sym (fate_of_transmission s a x) ∙ k) (transmission_is_warranted s a x)))

of_datagram : (s : RelaySettings) (a : RelayStanding) (n : ℕ) (from : Ep) (x : List ℕ) → QueuesForeign (wordless_entry n (arrived from x) (packet_in x) (source_in x) (relay_reception s a from x))
of_datagram s a n from x = queued_by (relay_reception s a from x).fate (wordless_entry n (arrived from x) (packet_in x) (source_in x) (relay_reception s a from x)) (IsForeignTo (source_in x))
    (λ k. absurd (false≢true (sym (never_queued (relay_seen s a from x)) ∙ ap is_queued (sym (fate_of_reception s a from x) ∙ k))))

of_entry : (s : RelaySettings) (j : List Entry) (n : ℕ) (input : Input) → QueuesForeign (relay_entry s j n input)
unfolding relay_in relay_six relay_tick
of_entry s j n (arrived from x) = of_datagram s (relay_standing_of j n (source_in x)) n from x
of_entry s j n (from_six x) = of_packet s (relay_standing_of j n (destination_in x)) n x
of_entry s j n ticked = queued_by (relay_entry s j n ticked).step.fate (relay_entry s j n ticked) (IsForeignTo (relay_entry s j n ticked).peer) (λ _. tt)
of_entry s j n (given x) = tt

foreign_mentions : (s : RelaySettings) (j : List Entry) (p : Ip6) → IsRelayJournal s j → AllByRecursion (λ (m : Mention). is_about p m ≡ true → IfSome m.bearing.queues (IsForeignTo (Some p))) (map relay_mention j)
foreign_mentions s [] p a = tt
foreign_mentions s (e ∷ j) p a =
    let own : QueuesForeign e = subst (λ x. QueuesForeign x) (sym a.0.is) (of_entry s j e.moment e.input) in
    ((λ about. subst (λ to. IfSome (relay_mention e).bearing.queues (IsForeignTo to)) (peer_is p e.peer about) own), foreign_mentions s j p a.1)

pub waiting_is_foreign : WaitingIsForeign
unfolding relay_mentions
waiting_is_foreign s j n p a =
    kept (λ x. AllByRecursion (IsForeignTo (Some p)) x.waiting) (λ m. IfSome m.bearing.queues (IsForeignTo (Some p))) (waiting_is_kept (IsForeignTo (Some p))) p (map relay_mention j) (foreign_mentions s j p a) n

-- TRUST

abbrev IsThere : Ip6 → Ep → Type 0
IsThere p at = at ≡ embedded p

embedded_there : (p : Ip6) (o : Option Ip6) → is_peer p o ≡ true → IfSome (option_map embedded o) (IsThere p)
embedded_there p None h = tt
embedded_there p (Some q) h = ap embedded (sym (same_ip6-true p q h))

there_mentions : (j : List Entry) (p : Ip6) → AllByRecursion (λ (m : Mention). is_about p m ≡ true → IfSome m.bearing.trusts (IsThere p)) (map relay_mention j)
there_mentions [] p = tt
there_mentions (e ∷ j) p = ((λ about. trusted_by e.step.fate e (IsThere p) (embedded_there p e.peer about)), there_mentions j p)

pub trusted_is_embedded : RelayTrustedIsEmbedded
unfolding relay_mentions
trusted_is_embedded j n p at is =
    let there : IfSome (known (map relay_mention j) n p).trusted (IsThere p) =
    kept (λ x. IfSome x.trusted (IsThere p)) (λ m. IfSome m.bearing.trusts (IsThere p)) (trust_is_kept (IsThere p)) p (map relay_mention j) (there_mentions j p) n in
    subst (λ o. IfSome o (IsThere p)) is there

-- HELD PACKETS

none_held : (j : List Entry) (p : Ip6) → AllByRecursion (λ (m : Mention). is_about p m ≡ true → m.bearing.holds ≡ None) (map relay_mention j)
none_held [] p = tt
none_held (e ∷ j) p = ((λ about. holds_none e.step.fate e), none_held j p)

pub holds_nothing : HoldsNothing
unfolding relay_mentions
holds_nothing j n p = kept (λ x. x.held ≡ []) (λ m. m.bearing.holds ≡ None) held_is_kept p (map relay_mention j) (none_held j p) n
