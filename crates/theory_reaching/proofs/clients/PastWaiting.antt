-- `within 6` to `within 13` between clients: the receiver keeps packets for the sender, and lets them go at its bubble. The first of them
-- that comes to the sender brings the packet.
use Rattle.theory_reaching.proofs.Words.{Bool, ClientNode, ComesInTime, Full, Grown, Ip6, IsOver, IsPromised, IsSentNext, KeepsBetweenClients, KeepsItsPromise, Lab, List, Node, Peer, Reach, Relayed, Some, TwoClients, [], address_at, and_parts, ap, arith, between_clients_row, by_lines, client, early_client_lines, embedded, eqb-true, false, false≢true, from_native_lines, from_native_row, has_cone, is_barred, is_fresh, is_led_to, is_none, is_settled, known_by, late_client_lines, length, node_at, not, now, or_parts, refl, relayed, sound_first, subst, sym, to_native_lines, to_native_row, true, two_clients, ℕ, ◌+◌, ◌||◌, ◌∙◌, ◌∷◌, ◌≡◌}
use Rattle.theory_settled.proofs.Earlier.{earlier}
use Rattle.theory_reaching.specs.declared.word.Reach.TheVariants as word
use Rattle.theory_reaching.proofs.Lines.{which_held}
use Rattle.theory_reaching.proofs.NextPacket.{NextPacket, over}
use Rattle.theory_reaching.proofs.Pairs.{SaidBy, between_clients, to_native, from_native, said_by, of_clients}
use Rattle.theory_reaching.proofs.Tests.{elsewhere, held, second_fails}
use Rattle.theory_reaching.proofs.clients.BothSettled.{AreBoth, Both}
use Rattle.theory_reaching.proofs.clients.LateLines.{past_opening, late_word}
use Rattle.theory_reaching.proofs.waiting.ClientAdds.{client_kept_back}
use Rattle.theory_reaching.proofs.waiting.KeptBack.{none_kept}
use Rattle.theory_reaching.proofs.clients.WithinBounds.{in_time}
use Rattle.theory_reaching.proofs.past_waiting.Begins.{IsPastWaiting, at_most_so_many, brings_it}

-- WHAT THE LINES SAY

-- so many deliveries, with one for each packet that the receiver keeps
abbrev pub most_past : Reach → ℕ
most_past word.Within6 = 6
most_past word.Within7 = 7
most_past word.Within8 = 8
most_past word.Within9 = 9
most_past word.Within10 = 10
most_past word.Within11 = 11
most_past word.Within12 = 12
most_past word.Within13 = 13
most_past _ = 0

abbrev pub is_past : Reach → Bool
is_past word.Within6 = true
is_past word.Within7 = true
is_past word.Within8 = true
is_past word.Within9 = true
is_past word.Within10 = true
is_past word.Within11 = true
is_past word.Within12 = true
is_past word.Within13 = true
is_past _ = false

-- all lines but those are passed, and one of them held
record Passed (a : TwoClients) (said : Reach) : Type 0 where
  settled : a.settled ≡ true
  apart : a.one_nat ≡ false
  heard : a.heard ≡ true
  distant : (a.fresh || a.to_cone) ≡ false
  unbarred : a.barred ≡ false
  room : a.room ≡ true
  unshut : a.barred_there ≡ false
  many : most_past said ≡ 5 + a.waiting
  some : (a.waiting ≡ 0) → ⊥

module _ (a : TwoClients) where
  -- what the early lines say
  record Early : Type 0 where
    settled : not a.settled ≡ false
    apart : a.one_nat ≡ false
    heard : not a.heard ≡ false
    distant : (a.fresh || a.to_cone) ≡ false
    unbarred : a.barred ≡ false
    room : not a.room ≡ false
    unshut : a.barred_there ≡ false

  late_so : Early → is_past (late_word a) ≡ true → Passed a (late_word a)
  late_so early = by_lines (λ (r : Reach). is_past r ≡ true → Passed a r) (late_client_lines a) word.Within5 (
    (λ same _. all 1 (eqb-true a.waiting 1 same) (λ e. omega (arith, e)) word.Within6 refl),
    (λ _. (
      (λ same _. all 2 (eqb-true a.waiting 2 same) (λ e. omega (arith, e)) word.Within7 refl),
      (λ _. (
        (λ same _. all 3 (eqb-true a.waiting 3 same) (λ e. omega (arith, e)) word.Within8 refl),
        (λ _. (
          (λ same _. all 4 (eqb-true a.waiting 4 same) (λ e. omega (arith, e)) word.Within9 refl),
          (λ _. (
            (λ same _. all 5 (eqb-true a.waiting 5 same) (λ e. omega (arith, e)) word.Within10 refl),
            (λ _. (
              (λ same _. all 6 (eqb-true a.waiting 6 same) (λ e. omega (arith, e)) word.Within11 refl),
              (λ _. (
                (λ same _. all 7 (eqb-true a.waiting 7 same) (λ e. omega (arith, e)) word.Within12 refl),
                (λ _. (
                  (λ same _. all 8 (eqb-true a.waiting 8 same) (λ e. omega (arith, e)) word.Within13 refl),
                  (λ _. (
                    (λ _ e. elsewhere e),
                    (λ _. ((λ _ e. elsewhere e), (λ _ e. elsewhere e))),
                  )),
                )),
              )),
            )),
          )),
        )),
      )),
    )),
  ) where
    all : (k : ℕ) → a.waiting ≡ k → (k ≡ 0 → ⊥) → (said : Reach) → most_past said ≡ 5 + k → Passed a said
    all k same some said many = record {
      settled = held a.settled early.settled;
      apart = early.apart;
      heard = held a.heard early.heard;
      distant = early.distant;
      unbarred = early.unbarred;
      room = held a.room early.room;
      unshut = early.unshut;
      many = many ∙ ap (λ (n : ℕ). 5 + n) (sym same);
      some = λ none. some (sym same ∙ none);
    }

  passed : is_past (between_clients_row a) ≡ true → Passed a (between_clients_row a)
  passed = past_opening (λ (r : Reach). is_past r ≡ true → Passed a r) a (λ e. elsewhere e) (λ e. elsewhere e) (λ e. elsewhere e) (λ e. elsewhere e) (by_lines (λ (r : Reach). is_past r ≡ true → Passed a r) (early_client_lines a)
      (late_word a) (
        (λ _ e. elsewhere e),
        (λ settled. (
          (λ _ e. elsewhere e),
          (λ apart. (
            (λ _ e. elsewhere e),
            (λ heard. (
              (λ _ e. elsewhere e),
              (λ _. (
                (λ _ e. elsewhere e),
                (λ distant. (
                  (λ _ e. elsewhere e),
                  (λ unbarred. (
                    (λ _ e. elsewhere e),
                    (λ room. (
                      (λ _ e. elsewhere e),
                      (λ unshut e. late_so (record {
                        settled = settled;
                        apart = apart;
                        heard = heard;
                        distant = distant;
                        unbarred = unbarred;
                        room = room;
                        unshut = unshut;
                      }) e),
                    )),
                  )),
                )),
              )),
            )),
          )),
        )),
      ))

-- WHAT THE TWO CLIENTS ARE

-- the receiver keeps these packets, for which there is so much time
record KeepsThem (lab : Lab) (H : List Full) (n m : ℕ) (said : Reach) : Type 0 where
  first : List ℕ
  rest : List (List ℕ)
  is : IsPastWaiting lab H n m first rest
  many : most_past said ≡ 5 + length (first ∷ rest)

module _ (lab : Lab) (H : List Full) (grown : Grown lab H) (over : IsOver H) (n m : ℕ) (a b : ClientNode)
    (at : node_at lab.topology n ≡ Some (client a)) (to : node_at lab.topology m ≡ Some (client b)) (said : Reach) where
  abbrev own : Ip6
  own = address_at lab H n

  abbrev other : Ip6
  other = address_at lab H m

  abbrev there : Peer
  there = known_by H m own

  keeps_them : Passed (two_clients lab H n m a b) said → KeepsThem lab H n m said
  unfolding two_clients
  keeps_them p = by there.waiting refl where
    distant : (is_fresh (now H) (known_by H n other) ≡ false) × (has_cone other ≡ false)
    distant = or_parts (is_fresh (now H) (known_by H n other)) (has_cone other) p.distant

    by : (ws : List (List ℕ)) → there.waiting ≡ ws → KeepsThem lab H n m said
    by [] are = absurd (p.some (ap (λ (ws : List (List ℕ)). length ws) are))
    by (first ∷ rest) are =
        let barred : is_barred (now H) there ≡ true = client_kept_back lab m b to own H grown over (ap (λ (ws : List (List ℕ)). is_none ws) are) in
        let led = is_led_to lab H (embedded own) (embedded other) m in
        let parts = or_parts (has_cone own) (not led) (second_fails (is_barred (now H) there) (has_cone own || not led) p.unshut barred) in
        record {
          first = first;
          rest = rest;
          is = record {
            stale = distant.0;
            plain = distant.1;
            plain_sender = parts.0;
            room = p.room;
            nothing_waits = none_kept (now H) (known_by H n other) (client_kept_back lab n a at other H grown over) p.unbarred;
            unbarred = p.unbarred;
            heard = p.heard;
            barred = barred;
            led = held led parts.1;
            waits = are;
          };
          many = p.many ∙ ap (λ (ws : List (List ℕ)). 5 + length ws) are;
        }

-- THE WORDS

module _ (c d : ClientNode) (the : NextPacket (client c) (client d)) where
  open the use {lab, H, is, chained, q, later, n, m, x, g, at, to, sent, fresh}

  comes : (said : Reach) → Passed (two_clients lab H n m c d) said → ComesInTime H q m (client d) x later (most_past said)
  unfolding two_clients
  comes said p =
      let settled = and_parts (is_settled lab H n c) (is_settled lab H m d) p.settled in
      let are : AreBoth lab H q n m c d x = record {
        rules = is;
        chained = chained;
        grown = earlier lab later (q ∷ H) g;
        at = at;
        to = to;
        sender = settled.0;
        receiver = settled.1;
        apart = p.apart;
        handed = sent.handed;
        sound = sound_first q later fresh;
      } in
      let two : Both = record { lab = lab; H = H; q = q; n = n; m = m; c = c; d = d; x = x; are = are } in
      let k = keeps_them lab H (earlier lab later (q ∷ H) g).1 (over the) n m c d at to said p in
      subst (λ (most : ℕ). ComesInTime H q m (client d) x later most) (sym k.many)
      (in_time c d the (5 + length (k.first ∷ k.rest)) (λ l grown new.
      (at_most_so_many two k.first k.rest k.is l grown new, brings_it two k.first k.rest k.is l grown new)))

-- that is what the words promise
promised : (lab : Lab) (H : List Full) (q : Full) (m : ℕ) (a b : Node) (x : List ℕ) (later : List Full) (said : Reach) → is_past said ≡ true
    → ComesInTime H q m b x later (most_past said) → IsPromised lab H q m a b x later said
promised lab H q m a b x later word.Within6 past comes = comes
promised lab H q m a b x later word.Within7 past comes = comes
promised lab H q m a b x later word.Within8 past comes = comes
promised lab H q m a b x later word.Within9 past comes = comes
promised lab H q m a b x later word.Within10 past comes = comes
promised lab H q m a b x later word.Within11 past comes = comes
promised lab H q m a b x later word.Within12 past comes = comes
promised lab H q m a b x later word.Within13 past comes = comes
promised lab H q m a b x later _ past comes = absurd (false≢true past)

pub kept_between : (said : Reach) → is_past said ≡ true → KeepsBetweenClients said
kept_between said past lab H is chained q later n m c d x g at to is_said sent fresh =
    promised lab H q m (client c) (client d) x later said past (comes c d
    (record { lab = lab; H = H; is = is; chained = chained; q = q; later = later; n = n; m = m; x = x; g = g; at = at; to = to; sent = sent; fresh = fresh }) said
    (of_clients (record { lab = lab; H = H; n = n; m = m; said = said }) (λ a. Passed a said) (λ a w. subst (Passed a) w (passed a (ap is_past w ∙ past))) c d at to is_said))

-- those that are said of two clients alone
abbrev is_of_two : Reach → Bool
is_of_two word.Within7 = true
is_of_two word.Within8 = true
is_of_two word.Within10 = true
is_of_two word.Within11 = true
is_of_two word.Within12 = true
is_of_two word.Within13 = true
is_of_two _ = false

never_to : (a : Relayed) → is_of_two (to_native_row a) ≡ true → ⊥
never_to a e = which_held is_of_two (to_native_lines a) word.Within6 refl e

never_from : (a : Relayed) → is_of_two (from_native_row a) ≡ true → ⊥
never_from a e = which_held is_of_two (from_native_lines a) word.Within6 refl e

kept : (said : Reach) → is_past said ≡ true → is_of_two said ≡ true → KeepsItsPromise said
kept said past alone lab H is chained q later n m a b x g at to is_said sent fresh = by (said_by (record { lab = lab; H = H; n = n; m = m; said = said }) a b at to is_said) where
  by : SaidBy lab H n m a b said → IsPromised lab H q m a b x later said
  by (between_clients c d same far w) = subst (λ (z : Node). IsPromised lab H q m z b x later said) (sym same)
      (subst (λ (z : Node). IsPromised lab H q m (client c) z x later said) (sym far)
      (kept_between said past lab H is chained q later n m c d x g (at ∙ ap (λ (z : Node). Some z) same) (to ∙ ap (λ (z : Node). Some z) far) is_said
      (subst (λ (z : Node). IsSentNext lab H q n m z x) same sent) fresh))
  by (to_native c h r same far through w) = absurd (never_to (relayed lab H n c h r) (ap is_of_two w ∙ alone))
  by (from_native h c r same far through w) = absurd (never_from (relayed lab H m c h r) (ap is_of_two w ∙ alone))

pub seven_is_kept : KeepsItsPromise word.Within7
seven_is_kept = kept word.Within7 refl refl

pub eight_is_kept : KeepsItsPromise word.Within8
eight_is_kept = kept word.Within8 refl refl

pub ten_is_kept : KeepsItsPromise word.Within10
ten_is_kept = kept word.Within10 refl refl

pub eleven_is_kept : KeepsItsPromise word.Within11
eleven_is_kept = kept word.Within11 refl refl

pub twelve_is_kept : KeepsItsPromise word.Within12
twelve_is_kept = kept word.Within12 refl refl

pub thirteen_is_kept : KeepsItsPromise word.Within13
thirteen_is_kept = kept word.Within13 refl refl
