-- `within 4` and `within 5`: the lines before them say that the two clients may meet.
use Rattle.theory_reaching.proofs.Words.{Bool, ClientNode, Full, Grown, Ip6, IsOver, Lab, List, MayMeetAlong, Peer, Reach, Some, TwoClients, [], address_at, and_parts, ap, as_client, between_clients_row, by_lines, client, early_client_lines, eq-eqb, false, false≢true, has_cone, is_fresh, is_none, is_settled, keeps_packets, known_by, late_client_lines, node_at, not, now, option_and_then, or_parts, outermost, refl, sym, true, two_clients, ℕ, ◌||◌, ◌∙◌, ◌∷◌, ◌≡◌}
use Rattle.theory_reaching.specs.declared.word.Reach.TheVariants as word
use Rattle.theory_reaching.proofs.Tests.{elsewhere, held}
use Rattle.theory_reaching.proofs.clients.LateLines.{past_opening, late_word}
use Rattle.theory_reaching.proofs.clients.SettledClients.{settled_along}
use Rattle.theory_reaching.proofs.waiting.ClientAdds.{client_kept_back}
use Rattle.theory_reaching.proofs.waiting.KeptBack.{none_kept}

-- WHAT THE LINES SAY

abbrev pub is_four : Reach → Bool
is_four word.Within4 = true
is_four _ = false

abbrev pub is_late : Reach → Bool
is_late word.Within4 = true
is_late word.Within5 = true
is_late _ = false

-- all lines but the last ones are passed
pub record Passes (a : TwoClients) : Type 0 where
  pub settled : a.settled ≡ true
  pub apart : a.one_nat ≡ false
  pub heard : a.heard ≡ true
  pub distant : (a.fresh || a.to_cone) ≡ false
  pub unbarred : a.barred ≡ false
  pub room : a.room ≡ true
  pub free : a.peer_barred ≡ false

pub passes : (a : TwoClients) → is_late (between_clients_row a) ≡ true → Passes a
passes a = past_opening (λ (r : Reach). is_late r ≡ true → Passes a) a (λ e. elsewhere e) (λ e. elsewhere e) (λ e. elsewhere e) (λ e. elsewhere e) (by_lines (λ (r : Reach). is_late r ≡ true → Passes a) (early_client_lines a)
    (late_word a) (
      (λ _ e. elsewhere e),
      (λ settled. (
        (λ _ e. elsewhere e),
        (λ apart. (
          (λ _ e. elsewhere e),
          (λ heard. (
            (λ _ e. elsewhere e),
            (λ stale. (
              (λ _ e. elsewhere e),
              (λ distant. (
                (λ _ e. elsewhere e),
                (λ unbarred. (
                  (λ _ e. elsewhere e),
                  (λ room. (
                    (λ _ e. elsewhere e),
                    (λ _. by_lines (λ (r : Reach). is_late r ≡ true → Passes a) (late_client_lines a) word.Within5 (
                      (λ _ e. elsewhere e),
                      (λ _. (
                        (λ _ e. elsewhere e),
                        (λ _. (
                          (λ _ e. elsewhere e),
                          (λ _. (
                            (λ _ e. elsewhere e),
                            (λ _. (
                              (λ _ e. elsewhere e),
                              (λ _. (
                                (λ _ e. elsewhere e),
                                (λ _. (
                                  (λ _ e. elsewhere e),
                                  (λ _. (
                                    (λ _ e. elsewhere e),
                                    (λ _. (
                                      (λ _ e. elsewhere e),
                                      (λ free. (
                                        (λ _ _. all settled apart heard distant unbarred room free),
                                        (λ _ _. all settled apart heard distant unbarred room free),
                                      )),
                                    )),
                                  )),
                                )),
                              )),
                            )),
                          )),
                        )),
                      )),
                    )),
                  )),
                )),
              )),
            )),
          )),
        )),
      )),
    )) where
      all : not a.settled ≡ false → a.one_nat ≡ false → not a.heard ≡ false → (a.fresh || a.to_cone) ≡ false → a.barred ≡ false → not a.room ≡ false
          → a.peer_barred ≡ false → Passes a
      all settled apart heard distant unbarred room free = record {
        settled = held a.settled settled;
        apart = apart;
        heard = held a.heard heard;
        distant = distant;
        unbarred = unbarred;
        room = held a.room room;
        free = free;
      }

-- WHAT THE TWO CLIENTS ARE

pub no_packets : (peer : Peer) → keeps_packets peer ≡ false → peer.waiting ≡ []
no_packets peer e = by peer.waiting e where
  by : (ws : List (List ℕ)) → not (is_none ws) ≡ false → ws ≡ []
  by [] e = refl
  by (w ∷ ws) e = absurd (false≢true (sym e))

-- node n is the client a, and node m the client b, after a history whose latest event is over
module _ (lab : Lab) (H : List Full) (grown : Grown lab H) (over : IsOver H) (n m : ℕ) (a b : ClientNode)
    (at : node_at lab.topology n ≡ Some (client a)) (to : node_at lab.topology m ≡ Some (client b)) where
  abbrev own : Ip6
  own = address_at lab H n

  abbrev other : Ip6
  other = address_at lab H m

  pub may_meet : Passes (two_clients lab H n m a b) → MayMeetAlong lab H n m a b own other
  unfolding two_clients
  may_meet p =
      let both = and_parts (is_settled lab H n a) (is_settled lab H m b) p.settled in
      let distant = or_parts (is_fresh (now H) (known_by H n other)) (has_cone other) p.distant in
      record {
        sender = ap (option_and_then as_client) at;
        receiver = ap (option_and_then as_client) to;
        apart = λ same. false≢true (sym p.apart ∙ eq-eqb (outermost lab a) (outermost lab b) same);
        sender_settled = settled_along lab H n a at both.0;
        receiver_settled = settled_along lab H m b to both.1;
        stale = distant.0;
        receiver_ready = record { room = p.heard; nothing_waits = none_kept (now H) (known_by H m own) (client_kept_back lab m b to own H grown over) p.free };
        sender_ready = λ _. record { room = p.room; nothing_waits = none_kept (now H) (known_by H n other) (client_kept_back lab n a at other H grown over) p.unbarred };
        sender_unbarred = λ _. p.unbarred;
        receiver_unbarred = λ _. p.free;
      }
