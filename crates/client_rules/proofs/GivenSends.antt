-- What a client sends for a packet of its host, by its fate.
use Rattle.client_rules.proofs.Words.{AllByRecursion, Bool, Entry, Ep, Fate, GoesOut, Ip6, IsOwnTo, List, None, Option, Phase, Qualification, Send, SentOnlyIf, Settings, Some, Standing, Words, [], carries, destination_in, embedded, false, fields_in, given_to, is_barred, known_in, map, option_to_list, own_address, queues, refl, send, server_ep, server_in, subst, sym, transmission, transmission_row, transmission_step, true, ℕ, ◌∷◌, ◌≡◌}
use Rattle.teredo_node.specs.declared.fate.Fate.TheVariants as fate
use Rattle.client_rules.proofs.Given.{transmission_is_warranted}
use Rattle.client_rules.proofs.Entered.{own_to}
use Rattle.client_rules.proofs.Sendings.{MaySend, MayTry, tried, IsReadyToSend, address_is}

-- what holds of all that a packet's fate may send
record SendsByTransmission (P : Send → Type 0) (s : Settings) (a : Standing) (x : List ℕ) (p : Ip6) (w : Words) (f : Fate) : Type 0 where
  sent : f ≡ fate.Sent → AllByRecursion P (map (λ (at : Ep). send at x) (option_to_list (known_in a).trusted))
  sent_cone : f ≡ fate.SentCone → AllByRecursion P (send (embedded p) x ∷ [])
  queued : f ≡ fate.Queued → AllByRecursion P (queues (is_barred a.moment (known_in a)) s a p w).sends

by_transmission : (P : Send → Type 0) (s : Settings) (a : Standing) (x : List ℕ) (p : Ip6) (w : Words) (f : Fate) → SendsByTransmission P s a x p w f → AllByRecursion P (transmission_step s a x p w f).sends
by_transmission P s a x p w fate.Sent h = h.sent refl
by_transmission P s a x p w fate.SentCone h = h.sent_cone refl
by_transmission P s a x p w fate.Queued h = h.queued refl
by_transmission P s a x p w _ h = tt

-- the client's address, and that the packet is from it
record IsSendable (s : Settings) (a : Standing) (x : List ℕ) : Type 0 where
  address : a.qualification.address ≡ Some (own_address a.qualification)
  own : IsOwnTo a.qualification.address (destination_in x) x
  to : destination_in x ≡ Some (fields_in x).dst

sendable : (s : Settings) (a : Standing) (x : List ℕ) (es : List Entry) → IsReadyToSend a (destination_in x) es → GoesOut (given_to s a x) → IsSendable s a x
unfolding given_to
sendable s a x es r out =
    let address = address_is a (destination_in x) es r out.qualified in
    let own = own_to s a x out in
    record { address = address; own = subst (λ o. IsOwnTo o (destination_in x) x) (sym address) own; to = own.destination }

-- where a packet x that is handed in may go, and its bubbles
pub record MayGo (bubbled : Ip6 → Ep → Type 0) (carried : Ep → List ℕ → Type 0) (a : Standing) (x : List ℕ) (f : Fate) : Type 0 where
  pub direct : bubbled (fields_in x).dst (embedded (fields_in x).dst)
  pub indirect : bubbled (fields_in x).dst (server_ep (server_in (fields_in x).dst))
  pub sent : f ≡ fate.Sent → destination_in x ≡ Some (fields_in x).dst → (to : Ep) → (known_in a).trusted ≡ Some to → carried to x
  pub sent_cone : f ≡ fate.SentCone → carried (embedded (fields_in x).dst) x

module _ (bubbled : Ip6 → Ep → Type 0) (carried : Ep → List ℕ → Type 0) (s : Settings) where
  sent_at : (q : Qualification) (after : Phase) (peer : Option Ip6) (x : List ℕ) (o : Option Ep) → ((to : Ep) → o ≡ Some to → carried to x) → IsOwnTo q.address peer x
      → AllByRecursion (MaySend bubbled carried s q after peer) (map (λ (at : Ep). send at x) (option_to_list o))
  sent_at q after peer x None may h = tt
  sent_at q after peer x (Some at) may h = (carries at x h (may at refl) refl, tt)

  queued_try : (b : Bool) (a : Standing) (after : Phase) (p : Ip6) (w : Words) → MayTry bubbled carried s a.qualification after p → a.qualification.address ≡ Some (own_address a.qualification)
      → AllByRecursion (MaySend bubbled carried s a.qualification after (Some p)) (queues b s a p w).sends
  queued_try true a after p w may is = tt
  queued_try false a after p w may is = tried bubbled carried s a.qualification after (own_address a.qualification) p w may is

  pub of_packet : (a : Standing) (after : Phase) (x : List ℕ) (w : Words) (es : List Entry) → IsReadyToSend a (destination_in x) es → MayGo bubbled carried a x (transmission_row (given_to s a x))
      → AllByRecursion (MaySend bubbled carried s a.qualification after (destination_in x)) (transmission s a x w).sends
  unfolding transmission
  of_packet a after x w es r may =
      let f = transmission_row (given_to s a x) in
      let told : (g : Fate) → f ≡ g → SentOnlyIf g (given_to s a x) = λ g k. subst (λ i. SentOnlyIf i (given_to s a x)) k (transmission_is_warranted s a x) in
      by_transmission (MaySend bubbled carried s a.qualification after (destination_in x)) s a x (fields_in x).dst w f (record {
        sent = λ k.
            let m = sendable s a x es r (told fate.Sent k).out in
            sent_at a.qualification after (destination_in x) x (known_in a).trusted (may.sent k m.to) m.own;
        sent_cone = λ k. (carries (embedded (fields_in x).dst) x (sendable s a x es r (told fate.SentCone k).out).own (may.sent_cone k) refl, tt);
        queued = λ k.
            let m = sendable s a x es r (told fate.Queued k).out in
            subst (λ peer. AllByRecursion (MaySend bubbled carried s a.qualification after peer) (queues (is_barred a.moment (known_in a)) s a (fields_in x).dst w).sends) (sym m.to)
            (queued_try (is_barred a.moment (known_in a)) a after (fields_in x).dst w (record { direct = may.direct; indirect = may.indirect }) m.address);
      })
