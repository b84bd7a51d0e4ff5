-- `self`: both clients have one address. The sender drops a packet for it.
use Rattle.theory_reaching.proofs.Words.{Fate, Given, Ip6, Journal, KeepsBetweenClients, List, Send, Settings, SomeBrings, Standing, TwoClients, Words, [], address_at, alone, ap, armed, between_clients_lines, between_clients_row, by_lines, by_way, client, client_out, client_settings, destination_lines, fields_in, given_of, host_hands, host_lines, is_packet, journal, now, own_address, qualification, refl, same_ip6, same_ip6-true, standing_at, stands_for, subst, sym, transmission_row, transmission_step, true, two_clients, way_out, words, ℕ, ◌++◌, ◌∙◌, ◌∷◌, ◌≡◌}
use Rattle.theory_settled.proofs.Earlier.{earlier}
use Rattle.teredo_node.specs.declared.fate.Fate.TheVariants as fate
use Rattle.client_rules.specs.Transmission as transmission
use Rattle.theory_reaching.specs.declared.word.Reach.TheVariants as word
use Rattle.theory_reaching.proofs.Lines.{that_one, which_held}
use Rattle.theory_reaching.proofs.Pairs.{of_clients}
use Rattle.theory_reaching.proofs.Tests.{held, never}
use Rattle.theory_reaching.proofs.WordTests.{is_self}

-- THE SENDER

module _ (s : Settings) (a : Standing) (x : List ℕ) (w : Words) (g : Given) (itself : g.own_source ≡ true → g.itself ≡ true) where
  abbrev SendsNothing : Fate → Type 0
  SendsNothing f = (transmission_step s a x (fields_in x).dst w f).sends ≡ []

  -- a packet that is from elsewhere or to the sender itself is dropped
  nothing_sent : SendsNothing (transmission_row g)
  nothing_sent = by_lines SendsNothing (host_lines g ++ destination_lines g) fate.Queued (
    (λ _. refl),
    (λ _. (
      (λ _. refl),
      (λ _. (
        (λ _. refl),
        (λ _. (
          (λ _. refl),
          (λ own. (
            (λ _. refl),
            (λ _. ((λ _. refl), (λ _. ((λ _. refl), (λ foreign. never g.itself (itself (held g.own_source own)) foreign))))),
          )),
        )),
      )),
    )),
  )

module _ (s : Settings) (j : Journal) (n : ℕ) (x : List ℕ) (w : Words) (is_one : is_packet x ≡ true) where
  -- of a packet to where it is from
  sends_nothing : (fields_in x).dst ≡ (fields_in x).src → (client_out s j n x w).step.sends ≡ []
  unfolding client_out transmission.transmission transmission.given standing_at
  sends_nothing same = subst (λ (a : Standing).
      (transmission_step s a x (fields_in x).dst w (transmission_row (given_of s a (is_packet x) (fields_in x)))).sends ≡ [])
      (sym (stands_for s j n x is_one))
      (nothing_sent s (standing_at s j n (fields_in x).dst) x w (given_of s (standing_at s j n (fields_in x).dst) (is_packet x) (fields_in x))
      (λ own. ap (λ (z : Ip6). same_ip6 z (own_address (qualification s j))) same ∙ own))

-- THE WORD

one_address : (a : TwoClients) → is_self (between_clients_row a) ≡ true → a.same_address ≡ true
one_address a e = that_one a.same_address (which_held is_self (between_clients_lines a) word.Within5 refl e)

pub self_is_kept : KeepsBetweenClients word.OneAddress
unfolding two_clients
self_is_kept lab H is chained q later n m c d x g at to said sent fresh =
    let own = address_at lab H n in
    let same = same_ip6-true own (address_at lab H m)
    (of_clients (record { lab = lab; H = H; n = n; m = m; said = word.OneAddress }) (λ a. a.same_address ≡ true) (λ a w. one_address a (ap is_self w)) c d at to said) in
    let there = earlier lab later (q ∷ H) g in
    let taken = host_hands H at there.0 sent.handed in
    let silent = sends_nothing (client_settings lab.topology c) (journal n H) (now H) x (words lab n H) sent.handed.packet.packet
    (sent.handed.packet.destination ∙ sym same ∙ sym sent.handed.packet.source) in
    let nothing : q.made ≡ [] = taken.did.made
    ∙ ap (λ (xs : List Send). (by_way lab H (now H) (way_out lab.chain c.nat) c.inside (armed H) 0 [] xs).made) silent in
    subst (SomeBrings m (client d) x) (alone lab H q there nothing later g fresh)
