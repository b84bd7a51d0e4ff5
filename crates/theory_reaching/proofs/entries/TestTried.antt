-- What a client sends of a packet for a native host that isn't fresh: the one test whose nonce it draws, or nothing. Of one for a host that is
-- fresh it draws none.
use Rattle.theory_reaching.proofs.Words.{Bearing, Bool, Entry, Fate, Given, Ip6, Journal, List, None, Option, Send, Settings, Some, Standing, Step, Words, [], and_left, ap, bearing_of, by_lines, client_out, destination_in, destination_lines, drawn_words, entry, false, fields_in, given_of, has_cone, host_lines, if◌then◌else◌, is_barred, is_fresh, is_packet, is_teredo, just, known, known_in, mentions, nonce_from, nonce_of_words, own_address, packet_given, qualification, queues, refl, send, server_ep, standing_at, stands_for, subst, sym, test_bytes, transmission_row, transmission_step, tries_by, true, try_sends, try_words, ℕ, ◌++◌, ◌∷◌, ◌≡◌}
use Rattle.teredo_node.specs.declared.fate.Fate.TheVariants as fate
use Rattle.teredo_node.specs.Journal.{given}
use Rattle.client_rules.specs.Transmission as transmission
use Rattle.client_rules.specs.Tries as tries
use Rattle.theory_reaching.proofs.entries.IdleFates.{of_transmission}
use Rattle.theory_reaching.proofs.Tests.{never}

-- an entry sends nothing and draws no nonce, or sends this test alone and draws its nonce
pub data DrawsTest (its_test : Send) (nonce : ℕ) (e : Entry) : Type 0 where
  silent : e.step.sends ≡ [] → (bearing_of e.step.fate e).nonce ≡ None → DrawsTest its_test nonce e
  tests : e.step.sends ≡ its_test ∷ [] → (bearing_of e.step.fate e).nonce ≡ Some nonce → DrawsTest its_test nonce e

-- THE TABLE

-- a packet for which a test is tried
pub record TriedTest : Type 0 where
  pub s : Settings
  pub a : Standing
  pub x : List ℕ
  pub to : Ip6
  pub w : Words
  pub g : Given
  pub n : ℕ
  pub packet : Option (List ℕ)
  pub peer : Option Ip6

module _ (tried_test : TriedTest) where
  open tried_test use {s, a, x, to, w, g, n, packet, peer}

  -- the entry of what was done
  abbrev of_step : Step → Entry
  of_step z = entry n (given x) packet peer w z

  -- of a host that is fresh
  abbrev DrawsNone : Fate → Type 0
  DrawsNone f = (bearing_of (transmission_step s a x to w f).fate (of_step (transmission_step s a x to w f))).nonce ≡ None

  draws_none : g.fresh ≡ true → DrawsNone (transmission_row g)
  draws_none fresh = by_lines DrawsNone (host_lines g ++ destination_lines g) fate.Queued (
    (λ _. refl),
    (λ _. (
      (λ _. refl),
      (λ _. (
        (λ _. refl),
        (λ _. (
          (λ _. refl),
          (λ _. (
            (λ _. refl),
            (λ _. (
              (λ _. refl),
              (λ _. (
                (λ _. refl),
                (λ _. (
                  (λ _. refl),
                  (λ _. (
                    (λ _. refl),
                    (λ stale. never g.fresh fresh stale),
                  )),
                )),
              )),
            )),
          )),
        )),
      )),
    )),
  )

  -- of one that isn't
  module _ (stale : g.fresh ≡ false) (plain : g.cone ≡ false) (native : is_teredo to ≡ false) where
    abbrev its_test : Send
    its_test = send (server_ep s.primary) (test_bytes (own_address a.qualification) to (nonce_from w))

    abbrev Draws : Step → Type 0
    Draws z = DrawsTest its_test (nonce_from w) (of_step z)

    tried : try_sends s (own_address a.qualification) to w ≡ its_test ∷ []
    unfolding try_sends tries.test
    tried = ap (λ (b : Bool). tries_by b s (own_address a.qualification) to w) native

    drawn : nonce_of_words (drawn_words (try_words to) w) ≡ Some (nonce_from w)
    drawn = ap (λ (b : Bool). nonce_of_words (drawn_words (if b then 0 else 2) w)) native

    queued : (barred : Bool) → Draws (queues barred s a to w)
    queued true = silent refl refl
    queued false = tests tried drawn

    draws_test : Draws (transmission_step s a x to w (transmission_row g))
    draws_test = of_transmission (λ (f : Fate). Draws (transmission_step s a x to w f)) g
        (λ f idle. subst Draws (sym (idle.step s a x to w)) (silent refl (ap (λ (b : Bearing). b.nonce) (idle.bearing (of_step (just f))))))
        (λ fresh. never g.fresh fresh stale) (λ cone. never g.cone cone plain) (λ _. queued (is_barred a.moment (known_in a)))

-- THE ENTRY

module _ (s : Settings) (j : Journal) (n : ℕ) (x : List ℕ) (w : Words) (is_one : is_packet x ≡ true) where
  abbrev of_standing : Standing → Entry
  of_standing a = entry n (given x) (packet_given x) (destination_in x) w
      (transmission_step s a x (fields_in x).dst w (transmission_row (given_of s a (is_packet x) (fields_in x))))

  abbrev here : Standing
  here = standing_at s j n (fields_in x).dst

  pub draws_none_of_fresh : is_fresh n (known (mentions j.entries) n (fields_in x).dst) ≡ true
      → (bearing_of (client_out s j n x w).step.fate (client_out s j n x w)).nonce ≡ None
  unfolding client_out transmission.transmission transmission.given standing_at
  draws_none_of_fresh fresh = subst (λ (a : Standing). (bearing_of (of_standing a).step.fate (of_standing a)).nonce ≡ None) (sym (stands_for s j n x is_one))
      (draws_none (record { s = s; a = here; x = x; to = (fields_in x).dst; w = w; g = given_of s here (is_packet x) (fields_in x); n = n; packet = packet_given x; peer = destination_in x }) fresh)

  pub draws_its_test : is_teredo (fields_in x).dst ≡ false → is_fresh n (known (mentions j.entries) n (fields_in x).dst) ≡ false
      → DrawsTest (send (server_ep s.primary) (test_bytes (own_address (qualification s j)) (fields_in x).dst (nonce_from w))) (nonce_from w)
      (client_out s j n x w)
  unfolding client_out transmission.transmission transmission.given standing_at
  draws_its_test native stale = subst (λ (a : Standing). DrawsTest (send (server_ep s.primary)
      (test_bytes (own_address (qualification s j)) (fields_in x).dst (nonce_from w))) (nonce_from w) (of_standing a)) (sym (stands_for s j n x is_one))
      (draws_test (record { s = s; a = here; x = x; to = (fields_in x).dst; w = w; g = given_of s here (is_packet x) (fields_in x); n = n; packet = packet_given x; peer = destination_in x }) stale
      (and_left (is_teredo (fields_in x).dst) (has_cone (fields_in x).dst) native) native)
