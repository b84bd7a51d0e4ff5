-- What a client sends of a packet for a peer to which it goes at once: the packet itself to one endpoint, or nothing.
use Rattle.theory_reaching.proofs.Words.{Bool, Ep, Fate, Given, Ip6, Journal, List, None, Option, Send, Settings, Some, Standing, Step, Words, [], and_left, ap, by_lines, client_out, destination_lines, embedded, false, fields_in, given_of, has_cone, host_lines, inl, inr, is_barred, is_fresh, is_packet, is_teredo, known, known_in, map, mentions, nonce_from, option_to_list, own_address, qualification, queues, refl, send, server_ep, standing_at, stands_for, subst, sym, test_bytes, transmission_row, transmission_step, tries_by, true, try_sends, ℕ, ◌&&◌, ◌++◌, ◌||◌, ◌∙◌, ◌∷◌, ◌≡◌, ◌⊎◌}
use Rattle.teredo_node.specs.declared.fate.Fate.TheVariants as fate
use Rattle.client_rules.specs.Transmission as transmission
use Rattle.client_rules.specs.Tries as tries
use Rattle.theory_reaching.proofs.entries.IdleFates.{IsIdleOut, of_transmission}
use Rattle.theory_reaching.proofs.Tests.{never}

abbrev pub IsOneOrNone : Ep → List ℕ → List Send → Type 0
IsOneOrNone D x xs = (xs ≡ []) ⊎ (xs ≡ send D x ∷ [])

-- a packet that goes to one endpoint at once, or not at all
pub record ToQuickPeer : Type 0 where
  pub s : Settings
  pub a : Standing
  pub x : List ℕ
  pub to : Ip6
  pub w : Words
  pub g : Given
  pub D : Ep
  pub quick : (g.fresh || g.cone) ≡ true
  pub trusts : (at : Ep) → (known_in a).trusted ≡ Some at → at ≡ D
  pub its : g.fresh ≡ false → embedded to ≡ D

module _ (to_quick_peer : ToQuickPeer) where
  open to_quick_peer use {s, a, x, to, w, g, D, quick, trusts, its}

  abbrev Sends : Fate → Type 0
  Sends f = IsOneOrNone D x (transmission_step s a x to w f).sends

  idle : (f : Fate) → IsIdleOut f → Sends f
  idle f is = inl (ap (λ (z : Step). z.sends) (is.step s a x to w))

  to_trusted : Sends fate.Sent
  to_trusted = by (known_in a).trusted refl where
    by : (o : Option Ep) → (known_in a).trusted ≡ o → IsOneOrNone D x (map (λ (at : Ep). send at x) (option_to_list o))
    by None is = inl refl
    by (Some at) is = inr (ap (λ (z : Ep). send z x ∷ []) (trusts at is))

  cone : g.fresh ≡ false → Sends fate.SentCone
  cone stale = inr (ap (λ (z : Ep). send z x ∷ []) (its stale))

  neither : {A : Type 0} → g.fresh ≡ false → g.cone ≡ false → A
  neither stale plain = never (g.fresh || g.cone) quick (ap (λ (b : Bool). b || g.cone) stale ∙ plain)

  all_sent : Sends (transmission_row g)
  all_sent = by_lines Sends (host_lines g ++ destination_lines g) fate.Queued (
    (λ _. idle fate.Off (record { bearing = λ e. refl; changes = refl; step = λ s a x p w. refl })),
    (λ _. (
      (λ _. idle fate.Malformed (record { bearing = λ e. refl; changes = refl; step = λ s a x p w. refl })),
      (λ _. (
        (λ _. idle fate.Big (record { bearing = λ e. refl; changes = refl; step = λ s a x p w. refl })),
        (λ _. (
          (λ _. idle fate.Source (record { bearing = λ e. refl; changes = refl; step = λ s a x p w. refl })),
          (λ _. (
            (λ _. idle fate.Dest (record { bearing = λ e. refl; changes = refl; step = λ s a x p w. refl })),
            (λ _. (
              (λ _. idle fate.Bubble (record { bearing = λ e. refl; changes = refl; step = λ s a x p w. refl })),
              (λ _. (
                (λ _. idle fate.Itself (record { bearing = λ e. refl; changes = refl; step = λ s a x p w. refl })),
                (λ _. (
                  (λ _. idle fate.Embedded (record { bearing = λ e. refl; changes = refl; step = λ s a x p w. refl })),
                  (λ _. (
                    (λ _. to_trusted),
                    (λ stale. (
                      (λ _. cone stale),
                      (λ plain. (
                        (λ _. neither stale plain),
                        (λ _. ((λ _. neither stale plain), (λ _. ((λ _. neither stale plain), (λ _. neither stale plain))))),
                      )),
                    )),
                  )),
                )),
              )),
            )),
          )),
        )),
      )),
    )),
  )

-- so it is of a packet's entry
module _ (s : Settings) (j : Journal) (n : ℕ) (x : List ℕ) (w : Words) (is_one : is_packet x ≡ true) (D : Ep)
    (quick : (is_fresh n (known (mentions j.entries) n (fields_in x).dst) || (is_teredo (fields_in x).dst && has_cone (fields_in x).dst)) ≡ true)
    (trusts : (at : Ep) → (known (mentions j.entries) n (fields_in x).dst).trusted ≡ Some at → at ≡ D)
    (its : is_fresh n (known (mentions j.entries) n (fields_in x).dst) ≡ false → embedded (fields_in x).dst ≡ D) where
  pub sends_straight : IsOneOrNone D x (client_out s j n x w).step.sends
  unfolding client_out transmission.transmission transmission.given standing_at
  sends_straight = subst (λ (a : Standing). IsOneOrNone D x
      (transmission_step s a x (fields_in x).dst w (transmission_row (given_of s a (is_packet x) (fields_in x)))).sends)
      (sym (stands_for s j n x is_one))
      (all_sent (record {
        s = s;
        a = standing_at s j n (fields_in x).dst;
        x = x;
        to = (fields_in x).dst;
        w = w;
        g = given_of s (standing_at s j n (fields_in x).dst) (is_packet x) (fields_in x);
        D = D;
        quick = quick;
        trusts = trusts;
        its = its;
      }))

-- A TEST

-- a packet to a native host that isn't fresh
pub record ToStaleNative : Type 0 where
  pub s : Settings
  pub a : Standing
  pub x : List ℕ
  pub to : Ip6
  pub w : Words
  pub g : Given
  pub stale : g.fresh ≡ false
  pub plain : g.cone ≡ false
  pub native : is_teredo to ≡ false

-- of a packet for a native host that isn't fresh a client sends one test, or nothing
module _ (to_stale_native : ToStaleNative) where
  open to_stale_native use {s, a, x, to, w, g, stale, plain, native}

  abbrev its_test : List ℕ
  its_test = test_bytes (own_address a.qualification) to (nonce_from w)

  abbrev SendsTest : Fate → Type 0
  SendsTest f = IsOneOrNone (server_ep s.primary) its_test (transmission_step s a x to w f).sends

  tried : IsOneOrNone (server_ep s.primary) its_test (try_sends s (own_address a.qualification) to w)
  unfolding try_sends tries.test
  tried = subst (λ (b : Bool). IsOneOrNone (server_ep s.primary) its_test (tries_by b s (own_address a.qualification) to w)) (sym native) (inr refl)

  waits : (barred : Bool) → IsOneOrNone (server_ep s.primary) its_test (queues barred s a to w).sends
  waits true = inl refl
  waits false = tried

  test_sent : SendsTest (transmission_row g)
  test_sent = of_transmission SendsTest g (λ f idle. inl (ap (λ (z : Step). z.sends) (idle.step s a x to w)))
      (λ fresh. never g.fresh fresh stale) (λ cone. never g.cone cone plain) (λ _. waits (is_barred a.moment (known_in a)))

module _ (s : Settings) (j : Journal) (n : ℕ) (x : List ℕ) (w : Words) (is_one : is_packet x ≡ true) (native : is_teredo (fields_in x).dst ≡ false)
    (stale : is_fresh n (known (mentions j.entries) n (fields_in x).dst) ≡ false) where
  pub sends_test : IsOneOrNone (server_ep s.primary) (test_bytes (own_address (qualification s j)) (fields_in x).dst (nonce_from w))
      (client_out s j n x w).step.sends
  unfolding client_out transmission.transmission transmission.given standing_at
  sends_test = subst (λ (a : Standing). IsOneOrNone (server_ep s.primary) (test_bytes (own_address (qualification s j)) (fields_in x).dst (nonce_from w))
      (transmission_step s a x (fields_in x).dst w (transmission_row (given_of s a (is_packet x) (fields_in x)))).sends)
      (sym (stands_for s j n x is_one))
      (test_sent (record {
        s = s;
        a = standing_at s j n (fields_in x).dst;
        x = x;
        to = (fields_in x).dst;
        w = w;
        g = given_of s (standing_at s j n (fields_in x).dst) (is_packet x) (fields_in x);
        stale = stale;
        plain = and_left (is_teredo (fields_in x).dst) (has_cone (fields_in x).dst) native;
        native = native;
      }))
