-- What a client sends for a datagram, by its fate.
use Rattle.client_rules.proofs.Words.{AllByRecursion, Bool, Entry, Ep, Fate, Ip6, IsForClient, IsOwnTo, List, None, Option, Phase, Qualification, ReceivedOnlyIf, Send, Settings, Some, Standing, Value, WasHandedIn, Words, [], answers_bubble, ap, bubbles, cond, direct_bubble, heard, is_qualified, known_in, map, nonce_from, option_to_list, origin_in, own_address, reception, reception_fate, reception_step, refl, releases, seen, source_in, subst, sym, tests, tests_source, true, unspecified, unwrap_or, value_in, ℕ, ◌∷◌, ◌≡◌}
use Rattle.teredo_node.specs.declared.fate.Fate.TheVariants as fate
use Rattle.client_rules.proofs.Received.{reception_is_warranted}
use Rattle.client_rules.proofs.Sendings.{MaySend, carried_each, IsReadyToSend, address_is}

-- what holds of all that a datagram's fate may send
record SendsByReception (P : Send → Type 0) (s : Settings) (a : Standing) (from : Ep) (v : Value) (w : Words) (f : Fate) : Type 0 where
  answered : f ≡ fate.Indirect → AllByRecursion P (answers_bubble s a v).sends
  rule1 : f ≡ fate.Rule1 → AllByRecursion P (releases from (known_in a).waiting)
  rule1_bubble : f ≡ fate.Rule1Bubble → AllByRecursion P (releases from (known_in a).waiting)
  rule2 : f ≡ fate.Rule2 → AllByRecursion P (releases from (known_in a).waiting)
  rule3 : f ≡ fate.Rule3 → AllByRecursion P (releases from (known_in a).waiting)
  rule3_bubble : f ≡ fate.Rule3Bubble → AllByRecursion P (releases from (known_in a).waiting)
  tested_held : f ≡ fate.HeldTest → AllByRecursion P (tests_source fate.HeldTest s a v w).sends
  tested : f ≡ fate.SuspiciousTest → AllByRecursion P (tests_source fate.SuspiciousTest s a v w).sends

by_reception : (P : Send → Type 0) (s : Settings) (a : Standing) (from : Ep) (x : List ℕ) (v : Value) (w : Words) (f : Fate) → SendsByReception P s a from v w f → AllByRecursion P (reception_step s a from x v w f).sends
by_reception P s a from x v w fate.Indirect h = h.answered refl
by_reception P s a from x v w fate.Rule1 h = h.rule1 refl
by_reception P s a from x v w fate.Rule1Bubble h = h.rule1_bubble refl
by_reception P s a from x v w fate.Rule2 h = h.rule2 refl
by_reception P s a from x v w fate.Rule3 h = h.rule3 refl
by_reception P s a from x v w fate.Rule3Bubble h = h.rule3_bubble refl
by_reception P s a from x v w fate.HeldTest h = h.tested_held refl
by_reception P s a from x v w fate.SuspiciousTest h = h.tested refl
by_reception P s a from x v w _ h = tt

-- the source of a packet that every line looked at
pub record HasSource (s : Settings) (a : Standing) (from : Ep) (x : List ℕ) : Type 0 where
  pub qualified : is_qualified a.qualification.phase ≡ true
  pub source : source_in x ≡ Some (value_in x).packet.src

pub has_source : (s : Settings) (a : Standing) (from : Ep) (x : List ℕ) → IsForClient (seen s a from x) → HasSource s a from x
unfolding seen source_in
has_source s a from x m = record { qualified = m.qualified; source = ap (λ (b : Bool). cond b (Some (value_in x).packet.src) None) m.sound.payload }

pub given_back : (o : Option Ip6) (p : Ip6) → o ≡ Some p → Some (unwrap_or o unspecified) ≡ o
given_back o p h = subst (λ k. Some (unwrap_or k unspecified) ≡ k) (sym h) refl

both : {A : Type 0} (P Q R : A → Type 0) (xs : List A) → ((x : A) → P x → Q x → R x) → AllByRecursion (λ x. P x × Q x) xs → AllByRecursion R xs
both P Q R [] f a = tt
both P Q R (x ∷ xs) f a = (f x a.0.0 a.0.1, both P Q R xs f a.1)

-- where what a datagram draws may go: packets that waited to where it came from, a bubble to its origin
pub record MayDraw (bubbled : Ip6 → Ep → Type 0) (carried : Ep → List ℕ → Type 0) (from : Ep) (x : List ℕ) (es : List Entry) (f : Fate) : Type 0 where
  pub answer : f ≡ fate.Indirect → (to : Ep) → origin_in (value_in x).lead ≡ Some to → bubbled (value_in x).packet.src to
  pub releases : (bytes : List ℕ) → WasHandedIn es (source_in x) bytes → carried from bytes

module _ (bubbled : Ip6 → Ep → Type 0) (carried : Ep → List ℕ → Type 0) (s : Settings) where
  released : (a : Standing) (after : Phase) (from : Ep) (x : List ℕ) (es : List Entry) → IsReadyToSend a (source_in x) es → HasSource s a from x → ((bytes : List ℕ) → WasHandedIn es (source_in x) bytes → carried from bytes)
      → AllByRecursion (MaySend bubbled carried s a.qualification after (source_in x)) (releases from (known_in a).waiting)
  released a after from x es r h may =
      let waiting = subst (λ to. AllByRecursion (λ y. IsOwnTo a.qualification.address to y × WasHandedIn es to y) (known_in a).waiting) (given_back (source_in x) (value_in x).packet.src h.source) r.waiting in
      carried_each bubbled carried s a.qualification after (source_in x) from (known_in a).waiting
      (both (IsOwnTo a.qualification.address (source_in x)) (WasHandedIn es (source_in x)) (λ y. IsOwnTo a.qualification.address (source_in x) y × carried from y) (known_in a).waiting (λ y own given. (own, may y given)) waiting)

  answered_to : (q : Qualification) (after : Phase) (own p : Ip6) (o : Option Ep) → ((to : Ep) → o ≡ Some to → bubbled p to) → q.address ≡ Some own
      → AllByRecursion (MaySend bubbled carried s q after (Some p)) (map (direct_bubble own p) (option_to_list o))
  answered_to q after own p None may is = tt
  answered_to q after own p (Some to) may is = (bubbles own p to is refl (may to refl) refl, tt)

  pub of_datagram : (a : Standing) (after : Phase) (from : Ep) (x : List ℕ) (w : Words) (es : List Entry) → IsReadyToSend a (source_in x) es → MayDraw bubbled carried from x es (reception_fate s a from x)
      → AllByRecursion (MaySend bubbled carried s a.qualification after (source_in x)) (reception s a from x w).sends
  unfolding reception
  of_datagram a after from x w es r may =
      let f = reception_fate s a from x in
      let h = heard s a.qualification from (value_in x) in
      let told : (g : Fate) → f ≡ g → ReceivedOnlyIf g (seen s a from x) h = λ g k. subst (λ i. ReceivedOnlyIf i (seen s a from x) h) k (reception_is_warranted s a from x) in
      let release = λ (m : IsForClient (seen s a from x)). released a after from x es r (has_source s a from x m) may.releases in
      let test : IsForClient (seen s a from x) → (g : Fate) → AllByRecursion (MaySend bubbled carried s a.qualification after (source_in x)) (tests_source g s a (value_in x) w).sends = λ m g.
      let there = has_source s a from x m in
      (tests (own_address a.qualification) (value_in x).packet.src (nonce_from w) (address_is a (source_in x) es r there.qualified) there.source refl, tt) in
      by_reception (MaySend bubbled carried s a.qualification after (source_in x)) s a from x (value_in x) w f (record {
        answered = λ k.
            let m = has_source s a from x (told fate.Indirect k).mine in
            subst (λ peer. AllByRecursion (MaySend bubbled carried s a.qualification after peer) (answers_bubble s a (value_in x)).sends) (sym m.source)
            (answered_to a.qualification after (own_address a.qualification) (value_in x).packet.src (origin_in (value_in x).lead) (may.answer k) (address_is a (source_in x) es r m.qualified));
        rule1 = λ k. release (told fate.Rule1 k).direct.mine;
        rule1_bubble = λ k. release (told fate.Rule1Bubble k).direct.mine;
        rule2 = λ k. release (told fate.Rule2 k).direct.mine;
        rule3 = λ k. release (told fate.Rule3 k).direct.mine;
        rule3_bubble = λ k. release (told fate.Rule3Bubble k).direct.mine;
        tested_held = λ k. test (told fate.HeldTest k).direct.mine fate.HeldTest;
        tested = λ k. test (told fate.SuspiciousTest k).direct.mine fate.SuspiciousTest;
      })
