-- What a client knows of a native after its host's packet for it waits, and after the native's reply to the test.
use Rattle.theory_first_natives.proofs.Words.{Entry, Ep, Fate, Input, Ip6, List, Option, Peer, Some, Touches, [], after, ap, arrived, bearing_of, false, is_changed, is_ep, is_fresh, is_listed, is_trusted_at, known, known_after, listed_after, mentions, nonce_of_words, option_or, option_to_list, refl, same_ep-self, source_of, true, trusted_after, trusted_before, ℕ, ◌++◌, ◌∙◌, ◌∷◌, ◌≡◌}
use Rattle.teredo_node.specs.declared.fate.Fate.TheVariants as fate
use Rattle.theory_first_packets.proofs.tables.Known.{waits_after}

-- an entry on a peer, and its moment
pub record AboutPeer : Type 0 where
  pub e : Entry
  pub es : List Entry
  pub n : ℕ
  pub p : Ip6
  pub about : e.peer ≡ Some p
  pub moment : e.moment ≡ n

module _ (about_peer : AboutPeer) where
  open about_peer use {e, es, n, p, about, moment}

  abbrev peer : Peer
  peer = known (mentions (e ∷ es)) n p

  abbrev was : Peer
  was = known (mentions es) n p

  touched : {f : Fate} → e.step.fate ≡ f → is_changed f ≡ false → (bearing_of f e).touches ≡ true → Touches e n p
  touched same keeps touches = record {
    peer = about;
    moment = moment;
    keeps = ap is_changed same ∙ keeps;
    touches = ap (λ (g : Fate). (bearing_of g e).touches) same ∙ touches;
  }

  -- AFTER A PACKET FOR IT

  module _ (fate_is : e.step.fate ≡ fate.Queued) where
    abbrev by_fate : Fate → Peer
    by_fate f = after (record { moment = e.moment; peer = e.peer; bearing = bearing_of f e }) was

    known_then : peer ≡ by_fate fate.Queued
    known_then = known_after e es n p (touched fate_is refl refl) ∙ ap by_fate fate_is

    fresh_is : is_fresh n (by_fate fate.Queued) ≡ is_fresh n was
    unfolding is_fresh
    fresh_is = refl

    -- the packet waits for the reply to a test, where nothing waited, and the native is as fresh as before
    pub record WaitsFor (x : List ℕ) (nonce : ℕ) : Type 0 where
      pub listed : is_listed p n (mentions (e ∷ es)) ≡ true
      pub waiting : peer.waiting ≡ x ∷ []
      pub tested : peer.nonce ≡ Some nonce
      pub fresh : is_fresh n peer ≡ is_fresh n was

    pub after_asking : {x : List ℕ} {nonce : ℕ} → e.packet ≡ Some x → nonce_of_words e.words ≡ Some nonce → was.waiting ≡ [] → WaitsFor x nonce
    after_asking packet drew none = record {
      listed = listed_after e es n p (touched fate_is refl refl);
      waiting = ap (λ (k : Peer). k.waiting) known_then ∙ ap (λ (ws : List (List ℕ)). ws ++ option_to_list e.packet) none
          ∙ ap (λ (o : Option (List ℕ)). option_to_list o) packet;
      tested = ap (λ (k : Peer). k.nonce) known_then ∙ ap (λ (o : Option ℕ). option_or o was.nonce) drew;
      fresh = ap (is_fresh n) known_then ∙ fresh_is;
    }

  -- AFTER ITS REPLY

  -- it is trusted where the reply came from, and nothing waits for it
  pub record TrustsIt (at : Ep) : Type 0 where
    pub waiting : peer.waiting ≡ []
    pub trusted : is_trusted_at at peer ≡ true

  -- where it was trusted, by rule 1
  pub after_rule_one : (at : Ep) → e.step.fate ≡ fate.Rule1 → is_trusted_at at was ≡ true → TrustsIt at
  after_rule_one at fate_is trusted =
      let is : Touches e n p = touched fate_is refl refl in
      record {
        waiting = waits_after e es n p is fate.Rule1 fate_is;
        trusted = trusted_after e es n p is at fate.Rule1 fate_is ∙ trusted_before e es n p is at ∙ trusted;
      }

  -- else by rule 2
  pub after_rule_two : (at : Ep) (y : List ℕ) → e.step.fate ≡ fate.Rule2 → e.input ≡ arrived at y → TrustsIt at
  after_rule_two at y fate_is came =
      let is : Touches e n p = touched fate_is refl refl in
      record {
        waiting = waits_after e es n p is fate.Rule2 fate_is;
        trusted = trusted_after e es n p is at fate.Rule2 fate_is
            ∙ ap (λ (i : Input). is_ep at (option_or (source_of i) was.trusted)) came ∙ same_ep-self at;
      }
