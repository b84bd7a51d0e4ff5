-- What a relay knows of a client after an entry that touches it, at the moment of the entry.
use Rattle.theory_first_natives.proofs.Words.{Bool, Entry, Ep, Fate, Ip6, List, Mention, Option, Peer, Some, [], after, ap, cond, is_listed, is_some, known, listed_is_known, no_peer, option_or, option_to_list, peer_at, refl, relay_bearing_of, relay_mention, relay_mentions, seen_by_touch, sym, true, unwrap_or, ℕ, ◌++◌, ◌||◌, ◌∙◌, ◌∷◌, ◌≡◌}
use Rattle.teredo_node.specs.declared.fate.Fate.TheVariants as fate

-- an entry about p at a moment, with a fate that touches p
pub record TouchesClient (e : Entry) (n : ℕ) (p : Ip6) : Type 0 where
  pub peer : e.peer ≡ Some p
  pub moment : e.moment ≡ n
  pub touches : (relay_bearing_of e.step.fate e).touches ≡ true

module _ (e : Entry) (es : List Entry) (n : ℕ) (p : Ip6) (is : TouchesClient e n p) where
  abbrev before : Peer
  before = known (relay_mentions es) n p

  next : relay_mentions (e ∷ es) ≡ relay_mention e ∷ relay_mentions es
  unfolding relay_mentions
  next = refl

  -- the entry is the latest of what is known
  seen_after : peer_at (relay_mentions (e ∷ es)) n p ≡ Some (after (relay_mention e) before)
  seen_after =
      ap (λ (ms : List Mention). peer_at ms n p) next
      ∙ seen_by_touch (relay_mention e) (relay_mentions es) n p is.peer is.moment is.touches

  -- what is known then
  known_after : known (relay_mentions (e ∷ es)) n p ≡ after (relay_mention e) before
  known_after = ap (λ (o : Option Peer). unwrap_or o no_peer) seen_after

  -- it is listed then
  pub listed_after : is_listed p n (relay_mentions (e ∷ es)) ≡ true
  listed_after = sym (listed_is_known (relay_mentions (e ∷ es)) n p) ∙ ap (λ (o : Option Peer). is_some o) seen_after

  -- the packets that wait
  abbrev waits_by : Fate → List (List ℕ)
  waits_by f = cond ((relay_bearing_of f e).hears || (relay_bearing_of f e).gives_up) [] (before.waiting ++ option_to_list (relay_bearing_of f e).queues)

  pub waits_after : (f : Fate) → e.step.fate ≡ f → (known (relay_mentions (e ∷ es)) n p).waiting ≡ waits_by f
  waits_after f same = ap (λ (k : Peer). k.waiting) known_after ∙ ap waits_by same

  -- where it is trusted
  abbrev trusts_by : Fate → Option Ep
  trusts_by f = option_or (relay_bearing_of f e).trusts before.trusted

  pub trusted_after : (f : Fate) → e.step.fate ≡ f → (known (relay_mentions (e ∷ es)) n p).trusted ≡ trusts_by f
  trusted_after f same = ap (λ (k : Peer). k.trusted) known_after ∙ ap trusts_by same

-- WHAT IS KNOWN AFTER EACH FATE

-- an entry on a peer, and its moment
pub record AboutPeer : Type 0 where
  pub e : Entry
  pub es : List Entry
  pub n : ℕ
  pub p : Ip6
  pub about : e.peer ≡ Some p
  pub moment : e.moment ≡ n

module _ (about_peer : AboutPeer) where
  open about_peer use {e, es, n, p, about, moment}

  abbrev later : Peer
  later = known (relay_mentions (e ∷ es)) n p

  touched : {f : Fate} → e.step.fate ≡ f → (relay_bearing_of f e).touches ≡ true → TouchesClient e n p
  touched same touches = record {
    peer = about;
    moment = moment;
    touches = ap (λ (g : Fate). (relay_bearing_of g e).touches) same ∙ touches;
  }

  -- it keeps the packet for the client
  pub record KeepsFor (x : List ℕ) : Type 0 where
    pub listed : is_listed p n (relay_mentions (e ∷ es)) ≡ true
    pub waiting : later.waiting ≡ x ∷ []

  pub after_queued : {x : List ℕ} → e.step.fate ≡ fate.Queued → e.packet ≡ Some x → (known (relay_mentions es) n p).waiting ≡ [] → KeepsFor x
  after_queued f packet none = let is = touched f refl in record {
    listed = listed_after e es n p is;
    waiting = waits_after e es n p is fate.Queued f ∙ ap (λ (ws : List (List ℕ)). ws ++ option_to_list e.packet) none
        ∙ ap (λ (o : Option (List ℕ)). option_to_list o) packet;
  }

  -- where an entry with this fate trusts it, or it was trusted before
  abbrev here : (Option Ep) → Bool
  here o = is_some (option_or o (known (relay_mentions es) n p).trusted)

  at_embedded : here (relay_bearing_of fate.SentCone e).trusts ≡ true
  at_embedded = ap (λ (o : Option Ip6). here (option_of o)) about where
    option_of : Option Ip6 → Option Ep
    option_of o = (relay_bearing_of fate.SentCone (record e { peer = o })).trusts

  trusts_by_fate : {f : Fate} → e.step.fate ≡ f → (relay_bearing_of f e).touches ≡ true → here (relay_bearing_of f e).trusts ≡ true
      → is_some later.trusted ≡ true
  trusts_by_fate {f} same touches trusts =
      ap (λ (o : Option Ep). is_some o) (trusted_after e es n p (touched same touches) f same) ∙ trusts

  -- it trusts a cone client that it sent to, and one that it trusted
  pub after_sent_cone : e.step.fate ≡ fate.SentCone → is_some later.trusted ≡ true
  after_sent_cone f = trusts_by_fate f refl at_embedded

  pub after_sent : e.step.fate ≡ fate.Sent → is_some (known (relay_mentions es) n p).trusted ≡ true → is_some later.trusted ≡ true
  after_sent f trusted = trusts_by_fate f refl trusted

  pub after_its_packet : e.step.fate ≡ fate.FromClient → is_some later.trusted ≡ true
  after_its_packet f = trusts_by_fate f refl at_embedded

  -- it trusts one that it heard from
  pub record TrustsIt : Type 0 where
    pub listed : is_listed p n (relay_mentions (e ∷ es)) ≡ true
    pub waiting : later.waiting ≡ []
    pub trusted : is_some later.trusted ≡ true

  pub after_its_bubble : e.step.fate ≡ fate.FromClientBubble → TrustsIt
  after_its_bubble f = let is = touched f refl in record {
    listed = listed_after e es n p is;
    waiting = waits_after e es n p is fate.FromClientBubble f;
    trusted = ap (λ (o : Option Ep). is_some o) (trusted_after e es n p is fate.FromClientBubble f) ∙ at_embedded;
  }
