-- What a client knows of a native after it sent a test on a packet of it, and after a bubble of another peer.
use Rattle.theory_first_natives.proofs.Words.{Bool, Entry, Ep, Fate, Held, Input, Ip6, List, Option, PEERS_MAX, Peer, Some, Touches, [], after, ap, append-nil, arrived, bearing_of, cond, false, filter, has_room, held_from, held_of, is_changed, is_fresh, is_listed, is_trusted_at, known, known_after, length, listed, listed_after, map, mention, mentions, nonce_of_words, option_or, option_to_list, refl, same_ep, same_ep-self, same_ip6, source_of, true, ℕ, ◌++◌, ◌+◌, ◌∙◌, ◌∷◌, ◌≡◌, ◌≤◌}
use Rattle.teredo_node.specs.declared.fate.Fate.TheVariants as fate
use Rattle.theory_first_natives.proofs.tables.NativeTables.{tested_by}
use Rattle.theory_first_natives.proofs.tables.OthersKnown.{others_known, others_room}

-- one more packet from there is the last of those that are held from there
one_more_held : (at : Ep) (x : List ℕ) (hs : List Held) → held_from at (hs ++ record { from = at; packet = x } ∷ []) ≡ held_from at hs ++ x ∷ []
one_more_held at x [] = ap (λ (b : Bool). map (λ (h : Held). h.packet) (cond b (record { from = at; packet = x } ∷ []) [])) (same_ep-self at)
one_more_held at x (h ∷ hs) = by (same_ep h.from at) (one_more_held at x hs) where
  rest : List Held
  rest = filter (λ (g : Held). same_ep g.from at) (hs ++ record { from = at; packet = x } ∷ [])

  by : (b : Bool) → held_from at (hs ++ record { from = at; packet = x } ∷ []) ≡ held_from at hs ++ x ∷ []
      → map (λ (g : Held). g.packet) (cond b (h ∷ rest) rest)
      ≡ map (λ (g : Held). g.packet) (cond b (h ∷ filter (λ (g : Held). same_ep g.from at) hs) (filter (λ (g : Held). same_ep g.from at) hs)) ++ x ∷ []
  by true ih = ap (λ (ys : List (List ℕ)). h.packet ∷ ys) ih
  by false ih = ih

-- AFTER A TEST OF A NATIVE OF WHOM THIS WAS KNOWN

pub record TestOf : Type 0 where
  pub e : Entry
  pub es : List Entry
  pub n : ℕ
  pub p : Ip6
  pub about : e.peer ≡ Some p
  pub moment : e.moment ≡ n
  pub full : Bool
  pub fate_is : e.step.fate ≡ tested_by full
  pub peer : Peer
  pub was : known (mentions es) n p ≡ peer

module _ (the : TestOf) where
  open the use {e, es, n, p, about, moment, full, fate_is, peer, was}

  touches : Touches e n p
  touches = record {
    peer = about;
    moment = moment;
    keeps = ap is_changed fate_is ∙ unchanged full;
    touches = ap (λ (f : Fate). (bearing_of f e).touches) fate_is ∙ touched full;
  } where
    unchanged : (b : Bool) → is_changed (tested_by b) ≡ false
    unchanged true = refl
    unchanged false = refl

    touched : (b : Bool) → (bearing_of (tested_by b) e).touches ≡ true
    touched true = refl
    touched false = refl

  abbrev by_fate : Fate → Peer
  by_fate f = after (record { moment = e.moment; peer = e.peer; bearing = bearing_of f e }) peer

  known_then : known (mentions (e ∷ es)) n p ≡ by_fate (tested_by full)
  known_then = known_after e es n p touches ∙ ap (λ (k : Peer). after (mention e) k) was ∙ ap by_fate fate_is

  -- it holds the packet behind what it held, unless it holds as many as it may, and waits for the reply. Nothing else is changed
  pub record HoldsIt (at : Ep) (x : List ℕ) (nonce : ℕ) : Type 0 where
    pub listed : is_listed p n (mentions (e ∷ es)) ≡ true
    pub waiting : (known (mentions (e ∷ es)) n p).waiting ≡ peer.waiting
    pub held : held_from at (known (mentions (e ∷ es)) n p).held ≡ cond full (held_from at peer.held) (held_from at peer.held ++ x ∷ [])
    pub tested : (known (mentions (e ∷ es)) n p).nonce ≡ Some nonce
    pub trust : is_trusted_at at (known (mentions (e ∷ es)) n p) ≡ is_trusted_at at peer
    pub fresh : is_fresh n (known (mentions (e ∷ es)) n p) ≡ is_fresh n peer

  -- where it is trusted, and since when
  trust_is : (b : Bool) (at : Ep) → is_trusted_at at (by_fate (tested_by b)) ≡ is_trusted_at at peer
  unfolding is_trusted_at
  trust_is true at = refl
  trust_is false at = refl

  fresh_is : (b : Bool) → is_fresh n (by_fate (tested_by b)) ≡ is_fresh n peer
  unfolding is_fresh
  fresh_is true = refl
  fresh_is false = refl

  waiting_is : (b : Bool) → (by_fate (tested_by b)).waiting ≡ peer.waiting
  waiting_is true = append-nil peer.waiting
  waiting_is false = append-nil peer.waiting

  nonce_is : (b : Bool) → (by_fate (tested_by b)).nonce ≡ option_or (nonce_of_words e.words) peer.nonce
  nonce_is true = refl
  nonce_is false = refl

  held_is : (b : Bool) (at : Ep) (y x : List ℕ) → e.input ≡ arrived at y → e.packet ≡ Some x
      → held_from at (by_fate (tested_by b)).held ≡ cond b (held_from at peer.held) (held_from at peer.held ++ x ∷ [])
  held_is true at y x came packet = ap (held_from at) (append-nil peer.held)
  held_is false at y x came packet =
      ap (λ (i : Input). held_from at (peer.held ++ option_to_list (held_of (source_of i) e.packet))) came
      ∙ ap (λ (o : Option (List ℕ)). held_from at (peer.held ++ option_to_list (held_of (Some at) o))) packet
      ∙ one_more_held at x peer.held

  pub after_test : (at : Ep) (y x : List ℕ) (nonce : ℕ) → e.input ≡ arrived at y → e.packet ≡ Some x → nonce_of_words e.words ≡ Some nonce
      → HoldsIt at x nonce
  after_test at y x nonce came packet drew = record {
    listed = listed_after e es n p touches;
    waiting = ap (λ (k : Peer). k.waiting) known_then ∙ waiting_is full;
    held = ap (λ (k : Peer). held_from at k.held) known_then ∙ held_is full at y x came packet;
    tested = ap (λ (k : Peer). k.nonce) known_then ∙ nonce_is full ∙ ap (λ (o : Option ℕ). option_or o peer.nonce) drew;
    trust = ap (is_trusted_at at) known_then ∙ trust_is full at;
    fresh = ap (is_fresh n) known_then ∙ fresh_is full;
  }

-- AFTER A BUBBLE OF THE RELAY

-- it answered a peer, and knows as much of another one as before, for which there is room
module _ (e : Entry) (es : List Entry) (n : ℕ) {p : Ip6} (about : e.peer ≡ Some p)
    (fate_is : e.step.fate ≡ fate.Indirect) where
  touches_it : (mention e).bearing.touches ≡ true
  touches_it = ap (λ (f : Fate). (bearing_of f e).touches) fate_is

  pub others_stay_known : (q : Ip6) → same_ip6 p q ≡ false → known (mentions (e ∷ es)) n q ≡ known (mentions es) n q
  others_stay_known = others_known e es n about (ap is_changed fate_is) touches_it

  -- room for another one, beside that peer where it lists neither, is room for it then
  pub room_for_another : (q : Ip6) → same_ip6 p q ≡ false → has_room (mentions es) n q ≡ true
      → (is_listed q n (mentions es) ≡ false → is_listed p n (mentions es) ≡ false → length (listed (mentions es) n) + 2 ≤ PEERS_MAX)
      → has_room (mentions (e ∷ es)) n q ≡ true
  room_for_another = others_room e es n about (ap is_changed fate_is) touches_it
