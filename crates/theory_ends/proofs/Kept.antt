-- What waits and what is held at a node, by the numbers of records: what these numbers have in common.
use Rattle.theory_ends.proofs.Words.{AllByRecursion, Bool, Entry, Ep, Fate, Full, IfSome, Ip6, Journal, LISTED_MS, List, Mention, Node, None, Option, Peer, Some, [], after, arith, bearing_of, client, false, held_of, holding_is_kept, is_about, is_changed, is_node, is_restart, is_younger, journal, known, known_none, length, mention, mentions, mentions_by, nat, native, no_peer, number_in, numbered_mentions, one_entry, option_map, peer_at, peer_if, refl, relay, relay_bearing_of, relay_mention, relay_mentions, server, source_of, subst, sym, true, unwrap_or, waiting_is_kept, with_entries, with_number, with_record_numbers, ℕ, ◌∷◌, ◌≡◌, ◌≤◌}
use Rattle.teredo_node.specs.declared.fate.Fate.TheVariants as fate
use Rattle.peer_list.specs.declared.held.Held.{Held}

-- ENTRIES OF A CLIENT

mentions_changed : (e : Entry) (es : List Entry) → is_changed e.step.fate ≡ true → mentions (e ∷ es) ≡ []
unfolding mentions
mentions_changed e es is = rw is refl

mentions_more : (e : Entry) (es : List Entry) → is_changed e.step.fate ≡ false → mentions (e ∷ es) ≡ mention e ∷ mentions es
unfolding mentions
mentions_more e es is = rw is refl

relay_mentions_more : (e : Entry) (es : List Entry) → relay_mentions (e ∷ es) ≡ relay_mention e ∷ relay_mentions es
unfolding relay_mentions
relay_mentions_more e es = refl

-- nobody is mentioned where nothing happened
none_mentioned : (a : Node) → mentions_by a [] ≡ []
unfolding mentions relay_mentions
none_mentioned (server a) = refl
none_mentioned (nat a) = refl
none_mentioned (client c) = refl
none_mentioned (relay r) = refl
none_mentioned (native h) = refl

module _ (P : ℕ → Type 0) where
  -- ONE PEER

  -- so it is of the numbers of all that waits for a peer, and of all that is held of it
  pub record PeerHas (x : Peer) : Type 0 where
    pub waiting : AllByRecursion (λ (y : List ℕ). P (number_in y)) x.waiting
    pub held : AllByRecursion (λ (h : Held). P (number_in h.packet)) x.held

  -- and of what a mention adds
  record MentionHas (e : Mention) : Type 0 where
    queued : IfSome e.bearing.queues (λ (y : List ℕ). P (number_in y))
    holds : IfSome e.bearing.holds (λ (h : Held). P (number_in h.packet))

  after_has : (e : Mention) (x : Peer) → MentionHas e → PeerHas x → PeerHas (after e x)
  after_has e x new old = record {
    waiting = (waiting_is_kept (λ (y : List ℕ). P (number_in y))).more e x new.queued old.waiting;
    held = (holding_is_kept (λ (h : Held). P (number_in h.packet))).more e x new.holds old.held;
  }

  nobody_has : PeerHas no_peer
  nobody_has = record { waiting = tt; held = tt }

  has_if : (about touches young : Bool) (e : Mention) (before now : Option Peer) → MentionHas e
      → PeerHas (unwrap_or before no_peer) → PeerHas (unwrap_or now no_peer) → PeerHas (unwrap_or (peer_if about touches young e before now) no_peer)
  has_if false touches young e before now new was is = is
  has_if true false young e before None new was is = is
  has_if true false young e before (Some x) new was is = after_has e x new is
  has_if true true false e before now new was is = nobody_has
  has_if true true true e before now new was is = after_has e (unwrap_or before no_peer) new was

  -- ALL PEERS

  -- so it is of each peer, at each moment from m0 on: of one that isn't listed then nothing is known
  abbrev pub MentionsHave : List Mention → ℕ → Type 0
  MentionsHave j m0 = (m : ℕ) (p : Ip6) → m0 ≤ m → PeerHas (known j m p)

  pub none_have : (m0 : ℕ) → MentionsHave [] m0
  none_have m0 m p le = subst PeerHas (sym (known_none m p)) nobody_has

  -- one mention more, not before that moment: where it touches a peer that isn't listed then, what was kept of it is kept no longer
  one_more : (e : Mention) (j : List Mention) (m0 : ℕ) → m0 ≤ e.moment → MentionHas e → MentionsHave j m0 → MentionsHave (e ∷ j) m0
  one_more e j m0 later new old m p le = subst (λ (o : Option Peer). PeerHas (unwrap_or o no_peer)) (sym (one_entry e j m p))
      (has_if (is_about p e) e.bearing.touches (is_younger LISTED_MS m e.moment) e (peer_at j e.moment p) (peer_at j m p) new (old e.moment p later) (old m p le))

  -- ONE ENTRY MORE

  abbrev PacketHas : Option (List ℕ) → Type 0
  PacketHas o = IfSome o (λ (y : List ℕ). P (number_in y))

  abbrev HeldHas : Option Held → Type 0
  HeldHas o = IfSome o (λ (h : Held). P (number_in h.packet))

  held_has : (from : Option Ep) (o : Option (List ℕ)) → PacketHas o → HeldHas (held_of from o)
  held_has None o is = tt
  held_has (Some from) None is = tt
  held_has (Some from) (Some y) is = is

  client_has : (f : Fate) (e : Entry) → PacketHas e.packet → PacketHas (bearing_of f e).queues × HeldHas (bearing_of f e).holds
  client_has fate.Queued e is = (is, tt)
  client_has fate.HeldTest e is = (tt, held_has (source_of e.input) e.packet is)
  client_has fate.Held e is = (tt, held_has (source_of e.input) e.packet is)
  client_has _ e is = (tt, tt)

  relay_has : (f : Fate) (e : Entry) → PacketHas e.packet → PacketHas (relay_bearing_of f e).queues × HeldHas (relay_bearing_of f e).holds
  relay_has fate.Queued e is = (is, tt)
  relay_has _ e is = (tt, tt)

  numbered_has : (i : ℕ) → P i → (o : Option (List ℕ)) → PacketHas (option_map (λ (x : List ℕ). i ∷ []) o)
  numbered_has i has None = tt
  numbered_has i has (Some x) = has

  -- what a node says of its peers, with one entry more, whose record has such a number
  entry_more : (a : Node) (i : ℕ) (e : Entry) (es : List Entry) (m0 : ℕ) → P i → m0 ≤ e.moment → MentionsHave (mentions_by a es) m0
      → MentionsHave (mentions_by a (with_number i e ∷ es)) m0
  entry_more (server a) i e es m0 has later old = old
  entry_more (nat a) i e es m0 has later old = old
  entry_more (native h) i e es m0 has later old = old
  entry_more (relay r) i e es m0 has later old = subst (λ (j : List Mention). MentionsHave j m0) (sym (relay_mentions_more (with_number i e) es))
      (one_more (relay_mention (with_number i e)) (relay_mentions es) m0 later (record { queued = new.0; holds = new.1 }) old)
    where
      new : PacketHas (relay_bearing_of e.step.fate (with_number i e)).queues × HeldHas (relay_bearing_of e.step.fate (with_number i e)).holds
      new = relay_has e.step.fate (with_number i e) (numbered_has i has e.packet)
  entry_more (client c) i e es m0 has later old = by (is_changed e.step.fate) refl where
    new : PacketHas (bearing_of e.step.fate (with_number i e)).queues × HeldHas (bearing_of e.step.fate (with_number i e)).holds
    new = client_has e.step.fate (with_number i e) (numbered_has i has e.packet)

    by : (b : Bool) → is_changed e.step.fate ≡ b → MentionsHave (mentions (with_number i e ∷ es)) m0
    by true is = subst (λ (j : List Mention). MentionsHave j m0) (sym (mentions_changed (with_number i e) es is)) (none_have m0)
    by false is = subst (λ (j : List Mention). MentionsHave j m0) (sym (mentions_more (with_number i e) es is))
        (one_more (mention (with_number i e)) (mentions es) m0 later (record { queued = new.0; holds = new.1 }) old)

  entry_more_if : (a : Node) (i : ℕ) (j : Journal) (o : Option Entry) (m0 : ℕ) → P i → IfSome o (λ (e : Entry). m0 ≤ e.moment) → MentionsHave (mentions_by a j.entries) m0
      → MentionsHave (mentions_by a (with_entries j (option_map (with_number i) o)).entries) m0
  entry_more_if a i j None m0 has later old = old
  entry_more_if a i j (Some e) m0 has later old = entry_more a i e j.entries m0 has later old

  -- ONE RECORD MORE

  nothing_has : (a : Node) (m0 : ℕ) → MentionsHave (mentions_by a []) m0
  nothing_has a m0 = subst (λ (j : List Mention). MentionsHave j m0) (sym (none_mentioned a)) (none_have m0)

  pub record_more : (H : List Full) (r : Full) (n : ℕ) (a : Node) (m0 : ℕ) → P (length H) → IfSome r.entry (λ (e : Entry). m0 ≤ e.moment)
      → MentionsHave (numbered_mentions H n a) m0 → MentionsHave (numbered_mentions (r ∷ H) n a) m0
  record_more H r n a m0 has later old = by (is_node n r.node) refl (is_restart r.act) refl where
    by : (b : Bool) → is_node n r.node ≡ b → (c : Bool) → is_restart r.act ≡ c → MentionsHave (numbered_mentions (r ∷ H) n a) m0
    by true its true anew = rw (its, anew) (nothing_has a m0)
    by true its false on = rw (its, on) (entry_more_if a (length H) (journal n (with_record_numbers H)) r.entry m0 has later old)
    by false other c act = rw other old

  pub none_before : (n : ℕ) (a : Node) (m0 : ℕ) → MentionsHave (numbered_mentions [] n a) m0
  none_before n a m0 = nothing_has a m0

-- what follows of a number follows of all
module _ (P Q : ℕ → Type 0) (follows : (i : ℕ) → P i → Q i) where
  all_follow : {A : Type 0} (f : A → ℕ) (xs : List A) → AllByRecursion (λ (x : A). P (f x)) xs → AllByRecursion (λ (x : A). Q (f x)) xs
  all_follow f [] all = tt
  all_follow f (x ∷ xs) all = (follows (f x) all.0, all_follow f xs all.1)

  pub mentions_follow : (j : List Mention) (m0 m1 : ℕ) → m0 ≤ m1 → MentionsHave P j m0 → MentionsHave Q j m1
  mentions_follow j m0 m1 later have m p le = let is = have m p (omega (arith, later, le)) in record {
    waiting = all_follow number_in (known j m p).waiting is.waiting;
    held = all_follow (λ (h : Held). number_in h.packet) (known j m p).held is.held;
  }
