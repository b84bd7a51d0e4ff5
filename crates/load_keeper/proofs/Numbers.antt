-- The numbers of records that stand in place of packets are those of records that were.
use Rattle.load_keeper.proofs.Words.{AllByRecursion, Bool, Entry, Ep, Fate, Full, Held, HeldLoad, IfSome, Ip6, Journal, KeepsLoadsOf, LISTED_MS, List, Load, Mention, Node, NodeKept, None, Option, Peer, Some, TopologyState, [], add-one, after, arith, bearing_of, client, false, get_or_append_left, held_of, if◌then◌else◌, is_about, is_changed, is_listed, is_node, is_restart, is_younger, journal, le_trans, length, length-append, load_at, load_given, loads, loads_for_peer, map, mentions, mentions_by, nat, native, no_peer, number_in, one_entry, option_map, option_to_list, peer_at, peer_if, refl, relay, relay_bearing_of, relay_mentions, server, source_of, subst, sym, true, with_entries, with_number, with_record_numbers, ℕ, ◌++◌, ◌<◌, ◌||◌, ◌∙◌, ◌∷◌, ◌≡◌, ◌≤◌}
use Rattle.teredo_node.specs.declared.fate.Fate.TheVariants as fate

-- nothing is known where nothing was mentioned
pub none_at : (n : ℕ) (p : Ip6) → peer_at [] n p ≡ None
unfolding peer_at is_listed
none_at n p = refl

module _ (k : ℕ) where
  -- a packet's number is below k
  abbrev IsBelow : List ℕ → Type 0
  IsBelow x = number_in x < k

  abbrev IsHeldBelow : Held → Type 0
  IsHeldBelow h = number_in h.packet < k

  -- so are those that a mention keeps
  pub record MentionBelow (m : Mention) : Type 0 where
    pub queued : IfSome m.bearing.queues (λ (x : List ℕ). number_in x < k)
    pub held : IfSome m.bearing.holds (λ (h : Held). number_in h.packet < k)

  -- and all that waits and is held
  pub record PeerBelow (P : Peer) : Type 0 where
    pub waiting : AllByRecursion (λ (x : List ℕ). number_in x < k) P.waiting
    pub held : AllByRecursion (λ (h : Held). number_in h.packet < k) P.held

  one_more : {A : Type 0} (B : A → Type 0) (xs : List A) (o : Option A) → AllByRecursion B xs → IfSome o B → AllByRecursion B (xs ++ option_to_list o)
  one_more B [] None all more = tt
  one_more B [] (Some x) all more = (more, tt)
  one_more B (x ∷ xs) o all more = (all.0, one_more B xs o all.1 more)

  below_after : (e : Mention) (P : Peer) → MentionBelow e → PeerBelow P → PeerBelow (after e P)
  below_after e P new old = record { waiting = by (e.bearing.hears || e.bearing.gives_up); held = of e.bearing.hears } where
    by : (b : Bool) → AllByRecursion (λ (x : List ℕ). number_in x < k) (if b then [] else P.waiting ++ option_to_list e.bearing.queues)
    by true = tt
    by false = one_more (λ (x : List ℕ). number_in x < k) P.waiting e.bearing.queues old.waiting new.queued

    of : (b : Bool) → AllByRecursion (λ (h : Held). number_in h.packet < k) (if b then [] else P.held ++ option_to_list e.bearing.holds)
    of true = tt
    of false = one_more (λ (h : Held). number_in h.packet < k) P.held e.bearing.holds old.held new.held

  nobody_below : PeerBelow no_peer
  nobody_below = record { waiting = tt; held = tt }

  below_if : (about touches young : Bool) (e : Mention) (before now : Option Peer) → MentionBelow e → IfSome before PeerBelow → IfSome now PeerBelow
      → IfSome (peer_if about touches young e before now) PeerBelow
  below_if false touches young e before now new old is = is
  below_if true false young e before None new old is = tt
  below_if true false young e before (Some P) new old is = below_after e P new is
  below_if true true false e before now new old is = tt
  below_if true true true e None now new old is = below_after e no_peer new nobody_below
  below_if true true true e (Some P) now new old is = below_after e P new old

  pub known_below : (j : List Mention) → AllByRecursion MentionBelow j → (n : ℕ) (p : Ip6) → IfSome (peer_at j n p) PeerBelow
  known_below [] all n p = nothing where
    nothing : IfSome (peer_at [] n p) PeerBelow
    nothing = subst (λ (o : Option Peer). IfSome o PeerBelow) (sym (none_at n p)) tt
  known_below (e ∷ j) all n p = subst (λ (o : Option Peer). IfSome o PeerBelow) (sym (one_entry e j n p))
      (below_if (is_about p e) e.bearing.touches (is_younger LISTED_MS n e.moment) e (peer_at j e.moment p) (peer_at j n p) all.0 (known_below j all.1 e.moment p) (known_below j all.1 n p))

  -- THE NUMBERS OF A HISTORY

  -- of an entry
  abbrev EntryBelow : Entry → Type 0
  EntryBelow e = IfSome e.packet (λ (x : List ℕ). number_in x < k)

  held_below : (from : Option Ep) (o : Option (List ℕ)) → IfSome o (λ (x : List ℕ). number_in x < k) → IfSome (held_of from o) (λ (h : Held). number_in h.packet < k)
  held_below None o is = tt
  held_below (Some from) None is = tt
  held_below (Some from) (Some x) is = is

  of_client : (f : Fate) (e : Entry) → EntryBelow e → IfSome (bearing_of f e).queues (λ (x : List ℕ). number_in x < k) × IfSome (bearing_of f e).holds (λ (h : Held). number_in h.packet < k)
  of_client fate.Queued e is = (is, tt)
  of_client fate.HeldTest e is = (tt, held_below (source_of e.input) e.packet is)
  of_client fate.Held e is = (tt, held_below (source_of e.input) e.packet is)
  of_client _ e is = (tt, tt)

  of_relay : (f : Fate) (e : Entry) → EntryBelow e → IfSome (relay_bearing_of f e).queues (λ (x : List ℕ). number_in x < k) × IfSome (relay_bearing_of f e).holds (λ (h : Held). number_in h.packet < k)
  of_relay fate.Queued e is = (is, tt)
  of_relay _ e is = (tt, tt)

  client_below : (es : List Entry) → AllByRecursion EntryBelow es → AllByRecursion MentionBelow (mentions es)
  unfolding mentions
  client_below [] all = tt
  client_below (e ∷ es) all = by (client_below es all.1) (is_changed e.step.fate) refl where
    by : AllByRecursion MentionBelow (mentions es) → (b : Bool) → is_changed e.step.fate ≡ b → AllByRecursion MentionBelow (mentions (e ∷ es))
    by more true is = rw is tt
    by more false is = rw is (record { queued = (of_client e.step.fate e all.0).0; held = (of_client e.step.fate e all.0).1 }, more)

  relay_below : (es : List Entry) → AllByRecursion EntryBelow es → AllByRecursion MentionBelow (relay_mentions es)
  unfolding relay_mentions
  relay_below [] all = tt
  relay_below (e ∷ es) all = (record { queued = (of_relay e.step.fate e all.0).0; held = (of_relay e.step.fate e all.0).1 }, relay_below es all.1)

  pub mentions_below : (a : Node) (es : List Entry) → AllByRecursion EntryBelow es → AllByRecursion MentionBelow (mentions_by a es)
  mentions_below (server a) es all = tt
  mentions_below (nat a) es all = tt
  mentions_below (client c) es all = client_below es all
  mentions_below (relay r) es all = relay_below es all
  mentions_below (native h) es all = tt

  numbered_below : (i : ℕ) → i < k → (e : Entry) → EntryBelow (with_number i e)
  numbered_below i lt e = by e.packet where
    by : (o : Option (List ℕ)) → IfSome (option_map (λ (x : List ℕ). i ∷ []) o) (λ (x : List ℕ). number_in x < k)
    by None = tt
    by (Some x) = lt

  entries_more : (i : ℕ) → i < k → (j : Journal) (o : Option Entry) → AllByRecursion EntryBelow j.entries → AllByRecursion EntryBelow (with_entries j (option_map (with_number i) o)).entries
  entries_more i lt j None all = all
  entries_more i lt j (Some e) all = (numbered_below i lt e, all)

  pub journal_below : (H : List Full) (n : ℕ) → length H ≤ k → AllByRecursion EntryBelow (journal n (with_record_numbers H)).entries
  journal_below [] n most = tt
  journal_below (r ∷ H) n most = by (journal_below H n (omega (arith, most))) (is_node n r.node) refl (is_restart r.act) refl where
    by : AllByRecursion EntryBelow (journal n (with_record_numbers H)).entries → (b : Bool) → is_node n r.node ≡ b → (c : Bool) → is_restart r.act ≡ c
        → AllByRecursion EntryBelow (journal n (with_record_numbers (r ∷ H))).entries
    by more true its true anew = rw (its, anew) tt
    by more true its false on = rw (its, on) (entries_more (length H) (omega (arith, most)) (journal n (with_record_numbers H)) r.entry more)
    by more false other c act = rw other more

-- ONE LOAD MORE

module _ (ls : List (Option Load)) (l : Option Load) where
  same_loads : (xs : List (List ℕ)) → AllByRecursion (λ (x : List ℕ). number_in x < length ls) xs
      → map (λ (x : List ℕ). load_at (ls ++ l ∷ []) (number_in x)) xs ≡ map (λ (x : List ℕ). load_at ls (number_in x)) xs
  same_loads [] all = refl
  same_loads (x ∷ xs) all = rw (get_or_append_left ls (l ∷ []) None (number_in x) all.0, same_loads xs all.1) refl

  same_held : (hs : List Held) → AllByRecursion (λ (h : Held). number_in h.packet < length ls) hs
      → map {B = HeldLoad} (λ (h : Held). record { from = h.from; load = load_at (ls ++ l ∷ []) (number_in h.packet) }) hs ≡ map {B = HeldLoad} (λ (h : Held). record { from = h.from; load = load_at ls (number_in h.packet) }) hs
  same_held [] all = refl
  same_held (h ∷ hs) all = rw (get_or_append_left ls (l ∷ []) None (number_in h.packet) all.0, same_held hs all.1) refl

  same_peer : (o : Option Peer) → IfSome o (PeerBelow (length ls)) → option_map (loads_for_peer (ls ++ l ∷ [])) o ≡ option_map (loads_for_peer ls) o
  same_peer None below = refl
  same_peer (Some P) below = rw (same_loads P.waiting below.waiting, same_held P.held below.held) refl

  -- what a node keeps is the same by the loads of the records with one more, from a later moment on too
  pub keeps_with_more : (j : List Mention) (m n : ℕ) (s : NodeKept) → AllByRecursion (MentionBelow (length ls)) j → m ≤ n → KeepsLoadsOf ls j m s → KeepsLoadsOf (ls ++ l ∷ []) j n s
  keeps_with_more j m n s below later keeps = record {
    whom = keeps.whom;
    known = λ k p since. keeps.known k p (le_trans later since) ∙ sym (same_peer (peer_at j k p) (known_below (length ls) j below k p));
  }

-- each record has a load, or none
pub records_counted : (t : TopologyState) (H : List Full) → length (loads t H).records ≡ length H
records_counted t [] = refl
records_counted t (r ∷ H) = length-append (loads t H).records (load_given (loads t H) r ∷ []) ∙ rw (records_counted t H) (add-one (length H))
