-- What waits and what is held has the bytes of its load, where each record's packet has.
use Rattle.theory_loads.proofs.Words.{AreNamed, Bool, EachHasBytes, Entry, Full, HasBytesIfLoaded, Held, HeldRecord, IfSome, Ip6, IsNameOf, Journal, List, Load, Node, None, Option, Peer, Some, TellsPackets, TopologyState, [], ap, arith, bytes_of_load, false, held_for, held_record, held_with, is_node, is_restart, journal, known, known_renamed, length, length-append, load_at, load_given, loads, map, mentions_by, mentions_named, number_in, numbered_mentions, option_map, packet_by, packet_for, packets_tell, peer_with, refl, sym, true, unwrap_or, waiting_records, with_entries, with_number, with_record_numbers, ℕ, ◌<◌, ◌∙◌, ◌∷◌, ◌≡◌}
use Rattle.theory_loads.proofs.Lists.{load_first, load_next}

-- RECORDS

-- the packet of an entry has the bytes of this load, if there are both
abbrev pub PacketHasBytes : List Full → Option Load → Option Entry → Type 0
PacketHasBytes W l None = Unit {0}
PacketHasBytes W l (Some e) = IfSome e.packet (λ (x : List ℕ). HasBytesIfLoaded W l (Some x))

-- each record's packet has the bytes of what the record was given
abbrev pub RecordsHaveBytes : List Full → TopologyState → List Full → Type 0
RecordsHaveBytes W t [] = Unit {0}
RecordsHaveBytes W t (r ∷ H) = PacketHasBytes W (load_given (loads t H) r) r.entry × RecordsHaveBytes W t H

-- as many loads as records
pub records_counted : (t : TopologyState) (H : List Full) → length (loads t H).records ≡ length H
records_counted t [] = refl
records_counted t (r ∷ H) = let more = records_counted t H in let both = length-append (loads t H).records (load_given (loads t H) r ∷ []) in omega (arith, more, both)

-- WHAT IS HELD

-- it came from where the other did, and has the bytes of the load of the other's number
pub record IsHeldAs (W : List Full) (ls : List (Option Load)) (h k : Held) : Type 0 where
  pub from : h.from ≡ k.from
  pub has : HasBytesIfLoaded W (load_at ls (number_in k.packet)) (Some h.packet)

-- one by one
abbrev pub AreHeldAs : List Full → List (Option Load) → List Held → List Held → Type 0
AreHeldAs W ls [] [] = Unit {0}
AreHeldAs W ls (h ∷ hs) (k ∷ ks) = IsHeldAs W ls h k × AreHeldAs W ls hs ks
AreHeldAs W ls _ _ = ⊥

held_has : (W : List Full) (ls : List (Option Load)) (hs ks : List Held) → AreHeldAs W ls hs ks
    → EachHasBytes W (map (λ (h : HeldRecord). load_at ls h.number) (map held_record ks)) (map (λ (h : Held). Some h.packet) hs)
held_has W ls [] [] are = tt
held_has W ls (h ∷ hs) (k ∷ ks) are = (are.0.has, held_has W ls hs ks are.1)
held_has W ls [] (k ∷ ks) are = absurd are
held_has W ls (h ∷ hs) [] are = absurd are

-- NAMES

-- the bytes of a load, or others where it has none
abbrev bytes_or : List Full → List ℕ → List ℕ → Option Load → List ℕ
bytes_or W d x None = x
bytes_or W d x (Some l) = unwrap_or (bytes_of_load W l) d

-- in a journal in which each packet has its name
module _ (g : List ℕ → List ℕ) where
  abbrev Names : List Full → Type 0
  Names [] = Unit {0}
  Names (r ∷ H) = IfSome r.entry (λ (e : Entry). IsNameOf g (length H) e.packet) × Names H

  entries_named : (i : ℕ) (o : Option Entry) (j d : Journal) → IfSome o (λ (e : Entry). IsNameOf g i e.packet) → AreNamed g j.entries d.entries
      → AreNamed g (with_entries j o).entries (with_entries d (option_map (with_number i) o)).entries
  entries_named i None j d is are = are
  entries_named i (Some e) j d is are = ((i, refl, is), are)

  journal_names : (H : List Full) (n : ℕ) → Names H → AreNamed g (journal n H).entries (journal n (with_record_numbers H)).entries
  journal_names [] n names = tt
  journal_names (r ∷ H) n names = by (journal_names H n names.1) (is_node n r.node) refl (is_restart r.act) refl where
    by : AreNamed g (journal n H).entries (journal n (with_record_numbers H)).entries → (b : Bool) → is_node n r.node ≡ b → (c : Bool) → is_restart r.act ≡ c
        → AreNamed g (journal n (r ∷ H)).entries (journal n (with_record_numbers (r ∷ H))).entries
    by more true its true anew = rw (its, anew) tt
    by more true its false on = rw (its, on) (entries_named (length H) r.entry (journal n H) (journal n (with_record_numbers H)) names.0 more)
    by more false other c act = rw other more

  known_by_names : (H : List Full) (n : ℕ) (a : Node) (m : ℕ) (p : Ip6) → Names H
      → known (mentions_by a (journal n H).entries) m p ≡ peer_with g (known (numbered_mentions H n a) m p)
  known_by_names H n a m p names = rw (mentions_named g a (journal n H).entries (journal n (with_record_numbers H)).entries (journal_names H n names))
      (known_renamed g (numbered_mentions H n a) m p)

-- THE BYTES OF A LOAD AS A NAME

module _ (W : List Full) (t : TopologyState) (H : List Full) where
  abbrev R : List (Option Load)
  R = (loads t H).records

  -- the name of a packet by its record's number: the bytes of its load, or d where there are none
  abbrev name_with : List ℕ → List ℕ → List ℕ
  name_with d x = bytes_or W d (packet_for H x) (load_at R (number_in x))

  record_named : (d : List ℕ) (i : ℕ) (r : Full) (l : Option Load) → load_at R i ≡ l → packet_for H (i ∷ []) ≡ packet_by r → PacketHasBytes W l r.entry
      → IfSome r.entry (λ (e : Entry). IsNameOf (name_with d) i e.packet)
  record_named d i r l at tells has = by r.entry refl has where
    of : (e : Entry) → r.entry ≡ Some e → (o : Option (List ℕ)) → e.packet ≡ o → (k : Option Load) → load_at R i ≡ k
        → IfSome o (λ (x : List ℕ). HasBytesIfLoaded W k (Some x)) → IsNameOf (name_with d) i o
    of e is None packet k at has = tt
    of e is (Some x) packet None at has = rw at (tells ∙ rw (is, packet) refl)
    of e is (Some x) packet (Some l) at has = rw (at, has.load) (sym (ap (λ (o : Option (List ℕ)). unwrap_or o d) has.same))

    by : (o : Option Entry) → r.entry ≡ o → PacketHasBytes W l o → IfSome o (λ (e : Entry). IsNameOf (name_with d) i e.packet)
    by None is has = tt
    by (Some e) is has = of e is e.packet refl l at has

  all_named : (d : List ℕ) (K : List Full) → TellsPackets (packet_for H) K → RecordsHaveBytes W t K → ((i : ℕ) → i < length K → load_at R i ≡ load_at (loads t K).records i)
      → Names (name_with d) K
  all_named d [] tells has alike = tt
  all_named d (r ∷ K) tells has alike = (
    record_named d (length K) r (load_given (loads t K) r) at tells.0 has.0,
    all_named d K tells.1 has.1 (λ i lt. alike i (omega (arith, lt)) ∙ load_first (loads t K).records (load_given (loads t K) r ∷ []) i (let e = records_counted t K in omega (arith, lt, e))),
  ) where
    at : load_at R (length K) ≡ load_given (loads t K) r
    at = alike (length K) (omega arith) ∙ ap (load_at (loads t (r ∷ K)).records) (sym (records_counted t K)) ∙ load_next (loads t K).records (load_given (loads t K) r)

  module _ (have : RecordsHaveBytes W t H) (n : ℕ) (a : Node) (m : ℕ) (p : Ip6) where
    abbrev peer : Peer
    peer = known (mentions_by a (journal n H).entries) m p

    abbrev numbered : Peer
    numbered = known (numbered_mentions H n a) m p

    known_by : (d : List ℕ) → peer ≡ peer_with (name_with d) numbered
    known_by d = known_by_names (name_with d) H n a m p (all_named d H (packets_tell H) have (λ i lt. refl))

    -- ONE PACKET

    -- what has its name whatever stands for bytes that aren't there has the bytes of its load
    one_has : (x y : List ℕ) → ((d : List ℕ) → y ≡ name_with d x) → HasBytesIfLoaded W (load_at R (number_in x)) (Some y)
    one_has x y named = by (load_at R (number_in x)) refl where
      of : (l : Load) → load_at R (number_in x) ≡ Some l → (o : Option (List ℕ)) → bytes_of_load W l ≡ o → HasBytesIfLoaded W (Some l) (Some y)
      of l at (Some z) is = record { bytes = z; load = is; same = ap (λ (q : List ℕ). Some q) (named [] ∙ rw (at, is) refl) }
      of l at None is = let e : y ≡ [] = named [] ∙ rw (at, is) refl in let f : y ≡ 0 ∷ [] = named (0 ∷ []) ∙ rw (at, is) refl in
          let g : ◌≡◌ {A = List ℕ} [] (0 ∷ []) = sym e ∙ f in absurd (cc g)

      by : (l : Option Load) → load_at R (number_in x) ≡ l → HasBytesIfLoaded W l (Some y)
      by None at = tt
      by (Some l) at = of l at (bytes_of_load W l) refl

    -- WHAT WAITS

    each_has : (xs ys : List (List ℕ)) → ((d : List ℕ) → ys ≡ map (name_with d) xs) → EachHasBytes W (map (load_at R) (map number_in xs)) (map (λ (x : List ℕ). Some x) ys)
    each_has [] [] named = tt
    each_has [] (y ∷ ys) named = absurd (cc (named []))
    each_has (x ∷ xs) [] named = absurd (cc (named []))
    each_has (x ∷ xs) (y ∷ ys) named = (
      one_has x y (λ d. ap (λ (zs : List (List ℕ)). first_of zs) (named d)),
      each_has xs ys (λ d. ap (λ (zs : List (List ℕ)). rest_of zs) (named d)),
    ) where
      first_of : List (List ℕ) → List ℕ
      first_of [] = y
      first_of (z ∷ zs) = z

      rest_of : List (List ℕ) → List (List ℕ)
      rest_of [] = []
      rest_of (z ∷ zs) = zs

    pub waiting_have : EachHasBytes W (map (load_at R) (waiting_records (numbered_mentions H n a) m p)) (map (λ (x : List ℕ). Some x) peer.waiting)
    waiting_have = each_has numbered.waiting peer.waiting (λ d. ap (λ (q : Peer). q.waiting) (known_by d))

    -- WHAT IS HELD

    each_held : (hs ks : List Held) → ((d : List ℕ) → hs ≡ map (held_with (name_with d)) ks) → AreHeldAs W R hs ks
    each_held [] [] named = tt
    each_held [] (k ∷ ks) named = absurd (cc (named []))
    each_held (h ∷ hs) [] named = absurd (cc (named []))
    each_held (h ∷ hs) (k ∷ ks) named = (
      record {
        from = ap (λ (q : Held). q.from) (first []);
        has = one_has k.packet h.packet (λ d. ap (λ (q : Held). q.packet) (first d));
      },
      each_held hs ks (λ d. ap (λ (zs : List Held). rest_of zs) (named d)),
    ) where
      first_of : List Held → Held
      first_of [] = h
      first_of (z ∷ zs) = z

      rest_of : List Held → List Held
      rest_of [] = []
      rest_of (z ∷ zs) = zs

      first : (d : List ℕ) → h ≡ held_with (name_with d) k
      first d = ap (λ (zs : List Held). first_of zs) (named d)

    pub are_held : AreHeldAs W R peer.held numbered.held
    are_held = each_held peer.held numbered.held (λ d. ap (λ (q : Peer). q.held) (known_by d))

    pub held_have : EachHasBytes W (map (λ (h : HeldRecord). load_at R h.number) (held_for (numbered_mentions H n a) m p)) (map (λ (h : Held). Some h.packet) peer.held)
    held_have = held_has W R peer.held numbered.held are_held
