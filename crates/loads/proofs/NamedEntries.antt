-- A node's entries with the numbers of their records in place of their packets mean the same for its peers, but for these names.
use Rattle.loads.proofs.Words.{Bearing, Bool, Entry, Ep, Fate, Full, Held, IfSome, Journal, List, Node, None, Option, Some, [], ap, arith, bearing_of, client, false, has_any, held_of, held_with, is_changed, is_node, is_restart, journal, length, map, mention, mentions, mentions_by, nat, nat_tests, native, no_bearing, nonce_of_words, option_map, packet_by, packet_for, packet_of_record, refl, relay, relay_bearing_of, relay_mention, relay_mentions, server, source_of, sym, touching, true, with_entries, with_number, with_record_numbers, ℕ, ◌<◌, ◌==◌, ◌∙◌, ◌∷◌, ◌≡◌}
use Rattle.teredo_node.specs.declared.fate.Fate.TheVariants as fate
use Rattle.loads.proofs.Renamed.{bearing_with, renamed}

module _ (g : List ℕ → List ℕ) where
  -- g gives back the packet for which the number of its record stands
  abbrev pub IsNameOf : ℕ → Option (List ℕ) → Type 0
  IsNameOf i o = IfSome o (λ (x : List ℕ). g (i ∷ []) ≡ x)

  numbered_packet : ℕ → Option (List ℕ) → Option (List ℕ)
  numbered_packet i o = option_map (λ (x : List ℕ). i ∷ []) o

  -- ONE ENTRY

  packet_named : (i : ℕ) (o : Option (List ℕ)) → IsNameOf i o → o ≡ option_map g (option_map (λ (x : List ℕ). i ∷ []) o)
  packet_named i None is = refl
  packet_named i (Some x) is = ap Some (sym is)

  held_named : (i : ℕ) (from : Option Ep) (o : Option (List ℕ)) → IsNameOf i o
      → held_of from o ≡ option_map (held_with g) (held_of from (option_map (λ (x : List ℕ). i ∷ []) o))
  held_named i None o is = refl
  held_named i (Some from) None is = refl
  held_named i (Some from) (Some x) is = ap (λ (y : List ℕ). Some (record { from = from; packet = y })) (sym is)

  client_named : (i : ℕ) (f : Fate) (e : Entry) → IsNameOf i e.packet → bearing_of f e ≡ bearing_with g (bearing_of f (with_number i e))
  client_named i fate.Queued e is = ap (λ (q : Option (List ℕ)). record touching { queues = q; tries = has_any e.step.sends; nonce = nonce_of_words e.words }) (packet_named i e.packet is)
  client_named i fate.HeldTest e is = ap (λ (h : Option Held). record touching { tries = true; nonce = nonce_of_words e.words; holds = h }) (held_named i (source_of e.input) e.packet is)
  client_named i fate.Held e is = ap (λ (h : Option Held). record no_bearing { holds = h }) (held_named i (source_of e.input) e.packet is)
  client_named i _ e is = refl

  relay_named : (i : ℕ) (f : Fate) (e : Entry) → IsNameOf i e.packet → relay_bearing_of f e ≡ bearing_with g (relay_bearing_of f (with_number i e))
  relay_named i fate.Queued e is = ap (λ (q : Option (List ℕ)). record touching { queues = q; tries = has_any e.step.sends }) (packet_named i e.packet is)
  relay_named i _ e is = refl

  -- ENTRIES

  -- these are the same entries, with numbers in place of packets, of which g gives back the packets
  abbrev pub AreNamed : List Entry → List Entry → Type 0
  AreNamed [] [] = Unit {0}
  AreNamed (e ∷ es) (d ∷ ds) = ((i : ℕ) × (d ≡ with_number i e) × IsNameOf i e.packet) × AreNamed es ds
  AreNamed _ _ = ⊥

  mention_named : (i : ℕ) (e : Entry) → IsNameOf i e.packet → mention e ≡ renamed g (mention (with_number i e))
  mention_named i e is = ap (λ (b : Bearing). record { moment = e.moment; peer = e.peer; bearing = b }) (client_named i e.step.fate e is)

  relay_mention_named : (i : ℕ) (e : Entry) → IsNameOf i e.packet → relay_mention e ≡ renamed g (relay_mention (with_number i e))
  relay_mention_named i e is = ap (λ (b : Bearing). record { moment = e.moment; peer = e.peer; bearing = b }) (relay_named i e.step.fate e is)

  client_mentions_named : (es ds : List Entry) → AreNamed es ds → mentions es ≡ map (renamed g) (mentions ds)
  unfolding mentions
  client_mentions_named [] [] are = refl
  client_mentions_named (e ∷ es) (d ∷ ds) are = rw are.0.1 (by (client_mentions_named es ds are.1) (is_changed e.step.fate) refl) where
    by : mentions es ≡ map (renamed g) (mentions ds) → (b : Bool) → is_changed e.step.fate ≡ b
        → mentions (e ∷ es) ≡ map (renamed g) (mentions (with_number are.0.0 e ∷ ds))
    by more true is = rw is refl
    by more false is = rw (is, mention_named are.0.0 e are.0.2, more) refl
  client_mentions_named [] (d ∷ ds) are = absurd are
  client_mentions_named (e ∷ es) [] are = absurd are

  relay_mentions_named : (es ds : List Entry) → AreNamed es ds → relay_mentions es ≡ map (renamed g) (relay_mentions ds)
  unfolding relay_mentions
  relay_mentions_named [] [] are = refl
  relay_mentions_named (e ∷ es) (d ∷ ds) are = rw (are.0.1, relay_mention_named are.0.0 e are.0.2, relay_mentions_named es ds are.1) refl
  relay_mentions_named [] (d ∷ ds) are = absurd are
  relay_mentions_named (e ∷ es) [] are = absurd are

  pub mentions_named : (a : Node) (es ds : List Entry) → AreNamed es ds → mentions_by a es ≡ map (renamed g) (mentions_by a ds)
  mentions_named (server a) es ds are = refl
  mentions_named (nat a) es ds are = refl
  mentions_named (client c) es ds are = client_mentions_named es ds are
  mentions_named (relay r) es ds are = relay_mentions_named es ds are
  mentions_named (native h) es ds are = refl

  -- A JOURNAL

  -- of each record g gives back the packet
  abbrev pub TellsPackets : List Full → Type 0
  TellsPackets [] = Unit {0}
  TellsPackets (r ∷ H) = (g (length H ∷ []) ≡ packet_by r) × TellsPackets H

  entries_named : (i : ℕ) (o : Option Entry) (j d : Journal) → IfSome o (λ (e : Entry). IsNameOf i e.packet) → AreNamed j.entries d.entries
      → AreNamed (with_entries j o).entries (with_entries d (option_map (with_number i) o)).entries
  entries_named i None j d is are = are
  entries_named i (Some e) j d is are = ((i, refl, is), are)

  entry_named : (r : Full) (i : ℕ) → g (i ∷ []) ≡ packet_by r → IfSome r.entry (λ (e : Entry). IsNameOf i e.packet)
  entry_named r i tells = by r.entry refl where
    of : (e : Entry) → r.entry ≡ Some e → (o : Option (List ℕ)) → e.packet ≡ o → IsNameOf i o
    of e is None packet = tt
    of e is (Some x) packet = tells ∙ rw (is, packet) refl

    by : (o : Option Entry) → r.entry ≡ o → IfSome o (λ (e : Entry). IsNameOf i e.packet)
    by None is = tt
    by (Some e) is = of e is e.packet refl

  pub journal_named : (H : List Full) (n : ℕ) → TellsPackets H → AreNamed (journal n H).entries (journal n (with_record_numbers H)).entries
  journal_named [] n tells = tt
  journal_named (r ∷ H) n tells = by (journal_named H n tells.1) (is_node n r.node) refl (is_restart r.act) refl where
    by : AreNamed (journal n H).entries (journal n (with_record_numbers H)).entries → (b : Bool) → is_node n r.node ≡ b → (c : Bool) → is_restart r.act ≡ c
        → AreNamed (journal n (r ∷ H)).entries (journal n (with_record_numbers (r ∷ H))).entries
    by more true its true anew = rw (its, anew) tt
    by more true its false on = rw (its, on) (entries_named (length H) r.entry (journal n H) (journal n (with_record_numbers H)) (entry_named r (length H) tells.0) more)
    by more false other c act = rw other more

-- THE PACKETS OF A HISTORY

same_number : (i : ℕ) → (i == i) ≡ true
same_number i = grind (arith, nat_tests)

other_number : (i j : ℕ) → i < j → (i == j) ≡ false
other_number i j lt = grind (arith, nat_tests)

-- so it is of the packets of a history, among those of a longer one that begins with it
packets_told : (W H : List Full) → ((i : ℕ) → i < length H → packet_of_record W i ≡ packet_of_record H i) → TellsPackets (packet_for W) H
packets_told W [] agrees = tt
packets_told W (r ∷ H) agrees = (
  agrees (length H) (omega arith) ∙ rw (same_number (length H)) refl,
  packets_told W H (λ i lt. agrees i (omega (arith, lt)) ∙ rw (other_number i (length H) lt) refl),
)

pub packets_tell : (H : List Full) → TellsPackets (packet_for H) H
packets_tell H = packets_told H H (λ i lt. refl)
