-- Where a record says that a load arrives, its bytes get out.
use Rattle.theory_loads.proofs.Words.{AllByRecursion, ClientNode, Contains, EachHasBytes, Entry, Ep, Full, GetsOut, HasBytesIfLoaded, HasBytesOf, Held, HeldRecord, Input, Ip6, IsActOf, IsGiven, IsHandedOut, IsJournal, Item, Journal, Latest, List, Load, Loads, NamesRelay, NativeNode, Node, None, Option, Peer, Settings, Some, Span, TopologyState, [], all_at, ap, arrived, as_client, as_relay, client, client_at, client_in, client_settings, delivered, drop, each_handed, entry_of, entry_peer, false, from_six, given, hands_late, hands_now, hands_over_held, held_for, held_from, held_record, hosted, input_of, is_late, is_same_source, is_some, journal, known, load_at, load_given, loads, map, mentions, native, node_at, now, number_in, numbered_mentions, option_and_then, packet_on_wire, part_of, qualification, reaches, refl, relay_at, route, same_ep, six, slice_get, source_in, source_of, source_of_entry, subst, sym, ticked, ticks, to_client, to_native, true, udp, unspecified, unwrap_or, value_in, wire, with_entry, words, ℕ, ◌∙◌, ◌∷◌, ◌≡◌}
use Rattle.client_rules.specs.Handed as client_hands
use Rattle.legal.proofs.LawProofs as laws
use Rattle.theory_loads.proofs.Records.{RecordsHaveBytes, AreHeldAs, are_held}
use Rattle.theory_loads.proofs.Sends.{packet_of}
use Rattle.theory_loads.proofs.Relays.{rest_is}
use Rattle.theory_loads.proofs.Given.{packet_in_input, given_has}
use Rattle.theory_loads.proofs.Fates.{is_native_fate}
use Rattle.theory_loads.proofs.Outlets.{both, not_both, client_late, held_first, held_rest, CameToNative, came_to, came_to_native}
use Rattle.theory_loads.proofs.Steps.{input_is, input_has}
use Rattle.theory_loads.proofs.Said.{GetsOutLate}

-- the bytes of a packet of the IPv6 side, if this is one
abbrev bytes_six : List ℕ → Input → List ℕ
bytes_six other (from_six x) = x
bytes_six other _ = other

module _ (the : Latest) where
  open the use {lab, before, full, is, grown}

  abbrev t : TopologyState
  t = lab.topology

  abbrev H : List Full
  H = before

  abbrev r : Full
  r = full

  abbrev W : List Full
  W = full ∷ before

  abbrev L : Loads
  L = loads lab.topology before

  -- a load's bytes get out by the record
  abbrev Out : Load → Type 0
  Out k = IsHandedOut lab H r k

  out_of : (l : Option Load) (x : List ℕ) → GetsOut lab H r x → HasBytesIfLoaded W l (Some x) → (k : Load) → l ≡ Some k → Out k
  out_of l x gets has k at =
      let its : HasBytesOf W k (Some x) = subst (λ (o : Option Load). HasBytesIfLoaded W o (Some x)) at has in
      record { bytes = x; load = its.load ∙ sym its.same; over = gets }

  module _ (carried : EachHasBytes H L.wire (map packet_on_wire (wire H))) (records : RecordsHaveBytes W t H) where
    module _ (n : ℕ) (a : Node) (e : Entry) (act : IsActOf lab H r n a e) where
      -- AT A NATIVE HOST

      comes_to : (h : NativeNode) (x : List ℕ) → a ≡ native h → act.input ≡ from_six x → GetsOut lab H r x
      comes_to h x its input = by act.is_given where
        there : node_at t n ≡ Some (native h)
        there = act.there ∙ ap (λ (b : Node). Some b) its

        no_relay : (k : ℕ) → n ≡ k → is_some (relay_at t k) ≡ true → ⊥
        no_relay k same is_one =
            let e : false ≡ true = sym (ap (λ (o : Option Node). is_some (option_and_then as_relay o)) (sym (ap (node_at t) same) ∙ there)) ∙ is_one in cc e

        of_item : (number : ℕ) (y : Item) → r.delivered ≡ Some number → slice_get (wire H) number ≡ Some y → route lab H (now H) y ≡ reaches n a → input_of y ≡ from_six x → GetsOut lab H r x
        of_item number (udp src to bytes) told at goes same = absurd (cc same)
        of_item number (six None bytes) told at goes same =
            let whole : bytes ≡ x = ap (λ (i : Input). bytes_six bytes i) same in
            to_native number (record {
              number = n;
              host = h;
              node = act.node;
              native = there;
              delivered = told;
              packet = at ∙ ap (λ (z : List ℕ). Some (six None z)) whole;
            })
        of_item number (six (Some k) bytes) told at goes same = absurd (no_relay k (laws.routes lab H (now H) (six (Some k) bytes) n a goes)
            (all_at (NamesRelay t) (wire H) number (six (Some k) bytes) (laws.wire_is_made lab H is grown.1).relays at))

        by : IsGiven lab H r n a act.dst act.input → GetsOut lab H r x
        by (delivered number y told at goes moment where_to same) = of_item number y told at goes (sym same ∙ input)
        by (hosted v y hands none moment where_to same) = let e : given y ≡ from_six x = sym same ∙ input in absurd (cc e)
        by (ticks due least its none moment where_to same) = let e : ticked ≡ from_six x = sym same ∙ input in absurd (cc e)

      pub native_out : is_native_fate r.fate ≡ true → (k : Load) → load_given L r ≡ Some k → Out k
      native_out brought = by (came_to_native lab H r.moment n act.dst a act.input (ap is_native_fate (ap (λ (z : Entry). z.step.fate) (sym act.step) ∙ sym act.fate) ∙ brought)) where
        by : CameToNative a act.input → (k : Load) → load_given L r ≡ Some k → Out k
        by (came_to h x its input) = out_of (load_given L r) x (comes_to h x its input)
            (subst (λ (i : Input). HasBytesIfLoaded W (load_given L r) (packet_in_input i)) input (input_has the carried records n a e act))

    -- AT A CLIENT

    module _ (n : ℕ) (c : ClientNode) (e : Entry) (act : IsActOf lab H r n (client c) e) where
      abbrev s : Settings
      s = client_settings t c

      abbrev entries : Journal
      entries = journal n H

      client_there : client_at t n ≡ Some c
      client_there = ap (option_and_then as_client) act.there

      entry_has : HasBytesIfLoaded W (load_given L r) (packet_in_input e.input)
      entry_has = given_has lab H r e act.entry carried grown.0

      -- what is handed over at once is the packet of the datagram
      of_hands : (i : Input) → e.input ≡ i → client_hands.HandsOver s (qualification s entries).address i e.step.handed → (k : Load) → load_given L r ≡ Some k → Out k
      of_hands (arrived from y) input hands = out_of (load_given L r) x
          (to_client n c (hands_now (record { node = act.node; client = client_there; packet = packet })))
          (subst (λ (o : Option (List ℕ)). HasBytesIfLoaded W (load_given L r) o) (ap packet_in_input input ∙ packet_of y hands.payload) entry_has) where
            x : List ℕ
            x = drop (value_in y).lead.at y

            packet : r.handed ≡ Some x
            packet = act.handed ∙ ap (λ (i : Input). option_and_then (part_of i) e.step.handed) input ∙ ap (option_and_then (part_of (arrived from y))) hands.packet
                ∙ ap (λ (z : List ℕ). Some z) (rest_is (value_in y).lead.at y)
      of_hands (given y) input hands = absurd hands
      of_hands (from_six y) input hands = absurd hands
      of_hands ticked input hands = absurd hands

      pub handed_out : is_some r.handed ≡ true → (k : Load) → load_given L r ≡ Some k → Out k
      handed_out some = of_hands e.input refl (each_handed s entries e is_j (there e.step.handed (ap (λ (o : Option (List ℕ)). is_some o) (sym act.handed) ∙ some))).0 where
        is_j : IsJournal s (with_entry entries e)
        is_j = subst (IsJournal s) act.later (laws.client_journals lab W n c grown act.there).journal

        there : (o : Option Span) → is_some (option_and_then (part_of e.input) o) ≡ true → is_some o ≡ true
        there None is_one = is_one
        there (Some span) is_one = refl

      -- WHAT WAS HELD

      module _ (from : Ep) where
        each_out : (hs ks : List Held) → AreHeldAs W L.records hs ks → ((h : HeldRecord) → is_late r h ≡ true → same_ep h.from from ≡ true)
            → ((x : List ℕ) → Contains (held_from from hs) x → GetsOut lab H r x) → AllByRecursion (GetsOutLate Out L r) (map held_record ks)
        each_out [] [] are there gets = tt
        each_out (h ∷ hs) (k ∷ ks) are there gets = (
          (λ late l at. out_of (load_at L.records (number_in k.packet)) h.packet
              (gets h.packet (held_first from h hs (ap (λ (q : Ep). same_ep q from) are.0.from ∙ there (held_record k) late))) are.0.has l at),
          each_out hs ks are.1 there (λ x at. gets x (held_rest from h hs x at)),
        )
        each_out [] (k ∷ ks) are there gets = absurd are
        each_out (h ∷ hs) [] are there gets = absurd are

      late_from : (from : Ep) → source_of e.input ≡ Some from → (h : HeldRecord) → is_late r h ≡ true → same_ep h.from from ≡ true
      late_from from source h late = ap (λ (o : Option Ep). is_same_source o h.from) (sym source) ∙ ap (λ (o : Option Entry). is_same_source (source_of_entry o) h.from) (sym act.entry)
          ∙ both (hands_over_held r.fate) (is_same_source (source_of_entry r.entry) h.from) late

      no_source : source_of e.input ≡ None → (hs : List HeldRecord) → AllByRecursion (GetsOutLate Out L r) hs
      no_source none [] = tt
      no_source none (h ∷ hs) = ((λ late l at. absurd (not_both unlike (both (hands_over_held r.fate) (is_same_source (source_of_entry r.entry) h.from) late))), no_source none hs) where
        unlike : is_same_source (source_of_entry r.entry) h.from ≡ false
        unlike = ap (λ (o : Option Entry). is_same_source (source_of_entry o) h.from) act.entry ∙ ap (λ (o : Option Ep). is_same_source o h.from) none

      abbrev held_now : Option Entry → List HeldRecord
      held_now o = held_for (numbered_mentions H n (client c)) r.moment (entry_peer o)

      late_of_datagram : (from : Ep) (x : List ℕ) → act.input ≡ arrived from x → hands_over_held r.fate ≡ true → AllByRecursion (GetsOutLate Out L r) (held_now (Some e))
      unfolding client_in
      late_of_datagram from x input holds =
          subst (λ (z : Entry). AllByRecursion (GetsOutLate Out L r) (held_now (Some z))) (sym entry_is)
          (each_out from peer.held (known (numbered_mentions H n (client c)) r.moment p).held (are_held W t H records n (client c) r.moment p)
          (late_from from (ap source_of (input_is the carried records n (client c) e act ∙ input))) gets) where
            entry_is : e ≡ client_in s entries r.moment from x (words lab n H)
            entry_is = act.step ∙ ap (λ (i : Input). entry_of lab H r.moment n act.dst i (client c)) input

            p : Ip6
            p = unwrap_or (source_in x) unspecified

            peer : Peer
            peer = known (mentions entries.entries) r.moment p

            lates : r.late ≡ held_from from peer.held
            lates = act.late ∙ ap (λ (q : Entry). q.step.late) entry_is
                ∙ client_late s entries r.moment (words lab n H) from x (ap hands_over_held (ap (λ (q : Entry). q.step.fate) (sym entry_is) ∙ sym act.fate) ∙ holds)

            gets : (y : List ℕ) → Contains (held_from from peer.held) y → GetsOut lab H r y
            gets y at = to_client n c (hands_late act.node client_there (subst (λ (ys : List (List ℕ)). Contains ys y) (sym lates) at))

      pub late_out : hands_over_held r.fate ≡ true → AllByRecursion (GetsOutLate Out L r) (held_now (Some e))
      late_out holds = by act.input refl where
        none : (i : Input) → act.input ≡ i → source_of i ≡ None → AllByRecursion (GetsOutLate Out L r) (held_now (Some e))
        none i input of = no_source (ap source_of (input_is the carried records n (client c) e act ∙ input) ∙ of) (held_now (Some e))

        by : (i : Input) → act.input ≡ i → AllByRecursion (GetsOutLate Out L r) (held_now (Some e))
        by (arrived from x) input = late_of_datagram from x input holds
        by (given x) input = none (given x) input refl
        by (from_six x) input = none (from_six x) input refl
        by ticked input = none ticked input refl
