-- What a record that follows makes has the bytes of the loads that it carries.
use Rattle.theory_loads.proofs.Words.{Acted, AreOfSendsAnd, AreOwn, ClientNode, EachHasBytes, Entry, Ep, Fate, Full, HasBytesIfLoaded, IfSome, Input, Ip6, IsActOf, IsForeignTo, IsMadeInput, IsMadeItem, IsOwnTo, Kind, Latest, List, Load, Loads, Mention, Node, None, Option, RelayNode, RelaySettings, Some, TopologyState, act_made, all_map, all_right, ap, arrived, client, client_entry, client_settings, copied, does, entry_input, entry_of, entry_peer, from_six, given, handed, idles, is_packet, items_of, journal, known, load_given, loads, made_loads, map, mentions, mentions_at, mentions_if, nat, native, node_at, numbered_mentions, packet_on_wire, put, qualification, quiet, reached, refl, relay, relay_entry, relay_in, relay_mentions, relay_settings, relay_six, relay_tick, server, server_settings, side_at, six_made, subst, sym, ticked, true, waiting_is_foreign, waiting_is_own, waiting_records, wire, words, ℕ, ◌∙◌, ◌∷◌, ◌≡◌}
use Rattle.legal.specs.Kinds as kinds
use Rattle.legal.proofs.LawProofs as laws
use Rattle.theory_loads.proofs.Lists.{MadeHasBytes}
use Rattle.theory_loads.proofs.Records.{PacketHasBytes, RecordsHaveBytes, waiting_have}
use Rattle.theory_loads.proofs.Sends.{made_of_none, made_of_sends}
use Rattle.theory_loads.proofs.Given.{packet_in_input, given_has, none_some}
use Rattle.theory_loads.proofs.EntryPackets.{entry_packet}
use Rattle.theory_loads.proofs.Clients.{loads_sent, WaitHere, client_sends}
use Rattle.theory_loads.proofs.Relays.{AreMade, relay_makes}
use Rattle.theory_loads.proofs.Servers.{server_makes}
use Rattle.theory_loads.proofs.Natives.{native_sends, native_answers}

-- WHAT A RECORD'S SENDS CARRY

-- what a record carries is of its node, of its entry and of the fate of that
made_by_node : (t : TopologyState) (H : List Full) (L : Loads) (r : Full) (n : ℕ) (a : Node) (e : Entry) → r.node ≡ Some n → node_at t n ≡ Some a → r.entry ≡ Some e
    → r.fate ≡ e.step.fate → made_loads t H L r ≡ loads_sent L.records e.step.fate (waiting_records (numbered_mentions H n a) r.moment (entry_peer (Some e))) (load_given L r)
made_by_node t H L r n a e node there entry fate_is =
    ap (λ (o : Option ℕ). made_by (mentions_at t H o) r.entry r.fate) node
    ∙ ap (λ (o : Option Node). made_by (mentions_if H n o) r.entry r.fate) there
    ∙ ap (λ (o : Option Entry). made_by (numbered_mentions H n a) o r.fate) entry
    ∙ ap (λ (f : Fate). made_by (numbered_mentions H n a) (Some e) f) fate_is where
      made_by : List Mention → Option Entry → Fate → List (Option Load)
      made_by j o f = loads_sent L.records f (waiting_records j r.moment (entry_peer o)) (load_given L r)

-- the input of a relay's entry
relay_input : (s : RelaySettings) (j : List Entry) (m : ℕ) (input : Input) → (relay_entry s j m input).input ≡ input
unfolding relay_in relay_six relay_tick
relay_input s j m (arrived from x) = refl
relay_input s j m (given x) = refl
relay_input s j m (from_six x) = refl
relay_input s j m ticked = refl

module _ (the : Latest) where
  open the use {lab, before, full, is, grown}

  abbrev t : TopologyState
  t = lab.topology

  abbrev H : List Full
  H = before

  abbrev r : Full
  r = full

  abbrev W : List Full
  W = full ∷ before

  abbrev L : Loads
  L = loads lab.topology before

  abbrev l : Option Load
  l = load_given L full

  all_made : AreMade W r.made
  all_made = all_right IsMadeItem (wire H) (items_of r) (laws.wire_is_made lab W is grown).wire

  module _ (carried : EachHasBytes H L.wire (map packet_on_wire (wire H))) (records : RecordsHaveBytes W t H) where
    -- A NODE'S RECORD

    module _ (n : ℕ) (dst : Ep) where
      abbrev numbers : Node → Ip6 → List ℕ
      numbers a p = waiting_records (numbered_mentions H n a) r.moment p

      abbrev entry_by : Input → Node → Entry
      entry_by input a = entry_of lab H r.moment n dst input a

      -- what the record made, if the node did this, has the bytes of what it carries
      abbrev Makes : Node → Entry → Type 0
      Makes a e = AreOwn a e r.made → MadeHasBytes W (loads_sent L.records e.step.fate (numbers a (entry_peer (Some e))) l) r.made

      by_client : (c : ClientNode) (input : Input) → node_at t n ≡ Some (client c) → HasBytesIfLoaded W l (packet_in_input input) → Makes (client c) (client_entry (client_settings t c) (journal n H) r.moment input (words lab n H))
      by_client c input there has own =
          let s = client_settings t c in
          let e = client_entry s (journal n H) r.moment input (words lab n H) in
          let wait : (p : Ip6) → WaitHere W L.records (numbers (client c) p) (known (mentions (journal n H).entries) r.moment p).waiting = λ p. record {
            each = waiting_have W t H records n (client c) r.moment p;
            packets = all_map (IsOwnTo (qualification s (journal n H)).address (Some p)) (λ (x : List ℕ). is_packet x ≡ true) (known (mentions (journal n H).entries) r.moment p).waiting
                (λ x of. of.well_formed) (waiting_is_own s (journal n H) r.moment p (laws.client_journals lab H n c grown.1 there).journal);
          } in
          made_of_sends W (loads_sent L.records e.step.fate (numbers (client c) (entry_peer (Some e))) l) r.made e.step.sends own all_made
          (client_sends W L.records l s (journal n H) r.moment (words lab n H) (numbers (client c)) wait input has)

      by_relay : (q : RelayNode) (input : Input) → node_at t n ≡ Some (relay q) → HasBytesIfLoaded W l (packet_in_input input) → Makes (relay q) (relay_entry (relay_settings t n q) (journal n H).entries r.moment input)
      by_relay q input there has own =
          let s = relay_settings t n q in
          let e = relay_entry s (journal n H).entries r.moment input in
          let wait : (p : Ip6) → WaitHere W L.records (numbers (relay q) p) (known (relay_mentions (journal n H).entries) r.moment p).waiting = λ p. record {
            each = waiting_have W t H records n (relay q) r.moment p;
            packets = all_map (IsForeignTo (Some p)) (λ (x : List ℕ). is_packet x ≡ true) (known (relay_mentions (journal n H).entries) r.moment p).waiting
                (λ x of. of.well_formed) (waiting_is_foreign s (journal n H).entries r.moment p (laws.relay_journals lab H n q grown.1 there).journal);
          } in
          relay_makes W L.records l r.made all_made s (journal n H).entries r.moment (numbers (relay q)) wait input has
          (subst (λ (i : Input). AreOfSendsAnd e.step.sends (six_made i e.step.six) r.made) (relay_input s (journal n H).entries r.moment input) own)

      by_node : (a : Node) (input : Input) → node_at t n ≡ Some a → HasBytesIfLoaded W l (packet_in_input input) → IsMadeInput input → Makes a (entry_by input a)
      by_node (client c) (arrived from x) there has made own = by_client c (arrived from x) there has own
      by_node (client c) (given x) there has made own = by_client c (given x) there has own
      by_node (client c) (from_six x) there has made own = by_client c (from_six x) there has own
      by_node (client c) ticked there has made own = by_client c ticked there has own
      by_node (relay q) (arrived from x) there has made own = by_relay q (arrived from x) there has own
      by_node (relay q) (given x) there has made own = by_relay q (given x) there has own
      by_node (relay q) (from_six x) there has made own = by_relay q (from_six x) there has own
      by_node (relay q) ticked there has made own = by_relay q ticked there has own
      by_node (nat k) (arrived from x) there has made own = tt
      by_node (nat k) (given x) there has made own = tt
      by_node (nat k) (from_six x) there has made own = tt
      by_node (nat k) ticked there has made own = tt
      by_node (server a) (arrived from x) there has made own =
          server_makes (record {
            W = W;
            ls = L.records;
            l = l;
            ms = r.made;
            made = all_made;
            s = server_settings a;
            side = side_at (server a) dst;
            from = from;
            x = x;
            numbers = numbers (server a) (entry_peer (Some (entry_by (arrived from x) (server a))));
            bytes = made.1;
            there = made.0;
            has = has;
          }) own
      by_node (server a) (given x) there has made own = tt
      by_node (server a) (from_six x) there has made own = tt
      by_node (server a) ticked there has made own = tt
      by_node (native h) (given x) there has made own =
          let ks = loads_sent L.records (entry_by (given x) (native h)).step.fate (numbers (native h) (entry_peer (Some (entry_by (given x) (native h))))) l in
          subst (MadeHasBytes W ks) (sym own) (native_sends W L.records l h (numbers (native h) (entry_peer (Some (entry_by (given x) (native h))))) x has)
      by_node (native h) (from_six x) there has made own =
          let ks = loads_sent L.records (entry_by (from_six x) (native h)).step.fate (numbers (native h) (entry_peer (Some (entry_by (from_six x) (native h))))) l in
          subst (MadeHasBytes W ks) (sym own) (native_answers W L.records l h (numbers (native h) (entry_peer (Some (entry_by (from_six x) (native h))))) x has)
      by_node (native h) (arrived from x) there has made own = tt
      by_node (native h) ticked there has made own = tt

    module _ (n : ℕ) (a : Node) (e : Entry) (act : IsActOf lab H r n a e) where
      pub input_is : e.input ≡ act.input
      input_is = ap (λ (z : Entry). z.input) act.step ∙ entry_input lab H r.moment n act.dst act.input a

      pub input_has : HasBytesIfLoaded W l (packet_in_input act.input)
      input_has = subst (λ (i : Input). HasBytesIfLoaded W l (packet_in_input i)) input_is (given_has lab H r e act.entry carried grown.0)

      carries_so : made_loads t H L r ≡ loads_sent L.records e.step.fate (numbers n act.dst a (entry_peer (Some e))) l
      carries_so = made_by_node t H L r n a e act.node act.there act.entry act.fate

      act_makes : MadeHasBytes W (made_loads t H L r) r.made
      act_makes = subst (λ (ks : List (Option Load)). MadeHasBytes W ks r.made) (sym carries_so)
          (subst (Makes n act.dst a) (sym act.step) (by_node n act.dst a act.input act.there input_has (subst IsMadeInput input_is (act_made the n a e act).input))
          (laws.makes_its_own lab H r n a e act))

      act_packet : PacketHasBytes W l r.entry
      act_packet = subst (PacketHasBytes W l) (sym act.entry) (subst (λ (z : Entry). PacketHasBytes W l (Some z)) (sym act.step)
          (by (entry_of lab H r.moment n act.dst act.input a).packet (entry_packet lab H r.moment n act.dst act.input a))) where
            by : (o : Option (List ℕ)) → IfSome o (λ (y : List ℕ). packet_in_input act.input ≡ Some y) → IfSome o (λ (y : List ℕ). HasBytesIfLoaded W l (Some y))
            by None same = tt
            by (Some y) same = subst (HasBytesIfLoaded W l) same input_has

    -- ANY RECORD

    quiet_makes : r.entry ≡ None → Kind lab H r → MadeHasBytes W (made_loads t H L r) r.made
    quiet_makes none (quiet entry address made lets why) = subst (MadeHasBytes W (made_loads t H L r)) (sym made) (made_of_none W (made_loads t H L r))
    quiet_makes none (put src dst bytes asked same) = subst (λ (z : Full). MadeHasBytes W (made_loads t H L z) z.made) (sym same) tt
    quiet_makes none (copied number src dst x asked at same) = subst (λ (z : Full). MadeHasBytes W (made_loads t H L z) z.made) (sym same) tt
    quiet_makes none (kinds.ticks ms x asked due within same) = absurd (none_some _ (sym none ∙ ap (λ (z : Full). z.entry) same))
    quiet_makes none (handed v n x a hands at same) = absurd (none_some _ (sym none ∙ ap (λ (z : Full). z.entry) same))
    quiet_makes none (reached number n x a asks at goes there same) = absurd (none_some _ (sym none ∙ ap (λ (z : Full). z.entry) same))

    pub record_makes : MadeHasBytes W (made_loads t H L r) r.made
    record_makes = by (laws.acted lab H r grown.0) where
      by : Acted lab H r → MadeHasBytes W (made_loads t H L r) r.made
      by (idles entry address hands late lets) = quiet_makes entry (laws.kinds lab H r grown.0)
      by (does n a e act) = act_makes n a e act

    pub record_packet : PacketHasBytes W l r.entry
    record_packet = by (laws.acted lab H r grown.0) where
      by : Acted lab H r → PacketHasBytes W l r.entry
      by (idles entry address hands late lets) = subst (PacketHasBytes W l) (sym entry) tt
      by (does n a e act) = act_packet n a e act
