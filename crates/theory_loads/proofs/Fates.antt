-- By which fates a packet gets out, and by which of its steps a node hands one over.
use Rattle.theory_loads.proofs.Words.{Advert, All-contains, All-from_recursion, Bool, Dropped, Entry, Ep, Err, Fate, Forward, ForwardOrigin, Given, Input, Ip6, Journal, List, Listing, Native, None, Ok, Option, PayloadFault, Phase, Qualification, RelayGiven, RelaySeen, RelaySettings, Result, Rule, Seen, ServerSettings, Settings, Side, Six, Some, Step, TickedOnlyIf, Value, Words, [], advert_lines, advert_row, ap, arrived, by_payload, client_entry, client_in, client_out, client_tick, datagram_lines, destination_in, destination_lines, direct_lines, due_at, due_by, echoed, false, fate_of_row, fields_in, first_of_each, first_peer, from_six, given, hands_over_held, heard, host_lines, indirect_lines, inl, inr, is_big, is_global6, is_packet, is_spent, just_kept, native_in, not, packet_lines, payload_at, phase_line, qualification, reception_fate, reception_lines, reception_row, refl, relay_destination_lines, relay_entry, relay_first_peer, relay_given, relay_in, relay_packet_lines, relay_queues, relay_reception, relay_reception_row, relay_reception_step, relay_seen, relay_six, relay_standing_of, relay_tick, relay_tick_step, relay_transmission, relay_transmission_row, relay_transmission_step, relay_tries_peer, row_fates, rule_of, same_ip6, seen, server_lines, server_row, source_in, standing_of, step_of, tick, ticked, transmission_row, true, value_in, ℕ, ◌++◌, ◌∙◌, ◌∷◌, ◌≡◌, ◌⊎◌}
use Rattle.teredo_node.specs.declared.fate.Fate.TheVariants as fate
use Rattle.relay_rules.proofs.LawProofs as relay_laws
unfoldable use Rattle.native_host.specs.Natives.{native_out}
use Rattle.native_host.specs.Natives as natives
use Rattle.qualify.specs.declared.phase.Phase.TheVariants as phase
use Rattle.client_rules.specs.Transmission as table
use Rattle.client_rules.proofs.LawProofs as client_laws
use Rattle.theory_loads.proofs.Natives.{answers}

-- by these fates a native host is brought a packet
abbrev pub is_native_fate : Fate → Bool
is_native_fate fate.Kept = true
is_native_fate fate.Echoed = true
is_native_fate _ = false

-- by these, one that was held is handed over, or a native host is brought one
abbrev pub gets_out : Fate → Bool
gets_out fate.Rule2 = true
gets_out f = is_native_fate f

abbrev Inside : Fate → Type 0
Inside f = gets_out f ≡ false

-- nothing gets out by this step
pub record Silent (step : Step) : Type 0 where
  pub handed : step.handed ≡ None
  pub inside : gets_out step.fate ≡ false

-- SERVERS

module _ (s : ServerSettings) (side : Side) (from : Ep) (x : List ℕ) where
  rule_hands_nothing : (v : Value) (r : Rule) → (step_of s side from x v r).handed ≡ None
  rule_hands_nothing v (Dropped f) = refl
  rule_hands_nothing v Advert = refl
  rule_hands_nothing v ForwardOrigin = refl
  rule_hands_nothing v Forward = refl
  rule_hands_nothing v Six = refl

  server_hands_nothing : (server_row s side from x).handed ≡ None
  unfolding server_row
  server_hands_nothing = by (payload_at x) where
    by : (r : Result Value PayloadFault) → (by_payload s side from x r).handed ≡ None
    by (Ok v) = rule_hands_nothing v (rule_of s from v)
    by (Err f) = refl

  pub server_silent : Silent (server_row s side from x)
  server_silent = record {
    handed = server_hands_nothing;
    inside = All-contains Inside row_fates (server_row s side from x).fate (All-from_recursion Inside row_fates
        (refl, (refl, (refl, (refl, (refl, (refl, (refl, (refl, (refl, (refl, (refl, (refl, (refl, (refl, (refl, (refl, tt))))))))))))))))) (fate_of_row s side from x);
  }

-- RELAYS

module _ (s : RelaySettings) (j : List Entry) (n : ℕ) where
  relay_row_inside : (a : RelaySeen) → Inside (relay_reception_row a)
  relay_row_inside a = first_of_each Inside (reception_lines a) fate.Unserved (refl, (refl, (refl, (refl, (refl, (refl, (refl, (refl, tt)))))))) refl

  relay_given_inside : (a : RelayGiven) → Inside (relay_transmission_row a)
  relay_given_inside a = first_of_each Inside (relay_packet_lines a ++ relay_destination_lines a) fate.Queued (refl, (refl, (refl, (refl, (refl, (refl, (refl, (refl, (refl, (refl, (refl, tt))))))))))) refl

  relay_in_silent : (from : Ep) (x : List ℕ) → Silent (relay_in s j n from x).step
  unfolding relay_in relay_reception
  relay_in_silent from x = record {
    handed = by (relay_reception_row (relay_seen s (relay_standing_of j n (source_in x)) from x));
    inside = ap gets_out (relay_laws.fate_of_reception s (relay_standing_of j n (source_in x)) from x) ∙ relay_row_inside (relay_seen s (relay_standing_of j n (source_in x)) from x);
  } where
    by : (f : Fate) → (relay_reception_step (relay_standing_of j n (source_in x)) x (value_in x) f).handed ≡ None
    by fate.FromClientBubble = refl
    by fate.FromClient = refl
    by fate.Unserved = refl
    by _ = refl

  relay_six_silent : (x : List ℕ) → Silent (relay_six s j n x).step
  unfolding relay_six relay_transmission
  relay_six_silent x = record {
    handed = by (relay_transmission_row (relay_given s (relay_standing_of j n (destination_in x)) x));
    inside = ap gets_out (relay_laws.fate_of_transmission s (relay_standing_of j n (destination_in x)) x) ∙ relay_given_inside (relay_given s (relay_standing_of j n (destination_in x)) x);
  } where
    queued : (barred : Bool) (p : Ip6) → (relay_queues barred s p).handed ≡ None
    queued true p = refl
    queued false p = refl

    by : (f : Fate) → (relay_transmission_step s (relay_standing_of j n (destination_in x)) x (fields_in x).dst f).handed ≡ None
    by fate.Sent = refl
    by fate.SentCone = refl
    by fate.Queued = queued _ (fields_in x).dst
    by _ = refl

  relay_tick_silent : (due : Option Listing) → Silent (relay_tick_step s n due)
  relay_tick_silent None = record { handed = refl; inside = refl }
  relay_tick_silent (Some l) = by (is_spent n l.peer) where
    by : (spent : Bool) → Silent (relay_tries_peer spent s l)
    by true = record { handed = refl; inside = refl }
    by false = record { handed = refl; inside = refl }

  pub relay_silent : (input : Input) → Silent (relay_entry s j n input).step
  unfolding relay_tick
  relay_silent (arrived from x) = relay_in_silent from x
  relay_silent (from_six x) = relay_six_silent x
  relay_silent ticked = relay_tick_silent (due_by n (relay_first_peer j n))
  relay_silent (given x) = record { handed = refl; inside = refl }

-- NATIVE HOSTS

pub native_sends_inside : (own : Ip6) (x : List ℕ) → gets_out (native_out own x).fate ≡ false
unfolding native_out
native_sends_inside own x = first_of_each (λ (f : Fate). gets_out (natives.sent_by x f).fate ≡ false)
    ((not (is_packet x), fate.Malformed) ∷ (is_big (fields_in x), fate.Big) ∷ (not (same_ip6 (fields_in x).src own), fate.Source) ∷ (not (is_global6 (fields_in x).dst), fate.Dest) ∷ []) fate.SentSix (refl, (refl, (refl, (refl, tt)))) refl

-- what a native is brought was not held there
pub native_holds_nothing : (x : List ℕ) → hands_over_held (native_in x).fate ≡ false
native_holds_nothing x = by (answers x) where
  by : (native_in x ≡ just_kept) ⊎ ((y : List ℕ) × (native_in x ≡ echoed y)) → hands_over_held (native_in x).fate ≡ false
  by (inl is) = ap (λ (n : Native). hands_over_held n.fate) is
  by (inr (y, is)) = ap (λ (n : Native). hands_over_held n.fate) is

-- CLIENTS

abbrev OfClient : Fate → Type 0
OfClient f = is_native_fate f ≡ false

phase_is : (p : Phase) (same : Bool) → OfClient (phase_line p same)
phase_is phase.Cone same = refl
phase_is phase.Restricted same = refl
phase_is phase.Secondary true = refl
phase_is phase.Secondary false = refl
phase_is phase.Qualified true = refl
phase_is phase.Qualified false = refl
phase_is phase.Symmetric same = refl
phase_is phase.OffLine same = refl

advert_is : (s : Settings) (q : Qualification) (from : Ep) (v : Value) → OfClient (advert_row s q from v)
unfolding advert_row
advert_is s q from v =
    let a = heard s q from v in
    first_of_each OfClient (advert_lines a) (phase_line a.phase a.same_origin) (refl, (refl, (refl, (refl, (refl, tt))))) (phase_is a.phase a.same_origin)

row_is : (a : Seen) (advert : Fate) → OfClient advert → OfClient (reception_row a advert)
row_is a advert on = first_of_each OfClient (datagram_lines a ++ (server_lines a advert ++ (packet_lines a ++ (indirect_lines a ++ direct_lines a)))) fate.Suspicious
    (refl, (refl, (refl, (refl, (refl, (on, (refl, (refl, (refl, (refl, (refl, (refl, (refl, (refl, (refl, (refl, (refl, (refl, (refl, (refl, (refl, (refl, (refl, (refl, tt)))))))))))))))))))))))) refl

given_is : (a : Given) → OfClient (transmission_row a)
given_is a = first_of_each OfClient (host_lines a ++ destination_lines a) fate.Queued (refl, (refl, (refl, (refl, (refl, (refl, (refl, (refl, (refl, (refl, (refl, (refl, (refl, tt))))))))))))) refl

module _ (s : Settings) (j : Journal) (n : ℕ) (w : Words) where
  client_in_is : (from : Ep) (x : List ℕ) → OfClient (client_in s j n from x w).step.fate
  unfolding client_in reception_fate
  client_in_is from x =
      let a = standing_of s j n (source_in x) in
      ap is_native_fate (client_laws.fate_of_reception s a from x w) ∙ row_is (seen s a from x) (advert_row s a.qualification from (value_in x)) (advert_is s a.qualification from (value_in x))

  client_out_is : (x : List ℕ) → OfClient (client_out s j n x w).step.fate
  unfolding client_out
  client_out_is x = let a = standing_of s j n (destination_in x) in ap is_native_fate (client_laws.fate_of_transmission s a x w) ∙ given_is (table.given s a x)

  client_tick_is : OfClient (client_tick s j n w).step.fate
  unfolding client_tick
  client_tick_is = by (tick s n (qualification s j) w (due_at n (qualification s j) (first_peer j n))).fate (client_laws.tick_is_warranted s n (qualification s j) w (first_peer j n)) where
    by : (f : Fate) → TickedOnlyIf f n (qualification s j) (first_peer j n) → OfClient f
    by fate.Kept only = absurd only
    by fate.Echoed only = absurd only
    by _ only = refl

  pub client_is : (input : Input) → is_native_fate (client_entry s j n input w).step.fate ≡ false
  client_is (arrived from x) = client_in_is from x
  client_is (given x) = client_out_is x
  client_is ticked = client_tick_is
  client_is (from_six x) = refl
