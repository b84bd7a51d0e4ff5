-- What comes of a call of a client and of a relay, by the entry of its journal.
use Rattle.lab_nodes.proofs.Words.{AsBefore, Call, ChaCha, Client, ClientNode, ClientStandsFor, ClientStarves, Does, Entry, Ep, Full, Input, IsClientOf, IsRelayOf, Lab, List, Node, PlayedAsBefore, Relay, RelayAsBefore, RelayDoes, RelayNode, RelayStandsFor, RelayStarves, SendsOrKeeps, Step, [], after_words, ap, armed, arrived, client, client_entry, client_settings, dst_lent, entry_in, entry_input, entry_of, from_six, generator_of, given, handed_by, input_lent, journal, length, next_entry, next_relay_entry, option_and_then, option_map, own_ep, part_of, refl, relay, relay_entry, relay_settings, sendings, six_made, subst, sym, takes_memory, ticked, true, way_out, with_entry, words, words_of, ℕ, ◌+◌, ◌∙◌, ◌∷◌, ◌≡◌}
use Rattle.lab_nodes.specs.declared.played_node.PlayedNode.TheVariants as played
use Rattle.lab_nodes.proofs.Unsent.{none_by_way, none_outright}

-- what is handed, by the step that is the entry's
pub handed_same : (lab : Lab) (H : List Full) (x : Call) (a : Node) (step : Step) → step ≡ (entry_in lab H x a).step
    → option_map length (option_and_then (part_of (input_lent x.input)) step.handed) ≡ option_map length (handed_by (entry_in lab H x a))
handed_same lab H x a step did =
    let input = entry_input lab H x.now.0 x.node (dst_lent x.input) (input_lent x.input) a in
    λ i. option_map length (option_and_then (part_of (sym input i)) (did i).handed)

-- the packet for the IPv6 side too
pub six_same : (lab : Lab) (H : List Full) (x : Call) (a : Node) (step : Step) → six_made (input_lent x.input) step.six ≡ six_made (entry_in lab H x a).input step.six
six_same lab H x a step = ap (λ (input : Input). six_made input step.six) (sym (entry_input lab H x.now.0 x.node (dst_lent x.input) (input_lent x.input) a))

-- A CLIENT

-- the words that a generator gives after some
abbrev pub GoesOn : Type 0
GoesOn = (g : ChaCha) (n k : ℕ) → words_of (after_words n g) k ≡ words_of g (n + k)

client_is : (lab : Lab) (H : List Full) (m n : ℕ) (dst : Ep) (input : Input) (c : ClientNode) → entry_of lab H m n dst input (client c) ≡ client_entry (client_settings lab.topology c) (journal n H) m input (words lab n H)
client_is lab H m n dst (arrived from x) c = refl
client_is lab H m n dst (given x) c = refl
client_is lab H m n dst (from_six x) c = refl
client_is lab H m n dst ticked c = refl

-- the entry is the next one of what is kept
module _ (lab : Lab) (H : List Full) (x : Call) (row : ClientNode) (is : Client) (kept : IsClientOf (client_settings lab.topology row) is (journal x.node H) (words lab x.node H)) where
  pub client_next : next_entry is (journal x.node H) x.now.0 (input_lent x.input) ≡ entry_in lab H x (client row)
  client_next =
      (λ i. client_entry (kept.settings i) (journal x.node H) x.now.0 (input_lent x.input) (kept.words i))
      ∙ sym (client_is lab H x.now.0 x.node (dst_lent x.input) (input_lent x.input) row)

  pub client_did : (step : Step) (new : Client) → Does is x.now.0 (input_lent x.input) step new → step ≡ (entry_in lab H x (client row)).step
  client_did step new done = done.did (journal x.node H) kept.stands ∙ ap (λ (e : Entry). e.step) client_next

  pub client_kept : (step : Step) (new : Client) → GoesOn → Does is x.now.0 (input_lent x.input) step new
      → IsClientOf (client_settings lab.topology row) new (with_entry (journal x.node H) (entry_in lab H x (client row))) (λ k. words lab x.node H ((entry_in lab H x (client row)).step.drawn + k))
  client_kept step new law done = record {
    settings = done.settings ∙ kept.settings;
    stands = subst (λ (e : Entry). ClientStandsFor new (with_entry (journal x.node H) e)) client_next (done.stands (journal x.node H) kept.stands);
    words = ap (λ (g : ChaCha). words_of g) done.place ∙ (λ i k. law (generator_of is) step.drawn k i) ∙ (λ i k. kept.words i ((client_did step new done i).drawn + k));
  }

  pub client_starves : ClientStarves is x.now.0 (input_lent x.input) → (sendings lab H x.now.0 (entry_in lab H x (client row)) (client row)).made ≡ [] → takes_memory (entry_in lab H x (client row)).step.fate ≡ true
  client_starves starved none =
      let sends = none_by_way lab H x.now.0 (way_out lab.chain row.nat) row.inside (entry_in lab H x (client row)).step.sends none in
      subst (λ (e : Entry). SendsOrKeeps e.step) client_next (starved (journal x.node H) kept.stands) sends

-- one that is as before
pub client_as_before : (row : ClientNode) (old new : Client) → AsBefore old new → PlayedAsBefore (played.Client row old) (played.Client row new)
client_as_before row old new same = λ t n x kept. record {
  settings = same.settings ∙ kept.settings;
  stands = same.stands x.journal kept.stands;
  words = ap (λ (g : ChaCha). words_of g) same.words ∙ kept.words;
}

-- A RELAY

relay_is : (lab : Lab) (H : List Full) (m n : ℕ) (dst : Ep) (input : Input) (r : RelayNode) → entry_of lab H m n dst input (relay r) ≡ relay_entry (relay_settings lab.topology n r) (journal n H).entries m input
relay_is lab H m n dst (arrived from x) r = refl
relay_is lab H m n dst (given x) r = refl
relay_is lab H m n dst (from_six x) r = refl
relay_is lab H m n dst ticked r = refl

module _ (lab : Lab) (H : List Full) (x : Call) (row : RelayNode) (is : Relay) (kept : IsRelayOf (relay_settings lab.topology x.node row) is (journal x.node H).entries) where
  pub relay_next : next_relay_entry is (journal x.node H).entries x.now.0 (input_lent x.input) ≡ entry_in lab H x (relay row)
  relay_next =
      (λ i. relay_entry (kept.settings i) (journal x.node H).entries x.now.0 (input_lent x.input))
      ∙ sym (relay_is lab H x.now.0 x.node (dst_lent x.input) (input_lent x.input) row)

  pub relay_did : (step : Step) (new : Relay) → RelayDoes is x.now.0 (input_lent x.input) step new → step ≡ (entry_in lab H x (relay row)).step
  relay_did step new done = done.did (journal x.node H).entries kept.stands ∙ ap (λ (e : Entry). e.step) relay_next

  pub relay_kept : (step : Step) (new : Relay) → RelayDoes is x.now.0 (input_lent x.input) step new
      → IsRelayOf (relay_settings lab.topology x.node row) new (with_entry (journal x.node H) (entry_in lab H x (relay row))).entries
  relay_kept step new done = record {
    settings = done.settings ∙ kept.settings;
    stands = subst (λ (e : Entry). RelayStandsFor new (e ∷ (journal x.node H).entries)) relay_next (done.stands (journal x.node H).entries kept.stands);
  }

  pub relay_starves : RelayStarves is x.now.0 (input_lent x.input) → (sendings lab H x.now.0 (entry_in lab H x (relay row)) (relay row)).made ≡ [] → takes_memory (entry_in lab H x (relay row)).step.fate ≡ true
  relay_starves starved none =
      let e = entry_in lab H x (relay row) in
      let sends = none_outright (own_ep (relay row)) (armed H) 0 e.step.sends (six_made e.input e.step.six) none in
      subst (λ (e : Entry). SendsOrKeeps e.step) relay_next (starved (journal x.node H).entries kept.stands) sends

-- one that is as before
pub relay_as_before : (row : RelayNode) (old new : Relay) → RelayAsBefore old new → PlayedAsBefore (played.Relay row old) (played.Relay row new)
relay_as_before row old new same = λ t n x kept. record { settings = same.settings ∙ kept.settings; stands = same.stands x.journal.entries kept.stands }
