-- What a node does is of the moment of its record, and so of no earlier one than the records before.
use Rattle.theory_ends.proofs.Words.{Acted, Entry, Ep, Full, Grown, IfSome, Input, Journal, Lab, List, Node, Option, RelaySettings, Settings, Words, acted, ap, arrived, client, client_entry, client_in, client_out, client_settings, client_tick, does, entry_of, from_six, given, idles, journal, later, nat, native, now, refl, relay, relay_entry, relay_in, relay_settings, relay_six, relay_tick, server, subst, sym, ticked, words, ℕ, ◌∙◌, ◌∷◌, ◌≡◌, ◌≤◌}

of_client : (s : Settings) (j : Journal) (m : ℕ) (input : Input) (w : Words) → (client_entry s j m input w).moment ≡ m
unfolding client_in client_out client_tick
of_client s j m (arrived from x) w = refl
of_client s j m (given x) w = refl
of_client s j m ticked w = refl
of_client s j m (from_six x) w = refl

of_relay : (s : RelaySettings) (es : List Entry) (m : ℕ) (input : Input) → (relay_entry s es m input).moment ≡ m
unfolding relay_in relay_six relay_tick
of_relay s es m (arrived from x) = refl
of_relay s es m (from_six x) = refl
of_relay s es m ticked = refl
of_relay s es m (given x) = refl

module _ (lab : Lab) (H : List Full) (m n : ℕ) (dst : Ep) where
  of_node : (a : Node) (input : Input) → (entry_of lab H m n dst input a).moment ≡ m
  of_node (server x) (arrived from bytes) = refl
  of_node (server x) (given bytes) = refl
  of_node (server x) (from_six bytes) = refl
  of_node (server x) ticked = refl
  of_node (nat x) (arrived from bytes) = refl
  of_node (nat x) (given bytes) = refl
  of_node (nat x) (from_six bytes) = refl
  of_node (nat x) ticked = refl
  of_node (native x) (arrived from bytes) = refl
  of_node (native x) (given bytes) = refl
  of_node (native x) (from_six bytes) = refl
  of_node (native x) ticked = refl
  of_node (client c) (arrived from bytes) = of_client (client_settings lab.topology c) (journal n H) m (arrived from bytes) (words lab n H)
  of_node (client c) (given bytes) = of_client (client_settings lab.topology c) (journal n H) m (given bytes) (words lab n H)
  of_node (client c) (from_six bytes) = of_client (client_settings lab.topology c) (journal n H) m (from_six bytes) (words lab n H)
  of_node (client c) ticked = of_client (client_settings lab.topology c) (journal n H) m ticked (words lab n H)
  of_node (relay q) (arrived from bytes) = of_relay (relay_settings lab.topology n q) (journal n H).entries m (arrived from bytes)
  of_node (relay q) (given bytes) = of_relay (relay_settings lab.topology n q) (journal n H).entries m (given bytes)
  of_node (relay q) (from_six bytes) = of_relay (relay_settings lab.topology n q) (journal n H).entries m (from_six bytes)
  of_node (relay q) ticked = of_relay (relay_settings lab.topology n q) (journal n H).entries m ticked

pub not_earlier : (lab : Lab) (H : List Full) (r : Full) → Grown lab (r ∷ H) → IfSome r.entry (λ (e : Entry). now H ≤ e.moment)
not_earlier lab H r grown = by (acted lab H r grown.0) where
  by : Acted lab H r → IfSome r.entry (λ (e : Entry). now H ≤ e.moment)
  by (idles none address handed late passed) = subst (λ (o : Option Entry). IfSome o (λ (e : Entry). now H ≤ e.moment)) (sym none) tt
  by (does n a e act) = subst (λ (o : Option Entry). IfSome o (λ (x : Entry). now H ≤ x.moment)) (sym act.entry)
      (subst (λ (k : ℕ). now H ≤ k) (sym (ap (λ (x : Entry). x.moment) act.step ∙ of_node lab H r.moment n act.dst a act.input)) (later lab H r grown))
