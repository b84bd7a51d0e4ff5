-- A client's and a relay's journal in a history is one that their laws speak of.
use Rattle.legal.proofs.Words.{Act, Bool, EachClientIsJournal, EachRelayIsJournal, Entry, Ep, Full, Input, IsOfClient, IsOfRelay, Journal, Kind, Lab, List, Node, None, Numbered, Option, RelaySettings, Settings, Some, Words, [], ap, arith, arrived, asked_event, client, client_entry, client_in, client_out, client_settings, client_tick, cond, dst_of, entry_of, false, from_six, given, handed, inl, input_of, inr, is_node, is_restart, journal, le_refl, le_trans, max, new_journal, no_ep, node_at, now, plain, put, quiet, reached, refl, relay, relay_entry, relay_in, relay_settings, relay_six, relay_tick, subst, sym, ticked, true, unwrap_or, with_entries, words, ℕ, ◌∙◌, ◌∷◌, ◌≡◌, ◌⊎◌}
use Rattle.history.specs.declared.act.Act.TheVariants as act
use Rattle.legal.specs.Next.{acts}
use Rattle.legal.specs.Kinds.{copied, ticks}
use Rattle.legal.proofs.Framed.{is_node-true}
use Rattle.legal.proofs.ByKind.{kind_of}
use Rattle.legal.proofs.Actors.{Deed, ticking, handing, delivering}
use Rattle.legal.proofs.Times.{is_later}

-- WHAT A RECORD'S ENTRY IS

-- that of node n, which is a
record IsEntryOf (lab : Lab) (H : List Full) (r : Full) (n : ℕ) (a : Node) : Type 0 where
  dst : Ep
  input : Input
  is : r.entry ≡ Some (entry_of lab H r.moment n dst input a)

of_acts : (lab : Lab) (H : List Full) (d : Deed) (n : ℕ) (a : Node) (r : Full) → r ≡ acts lab H d.e d.w d.number d.m d.n d.dst d.input d.a → r.node ≡ Some n
    → node_at lab.topology d.n ≡ Some d.a → node_at lab.topology n ≡ Some a → IsEntryOf lab H r n a
of_acts lab H d n a r is at there here =
    let same : d.n ≡ n = ap (λ (o : Option ℕ). unwrap_or o d.n) (ap (λ (z : Full). z.node) (sym is) ∙ at) in
    let one : d.a ≡ a = ap (λ (o : Option Node). unwrap_or o d.a) (sym there ∙ ap (node_at lab.topology) same ∙ here) in
    let whole : r ≡ acts lab H d.e d.w d.number d.m n d.dst d.input a =
    is ∙ ap (λ (y : ℕ). acts lab H d.e d.w d.number d.m y d.dst d.input d.a) same ∙ ap (acts lab H d.e d.w d.number d.m n d.dst d.input) one in
    subst (λ (z : Full). IsEntryOf lab H z n a) (sym whole) (record { dst = d.dst; input = d.input; is = refl })

entry_kind : (lab : Lab) (H : List Full) (r : Full) (n : ℕ) (a : Node) → Kind lab H r → r.node ≡ Some n → node_at lab.topology n ≡ Some a → (r.entry ≡ None) ⊎ IsEntryOf lab H r n a
entry_kind lab H r n a (quiet entry address made passed why) at here = inl entry
entry_kind lab H r n a (put src dst bytes asked is) at here = inl (ap (λ (z : Full). z.entry) is)
entry_kind lab H r n a (copied number src dst x asked there is) at here = inl (ap (λ (z : Full). z.entry) is)
entry_kind lab H r n a (ticks ms x asked due within is) at here = inr (of_acts lab H (ticking H r x) n a r is at due.there here)
entry_kind lab H r n a (handed v k x b hands there is) at here = inr (of_acts lab H (handing H r v k x b) n a r is at there here)
entry_kind lab H r n a (reached number k x b delivers there goes to is) at here = inr (of_acts lab H (delivering H r number k x b) n a r is at to here)

-- A FURTHER ENTRY

client_follows : (s : Settings) (j : Journal) (m : ℕ) (input : Input) (w : Words) → IsOfClient s j m → IsOfClient s (record { start = j.start; entries = client_entry s j m input w ∷ j.entries }) m
unfolding client_in client_out client_tick
client_follows s j m (arrived from x) w p = record { journal = (record { later = p.moments; words = w; is = refl }, p.journal); moments = le_refl m }
client_follows s j m (given x) w p = record { journal = (record { later = p.moments; words = w; is = refl }, p.journal); moments = le_refl m }
client_follows s j m ticked w p = record { journal = (record { later = p.moments; words = w; is = refl }, p.journal); moments = le_refl m }
client_follows s j m (from_six x) w p = record { journal = (record { later = p.moments; words = w; is = refl }, p.journal); moments = le_refl m }

relay_follows : (s : RelaySettings) (j : Journal) (m : ℕ) (input : Input) → IsOfRelay s j m → IsOfRelay s (record { start = j.start; entries = relay_entry s j.entries m input ∷ j.entries }) m
unfolding relay_in relay_six relay_tick
relay_follows s j m (arrived from x) p = record { journal = (record { later = p.moments; is = refl }, p.journal); moments = le_refl m }
relay_follows s j m (from_six x) p = record { journal = (record { later = p.moments; is = refl }, p.journal); moments = le_refl m }
relay_follows s j m ticked p = record { journal = (record { later = p.moments; is = refl }, p.journal); moments = le_refl m }
relay_follows s j m (given x) p = record { journal = (record { later = p.moments; is = refl }, p.journal); moments = le_refl m }

-- A FURTHER RECORD

-- what holds of a node's journal at the moment of a record still holds with it, if it holds of each entry and each start
module _ (Holds : Journal → ℕ → Type 0) (lab : Lab) (H : List Full) (n : ℕ) (a : Node) where
  further : (r : Full) → node_at lab.topology n ≡ Some a → Kind lab H r → Holds (journal n H) r.moment → Holds (new_journal r.moment) r.moment
      → ((dst : Ep) (input : Input) → Holds (with_entries (journal n H) (Some (entry_of lab H r.moment n dst input a))) r.moment) → Holds (journal n (r ∷ H)) r.moment
  further r here kind before start each = by_node (is_node n r.node) refl where
    by_entry : (r.entry ≡ None) ⊎ IsEntryOf lab H r n a → Holds (with_entries (journal n H) r.entry) r.moment
    by_entry (inl none) = subst (λ (o : Option Entry). Holds (with_entries (journal n H) o) r.moment) (sym none) before
    by_entry (inr one) = subst (λ (o : Option Entry). Holds (with_entries (journal n H) o) r.moment) (sym one.is) (each one.dst one.input)

    by_start : (b : Bool) → r.node ≡ Some n → Holds (cond b (new_journal r.moment) (with_entries (journal n H) r.entry)) r.moment
    by_start true at = start
    by_start false at = by_entry (entry_kind lab H r n a kind at here)

    by_node : (b : Bool) → is_node n r.node ≡ b → Holds (cond b (cond (is_restart r.act) (new_journal r.moment) (with_entries (journal n H) r.entry)) (journal n H)) r.moment
    by_node true e = by_start (is_restart r.act) (is_node-true n r.node e)
    by_node false e = before

pub of_client : EachClientIsJournal
of_client lab [] n c g here = record { journal = tt; moments = le_refl 0 }
of_client lab (r ∷ H) n c g here =
    let s : Settings = client_settings lab.topology c in
    let p : IsOfClient s (journal n H) (now H) = of_client lab H n c g.1 here in
    let later : IsOfClient s (journal n H) r.moment = record { journal = p.journal; moments = le_trans p.moments (is_later lab H r g) } in
    further (IsOfClient s) lab H n (client c) r here (kind_of lab H r g.0) later (record { journal = tt; moments = le_refl r.moment }) (λ dst input. each dst input later)
  where
    each : (dst : Ep) (input : Input) → IsOfClient (client_settings lab.topology c) (journal n H) r.moment
        → IsOfClient (client_settings lab.topology c) (with_entries (journal n H) (Some (entry_of lab H r.moment n dst input (client c)))) r.moment
    each dst (arrived from x) p = client_follows (client_settings lab.topology c) (journal n H) r.moment (arrived from x) (words lab n H) p
    each dst (given x) p = client_follows (client_settings lab.topology c) (journal n H) r.moment (given x) (words lab n H) p
    each dst (from_six x) p = client_follows (client_settings lab.topology c) (journal n H) r.moment (from_six x) (words lab n H) p
    each dst ticked p = client_follows (client_settings lab.topology c) (journal n H) r.moment ticked (words lab n H) p

pub of_relay : EachRelayIsJournal
of_relay lab [] n c g here = record { journal = tt; moments = le_refl 0 }
of_relay lab (r ∷ H) n c g here =
    let s : RelaySettings = relay_settings lab.topology n c in
    let p : IsOfRelay s (journal n H) (now H) = of_relay lab H n c g.1 here in
    let later : IsOfRelay s (journal n H) r.moment = record { journal = p.journal; moments = le_trans p.moments (is_later lab H r g) } in
    further (IsOfRelay s) lab H n (relay c) r here (kind_of lab H r g.0) later (record { journal = tt; moments = omega arith }) (λ dst input. each dst input later)
  where
    each : (dst : Ep) (input : Input) → IsOfRelay (relay_settings lab.topology n c) (journal n H) r.moment
        → IsOfRelay (relay_settings lab.topology n c) (with_entries (journal n H) (Some (entry_of lab H r.moment n dst input (relay c)))) r.moment
    each dst (arrived from x) p = relay_follows (relay_settings lab.topology n c) (journal n H) r.moment (arrived from x) p
    each dst (given x) p = relay_follows (relay_settings lab.topology n c) (journal n H) r.moment (given x) p
    each dst (from_six x) p = relay_follows (relay_settings lab.topology n c) (journal n H) r.moment (from_six x) p
    each dst ticked p = relay_follows (relay_settings lab.topology n c) (journal n H) r.moment ticked p
