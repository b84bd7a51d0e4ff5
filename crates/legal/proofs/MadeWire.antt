-- Every history is made of bytes, between endpoints.
use Rattle.legal.proofs.Words.{Acted, AreMadeInputs, Bool, EachHistoryIsMade, Entry, Full, IsEvent, IsMadeInput, IsMadeItem, IsPacketItem, Journal, Lab, List, MadeBy, NamesRelay, None, Option, Some, [], all_joined, all_map, ap, cond, does, false, false≢true, idles, is_node, is_restart, is_some, items_of, journal, new_journal, refl, subst, sym, true, unwrap_or, wire, with_entries, ℕ, ◌∙◌, ◌∷◌, ◌≡◌}
use Rattle.legal.proofs.ByKind.{kind_of}
use Rattle.legal.proofs.Actors.{acted_in}
use Rattle.legal.proofs.ItemsMade.{each_is_made}
use Rattle.legal.proofs.Scenes.{Scene}
use Rattle.legal.proofs.MadeInputs.{act_made}
use Rattle.legal.proofs.MadeItems.{item_made}
use Rattle.legal.proofs.SixPackets.{is_packet_item}
use Rattle.legal.proofs.NamedRelays.{names_relay}

-- WHAT JOURNALS HOLD

with_made : (j : Journal) (o : Option Entry) → AreMadeInputs j.entries → ((e : Entry) → o ≡ Some e → IsMadeInput e.input)
    → AreMadeInputs (with_entries j o).entries
with_made j None a h = a
with_made j (Some e) a h = (h e refl, a)

entry_made : (lab : Lab) (H : List Full) (r : Full) → Scene lab H → IsEvent lab.topology r.asked → Acted lab H r
    → (e : Entry) → r.entry ≡ Some e → IsMadeInput e.input
entry_made lab H r scene asked (idles none address handed late passed) e has = absurd (false≢true (ap (λ (o : Option Entry). is_some o) (sym none ∙ has)))
entry_made lab H r scene asked (does n a x act) e has =
    let same : x ≡ e = ap (λ (o : Option Entry). unwrap_or o x) (sym act.entry ∙ has) in
    subst (λ (z : Entry). IsMadeInput z.input) same (act_made lab H scene r n a x asked act).made

journal_made : (H : List Full) (r : Full) (n : ℕ) → AreMadeInputs (journal n H).entries
    → ((e : Entry) → r.entry ≡ Some e → IsMadeInput e.input) → AreMadeInputs (journal n (r ∷ H)).entries
journal_made H r n before each = by_node (is_node n r.node) where
  by_start : (b : Bool) → AreMadeInputs (cond b (new_journal r.moment) (with_entries (journal n H) r.entry)).entries
  by_start true = tt
  by_start false = with_made (journal n H) r.entry before each

  by_node : (b : Bool) → AreMadeInputs (cond b (cond (is_restart r.act) (new_journal r.moment) (with_entries (journal n H) r.entry)) (journal n H)).entries
  by_node true = by_start (is_restart r.act)
  by_node false = before

-- THE INDUCTION

pub each_history_is_made : EachHistoryIsMade
each_history_is_made lab [] is g = record { wire = tt; packets = tt; relays = tt; journals = λ n. tt }
each_history_is_made lab (r ∷ H) is g =
    let made = each_history_is_made lab H is g.1 in
    let scene : Scene lab H = record { is = is; made = made } in
    record {
      wire = all_joined IsMadeItem (wire H) (items_of r) made.wire
          (all_map (MadeBy lab H r) IsMadeItem (items_of r) (item_made lab H scene r g) (each_is_made lab H r g));
      packets = all_joined IsPacketItem (wire H) (items_of r) made.packets
          (all_map (MadeBy lab H r) IsPacketItem (items_of r) (is_packet_item lab H scene r g) (each_is_made lab H r g));
      relays = all_joined (NamesRelay lab.topology) (wire H) (items_of r) made.relays
          (all_map (MadeBy lab H r) (NamesRelay lab.topology) (items_of r) (λ x m. names_relay lab H r x is m) (each_is_made lab H r g));
      journals = λ n. journal_made H r n (made.journals n) (entry_made lab H r scene g.0.event (acted_in lab H r (kind_of lab H r g.0)));
    }
