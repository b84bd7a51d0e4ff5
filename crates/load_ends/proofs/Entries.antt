-- The rows as the entries of the wire are gone through, from the last one to the first.
use Rattle.load_ends.proofs.Words.{Bool, Draws, Full, List, Load, None, NumberedPacket, NumberedSaying, Option, Packet, PacketRow, ReplyTo, Some, StandsFor, TopologyState, WorldState, [], all_sayings, ap, arith, drop, drop_all, drop_more, false, handed_in, if◌then◌else◌, is_load, kept_in_row, length, load_at, loads, map, no_entries, not, open_entry, packet_number, part_with_entry, refl, row_told, rows_by_entry, rows_from, same_load, sym, true, was_delivered, wire_counted, with_part, ℕ, ◌&&◌, ◌+◌, ◌<◌, ◌∙◌, ◌∷◌, ◌≡◌, ◌≢◌, ◌≤◌}
use Rattle.load_ends.proofs.Rows.{numbered, one_changed, same_number, other_number}

alike : (f g : NumberedPacket → PacketRow) → ((p : NumberedPacket) → f p ≡ g p) → (ps : List NumberedPacket) → map f ps ≡ map g ps
alike f g each [] = refl
alike f g each (p ∷ ps) = rw (each p, alike f g each ps) refl

-- as many as a world has entries
pub as_long : (d : Draws) (w : WorldState) (H : List Full) → StandsFor d w H → length (loads w.topology H).wire ≡ length w.wire
as_long d w H stands = wire_counted w.topology H ∙ ap length (sym stands.wire)

-- before any entry is known
pub none_known : (t : TopologyState) (H : List Full) (i : ℕ) → length (loads t H).wire ≤ i → map (row_told (all_sayings t H) no_entries) (handed_in H) ≡ rows_from t H i
none_known t H i past = sym (ap (λ (xs : List (Option Load)). map (row_told (all_sayings t H) (λ (l : Load). open_entry H l i xs)) (handed_in H)) (drop_all i (loads t H).wire past))

module _ (H : List Full) (i : ℕ) (rest : List (Option Load)) (ts : List NumberedSaying) where
  -- the entries, with this one before the rest
  abbrev with_it : Option Load → Load → Option ℕ
  with_it x l = open_entry H l i (x ∷ rest)

  abbrev without : Load → Option ℕ
  without l = open_entry H l (i + 1) rest

  passes : (x : Option Load) (l : Load) → (b : Bool) → (is_load l x && not (was_delivered i H)) ≡ b → with_it x l ≡ (if b then Some i else without l)
  passes x l b is = rw is refl

  delivered_passes : (x : Option Load) → was_delivered i H ≡ true → (l : Load) → with_it x l ≡ without l
  delivered_passes x is l = passes x l false (by (is_load l x)) where
    by : (b : Bool) → (b && not (was_delivered i H)) ≡ false
    by true = rw is refl
    by false = refl

  other_passes : (k l : Load) → same_load l k ≡ false → with_it (Some k) l ≡ without l
  other_passes k l is = passes (Some k) l false (rw is refl)

  it_stands : (k l : Load) → same_load l k ≡ true → was_delivered i H ≡ false → with_it (Some k) l ≡ Some i
  it_stands k l is open_still = passes (Some k) l true (rw (is, open_still) refl)

  row_here : (k : Load) → was_delivered i H ≡ false → (p : NumberedPacket) → p.number ≡ packet_number k
      → with_part k (part_with_entry i (kept_in_row k (row_told ts without p))) (row_told ts without p) ≡ row_told ts (with_it (Some k)) p
  row_here (Packet n) still p e = rw (it_stands (Packet n) (Packet p.number) (same_number p.number n e) still, other_passes (Packet n) (ReplyTo p.number) refl) refl
  row_here (ReplyTo n) still p e = rw (it_stands (ReplyTo n) (ReplyTo p.number) (same_number p.number n e) still, other_passes (ReplyTo n) (Packet p.number) refl) refl

  row_elsewhere : (k : Load) → (p : NumberedPacket) → p.number ≢ packet_number k → row_told ts without p ≡ row_told ts (with_it (Some k)) p
  row_elsewhere (Packet n) p e = rw (other_passes (Packet n) (Packet p.number) (other_number p.number n e), other_passes (Packet n) (ReplyTo p.number) refl) refl
  row_elsewhere (ReplyTo n) p e = rw (other_passes (ReplyTo n) (ReplyTo p.number) (other_number p.number n e), other_passes (ReplyTo n) (Packet p.number) refl) refl

-- one entry more
module _ (t : TopologyState) (H : List Full) (i : ℕ) where
  abbrev ts : List NumberedSaying
  ts = all_sayings t H

  abbrev rest : List (Option Load)
  rest = drop (i + 1) (loads t H).wire

  by_load : (y : Option Load) (d : Bool) → was_delivered i H ≡ d → rows_by_entry i y d (rows_from t H (i + 1)) ≡ map (row_told ts (with_it H i rest ts y)) (handed_in H)
  by_load y true was = alike _ _ (λ p. sym (rw (delivered_passes H i rest ts y was (Packet p.number), delivered_passes H i rest ts y was (ReplyTo p.number)) refl)) (handed_in H)
  by_load None false was = refl
  by_load (Some k) false was = one_changed (row_told ts (without H i rest ts)) (row_told ts (with_it H i rest ts (Some k))) (λ (row : PacketRow). with_part k (part_with_entry i (kept_in_row k row)) row)
      0 (packet_number k) (packet_number k) (omega arith) (handed_in H) (numbered H) (row_here H i rest ts k was) (row_elsewhere H i rest ts k)

  pub one_known : (x : Option Load) (b : Bool) → i < length (loads t H).wire → x ≡ load_at (loads t H).wire i → b ≡ was_delivered i H → rows_by_entry i x b (rows_from t H (i + 1)) ≡ rows_from t H i
  one_known x b within at is = by_load x b (sym is) ∙ sym (ap (λ (xs : List (Option Load)). map (row_told ts (λ (l : Load). open_entry H l i xs)) (handed_in H)) here) where
    here : drop i (loads t H).wire ≡ x ∷ rest
    here = drop_more (loads t H).wire i None within ∙ ap (λ (y : Option Load). y ∷ rest) (sym at)
