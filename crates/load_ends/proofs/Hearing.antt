-- A table that heard what the next record says tells of the history with it.
use Rattle.load_ends.proofs.Words.{Bool, EndsTable, Full, List, Load, None, NumberedPacket, NumberedSaying, Packet, PacketRow, Record, ReplyTo, Saying, TellsEnds, TopologyState, [], all_sayings, ap, append-nil, append_assoc, arith, false, fold, handed_in, handed_in_by, is_handing_in, length, loads, map, map-append, no_entries, packet_number, part_told, record_of, refl, row_told, rows_after_saying, rows_handed_in, saying_by, sayings_of, subst, sym, true, unsaid, ℕ, ◌++◌, ◌∙◌, ◌∷◌, ◌≡◌, ◌≤◌}
use Rattle.load_ends.proofs.Unsaid.{none_said, none_arrives, spoken_below}
use Rattle.load_ends.proofs.Rows.{NumberedFrom, numbered, counted, rows_said}

-- all sayings of a record
all_said : (i : ℕ) (r : Full) (ss : List Saying) (ts : List NumberedSaying) (ps : List NumberedPacket) → NumberedFrom 0 ps
    → fold (rows_after_saying i) (map (row_told ts no_entries) ps) ss ≡ map (row_told (ts ++ map (saying_by i r) ss) no_entries) ps
all_said i r [] ts ps w = ap (λ (us : List NumberedSaying). map (row_told us no_entries) ps) (sym (append-nil ts))
all_said i r (s ∷ ss) ts ps w = ap (λ (rows : List PacketRow). fold (rows_after_saying i) rows ss) (rows_said ts i r s ps w) ∙ all_said i r ss (ts ++ saying_by i r s ∷ []) ps w
    ∙ ap (λ (us : List NumberedSaying). map (row_told us no_entries) ps) (append_assoc ts (saying_by i r s ∷ []) (map (saying_by i r) ss))

-- of a load of a packet that isn't handed in yet nothing was said
unsaid_yet : (t : TopologyState) (H : List Full) (l : Load) → packet_number l ≡ length (handed_in H) → part_told (all_sayings t H) None l ≡ unsaid
unsaid_yet t H l at =
    let past : (loads t H).packets ≤ packet_number l = omega (arith, at, counted t H) in
    rw (none_said (loads t H).packets l past (all_sayings t H) (spoken_below t H), none_arrives (loads t H).packets l past (all_sayings t H) (spoken_below t H)) refl

-- the row of a packet that is handed in
handed_row : (t : TopologyState) (H : List Full) (r : Full) (b : Bool)
    → map (row_told (all_sayings t H) no_entries) (handed_in H) ++ rows_handed_in b (length H) r.node ≡ map (row_told (all_sayings t H) no_entries) (handed_in H ++ handed_in_by b (length (handed_in H)) (length H) r)
handed_row t H r false = append-nil _ ∙ sym (ap (map (row_told (all_sayings t H) no_entries)) (append-nil (handed_in H)))
handed_row t H r true = sym (map-append (row_told (all_sayings t H) no_entries) (handed_in H) _
    ∙ rw (unsaid_yet t H (Packet (length (handed_in H))) refl, unsaid_yet t H (ReplyTo (length (handed_in H))) refl) refl)

pub hears : {between : List PacketRow} (t : TopologyState) (old new : EndsTable) (H : List Full) (r : Full) (i : ℕ) (a : Record) (said : List Saying)
    → between ≡ old.rows.items ++ rows_handed_in (is_handing_in a.act) i a.node → new.rows.items ≡ fold (rows_after_saying i) between said
    → TellsEnds t old H → record_of r ≡ a → i ≡ length H → said ≡ sayings_of t H (loads t H) r → TellsEnds t new (r ∷ H)
hears {between} t old new H r i a said pushed noted tells is at says = record { rows = noted ∙ whole } where
  rows : between ≡ map (row_told (all_sayings t H) no_entries) (handed_in (r ∷ H))
  rows = pushed ∙ subst (λ (x : Record). old.rows.items ++ rows_handed_in (is_handing_in x.act) i x.node ≡ map (row_told (all_sayings t H) no_entries) (handed_in (r ∷ H))) is
      (rw (tells.rows, at) (handed_row t H r (is_handing_in r.act)))

  whole : fold (rows_after_saying i) between said ≡ map (row_told (all_sayings t (r ∷ H)) no_entries) (handed_in (r ∷ H))
  whole = ap (λ (x : List PacketRow). fold (rows_after_saying i) x said) rows ∙ all_said i r said (all_sayings t H) (handed_in (r ∷ H)) (numbered (r ∷ H))
      ∙ rw (at, says) refl
