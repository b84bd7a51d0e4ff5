-- The packet, its row and its whereabouts at a place.
use Rattle.load_ends.proofs.Words.{Full, List, None, NumberedPacket, PacketRow, TopologyState, Whereabouts, [], all_sayings, ap, arith, entries_from, get_or, get_or-map, handed_in, length, length-map, loads, row_told, rows_from, suc, sym, whereabouts, whereabouts_of, zero, ℕ, ◌+◌, ◌<◌, ◌∙◌, ◌∷◌, ◌≡◌}
use Rattle.load_ends.proofs.Rows.{NumberedFrom, numbered}

-- where all packets of a history are
abbrev pub all_told : TopologyState → List Full → List Whereabouts
all_told t H = whereabouts t H (loads t H) (all_sayings t H)

-- a packet that nobody handed in
abbrev missing_packet : NumberedPacket
missing_packet = record { number = 0; record_number = 0; node = None }

-- the packet at a place, if there is one
abbrev pub packet_at : List Full → ℕ → NumberedPacket
packet_at H i = get_or (handed_in H) i missing_packet

numbered_at : (n i : ℕ) (ps : List NumberedPacket) (d : NumberedPacket) → NumberedFrom n ps → i < length ps → (get_or ps i d).number ≡ n + i
numbered_at n i [] d w within = absurd (omega (arith, within))
numbered_at n zero (p ∷ ps) d w within = let at = w.0 in omega (arith, at)
numbered_at n (suc i) (p ∷ ps) d w within = let at = numbered_at (suc n) i ps d w.1 (omega (arith, within)) in omega (arith, at)

module _ (t : TopologyState) (H : List Full) (rows : List PacketRow) (are : rows ≡ rows_from t H 0) where
  as_many_packets : length (handed_in H) ≡ length rows
  as_many_packets = sym (ap length are ∙ length-map (handed_in H) (row_told (all_sayings t H) (entries_from H (loads t H).wire 0)))

  -- as many as there are rows
  pub as_many : length (all_told t H) ≡ length rows
  as_many = length-map (handed_in H) (whereabouts_of t H (all_sayings t H)) ∙ as_many_packets

  module _ (i : ℕ) (within : i < length rows) where
    fits : i < length (handed_in H)
    fits = omega (arith, within, as_many_packets)

    pub its_number : i ≡ (packet_at H i).number
    its_number = let at = numbered_at 0 i (handed_in H) missing_packet (numbered H) fits in omega (arith, at)

    pub its_row : (row d : PacketRow) → row ≡ get_or rows i d → row ≡ row_told (all_sayings t H) (entries_from H (loads t H).wire 0) (packet_at H i)
    its_row row d is = is ∙ ap (λ (xs : List PacketRow). get_or xs i d) are
        ∙ get_or-map (row_told (all_sayings t H) (entries_from H (loads t H).wire 0)) (handed_in H) i missing_packet d fits

    pub its_place : (x : Whereabouts) → x ≡ whereabouts_of t H (all_sayings t H) (packet_at H i) → x ≡ get_or (all_told t H) i x
    its_place x is = is ∙ sym (get_or-map (whereabouts_of t H (all_sayings t H)) (handed_in H) i missing_packet x fits)
