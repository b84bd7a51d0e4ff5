-- Sums over the records of a history are small.
use Rattle.player.proofs.Words.{ENTRIES_MAX, FitsWire, Full, IsFew, IsSmall, List, Sums, arith, count_by-le-length, is_drop, is_kept, is_some, items_of, length, length-append, records_end, refl, subst, sums_of, sym, wire, ◌++◌, ◌+◌, ◌<◌, ◌^◌, ◌∷◌, ◌≡◌}

small : (H : List Full) (r : Full) → IsFew (sums_of H) → length H < records_end → FitsWire (r ∷ H) → IsSmall (sums_of H)
small H r handed few fits =
    let end : records_end ≡ 2305843009213693952 = refl in
    let most : ENTRIES_MAX ≡ 65536 = refl in
    let wide : 2 ^ 64 ≡ 18446744073709551616 = refl in
    let entries : length (wire H ++ items_of r) ≡ length (wire H) + length (items_of r) = length-append (wire H) (items_of r) in
    let records : length H < 2305843009213693952 = omega (arith, few, end) in
    record {
      records = omega (arith, records, wide);
      entries = omega (arith, entries, most, fits, wide);
      delivered = omega (arith, count_by-le-length (λ r. is_some r.delivered) H, records, wide);
      handed = omega (arith, handed.handed, records, wide);
      kept = omega (arith, count_by-le-length (λ r. is_kept r.fate) H, records, wide);
      dropped = omega (arith, count_by-le-length (λ r. is_drop r.fate) H, records, wide);
    }

-- those that a listener keeps, where it can hear a further record
pub sums_small : (sums : Sums) (H : List Full) (r : Full) → sums ≡ sums_of H → IsFew sums → length H < records_end → FitsWire (r ∷ H) → IsSmall sums
sums_small sums H r is handed few fits = subst IsSmall (sym is) (small H r (subst IsFew is handed) few fits)
