-- The capture of a history holds a record for each entry, and is read back.
use Rattle.theory_wires.proofs.Words.{AllByRecursion, AreRecordsOf, Bool, Captured, EachWireReadsBack, Ep, Err, Full, Grown, HEAD_MIN, IPV4, Ip4Fault, IsCaptured, IsMadeItem, IsMadeUdp4, IsPacketItem, IsReadBack, IsTopology, Item, Lab, List, None, ReadsBackAs, Result, Udp4Fields, [], all_joined, all_right, ap, arith, capture_head, capture_is_bytes, capture_records, cond, datagram_in, datagram_read, entry_record, false, false≢true, fields_in, head_bytes, items_of, length, length-append, made_bytes, made_is_udp4, made_udp4, map, nat_lt, not, packet_begins, packet_is_spelled, packet_of, pieces_are_a_capture, records_bytes, refl, six, slice_index, step_records, true, udp, udp4_at, udp4_reads_back, udp_place, wire, wire_is_made, ℕ, ◌++◌, ◌/◌, ◌==◌, ◌>>=◌, ◌∷◌, ◌≡◌, ◌≤◌}
use Rattle.theory_wires.proofs.CaptureSizes.{IsShort, records_few, one_each}

-- A PACKET OF THE IPV6 SIDE IS NO DATAGRAM

refused : (a b : Bool) (f g : Ip4Fault) (rest : Result ℕ Ip4Fault) (on : ℕ → Result Udp4Fields Ip4Fault) → b ≡ true
    → datagram_read (cond a (Err f) (cond b (Err g) rest) >>= on) ≡ None
refused true b f g rest on is = refl
refused false true f g rest on is = refl
refused false false f g rest on is = absurd (false≢true is)

no_datagram : (x : List ℕ) → slice_index x 0 / 16 ≡ 6 → datagram_in x ≡ None
unfolding datagram_in udp4_at udp_place
no_datagram x is = refused (nat_lt (length x) HEAD_MIN) (not (slice_index x 0 / 16 == IPV4)) _ _ _ _ (ap (λ (n : ℕ). not (n == IPV4)) is)

-- ONE RECORD

made_datagram : (src dst : Ep) (bytes : List ℕ) → IsMadeItem (udp src dst bytes) → IsMadeUdp4 src dst bytes
made_datagram src dst bytes m = made_is_udp4 src dst bytes m.source m.destination m.short

short : (x : Item) → IsMadeItem x → length (packet_of x) ≤ 1428
short (udp src dst bytes) m = let long = (made_datagram src dst bytes m).long in let few = m.short in omega (arith, long, few)
short (six to bytes) m = let few = m.short in omega (arith, few)

fits : (moment : ℕ) (x : Item) → IsMadeItem x → IsCaptured (entry_record moment x)
fits moment x m =
    let few = short x m in
    record { sec = omega arith; frac = omega arith; orig = omega (arith, few); kept = omega (arith, few) }

reads : (x : Item) → IsMadeItem x → IsPacketItem x → ReadsBackAs x (packet_of x)
unfolding made_bytes
reads (udp src dst bytes) m p = udp4_reads_back (made_udp4 src dst bytes) (made_datagram src dst bytes m).fits
reads (six to bytes) m p = no_datagram bytes (packet_begins (fields_in bytes) bytes (packet_is_spelled bytes m.bytes p)).1

-- THOSE OF ONE STEP

step_fits : (moment : ℕ) (xs : List Item) → AllByRecursion IsMadeItem xs → AllByRecursion IsCaptured (map (entry_record moment) xs)
step_fits moment [] made = tt
step_fits moment (x ∷ xs) made = (fits moment x made.0, step_fits moment xs made.1)

step_short : (moment : ℕ) (xs : List Item) → AllByRecursion IsMadeItem xs → AllByRecursion IsShort (map (entry_record moment) xs)
step_short moment [] made = tt
step_short moment (x ∷ xs) made = (short x made.0, step_short moment xs made.1)

step_is : (moment : ℕ) (xs : List Item) → AllByRecursion IsMadeItem xs → AllByRecursion IsPacketItem xs → AreRecordsOf xs (map (entry_record moment) xs)
step_is moment [] made packets = tt
step_is moment (x ∷ xs) made packets = (record { bytes = refl; whole = refl; reads = reads x made.0 packets.0 }, step_is moment xs made.1 packets.1)

-- ALL OF THEM

joined : (xs ys : List Item) (rs qs : List Captured) → AreRecordsOf xs rs → AreRecordsOf ys qs → AreRecordsOf (xs ++ ys) (rs ++ qs)
joined [] ys [] qs l r = r
joined (x ∷ xs) ys (a ∷ rs) qs l r = (l.0, joined xs ys rs qs l.1 r)
joined [] ys (a ∷ rs) qs l r = absurd l
joined (x ∷ xs) ys [] qs l r = absurd l

module _ (lab : Lab) where
  all_fit : (H : List Full) → IsTopology lab.topology → Grown lab H → AllByRecursion IsCaptured (capture_records H)
  all_fit [] is g = tt
  all_fit (r ∷ H) is g =
      let made = all_right IsMadeItem (wire H) (items_of r) (wire_is_made lab (r ∷ H) is g).wire in
      all_joined IsCaptured (capture_records H) (step_records r) (all_fit H is g.1) (step_fits r.moment (items_of r) made)

  all_short : (H : List Full) → IsTopology lab.topology → Grown lab H → AllByRecursion IsShort (capture_records H)
  all_short [] is g = tt
  all_short (r ∷ H) is g =
      let made = all_right IsMadeItem (wire H) (items_of r) (wire_is_made lab (r ∷ H) is g).wire in
      all_joined IsShort (capture_records H) (step_records r) (all_short H is g.1) (step_short r.moment (items_of r) made)

  all_are : (H : List Full) → IsTopology lab.topology → Grown lab H → AreRecordsOf (wire H) (capture_records H)
  all_are [] is g = tt
  all_are (r ∷ H) is g =
      let history = wire_is_made lab (r ∷ H) is g in
      let made = all_right IsMadeItem (wire H) (items_of r) history.wire in
      let packets = all_right IsPacketItem (wire H) (items_of r) history.packets in
      joined (wire H) (items_of r) (capture_records H) (step_records r) (all_are H is g.1) (step_is r.moment (items_of r) made packets)

  read_back : (H : List Full) → IsTopology lab.topology → Grown lab H → IsReadBack lab H
  read_back H is g = record {
    capture = record {
      fits = record { head = record { zone = omega arith; figs = omega arith; snap = omega arith }; records = all_fit H is g };
      bytes = pieces_are_a_capture lab H;
    };
    records = all_are H is g;
    size =
        let bytes = ap length (pieces_are_a_capture lab H) in
        let both = length-append (head_bytes capture_head) (records_bytes false (capture_records H)) in
        let head = capture_is_bytes.head_long capture_head in
        let few = records_few (capture_records H) (all_short H is g) in
        let many = one_each (wire H) (capture_records H) (all_are H is g) in
        omega (arith, bytes, both, head, few, many);
  }

pub each_reads_back : EachWireReadsBack
each_reads_back lab H is g = read_back lab H is g
