-- In every history, what carries a packet has its bytes.
use Rattle.theory_loads.proofs.Words.{EachCarriesItsPacket, EachHasBytes, Entry, Full, Grown, HasBytesIfLoaded, IfSome, IsTopology, Lab, Latest, List, Load, None, Option, Some, TopologyState, [], entry_loads, items_of, load_given, loads, made_loads, map, map-append, packet_on_wire, subst, sym, wire, ℕ, ◌∷◌}
use Rattle.theory_loads.proofs.Lists.{both_have, entries_have}
use Rattle.theory_loads.proofs.Handing.{has_still, each_still}
use Rattle.theory_loads.proofs.Records.{PacketHasBytes, RecordsHaveBytes, waiting_have, held_have}
use Rattle.theory_loads.proofs.Steps.{record_makes, record_packet}

-- records have the bytes of their loads still, when the history goes on
module _ (r : Full) (H : List Full) (t : TopologyState) where
  packet_still : (l : Option Load) (o : Option Entry) → PacketHasBytes H l o → PacketHasBytes (r ∷ H) l o
  packet_still l None has = tt
  packet_still l (Some e) has = by e.packet has where
    by : (o : Option (List ℕ)) → IfSome o (λ (x : List ℕ). HasBytesIfLoaded H l (Some x)) → IfSome o (λ (x : List ℕ). HasBytesIfLoaded (r ∷ H) l (Some x))
    by None has = tt
    by (Some x) has = has_still r H l (Some x) has

  pub records_still : (K : List Full) → RecordsHaveBytes H t K → RecordsHaveBytes (r ∷ H) t K
  records_still [] have = tt
  records_still (q ∷ K) have = (packet_still (load_given (loads t K) q) q.entry have.0, records_still K have.1)

-- what holds of every history: each entry of the wire has the bytes of its load, and each record's packet those of what it was given
pub record AreCarried (lab : Lab) (H : List Full) : Type 0 where
  pub wire : EachHasBytes H (loads lab.topology H).wire (map packet_on_wire (wire H))
  pub records : RecordsHaveBytes H lab.topology H

-- the latest record of a history
abbrev pub latest : (lab : Lab) (H : List Full) (r : Full) → IsTopology lab.topology → Grown lab (r ∷ H) → Latest
latest lab H r is g = record { lab = lab; before = H; full = r; is = is; grown = g }

pub are_carried : (lab : Lab) (H : List Full) → IsTopology lab.topology → Grown lab H → AreCarried lab H
are_carried lab [] is g = record { wire = tt; records = tt }
are_carried lab (r ∷ H) is g = by (are_carried lab H is g.1) where
  by : AreCarried lab H → AreCarried lab (r ∷ H)
  by before =
      let t = lab.topology in
      let records = records_still r H t H before.records in
      let makes = record_makes (latest lab H r is g) before.wire records in
      let ms = made_loads t H (loads t H) r in
      record {
        wire = subst (EachHasBytes (r ∷ H) (loads t (r ∷ H)).wire) (sym (map-append packet_on_wire (wire H) (items_of r)))
            (both_have (r ∷ H) (loads t H).wire (entry_loads r.made ms) (map packet_on_wire (wire H)) (map packet_on_wire (items_of r))
            (each_still r H (loads t H).wire (map packet_on_wire (wire H)) before.wire) (entries_have (r ∷ H) ms r.made makes));
        records = (record_packet (latest lab H r is g) before.wire records, records);
      }

pub each_carries_its_packet : EachCarriesItsPacket
each_carries_its_packet lab H is g =
    let all = are_carried lab H is g in
    record {
      wire = all.wire;
      waiting = λ n a m p. waiting_have H lab.topology H all.records n a m p;
      held = λ n a m p. held_have H lab.topology H all.records n a m p;
    }
