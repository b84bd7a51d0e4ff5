-- What the writer knows of a record that it hears.
use Rattle.follow_writer.proofs.Words.{Draws, EndsTable, Ep, Event, FollowWriter, FollowsPackets, Full, Ip6, IsNews, IsToldOf, Item, List, LoadKeeper, Option, Record, Saying, StandsFor, StandsForLoads, TellsEnds, TopologyState, WorldState, ap, lab_in, latest_at, length, loads, map, record_follows, record_of, saying_by, sayings_of, source_delivered, subst, sym, told_line, wire, ℕ, ◌∙◌, ◌∷◌, ◌≡◌}
use Rattle.follow_writer.proofs.ToldOf.{told_of}

-- what a world shows of its last record is what is told of that
pub told_by_world : (t : TopologyState) (w : WorldState) (event : Event) (said : Record) (H : List Full) (r : Full) (peer : Option Ip6) (from : Option Ep) → IsNews t w event said H r
    → ((d : Draws) (G : List Full) → StandsFor d w G → peer ≡ latest_at w.topology G said.node) → from ≡ source_delivered w.wire said.act → IsToldOf t H r said peer from
told_by_world t w event said H r peer from news its_peer its_source =
    let is_peer : latest_at w.topology (r ∷ H) r.node ≡ peer =
    ap (λ (x : Record). latest_at w.topology (r ∷ H) x.node) (sym news.is) ∙ sym (its_peer news.draws (r ∷ H) news.stands) in
    let is_source : source_delivered (wire (r ∷ H)) r.act ≡ from =
    ap (λ (x : Record). source_delivered (wire (r ∷ H)) x.act) (sym news.is) ∙ ap (λ (items : List Item). source_delivered items said.act) (sym news.entries) ∙ sym its_source in
    subst (λ (own : TopologyState). IsToldOf own H r said peer from) news.topology
    (subst (λ (x : Record). IsToldOf w.topology H r x peer from) (sym news.is)
    (subst (λ (f : Option Ep). IsToldOf w.topology H r (record_of r) peer f) is_source
    (subst (λ (p : Option Ip6). IsToldOf w.topology H r (record_of r) p (source_delivered (wire (r ∷ H)) r.act)) is_peer (told_of (lab_in news.draws w) H r news.stands.grown))))

-- the keeper and the table are those of the records with this one, and this was said
abbrev pub KeepsAndSays : List Full → Full → LoadKeeper → EndsTable → List Saying → TopologyState → Type 0
KeepsAndSays H r k e ss t = StandsForLoads t k (r ∷ H) × TellsEnds t e (r ∷ H) × (ss ≡ sayings_of t H (loads t H) r)

-- what is noted by the writer's own topology is so by this one
pub noted_by : (A : TopologyState → Type 0) (t : TopologyState) (H : List Full) (r : Full) (w : FollowWriter) (said : Record) (peer : Option Ip6) (from : Option Ep)
    → FollowsPackets w t H → IsToldOf t H r said peer from → (FollowsPackets w w.topology.now H → IsToldOf w.topology.now H r said peer from → A w.topology.now) → A t
noted_by A t H r w said peer from kept told noted =
    subst A kept.topology
    (noted (subst (λ (own : TopologyState). FollowsPackets w own H) (sym kept.topology) kept) (subst (λ (own : TopologyState). IsToldOf own H r said peer from) (sym kept.topology) told))

-- the lines by what the writer keeps are those of the record
pub lines_follow : (t own : TopologyState) (H : List Full) (r : Full) (i : ℕ) (ss : List Saying) → own ≡ t → i ≡ length H → ss ≡ sayings_of t H (loads t H) r
    → map (told_line own) (map (saying_by i r) ss) ≡ record_follows t H r
lines_follow t own H r i ss at counted said =
    ap (λ (x : TopologyState). map (told_line x) (map (saying_by i r) ss)) at
    ∙ ap (λ (n : ℕ). map (told_line t) (map (saying_by n r) ss)) counted
    ∙ ap (λ (xs : List Saying). map (told_line t) (map (saying_by (length H) r) xs)) said
