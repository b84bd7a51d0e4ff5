-- Lines on packets, one after the other.
use Rattle.load_ends.proofs.Words.{Counts, Draws, EndCounts, Err, Full, List, LoadKeeper, NumberedPacket, NumberedSaying, Ok, PacketRow, SinkState, StandsFor, StandsForLoads, TopologyState, Whereabouts, WorldState, WritesLines, WritesLines-then, Writing, [], all_sayings, ap, arith, both_written, drop, ended_early, entries_from, get_or, length, length-append, loads, map, map-append, none_written, now, refl, row_told, rows_from, subst, sym, take, take-append-drop, take_all, take_more, whereabouts_line, whereabouts_of, ℕ, ◌++◌, ◌+◌, ◌<◌, ◌∙◌, ◌∷◌, ◌≡◌, ◌≤◌}
use Rattle.load_ends.proofs.Places.{all_told, packet_at, as_many, its_number, its_row, its_place}

-- All of these stand for a history: the world, the keeper and the rows.
pub record StandForAll (w : WorldState) (k : LoadKeeper) (rows : List PacketRow) (H : List Full) : Type 0 where
  pub draws : Draws
  pub stands : StandsFor draws w H
  pub kept : StandsForLoads w.topology k H
  pub are : rows ≡ rows_from w.topology H 0

-- Lines on so many packets were written, and they were counted; nothing failed. They are the first ones of each history that all of it stands for.
pub record Told (w : WorldState) (k : LoadKeeper) (rows : List PacketRow) (old new : SinkState) (counts : EndCounts) (i : ℕ) : Type 0 where
  pub ws : List Whereabouts
  pub written : WritesLines old new (map (whereabouts_line w.topology) ws)
  pub counted : Counts counts ws
  pub count : length ws ≡ i
  pub quiet : new.faults ≡ old.faults
  pub are : (H : List Full) → StandForAll w k rows H → ws ≡ take i (all_told w.topology H)

-- Where the packet at a place is, after each history that all of it stands for.
pub record NextTold (w : WorldState) (k : LoadKeeper) (rows : List PacketRow) (i : ℕ) (x : Whereabouts) : Type 0 where
  pub within : i < length rows
  pub is_there : (H : List Full) → StandForAll w k rows H → x ≡ get_or (all_told w.topology H) i x

-- This is where the packet of a number is, if this is its row at the moment m.
abbrev pub IsOfRow : LoadKeeper → ℕ → ℕ → PacketRow → Whereabouts → Type 0
IsOfRow k m n row x = (t : TopologyState) (H : List Full) (ts : List NumberedSaying) (p : NumberedPacket) → StandsForLoads t k H → m ≡ now H → n ≡ p.number
    → row ≡ row_told ts (entries_from H (loads t H).wire 0) p → x ≡ whereabouts_of t H ts p

pub next_told : (w : WorldState) (k : LoadKeeper) (rows items : List PacketRow) (i m : ℕ) (d : PacketRow) (x : Whereabouts) → IsOfRow k m i (get_or items i d) x → items ≡ rows → i < length rows
    → ((u : Draws) (H : List Full) → StandsFor u w H → m ≡ now H) → NextTold w k rows i x
next_told w k rows items i m d x of_row same within moment = record { within = within; is_there = there } where
  there : (H : List Full) → StandForAll w k rows H → x ≡ get_or (all_told w.topology H) i x
  there H all = its_place w.topology H rows all.are i within x (of_row w.topology H (all_sayings w.topology H) (packet_at H i) all.kept (moment all.draws H all.stands) (its_number w.topology H rows all.are i within)
      (its_row w.topology H rows all.are i within (get_or items i d) d (ap (λ (xs : List PacketRow). get_or xs i d) same)))

module _ (w : WorldState) (k : LoadKeeper) (rows : List PacketRow) (old : SinkState) where
  -- before the first
  pub none_told : (counts : EndCounts) → Counts counts [] → Told w k rows old old counts 0
  none_told counts none = record { ws = []; written = none_written old; counted = none; count = refl; quiet = refl; are = λ H all. refl }

  module _ {mid : SinkState} {counts : EndCounts} {i : ℕ} {x : Whereabouts} (new : SinkState) (next : NextTold w k rows i x) (told : Told w k rows old mid counts i) where
    with_one : (H : List Full) → StandForAll w k rows H → told.ws ++ x ∷ [] ≡ take (i + 1) (all_told w.topology H)
    with_one H all =
        let places = all_told w.topology H in
        let fits : i < length places = omega (arith, next.within, as_many w.topology H rows all.are) in
        ap (λ (ws : List Whereabouts). ws ++ x ∷ []) (told.are H all) ∙ ap (λ (y : Whereabouts). take i places ++ y ∷ []) (next.is_there H all) ∙ sym (take_more places i x fits)

    -- one more
    pub one_told : {E : Type 0} (more : EndCounts) → Writing {E = E} mid new (whereabouts_line w.topology x ∷ []) (Ok tt) → Counts more (told.ws ++ x ∷ []) → Told w k rows old new more (i + 1)
    one_told more line counted = record {
      ws = told.ws ++ x ∷ [];
      written = subst (λ (lines : List (List ℕ)). WritesLines old new lines) (sym (map-append (whereabouts_line w.topology) told.ws (x ∷ [])))
          (WritesLines-then old mid new (map (whereabouts_line w.topology) told.ws) (whereabouts_line w.topology x ∷ []) told.written line.ok);
      counted = counted;
      count = length-append told.ws (x ∷ []) ∙ ap (λ (n : ℕ). n + 1) told.count;
      quiet = line.cause.kept ∙ told.quiet;
      are = with_one;
    }

    -- the sink failed at the next
    pub front_told : {E F : Type 0} (e : E) (f : F) → Writing {E = E} mid new (whereabouts_line w.topology x ∷ []) (Err e) → (H : List Full) → StandForAll w k rows H
        → Writing {E = F} old new (map (whereabouts_line w.topology) (all_told w.topology H)) (Err f)
    front_told {E} {F} e f line H all =
        let places = all_told w.topology H in
        let text = whereabouts_line w.topology in
        let rest = drop (i + 1) places in
        let first : Writing {E = E} old mid (map text told.ws) (Ok tt) = record { ok = told.written; err = tt; cause = record { later = (let q = told.quiet in omega (arith, q)); failed = tt; kept = told.quiet } } in
        let front : Writing {E = E} old new (map text told.ws ++ text x ∷ []) (Err e) = both_written {E = E} {F = E} old mid new (map text told.ws) (text x ∷ []) (Err e) first line in
        let whole : (told.ws ++ x ∷ []) ++ rest ≡ places = ap (λ (ws : List Whereabouts). ws ++ rest) (with_one H all) ∙ take-append-drop (i + 1) places in
        let lines : (map text told.ws ++ text x ∷ []) ++ map text rest ≡ map text places =
        ap (λ (ls : List (List ℕ)). ls ++ map text rest) (sym (map-append text told.ws (x ∷ []))) ∙ sym (map-append text (told.ws ++ x ∷ []) rest) ∙ ap (map text) whole in
        subst (λ (ls : List (List ℕ)). Writing {E = F} old new ls (Err f)) lines (ended_early {E = E} {F = F} old new (map text told.ws ++ text x ∷ []) (map text rest) e f front)

  module _ {counts : EndCounts} {i : ℕ} (new : SinkState) (end : length rows ≤ i) (told : Told w k rows old new counts i) (H : List Full) (all : StandForAll w k rows H) where
    are_all : told.ws ≡ all_told w.topology H
    are_all = told.are H all ∙ take_all i (all_told w.topology H) (omega (arith, end, as_many w.topology H rows all.are))

    -- all of them
    pub all_written : {E : Type 0} → Writing {E = E} old new (map (whereabouts_line w.topology) (all_told w.topology H)) (Ok tt)
    all_written {E} = subst (λ (ws : List Whereabouts). Writing {E = E} old new (map (whereabouts_line w.topology) ws) (Ok tt)) are_all
        (record { ok = told.written; err = tt; cause = record { later = (let q = told.quiet in omega (arith, q)); failed = tt; kept = told.quiet } })

    pub all_counted : Counts counts (all_told w.topology H)
    all_counted = subst (Counts counts) are_all told.counted
