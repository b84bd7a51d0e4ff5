-- The rows of all packets, of which one changes.
use Rattle.load_ends.proofs.Words.{Bool, Full, List, Load, None, NumberedPacket, NumberedSaying, Option, Packet, PacketRow, ReplyTo, Saying, Some, TopologyState, [], ap, append-nil, arith, false, filter, filter-append, first_number, handed_in, handed_in_by, if◌then◌else◌, is_arrival, is_arrival_of, is_handing_in, is_said_of, kept_in_row, last_number_of, length, length-append, loads, map, nat_tests, no_entries, option_or, packet_number, part_after_saying, part_told, refl, reverse-append, row_told, rows_after_saying, rows_changed_at, same_load, saying_by, subst, suc, sym, true, with_part, zero, ℕ, ◌++◌, ◌+◌, ◌<◌, ◌==◌, ◌∙◌, ◌∷◌, ◌≡◌, ◌≢◌}

-- NUMBERS

-- these packets are numbered from n on
abbrev pub NumberedFrom : ℕ → List NumberedPacket → Type 0
NumberedFrom n [] = Unit {0}
NumberedFrom n (p ∷ ps) = (p.number ≡ n) × NumberedFrom (suc n) ps

numbered_more : (n : ℕ) (ps : List NumberedPacket) (p : NumberedPacket) → NumberedFrom n ps → p.number ≡ n + length ps → NumberedFrom n (ps ++ p ∷ [])
numbered_more n [] p w e = (omega (arith, e), tt)
numbered_more n (q ∷ ps) p w e = (w.0, numbered_more (suc n) ps p w.1 (omega (arith, e)))

numbered_with : (H : List Full) (r : Full) → NumberedFrom 0 (handed_in H) → (b : Bool) → NumberedFrom 0 (handed_in H ++ handed_in_by b (length (handed_in H)) (length H) r)
numbered_with H r was true = numbered_more 0 (handed_in H) _ was (omega arith)
numbered_with H r was false = subst (NumberedFrom 0) (sym (append-nil (handed_in H))) was

pub numbered : (H : List Full) → NumberedFrom 0 (handed_in H)
numbered [] = tt
numbered (r ∷ H) = numbered_with H r (numbered H) (is_handing_in r.act)

counted_with : (H : List Full) (r : Full) (n : ℕ) → length (handed_in H) ≡ n → (b : Bool) → length (handed_in H ++ handed_in_by b (length (handed_in H)) (length H) r) ≡ (if b then n + 1 else n)
counted_with H r n was true = length-append (handed_in H) _ ∙ ap (λ (k : ℕ). k + 1) was
counted_with H r n was false = ap length (append-nil (handed_in H)) ∙ was

-- as many as there are loads' packets
pub counted : (t : TopologyState) (H : List Full) → length (handed_in H) ≡ (loads t H).packets
counted t [] = refl
counted t (r ∷ H) = counted_with H r (loads t H).packets (counted t H) (is_handing_in r.act)

-- ONE ROW CHANGES

module _ (f g : NumberedPacket → PacketRow) where
  same_behind : (m n : ℕ) → m < n → (ps : List NumberedPacket) → NumberedFrom n ps → ((p : NumberedPacket) → p.number ≢ m → f p ≡ g p) → map f ps ≡ map g ps
  same_behind m n lt [] w alike = refl
  same_behind m n lt (p ∷ ps) w alike =
      let at = w.0 in rw (alike p (λ e. omega (arith, e, at, lt)), same_behind m (suc n) (omega (arith, lt)) ps w.1 alike) refl

  pub one_changed : (change : PacketRow → PacketRow) (n k m : ℕ) → m ≡ n + k → (ps : List NumberedPacket) → NumberedFrom n ps
      → ((p : NumberedPacket) → p.number ≡ m → change (f p) ≡ g p) → ((p : NumberedPacket) → p.number ≢ m → f p ≡ g p) → rows_changed_at change k (map f ps) ≡ map g ps
  one_changed change n k m at [] w here alike = refl
  one_changed change n zero m at (p ∷ ps) w here alike =
      let first = w.0 in rw (here p (omega (arith, first, at)), same_behind m (suc n) (omega (arith, at)) ps w.1 alike) refl
  one_changed change n (suc k) m at (p ∷ ps) w here alike =
      let first = w.0 in rw (alike p (λ e. omega (arith, e, first, at)), one_changed change (suc n) k m (omega (arith, at)) ps w.1 here alike) refl

-- A SAYING MORE

first_more : (xs : List NumberedSaying) (s : NumberedSaying) → first_number (xs ++ s ∷ []) ≡ option_or (first_number xs) (Some s.number)
first_more [] s = refl
first_more (x ∷ xs) s = refl

last_more : (xs : List NumberedSaying) (s : NumberedSaying) → last_number_of (xs ++ s ∷ []) ≡ Some s.number
last_more xs s = ap first_number (reverse-append xs (s ∷ []))

part_said : (ts : List NumberedSaying) (s : NumberedSaying) (e : Option ℕ) (l : Load) → (b : Bool) → same_load l s.saying.load ≡ b
    → part_told (ts ++ s ∷ []) e l ≡ (if b then part_after_saying s.number (is_arrival s.saying.way) (part_told ts e l) else part_told ts e l)
part_said ts s e l false is =
    let said : filter (is_said_of l) (ts ++ s ∷ []) ≡ filter (is_said_of l) ts = filter-append (is_said_of l) ts (s ∷ []) ∙ rw is (append-nil (filter (is_said_of l) ts)) in
    let arrives : filter (is_arrival_of l) (ts ++ s ∷ []) ≡ filter (is_arrival_of l) ts = filter-append (is_arrival_of l) ts (s ∷ []) ∙ rw is (append-nil (filter (is_arrival_of l) ts)) in
    rw (said, arrives) refl
part_said ts s e l true is = by (is_arrival s.saying.way) refl where
  last : last_number_of (filter (is_said_of l) (ts ++ s ∷ [])) ≡ Some s.number
  last = let kept : filter (is_said_of l) (ts ++ s ∷ []) ≡ filter (is_said_of l) ts ++ s ∷ [] = filter-append (is_said_of l) ts (s ∷ []) ∙ rw is refl in
      ap last_number_of kept ∙ last_more (filter (is_said_of l) ts) s

  by : (b : Bool) → is_arrival s.saying.way ≡ b → part_told (ts ++ s ∷ []) e l ≡ part_after_saying s.number b (part_told ts e l)
  by true a =
      let kept : filter (is_arrival_of l) (ts ++ s ∷ []) ≡ filter (is_arrival_of l) ts ++ s ∷ [] = filter-append (is_arrival_of l) ts (s ∷ []) ∙ rw (is, a) refl in
      let first : first_number (filter (is_arrival_of l) (ts ++ s ∷ [])) ≡ option_or (first_number (filter (is_arrival_of l) ts)) (Some s.number) = ap first_number kept ∙ first_more (filter (is_arrival_of l) ts) s in
      rw (last, first) refl
  by false a =
      let first : filter (is_arrival_of l) (ts ++ s ∷ []) ≡ filter (is_arrival_of l) ts = filter-append (is_arrival_of l) ts (s ∷ []) ∙ rw (is, a) (append-nil (filter (is_arrival_of l) ts)) in
      rw (last, first) refl

pub same_number : (a b : ℕ) → a ≡ b → (a == b) ≡ true
same_number a b e = grind (arith, nat_tests)

pub other_number : (a b : ℕ) → a ≢ b → (a == b) ≡ false
other_number a b e = grind (arith, nat_tests)

-- the row of a packet once something was said of its own load, and of another
module _ (ts : List NumberedSaying) (i : ℕ) (r : Full) where
  abbrev row_after : Saying → NumberedPacket → PacketRow
  row_after s p = row_told (ts ++ saying_by i r s ∷ []) no_entries p

  row_here : (s : Saying) (l : Load) → s.load ≡ l → (p : NumberedPacket) → p.number ≡ packet_number l
      → with_part l (part_after_saying i (is_arrival s.way) (kept_in_row l (row_told ts no_entries p))) (row_told ts no_entries p) ≡ row_after s p
  row_here s (Packet k) is p e = rw (part_said ts (saying_by i r s) None (Packet p.number) true (rw is (same_number p.number k e)), part_said ts (saying_by i r s) None (ReplyTo p.number) false (rw is refl)) refl
  row_here s (ReplyTo k) is p e = rw (part_said ts (saying_by i r s) None (ReplyTo p.number) true (rw is (same_number p.number k e)), part_said ts (saying_by i r s) None (Packet p.number) false (rw is refl)) refl

  row_elsewhere : (s : Saying) (l : Load) → s.load ≡ l → (p : NumberedPacket) → p.number ≢ packet_number l → row_told ts no_entries p ≡ row_after s p
  row_elsewhere s (Packet k) is p e = rw (part_said ts (saying_by i r s) None (Packet p.number) false (rw is (other_number p.number k e)), part_said ts (saying_by i r s) None (ReplyTo p.number) false (rw is refl)) refl
  row_elsewhere s (ReplyTo k) is p e = rw (part_said ts (saying_by i r s) None (ReplyTo p.number) false (rw is (other_number p.number k e)), part_said ts (saying_by i r s) None (Packet p.number) false (rw is refl)) refl

  pub rows_said : (s : Saying) (ps : List NumberedPacket) → NumberedFrom 0 ps → rows_after_saying i (map (row_told ts no_entries) ps) s ≡ map (row_after s) ps
  rows_said s ps w = one_changed (row_told ts no_entries) (row_after s) (λ (row : PacketRow). with_part s.load (part_after_saying i (is_arrival s.way) (kept_in_row s.load row)) row)
      0 (packet_number s.load) (packet_number s.load) (omega arith) ps w (row_here s s.load refl) (row_elsewhere s s.load refl)
