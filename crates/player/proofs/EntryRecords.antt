-- The records of entries, one after the other.
use Rattle.player.proofs.Words.{BeginsLines, BeginsLines-more, BeginsLines-then, Err, Item, List, Ok, Rose, SinkState, Some, WritesLines, WritesLines-then, Writing, [], ap, append_assoc, arith, drop, drop_more, entry_record, get_or, get_or_from_slice_get, length, map, packet_of, record_pieces, refl, slice_get, slice_get_within, subst, sym, ℕ, ◌%◌, ◌*◌, ◌++◌, ◌+◌, ◌/◌, ◌<◌, ◌^◌, ◌∙◌, ◌∷◌, ◌≡◌}

-- a record with these numbers is that of the entry
pub record_is : (moment : ℕ) (item : Item) (sec frac orig : ℕ) (bytes : List ℕ) → sec ≡ moment / 1000 % 2 ^ 32 → frac ≡ moment % 1000 * 1000
    → orig ≡ length (packet_of item) → bytes ≡ packet_of item
    → record { sec = sec; frac = frac; orig = orig; bytes = bytes } ≡ entry_record moment item
record_is moment item sec frac orig bytes s f o b = rw (s, f, o, b) refl

-- ---- all entries from a number on

-- the pieces of the entries from this number on, which were made at this moment
abbrev pub pieces_from : ℕ → List Item → ℕ → List (List ℕ)
pieces_from moment items number = record_pieces (map (entry_record moment) (drop number items))

-- the pieces of those before a number were written, and these with the others are all of them
pub record Recorded (moment : ℕ) (items : List Item) (first number : ℕ) (before after : SinkState) : Type 0 where
  pub done : List (List ℕ)
  pub written : WritesLines before after done
  pub all : pieces_from moment items first ≡ done ++ pieces_from moment items number
  pub quiet : after.faults ≡ before.faults

-- the pieces from a number on begin with that of its entry
from_here : (moment : ℕ) (items : List Item) (number : ℕ) (item : Item) → slice_get items number ≡ Some item
    → pieces_from moment items number ≡ record_pieces (entry_record moment item ∷ []) ++ pieces_from moment items (number + 1)
from_here moment items number item is =
    let within : number < length items = slice_get_within items number item is in
    let here : get_or items number item ≡ item = get_or_from_slice_get items number item item is in
    ap (λ (l : List Item). record_pieces (map (entry_record moment) l))
    (drop_more items number item within ∙ ap (λ (x : Item). x ∷ drop (number + 1) items) here)

module _ (moment : ℕ) (items : List Item) (first number : ℕ) (before after end : SinkState) (r : Recorded moment items first number before after)
    (item : Item) (is : slice_get items number ≡ Some item) where
  all_on : pieces_from moment items first ≡ (r.done ++ record_pieces (entry_record moment item ∷ [])) ++ pieces_from moment items (number + 1)
  all_on =
      r.all ∙ ap (λ (l : List (List ℕ)). r.done ++ l) (from_here moment items number item is)
      ∙ sym (append_assoc r.done (record_pieces (entry_record moment item ∷ [])) (pieces_from moment items (number + 1)))

  -- one more
  pub one_recorded : {E : Type 0} → Writing {E = E} after end (record_pieces (entry_record moment item ∷ [])) (Ok tt)
      → Recorded moment items first (number + 1) before end
  one_recorded w = record {
    done = r.done ++ record_pieces (entry_record moment item ∷ []);
    written = WritesLines-then before after end r.done (record_pieces (entry_record moment item ∷ [])) r.written w.ok;
    all = all_on;
    quiet = w.cause.kept ∙ r.quiet;
  }

  -- the sink failed at it
  pub not_recorded : {E F : Type 0} (fault : E) (other : F) → Writing {E = E} after end (record_pieces (entry_record moment item ∷ [])) (Err fault)
      → Writing {E = F} before end (pieces_from moment items first) (Err other)
  not_recorded fault other w = record {
    ok = tt;
    err = subst (λ (l : List (List ℕ)). BeginsLines before end l) (sym all_on)
        (BeginsLines-more before end (r.done ++ record_pieces (entry_record moment item ∷ [])) (pieces_from moment items (number + 1))
        (BeginsLines-then before after end r.done (record_pieces (entry_record moment item ∷ [])) r.written w.err));
    cause = record {
      later = let l = w.cause.later in omega (arith, l, r.quiet);
      failed = subst (λ (n : ℕ). Rose n end.faults) r.quiet w.cause.failed;
      kept = tt;
    };
  }
