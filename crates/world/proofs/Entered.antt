-- What comes onto the wire, one part after the other.
use Rattle.world.proofs.Words.{Bool, ComesOnto, Err, Extends, Item, List, Made, Mark, Ok, Puts, Result, Stop, WireState, [], ap, append-nil, append_assoc, arith, entries_in, false, false≢true, front_of, length, length-append, lost, mark_of, marks_of, refl, replicate, replicate-append-replicate, sent, sym, take-append_seam, true, with_items, ℕ, ◌++◌, ◌+◌, ◌∙◌, ◌∷◌, ◌≡◌}
use Rattle.history.specs.declared.turn.Stop.TheVariants as stop

-- ENTRIES AND MARKS OF TWO PARTS

pub entries_append : (ms ns : List Made) → entries_in (ms ++ ns) ≡ entries_in ms ++ entries_in ns
entries_append [] ns = refl
entries_append (sent item ∷ ms) ns = ap (λ (xs : List Item). item ∷ xs) (entries_append ms ns)
entries_append (lost why dst bytes ∷ ms) ns = entries_append ms ns

-- how many entries come of both
pub entries_both : (ms ns : List Made) → length (entries_in (ms ++ ns)) ≡ length (entries_in ms) + length (entries_in ns)
entries_both ms ns = ap (λ (xs : List Item). length xs) (entries_append ms ns) ∙ length-append (entries_in ms) (entries_in ns)

marks_append : (n : ℕ) (ms ns : List Made) → marks_of n (ms ++ ns) ≡ marks_of n ms ++ marks_of (n + length (entries_in ms)) ns
marks_append n [] ns = ap (λ (k : ℕ). marks_of k ns) (omega arith)
marks_append n (sent item ∷ ms) ns =
    ap (λ (rest : List Mark). mark_of n (sent item) ∷ rest) (marks_append (n + 1) ms ns ∙ ap (λ (k : ℕ). marks_of (n + 1) ms ++ marks_of k ns) (omega arith))
marks_append n (lost why dst bytes ∷ ms) ns = ap (λ (rest : List Mark). mark_of n (lost why dst bytes) ∷ rest) (marks_append n ms ns)

flags_twice : (done : List Bool) (xs ys : List Item) → (done ++ replicate (length xs) false) ++ replicate (length ys) false ≡ done ++ replicate (length (xs ++ ys)) false
flags_twice done xs ys =
    append_assoc done (replicate (length xs) false) (replicate (length ys) false)
    ∙ ap (λ (zs : List Bool). done ++ zs) (replicate-append-replicate (length xs) (length ys) false ∙ ap (λ (n : ℕ). replicate n false) (sym (length-append xs ys)))

items_twice : (w : WireState) (xs ys : List Item) → with_items (with_items w xs) ys ≡ with_items w (xs ++ ys)
items_twice w xs ys = λ i. record { items = append_assoc w.items xs ys i; done = flags_twice w.done xs ys i }

-- how long the wire is then
pub grown : (a b : WireState) (s t : List Mark) (ms : List Made) → ComesOnto a b s t ms → length b.items ≡ length a.items + length (entries_in ms)
grown a b s t ms p = ap (λ (w : WireState). length w.items) p.wire ∙ length-append a.items (entries_in ms)

pub nothing_enters : (w : WireState) (s : List Mark) → ComesOnto w w s s []
nothing_enters w s = record { wire = λ i. record { items = sym (append-nil w.items) i; done = sym (append-nil w.done) i }; marks = sym (append-nil s) }

-- NOTHING MADE

abbrev is_filled : List Made → Bool
is_filled [] = false
is_filled (m ∷ ms) = true

-- something was made
pub some_made : (m : Made) (ms : List Made) → m ∷ ms ≡ [] → ⊥
some_made m ms e = false≢true (sym (ap is_filled e))

second_none : (ms ns : List Made) → ms ++ ns ≡ [] → ns ≡ []
second_none [] ns e = e
second_none (m ∷ ms) ns e = absurd (some_made m (ms ++ ns) e)

first_none : (ms ns : List Made) → ms ++ ns ≡ [] → ms ≡ []
first_none [] ns e = refl
first_none (m ∷ ms) ns e = absurd (some_made m (ms ++ ns) e)

-- TWO PARTS, ONE AFTER THE OTHER

module _ (ms ns : List Made) where
  pub enters_twice : (a b c : WireState) (s t u : List Mark) → ComesOnto a b s t ms → ComesOnto b c t u ns → ComesOnto a c s u (ms ++ ns)
  enters_twice a b c s t u p q = record {
    wire = q.wire ∙ ap (λ (w : WireState). with_items w (entries_in ns)) p.wire ∙ items_twice a (entries_in ms) (entries_in ns) ∙ ap (with_items a) (sym (entries_append ms ns));
    marks = q.marks ∙ ap (λ (l : List Mark). l ++ marks_of (length b.items) ns) p.marks ∙ append_assoc s (marks_of (length a.items) ms) (marks_of (length b.items) ns)
        ∙ ap (λ (n : ℕ). s ++ (marks_of (length a.items) ms ++ marks_of n ns)) (grown a b s t ms p) ∙ ap (λ (l : List Mark). s ++ l) (sym (marks_append (length a.items) ms ns));
  }

  pub puts_then : (a b c : WireState) (s t u : List Mark) (r : Result (Unit {0}) Stop) → ComesOnto a b s t ms → Puts b c t u ns r → Puts a c s u (ms ++ ns) r
  puts_then a b c s t u (Ok done) p q = enters_twice a b c s t u p q
  puts_then a b c s t u (Err stop.WireFull) p q =
      let longer = grown a b s t ms p in
      let both = entries_both ms ns in
      omega (arith, q, longer, both)
  puts_then a b c s t u (Err stop.NoMemory) p q = λ none. q (second_none ms ns none)

  -- where the first isn't put, neither is the whole
  pub puts_stop : (a b c : WireState) (s t u : List Mark) (why : Stop) → Puts a b s t ms (Err why) → Puts a c s u (ms ++ ns) (Err why)
  puts_stop a b c s t u stop.WireFull p = let both = entries_both ms ns in omega (arith, p, both)
  puts_stop a b c s t u stop.NoMemory p = λ none. p (first_none ms ns none)

-- A WIRE THAT BEGINS AS IT WAS

pub begins_same : (w : WireState) → Extends w w
begins_same w = ([], (nothing_enters w []).wire)

pub begins_with : (a b : WireState) (s t : List Mark) (ms : List Made) → ComesOnto a b s t ms → Extends a b
begins_with a b s t ms p = (entries_in ms, p.wire)

pub begins_twice : (a b c : WireState) → Extends a b → Extends b c → Extends a c
begins_twice a b c p q = (p.0 ++ q.0, q.1 ∙ ap (λ (w : WireState). with_items w q.0) p.1 ∙ items_twice a p.0 q.0)

-- cut back it is what it was
pub cut_back : (old new : WireState) → Extends old new → length old.done ≡ length old.items → front_of (length old.items) new ≡ old
cut_back old new p each = rw (p.1, take-append_seam old.items p.0, ← each, take-append_seam old.done (replicate (length p.0) false)) refl

-- what isn't put isn't, whatever is left of it
pub puts_not : (a b c : WireState) (said : List Mark) (ms : List Made) (why : Stop) → Puts a b [] said ms (Err why) → Puts a c [] said ms (Err why)
puts_not a b c said ms stop.WireFull p = p
puts_not a b c said ms stop.NoMemory p = p
