-- The lines on pairs of hosts, one after the other.
use Rattle.reach_query.proofs.Words.{AreCounted, BeginsLines, BeginsLines-more, BeginsLines-then, Draws, Err, Full, Lab, List, None, Ok, Option, PairCounts, Reach, Result, Rose, Said, SaysPairs, SinkState, Some, TopologyState, WorldState, WritesLines, WritesLines-then, Writing, [], ap, append-nil, append_assoc, arith, cons_option, false, flat_map, has_host, lab_in, length, lines_of_said, map, map-append, node_at, nodes, none_written, nothing_wrote, option_map, range_with_len, reach_of, refl, said_from, said_line, said_of_all, said_of_each, said_total, subst, sym, ℕ, ◌++◌, ◌+◌, ◌-◌, ◌<◌, ◌∙◌, ◌∷◌, ◌≡◌}
use Rattle.reach_query.proofs.NoWord.{from_nobody}
use Rattle.reach_query.proofs.PairNumbers.{range_head, none_counted, counted_then}

-- ---- the pairs of one node

-- none where there is no word on the two
pub no_pair : (lab : Lab) (H : List Full) (n m : ℕ) → reach_of lab H n m ≡ None → said_from lab H (m ∷ []) n ≡ []
no_pair lab H n m is = ap (λ (o : Option Reach). cons_option (option_map (λ (w : Reach). record { from = n; to = m; said = w }) o) []) is

-- nor any of a node that is no host
pub nobody_said : (lab : Lab) (H : List Full) (n : ℕ) (ms : List ℕ) → has_host (node_at lab.topology n) ≡ false → said_from lab H ms n ≡ []
nobody_said lab H n [] e = refl
nobody_said lab H n (m ∷ ms) e =
    (λ i. cons_option (option_map (λ (w : Reach). record { from = n; to = m; said = w }) (from_nobody lab H n m e i)) (said_from lab H ms n))
    ∙ nobody_said lab H n ms e

consed : {A : Type 0} (o : Option A) (xs : List A) → cons_option o xs ≡ cons_option o [] ++ xs
consed None xs = refl
consed (Some x) xs = refl

-- with one other node, and then with the others
pub pair_first : (lab : Lab) (H : List Full) (n m : ℕ) (ms : List ℕ) → said_from lab H (m ∷ ms) n ≡ said_from lab H (m ∷ []) n ++ said_from lab H ms n
pair_first lab H n m ms = consed (option_map (λ (w : Reach). record { from = n; to = m; said = w }) (reach_of lab H n m)) (said_from lab H ms n)

-- so with those from a number on
pub pairs_on : (lab : Lab) (H : List Full) (n m end : ℕ) → m < end
    → said_from lab H (range_with_len m (end - m)) n ≡ said_from lab H (m ∷ []) n ++ said_from lab H (range_with_len (m + 1) (end - (m + 1))) n
pairs_on lab H n m end within =
    ap (λ (ms : List ℕ). said_from lab H ms n) (range_head m end within) ∙ pair_first lab H n m (range_with_len (m + 1) (end - (m + 1)))

-- and the pairs of one node, and then those of the others
pub nodes_on : (lab : Lab) (H : List Full) (numbers : List ℕ) (n end : ℕ) → n < end
    → flat_map (said_from lab H numbers) (range_with_len n (end - n))
    ≡ said_from lab H numbers n ++ flat_map (said_from lab H numbers) (range_with_len (n + 1) (end - (n + 1)))
nodes_on lab H numbers n end within = ap (flat_map (said_from lab H numbers)) (range_head n end within)

-- where there is none nothing is written
pub none_said : {E : Type 0} (t : TopologyState) (ps : List Said) (a : SinkState) (c : PairCounts) → ps ≡ []
    → SaysPairs {E = E} t ps a a c c (Ok tt)
none_said {E} t ps a c none =
    subst (λ (z : List Said). SaysPairs {E = E} t z a a c c (Ok tt)) (sym none) (record { written = nothing_wrote a; counted = none_counted c })

-- ---- one after the other

-- the lines of those before were written, and these with the others are all of them
pub record SaidSome (t : TopologyState) (all rest : List Said) (before after : SinkState) (old new : PairCounts) : Type 0 where
  pub done : List Said
  pub all_is : all ≡ done ++ rest
  pub written : WritesLines before after (map (said_line t) done)
  pub counted : AreCounted done old new
  pub quiet : after.faults ≡ before.faults

pub none_yet : (t : TopologyState) (all rest : List Said) (a : SinkState) (c : PairCounts) → all ≡ rest → SaidSome t all rest a a c c
none_yet t all rest a c is = record { done = []; all_is = is; written = none_written a; counted = none_counted c; quiet = refl }

-- the sink and the counts before any of these, behind some, and behind some more
pub record SomeMore : Type 0 where
  pub before : SinkState
  pub after : SinkState
  pub end : SinkState
  pub old : PairCounts
  pub mid : PairCounts
  pub new : PairCounts

module _ (the : SomeMore) (t : TopologyState) (all rest ps rest' : List Said)
    (s : SaidSome t all rest the.before the.after the.old the.mid) (is : rest ≡ ps ++ rest') where
  open the use {before, after, end, old, mid, new}

  all_on : all ≡ (s.done ++ ps) ++ rest'
  all_on = s.all_is ∙ ap (λ (l : List Said). s.done ++ l) is ∙ sym (append_assoc s.done ps rest')

  lines_on : map (said_line t) all ≡ (map (said_line t) s.done ++ map (said_line t) ps) ++ map (said_line t) rest'
  lines_on =
      ap (map (said_line t)) all_on ∙ map-append (said_line t) (s.done ++ ps) rest'
      ∙ ap (λ (l : List (List ℕ)). l ++ map (said_line t) rest') (map-append (said_line t) s.done ps)

  -- some more
  pub some_more : {E : Type 0} → SaysPairs {E = E} t ps after end mid new (Ok tt) → SaidSome t all rest' before end old new
  some_more w = record {
    done = s.done ++ ps;
    all_is = all_on;
    written =
        subst (WritesLines before end) (sym (map-append (said_line t) s.done ps))
        (WritesLines-then before after end (map (said_line t) s.done) (map (said_line t) ps) s.written w.written.ok);
    counted = counted_then s.done ps old mid new s.counted w.counted;
    quiet = w.written.cause.kept ∙ s.quiet;
  }

  -- the sink failed at one of these
  pub broken_off : {E F : Type 0} (fault : E) (other : F) → SaysPairs {E = E} t ps after end mid new (Err fault)
      → SaysPairs {E = F} t all before end old new (Err other)
  broken_off fault other w = record {
    written = record {
      ok = tt;
      err =
          subst (BeginsLines before end) (sym lines_on)
          (BeginsLines-more before end (map (said_line t) s.done ++ map (said_line t) ps) (map (said_line t) rest')
          (BeginsLines-then before after end (map (said_line t) s.done) (map (said_line t) ps) s.written w.written.err));
      cause = record {
        later = let l = w.written.cause.later in omega (arith, l, s.quiet);
        failed = subst (λ (n : ℕ). Rose n end.faults) s.quiet w.written.cause.failed;
        kept = tt;
      };
    };
    counted = tt;
  }

-- none is left
pub all_said : {E : Type 0} (t : TopologyState) (all rest : List Said) (before after : SinkState) (old new : PairCounts)
    → SaidSome t all rest before after old new → rest ≡ [] → SaysPairs {E = E} t all before after old new (Ok tt)
all_said t all rest before after old new s none =
    let done : s.done ≡ all = sym (s.all_is ∙ ap (λ (l : List Said). s.done ++ l) none ∙ append-nil s.done) in
    record {
      written = record {
        ok = subst (λ (l : List Said). WritesLines before after (map (said_line t) l)) done s.written;
        err = tt;
        cause = record { later = omega (arith, s.quiet); failed = tt; kept = s.quiet };
      };
      counted = subst (λ (l : List Said). AreCounted l old new) done s.counted;
    }

-- ---- all pairs of a world, and the last line

-- where the names are those of the world's nodes
pub said_in : {E : Type 0} (w : WorldState) (d : Draws) (H : List Full) (t : TopologyState) (before after : SinkState) (old new : PairCounts)
    (result : Result (Unit {0}) E) → t ≡ w.topology
    → SaysPairs {E = E} t (said_of_each (lab_in d w) H (range_with_len 0 (length (nodes t)))) before after old new result
    → SaysPairs {E = E} w.topology (said_of_all (lab_in d w) H) before after old new result
said_in {E} w d H t before after old new result same says =
    subst (λ (z : TopologyState). SaysPairs {E = E} z (said_of_each (lab_in d w) H (range_with_len 0 (length (nodes z)))) before after old new result) same says

-- the sink failed at a pair
pub pairs_unsaid : {E F : Type 0} (t : TopologyState) (ps : List Said) (before end : SinkState) (old new : PairCounts) (fault : E) (other : F)
    → SaysPairs {E = E} t ps before end old new (Err fault) → Writing {E = F} before end (lines_of_said t ps) (Err other)
pairs_unsaid t ps before end old new fault other s = record {
  ok = tt;
  err = BeginsLines-more before end (map (said_line t) ps) (said_total ps ∷ []) s.written.err;
  cause = record { later = s.written.cause.later; failed = s.written.cause.failed; kept = tt };
}

-- behind all pairs
pub total_ends : {E F : Type 0} (t : TopologyState) (ps : List Said) (before after end : SinkState) (old new : PairCounts) (result : Result (Unit {0}) F)
    → SaysPairs {E = E} t ps before after old new (Ok tt) → Writing {E = F} after end (said_total ps ∷ []) result
    → Writing {E = F} before end (lines_of_said t ps) result
total_ends t ps before after end old new (Ok x) s w = record {
  ok = WritesLines-then before after end (map (said_line t) ps) (said_total ps ∷ []) s.written.ok w.ok;
  err = tt;
  cause = record {
    later = let first = s.written.cause.later in let l = w.cause.later in omega (arith, first, l);
    failed = tt;
    kept = w.cause.kept ∙ s.written.cause.kept;
  };
}
total_ends t ps before after end old new (Err fault) s w = record {
  ok = tt;
  err = BeginsLines-then before after end (map (said_line t) ps) (said_total ps ∷ []) s.written.ok w.err;
  cause = record {
    later = let first = s.written.cause.later in let l = w.cause.later in omega (arith, first, l);
    failed = subst (λ (n : ℕ). Rose n end.faults) s.written.cause.kept w.cause.failed;
    kept = tt;
  };
}
