-- No NAT of a client's way is symmetric: what it sends next leaves from where its last datagram left, or is refused.
use Rattle.theory_reaching.proofs.Words.{Bool, Contains, Crossing, Ep, Err, Full, Hairpin, Lab, List, NatEntry, NatPasts, NatRefusal, NatSettings, None, Ok, Out, Outward, Passing, Result, [], after_passing, ap, arith, cond, counting, counts_itself, counts_on, crossing, false, false≢true, filter, is_symmetric, is_young, latest, list_any, live_after, live_port, nat_answer, nat_history, nat_of, nat_pasts, nat_set_up, nat_tests, or_parts, outs_at, passing, port_for, refl, same_ip, subst, suc, sym, true, zero, ℕ, ◌++◌, ◌<◌, ◌==◌, ◌∙◌, ◌∷◌, ◌≡◌}
use Rattle.nat_kinds.specs.History.{kept}
use Rattle.topology.specs.Chains.{answered}
use Rattle.legal.proofs.NatPasts as nat_past
use Rattle.theory_first_packets.proofs.passing.Ways.{answers}

-- A NAT THAT KEEPS NOTHING

-- where nothing is kept nothing counts
none_young : (n : ℕ) (es : List Outward) → filter (is_young 0 n) es ≡ []
none_young n [] = refl
none_young n (e ∷ es) = by (is_young 0 n e) (grind (arith, nat_tests)) (none_young n es) where
  by : (b : Bool) → b ≡ false → filter (is_young 0 n) es ≡ [] → cond b (e ∷ filter (is_young 0 n) es) (filter (is_young 0 n) es) ≡ []
  by false h ih = ih
  by true h ih = absurd (false≢true (sym h))

-- so each gets the first port
abbrev pub first_port : Result ℕ NatRefusal
first_port = port_for None []

keeps_nothing : (s : NatSettings) (h : List NatEntry) (n : ℕ) (inside dst : Ep) → s.idle ≡ 0
    → nat_answer s h n inside dst ≡ cond (same_ip dst.ip s.external) (Err Hairpin) first_port
keeps_nothing s h n inside dst none =
    let live : live_after s h n ≡ [] = ap (λ (i : ℕ). latest s.kind (counting i n h)) none ∙ ap (latest s.kind) (none_young n (kept h)) in
    ap (λ (l : List Outward). cond (same_ip dst.ip s.external) (Err Hairpin) (port_for (live_port s.kind inside dst l) l)) live

-- AN ANSWER

abbrev is_port : Result ℕ NatRefusal → Bool
is_port (Ok p) = true
is_port (Err why) = false

abbrev port_or : ℕ → Result ℕ NatRefusal → ℕ
port_or n (Ok p) = p
port_or n (Err why) = n

not_refused : (b : Bool) (r : Result ℕ NatRefusal) (p : ℕ) → cond b (Err Hairpin) r ≡ Ok p → (b ≡ false) × (r ≡ Ok p)
not_refused true r p e = absurd (false≢true (ap is_port e))
not_refused false r p e = (refl, e)

abbrev got_through : Result Ep NatRefusal → Bool
got_through (Ok e) = true
got_through (Err why) = false

abbrev where_left : Ep → Result Ep NatRefusal → Ep
where_left e (Ok o) = o
where_left e (Err why) = e

-- a client's sends at a moment, which NATs let out
module _ (lab : Lab) (H : List Full) (m : ℕ) where
  abbrev pub s : ℕ → NatSettings
  s k = nat_of lab k

  abbrev pub since : List Passing → NatPasts
  since passed = after_passing passed (nat_pasts lab H)

  abbrev pub exit : ℕ → ℕ → Ep
  exit k port = record { ip = (nat_set_up lab.topology k).external; port = port }

  abbrev pub Crossed : Ep → List ℕ → Ep → List Passing → Crossing
  Crossed dst way from passed = crossing lab.topology (nat_pasts lab H) m dst way from passed

  abbrev Answered : Ep → List ℕ → ℕ → Ep → List Passing → Result ℕ NatRefusal → Crossing
  Answered dst way k from passed r = answered lab.topology m k from dst passed (crossing lab.topology (nat_pasts lab H) m dst way) r

  -- WHAT COUNTS

  abbrev pub CountsAt : List Passing → ℕ → Outward → Type 0
  CountsAt passed k d = Contains (counting (s k).idle m (since passed k)) d

  abbrev Lasts : (passed later : List Passing) → Type 0
  Lasts passed later = (k : ℕ) (d : Outward) → CountsAt passed k d → CountsAt later k d

  one_lasts : (j : ℕ) (inside dst : Ep) (port : ℕ) (passed : List Passing) → Lasts passed (passing j m inside dst port ∷ passed)
  one_lasts j inside dst port passed k d c = by (j == k) where
    by : (b : Bool) → Contains (counting (s k).idle m (cond b (Out (passing j m inside dst port).datagram ∷ outs_at k passed) (outs_at k passed)
        ++ nat_history lab k H)) d
    by true = counts_on (s k).idle m (passing j m inside dst port).datagram (since passed k) d c
    by false = c

  all_last : (dst : Ep) (way : List ℕ) (from : Ep) (passed : List Passing) → Lasts passed (Crossed dst way from passed).passed
  all_last dst [] from passed k d c = c
  all_last dst (j ∷ way) from passed k d c = by (nat_answer (nat_set_up lab.topology j) (since passed j) m from dst)
      (λ port. all_last dst way (exit j port) (passing j m from dst port ∷ passed) k d (one_lasts j from dst port passed k d c)) where
        by : (r : Result ℕ NatRefusal) → ((port : ℕ) → CountsAt (Crossed dst way (exit j port) (passing j m from dst port ∷ passed)).passed k d)
            → CountsAt (Answered dst way j from passed r).passed k d
        by (Ok port) on = on port
        by (Err why) on = c

  it_counts : (k : ℕ) (inside dst : Ep) (port : ℕ) (passed : List Passing) → 0 < (s k).idle
      → CountsAt (passing k m inside dst port ∷ passed) k (passing k m inside dst port).datagram
  it_counts k inside dst port passed lives = by (k == k) (grind (arith, nat_tests)) where
    by : (b : Bool) → b ≡ true → Contains (counting (s k).idle m (cond b (Out (passing k m inside dst port).datagram ∷ outs_at k passed)
        (outs_at k passed) ++ nat_history lab k H)) (passing k m inside dst port).datagram
    by true e = counts_itself (s k).idle m (passing k m inside dst port).datagram (since passed k) refl lives
    by false e = absurd (false≢true e)

  -- WHAT A PORT WAS GIVEN TO

  -- a datagram from an inside endpoint that counts left NAT k by the port
  pub record HasLeft (passed : List Passing) (k : ℕ) (inside : Ep) (port : ℕ) : Type 0 where
    pub datagram : Outward
    pub counts : CountsAt passed k datagram
    pub left : datagram.inside ≡ inside
    pub by_port : datagram.port ≡ port

  -- so it was, or the NAT keeps nothing
  pub record Gave (passed : List Passing) (k : ℕ) (inside : Ep) (port : ℕ) : Type 0 where
    pub lasting : 0 < (s k).idle → HasLeft passed k inside port
    pub first : (s k).idle ≡ 0 → first_port ≡ Ok port

  -- each of these NATs did, one being asked about where the one before it lets a datagram out: the last one does at `out`
  abbrev pub Given : List Passing → List ℕ → (inside out : Ep) → Type 0
  Given passed [] inside out = inside ≡ out
  Given passed (k ∷ way) inside out = (port : ℕ) × Gave passed k inside port × Given passed way (exit k port) out

  given_on : (passed later : List Passing) → Lasts passed later → (way : List ℕ) (inside out : Ep) → Given passed way inside out
      → Given later way inside out
  given_on passed later lasts [] inside out same = same
  given_on passed later lasts (k ∷ way) inside out given = (
    given.0,
    record {
      lasting = λ lives. let left = given.1.lasting lives in record {
        datagram = left.datagram;
        counts = lasts k left.datagram left.counts;
        left = left.left;
        by_port = left.by_port;
      };
      first = given.1.first;
    },
    given_on passed later lasts way (exit k given.0) out given.2,
  )

  -- what left was given its ports
  pub was_given : (dst : Ep) (way : List ℕ) (inside out : Ep) (passed : List Passing) → (Crossed dst way inside passed).leaves ≡ Ok out
      → Given (Crossed dst way inside passed).passed way inside out
  was_given dst [] inside out passed e = ap (where_left inside) e
  was_given dst (k ∷ way) inside out passed e = by (nat_answer (nat_set_up lab.topology k) (since passed k) m inside dst) refl e
      (λ port. was_given dst way (exit k port) out (passing k m inside dst port ∷ passed)) where
        gave : (port : ℕ) → nat_answer (s k) (since passed k) m inside dst ≡ Ok port
            → Gave (Crossed dst way (exit k port) (passing k m inside dst port ∷ passed)).passed k inside port
        gave port at = record {
          lasting = λ lives. record {
            datagram = (passing k m inside dst port).datagram;
            counts = all_last dst way (exit k port) (passing k m inside dst port ∷ passed) k (passing k m inside dst port).datagram
                (it_counts k inside dst port passed lives);
            left = refl;
            by_port = refl;
          };
          first = λ none. (not_refused (same_ip dst.ip (s k).external) first_port port
              (sym (keeps_nothing (s k) (since passed k) m inside dst none) ∙ at)).1;
        }

        by : (r : Result ℕ NatRefusal) → nat_answer (s k) (since passed k) m inside dst ≡ r → (Answered dst way k inside passed r).leaves ≡ Ok out
            → ((port : ℕ) → (Crossed dst way (exit k port) (passing k m inside dst port ∷ passed)).leaves ≡ Ok out
            → Given (Crossed dst way (exit k port) (passing k m inside dst port ∷ passed)).passed way (exit k port) out)
            → Given (Answered dst way k inside passed r).passed (k ∷ way) inside out
        by (Ok port) at f on = (port, gave port at, on port f)
        by (Err why) at f on = absurd (false≢true (ap got_through f))

  -- THE NEXT ONE

  -- it gets the same port, whatever its destination
  same_port : (k : ℕ) (inside dst : Ep) (port next : ℕ) (passed : List Passing) → is_symmetric (s k).kind ≡ false → nat_past.Past lab H m k passed
      → Gave passed k inside port → nat_answer (s k) (since passed k) m inside dst ≡ Ok next → next ≡ port
  same_port k inside dst port next passed kind past gave at = by (s k).idle refl where
    by : (i : ℕ) → (s k).idle ≡ i → next ≡ port
    by zero none = ap (port_or port) (sym (not_refused (same_ip dst.ip (s k).external) first_port next
        (sym (keeps_nothing (s k) (since passed k) m inside dst none) ∙ at)).1 ∙ gave.first none)
    by (suc i) some =
        let left = gave.lasting (omega (arith, some)) in
        ap (port_or port) (sym at ∙ answers {s = s k} {h = since passed k} {n = m} {inside = inside} {port = port} (record {
          past = past;
          datagram = left.datagram;
          counts = left.counts;
          left = left.left;
          by_port = left.by_port;
        }) dst kind (not_refused (same_ip dst.ip (s k).external)
        (port_for (live_port (s k).kind inside dst (live_after (s k) (since passed k) m)) (live_after (s k) (since passed k) m)) next at).0)

  pub same_source : (dst : Ep) (way : List ℕ) (inside out src : Ep) (passed : List Passing)
      → list_any (λ (k : ℕ). is_symmetric (nat_of lab k).kind) way ≡ false → ((k : ℕ) → nat_past.Past lab H m k passed)
      → Given passed way inside out → (Crossed dst way inside passed).leaves ≡ Ok src → src ≡ out
  same_source dst [] inside out src passed kinds pasts given e = sym (ap (where_left inside) e) ∙ given
  same_source dst (k ∷ way) inside out src passed kinds pasts given e =
      by (nat_answer (nat_set_up lab.topology k) (since passed k) m inside dst) refl e
      (λ port. same_source dst way (exit k port) out src (passing k m inside dst port ∷ passed) both.1) where
        both : (is_symmetric (s k).kind ≡ false) × (list_any (λ (j : ℕ). is_symmetric (nat_of lab j).kind) way ≡ false)
        both = or_parts (is_symmetric (s k).kind) (list_any (λ (j : ℕ). is_symmetric (nat_of lab j).kind) way) kinds

        by : (r : Result ℕ NatRefusal) → nat_answer (s k) (since passed k) m inside dst ≡ r → (Answered dst way k inside passed r).leaves ≡ Ok src
            → ((port : ℕ) → ((j : ℕ) → nat_past.Past lab H m j (passing k m inside dst port ∷ passed))
            → Given (passing k m inside dst port ∷ passed) way (exit k port) out
            → (Crossed dst way (exit k port) (passing k m inside dst port ∷ passed)).leaves ≡ Ok src → src ≡ out)
            → src ≡ out
        by (Ok port) at f on =
            let same = same_port k inside dst given.0 port passed both.0 (pasts k) given.1 at in
            on port (λ j. nat_past.one_more lab H m j k inside dst port passed at (pasts j))
            (subst (λ (p : ℕ). Given (passing k m inside dst port ∷ passed) way (exit k p) out) (sym same)
            (given_on passed (passing k m inside dst port ∷ passed) (one_lasts k inside dst port passed) way (exit k given.0) out given.2)) f
        by (Err why) at f on = absurd (false≢true (ap got_through f))
