-- A tick of a client that asks in one datagram: what it asks, and where this leaves the client's way.
use Rattle.theory_answers.proofs.Words.{Act, AllByRecursion, Bool, ClientNode, Entry, Full, Item, Kind, Lab, List, Made, Node, None, Option, Send, Some, [], ap, arith, armed, asked_event, by_way, client, client_entry, client_settings, cond, copied, crossing_unless, false, false≢true, handed, is_at_place, is_node, is_some, journal, length, nat_tests, no_ep, node_at, or_loss, put, quiet, reached, refl, sent, sym, ticked, ticks, true, unwrap_or, way_out, wire, with_entries, with_entry, words, ℕ, ◌++◌, ◌==◌, ◌∙◌, ◌∷◌, ◌≡◌}
use Rattle.history.specs.declared.act.Act.TheVariants as act
use Rattle.legal.specs.Next.{acts}
use Rattle.theory_answers.proofs.Sent.{LeavesAt, leaves_at}

abbrev pub is_made : List Made → Bool
is_made [] = false
is_made (x ∷ more) = true

abbrev is_tick : Act → Bool
is_tick act.Tick = true
is_tick _ = false

module _ (lab : Lab) (H : List Full) (r : Full) (n : ℕ) (c : ClientNode) where
  -- what it does there
  abbrev pub done : Entry
  done = client_entry (client_settings lab.topology c) (journal n H) r.moment ticked (words lab n H)

  abbrev ticks_there : ℕ → ℕ → Node → Full
  ticks_there m k a = acts lab H (asked_event r) act.Tick None m k no_ep ticked a

  abbrev pub sends_of : List Send → List Made
  sends_of xs = (by_way lab H r.moment (way_out lab.chain c.nat) c.inside (armed H) 0 [] xs).made

  -- the record is a tick of client n, which is c
  pub record IsTick : Type 0 where
    pub fate : r.fate ≡ done.step.fate
    pub later : journal n (r ∷ H) ≡ with_entry (journal n H) done
    pub made : r.made ≡ sends_of done.step.sends
    pub first : r.first ≡ length (wire H)

  itself : (k : ℕ) → (k == k) ≡ true
  itself k = grind (arith, nat_tests)

  of_record : r ≡ ticks_there r.moment n (client c) → IsTick
  of_record same = record {
    fate = ap (λ (z : Full). z.fate) same;
    later = ap (λ (z : Full). journal n (z ∷ H)) same ∙ ap (λ (b : Bool). cond b (with_entries (journal n H) (Some done)) (journal n H)) (itself n);
    made = ap (λ (z : Full). z.made) same;
    first = ap (λ (z : Full). z.first) same;
  }

  nobody : r.node ≡ Some n → r.node ≡ None → ⊥
  nobody node none = false≢true (ap (λ (o : Option ℕ). is_some o) (sym none ∙ node))

  pub of_kind : node_at lab.topology n ≡ Some (client c) → r.node ≡ Some n → r.act ≡ act.Tick → is_made r.made ≡ true → Kind lab H r → IsTick
  of_kind there node tick made (quiet entry address none passed why) = absurd (false≢true (ap is_made (sym none) ∙ made))
  of_kind there node tick made (put src dst bytes asked same) = absurd (nobody node (ap (λ (z : Full). z.node) same))
  of_kind there node tick made (copied number src dst y asked at same) = absurd (nobody node (ap (λ (z : Full). z.node) same))
  of_kind there node tick made (handed v k y a hands at same) =
      absurd (false≢true (ap is_tick (sym (ap (λ (z : Full). z.act) same) ∙ tick)))
  of_kind there node tick made (reached number k y a delivers at route at_k same) =
      absurd (false≢true (ap is_tick (sym (ap (λ (z : Full). z.act) same) ∙ tick)))
  of_kind there node tick made (ticks ms due asked least early same) =
      let number : due.number ≡ n = ap (λ (o : Option ℕ). unwrap_or o due.number) (sym (ap (λ (z : Full). z.node) same) ∙ node) in
      let whose : due.node ≡ client c = ap (λ (o : Option Node). unwrap_or o due.node) (sym least.there ∙ ap (node_at lab.topology) number ∙ there) in
      let moment = ap (λ (z : Full). z.moment) same in
      of_record (same ∙ ap (λ (m : ℕ). ticks_there m due.number due.node) (sym moment) ∙ ap (λ (k : ℕ). ticks_there r.moment k due.node) number
      ∙ ap (ticks_there r.moment n) whose)

-- WHERE IT LEAVES

-- the one send of a tick
pub tick_leaves : (lab : Lab) (H : List Full) (r : Full) (n : ℕ) (c : ClientNode) (x : Send) (y : Item) → sends_of lab H r n c (x ∷ []) ≡ sent y ∷ []
    → LeavesAt x y
tick_leaves lab H r n c x y e = leaves_at x y
    (or_loss (is_at_place 0 (armed H)) (crossing_unless (is_at_place 0 (armed H)) lab H r.moment x.to (way_out lab.chain c.nat) c.inside []).leaves) e

-- WHERE IT DOES NOTHING MORE

-- its journal stays
pub idle_on : (n : ℕ) (H waits : List Full) → AllByRecursion (λ (r : Full). is_node n r.node ≡ false) waits → journal n (waits ++ H) ≡ journal n H
idle_on n H [] idle = refl
idle_on n H (r ∷ waits) idle = rw idle.0 (idle_on n H waits idle.1)
