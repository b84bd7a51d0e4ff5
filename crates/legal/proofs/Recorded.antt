-- Each entry of a journal has its record.
use Rattle.legal.proofs.Words.{Acted, Bool, Contains, EachIsRecorded, Entry, Full, IsActOf, IsRecorded, Lab, List, None, Option, Some, [], ap, arith, cond, does, false, false≢true, idles, is_node, is_restart, is_some, journal, new_journal, refl, subst, suc, sym, true, unwrap_or, with_entries, zero, ℕ, ◌∙◌, ◌∷◌, ◌≡◌}
use Rattle.legal.proofs.ByKind.{kind_of}
use Rattle.legal.proofs.Framed.{is_node-true}
use Rattle.legal.proofs.Actors.{acted_in}

pub nothing_in : {A : Type 0} (q : A) → Contains [] q → ⊥
nothing_in q c = let within = c.1 in omega (arith, within)

-- an earlier record's
further : (lab : Lab) (r : Full) (H : List Full) (n : ℕ) (q : Entry) → IsRecorded lab H n q → IsRecorded lab (r ∷ H) n q
further lab r H n q one = record { later = r ∷ one.later; record_of = one.record_of; earlier = one.earlier; split = ap (λ (z : List Full). r ∷ z) one.split; node = one.node; act = one.act }

-- the latest record's
latest : (lab : Lab) (r : Full) (H : List Full) (n : ℕ) (q : Entry) → Acted lab H r → r.node ≡ Some n → r.entry ≡ Some q → IsRecorded lab (r ∷ H) n q
latest lab r H n q (idles entry address hands late lets) node has = absurd (false≢true (ap (λ (o : Option Entry). is_some o) (sym entry ∙ has)))
latest lab r H n q (does k a e act) node has =
    let number : k ≡ n = ap (λ (o : Option ℕ). unwrap_or o k) (sym act.node ∙ node) in
    let one : e ≡ q = ap (λ (o : Option Entry). unwrap_or o e) (sym act.entry ∙ has) in
    record { later = []; record_of = r; earlier = H; split = refl; node = a; act = subst (λ (j : ℕ). IsActOf lab H r j a q) number (subst (λ (z : Entry). IsActOf lab H r k a z) one act) }

-- of the entries of a journal and one more
one_more : (lab : Lab) (r : Full) (H : List Full) (n : ℕ) (q : Entry) → (o : Option Entry) → r.entry ≡ o → Acted lab H r → r.node ≡ Some n
    → (Contains (journal n H).entries q → IsRecorded lab H n q) → Contains (with_entries (journal n H) o).entries q → IsRecorded lab (r ∷ H) n q
one_more lab r H n q None has acted node ih c = further lab r H n q (ih c)
one_more lab r H n q (Some e) has acted node ih (zero, within, at) = latest lab r H n q acted node (has ∙ ap (λ (z : Entry). Some z) at)
one_more lab r H n q (Some e) has acted node ih (suc i, within, at) = further lab r H n q (ih (i, omega (arith, within), at))

pub each_is_recorded : EachIsRecorded
each_is_recorded lab [] n q g c = absurd (nothing_in q c)
each_is_recorded lab (r ∷ H) n q g c = by_node (is_node n r.node) refl (each_is_recorded lab H n q g.1) c where
  by_start : (b : Bool) → r.node ≡ Some n → (Contains (journal n H).entries q → IsRecorded lab H n q) → Contains (cond b (new_journal r.moment) (with_entries (journal n H) r.entry)).entries q → IsRecorded lab (r ∷ H) n q
  by_start true node ih k = absurd (nothing_in q k)
  by_start false node ih k = one_more lab r H n q r.entry refl (acted_in lab H r (kind_of lab H r g.0)) node ih k

  by_node : (b : Bool) → is_node n r.node ≡ b → (Contains (journal n H).entries q → IsRecorded lab H n q)
      → Contains (cond b (cond (is_restart r.act) (new_journal r.moment) (with_entries (journal n H) r.entry)) (journal n H)).entries q → IsRecorded lab (r ∷ H) n q
  by_node true e ih k = by_start (is_restart r.act) (is_node-true n r.node e) ih k
  by_node false e ih k = further lab r H n q (ih k)
