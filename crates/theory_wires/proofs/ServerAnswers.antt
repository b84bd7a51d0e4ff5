-- What a server makes of what is delivered to it: a datagram of it goes out where one came of which it is the output, and no other.
use Rattle.theory_wires.proofs.Words.{AllByRecursion, Bool, Contains, Datagram, Entry, Ep, Full, Grown, Input, IsActOf, IsGiven, IsOwnIfSent, IsOwnSend, Item, Lab, List, Made, None, Option, Send, ServerNode, ServerSettings, Some, Span, Step, [], and_parts, ap, arith, arrived, count_by, delivered, entry_of, false, false≢true, filter_map, from_six, given, hosted, inl, inr, is_audited, is_same, is_sent_by, item_in, items_of, length, lost, makes_its_own, nothing_in, now, one_output, output, own_ep, own_send, own_voices, refl, routes, same_datagram, same_ep, same_ep-true, sent, server, server_row, side_at, six, six_made, slice_get, speaks_for, subst, sym, ticked, ticks, true, udp, wire, ℕ, ◌++◌, ◌∙◌, ◌∷◌, ◌≡◌, ◌≤◌, ◌⊎◌}
use Rattle.theory_wires.proofs.Counting.{one_if, count_cons}
use Rattle.theory_wires.proofs.Places.{held, as_many}
use Rattle.theory_wires.proofs.ServerReplies.{Audited, settings_of, replies}

-- an entry is d, and its output is
abbrev pub is_datagram : Datagram → Item → Bool
is_datagram d x = is_same d (held x)

abbrev pub draws_datagram : ServerSettings → Datagram → Item → Bool
draws_datagram s d x = is_same d (output s (held x))

-- the record after H makes no entry of the one kind, or one on the delivery of an entry of the other
pub data Answers (f o : Item → Bool) (H : List Full) (r : Full) : Type 0 where
  silent : count_by f (items_of r) ≡ 0 → Answers f o H r
  answers : count_by f (items_of r) ≤ 1 → (k : ℕ) (y : Item) → r.delivered ≡ Some k → slice_get (wire H) k ≡ Some y → o y ≡ true → Answers f o H r

-- ONE SERVER, AND ONE OF ITS DATAGRAMS

module _ (v : Audited) (d : Datagram) (mine : is_audited (settings_of v) d.src ≡ true) where
  abbrev lab : Lab
  lab = v.lab

  abbrev n : ℕ
  n = v.number

  abbrev a : ServerNode
  a = v.row

  abbrev s : ServerSettings
  s = settings_of v

  abbrev f : Item → Bool
  f = is_datagram d

  abbrev o : Item → Bool
  o = draws_datagram s d

  source_is : (src dst : Ep) (bytes : List ℕ) → f (udp src dst bytes) ≡ true → is_sent_by a (udp src dst bytes) ≡ true
  unfolding same_datagram is_audited
  source_is src dst bytes e =
      let parts = and_parts (same_ep d.src src) _ e in
      ap (λ (z : Ep). is_audited s z) (sym (same_ep-true d.src src parts.0)) ∙ mine

  of_it : (x : Item) → f x ≡ true → is_sent_by a x ≡ true
  of_it (udp src dst bytes) e = source_is src dst bytes e
  of_it (six relay bytes) e = absurd (false≢true e)

  -- WHAT A RECORD MAKES

  no_more : (front : List Made) (i : Input) (span : Option Span) → count_by f (filter_map item_in (front ++ six_made i span)) ≤ length front
  no_more [] (arrived from x) (Some span) = omega arith
  no_more [] (arrived from x) None = omega arith
  no_more [] (given x) span = omega arith
  no_more [] (from_six x) span = omega arith
  no_more [] ticked span = omega arith
  no_more (sent item ∷ front) i span =
      let whole = count_cons f item (filter_map item_in (front ++ six_made i span)) in
      let rest = no_more front i span in
      let one : one_if (f item) ≤ 1 = by (f item) in
      omega (arith, whole, rest, one)
    where
      by : (b : Bool) → one_if b ≤ 1
      by true = omega arith
      by false = omega arith
  no_more (lost why dst bytes ∷ front) i span = let rest = no_more front i span in omega (arith, rest)

  -- one of them is d, or none
  found : (P : Item → Type 0) (xs : List Item) → AllByRecursion P xs → (count_by f xs ≡ 0) ⊎ ((x : Item) × (f x ≡ true) × P x)
  found P [] made = inl refl
  found P (x ∷ xs) made = by (f x) refl (found P xs made.1) where
    by : (b : Bool) → f x ≡ b → (count_by f xs ≡ 0) ⊎ ((y : Item) × (f y ≡ true) × P y) → (count_by f (x ∷ xs) ≡ 0) ⊎ ((y : Item) × (f y ≡ true) × P y)
    by true e rest = inr (x, e, made.0)
    by false e (inr some) = inr some
    by false e (inl none) = inl (count_cons f x xs ∙ (let one = ap one_if e in omega (arith, one, none)))

  made_few : (H : List Full) (r : Full) (e : Entry) (z : Send) → IsActOf lab H r n (server a) e → length e.step.sends ≤ 1 → count_by f (items_of r) ≤ 1
  made_few H r e z act few =
      let are = makes_its_own lab H r n (server a) e act in
      let same = ap (λ (ms : List Made). count_by f (filter_map item_in ms)) are.split in
      let most = no_more are.front e.input e.step.six in
      let many = as_many are.front e.step.sends are.each in
      omega (arith, same, most, many, few)

  of_act : (H : List Full) (r : Full) (x : Item) (e : Entry) (z : Send) → f x ≡ true → IsActOf lab H r n (server a) e → Contains e.step.sends z
      → x ≡ udp (own_ep (server a) z.side) z.to z.bytes → Answers f o H r
  of_act H r x e z hit act c same = by act.dst act.input act.is_given act.step where
    idle : (dst : Ep) (i : Input) → e ≡ entry_of lab H r.moment n dst i (server a) → (entry_of lab H r.moment n dst i (server a)).step.sends ≡ []
        → Answers f o H r
    idle dst i step none = absurd (nothing_in z (subst (λ (zs : List Send). Contains zs z) (ap (λ (y : Entry). y.step.sends) step ∙ none) c))

    by : (dst : Ep) (i : Input) → IsGiven lab H r n (server a) dst i → e ≡ entry_of lab H r.moment n dst i (server a) → Answers f o H r
    by dst i (delivered number (udp from to bytes) told at goes moment where_to came) step =
        let row : e.step ≡ server_row s (side_at (server a) to) from bytes =
        ap (λ (y : Entry). y.step) step ∙ ap (λ (j : Input). (entry_of lab H r.moment n dst j (server a)).step) came
        ∙ ap (λ (q : Ep). server_row s (side_at (server a) q) from bytes) where_to in
        let sends : Contains (server_row s (side_at (server a) to) from bytes).sends z = subst (λ (y : Step). Contains y.sends z) row c in
        let reached = routes lab H (now H) (udp from to bytes) n (server a) goes in
        let out = replies v from to bytes z reached sends in
        let few : length e.step.sends ≤ 1 =
        let most = one_output s (side_at (server a) to) from bytes in
        let same_length = ap (λ (y : Step). length y.sends) row in
        omega (arith, most, same_length) in
        answers (made_few H r e z act few) number (udp from to bytes) told at
        (ap (λ (q : Option Datagram). is_same d q) out ∙ sym (ap f same) ∙ hit)
    by dst i (delivered number (six to bytes) told at goes moment where_to came) step =
        idle dst i step (ap (λ (j : Input). (entry_of lab H r.moment n dst j (server a)).step.sends) came)
    by dst i (hosted v y hands none moment where_to came) step =
        idle dst i step (ap (λ (j : Input). (entry_of lab H r.moment n dst j (server a)).step.sends) came)
    by dst i (ticks due least same_node none moment where_to came) step =
        idle dst i step (ap (λ (j : Input). (entry_of lab H r.moment n dst j (server a)).step.sends) came)

  pub step_answers : (H : List Full) (r : Full) → Grown lab (r ∷ H) → speaks_for a r.asked ≡ false → Answers f o H r
  step_answers H r g quiet = by (found (IsOwnIfSent lab H r n a) (items_of r) (own_voices lab H r n a v.is g v.there quiet)) where
    by_send : (x : Item) → f x ≡ true → IsOwnSend lab H r n a x → Answers f o H r
    by_send x hit (own_send e z act c same) = of_act H r x e z hit act c same

    by : (count_by f (items_of r) ≡ 0) ⊎ ((x : Item) × (f x ≡ true) × IsOwnIfSent lab H r n a x) → Answers f o H r
    by (inl none) = silent none
    by (inr (x, hit, own)) = by_send x hit (own (of_it x hit))
