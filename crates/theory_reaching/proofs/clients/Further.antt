-- After a client's packet a fresh schedule that leaves an entry out goes on by one more delivery.
use Rattle.theory_reaching.proofs.Words.{AreFresh, Bool, ClientNode, ENTRY_NUMBER_MAX, Entry, Event, Full, GoesOn, Grown, Handing, HasNoFault, IsEvent, IsNameable, Item, Lab, List, None, Option, Send, Some, [], alone, ap, arith, armed, armed_after, arms, as_long, asked_for, beyond, blank, by_way, client, delivers_item, delivers_or, delivers_to, entry_of, false, false≢true, first_is, first_undelivered, get_or, has_any, has_more, has_sends, inl, inr, is_number, length, nat_le, nat_tests, next_of, no_ep, now, numbered, of_its_event, option_or, plain, refl, route, slice_get, slice_get_cases, subst, sym, true, was_delivered, way_out, wire, ℕ, ◌++◌, ◌+◌, ◌<◌, ◌||◌, ◌∙◌, ◌∷◌, ◌≡◌, ◌≤◌, ◌⊎◌}
use Rattle.teredo_node.specs.Journal.{given}
use Rattle.events.specs.declared.event.Event.TheVariants as event
use Rattle.events.specs.declared.verb.Verb.TheVariants as verb
use Rattle.teredo_node.specs.declared.fate.Fate.TheVariants as fate
use Rattle.legal.specs.Next.{delivers}
use Rattle.theory_reaching.proofs.schedules.Undelivered.{not_yet, in_neither, in_later, first_one, before_first}
use Rattle.theory_reaching.proofs.schedules.NoFault.{sound, delivers_it}
use Rattle.theory_reaching.proofs.clients.GoesOn.{IsDelivery, is_delivery, arms_none, is_settle, hands_once}

-- one more delivery
pub record Further (lab : Lab) (H : List Full) (r : Full) (later : List Full) : Type 0 where
  pub next : Full
  pub grown : Grown lab (next ∷ later ++ r ∷ H)
  pub fresh : AreFresh r (next ∷ later)

-- in the record r after H the host of node n, which is the client c, hands in x
pub record Handed : Type 0 where
  pub lab : Lab
  pub H : List Full
  pub r : Full
  pub n : ℕ
  pub c : ClientNode
  pub x : List ℕ
  pub taken : Handing lab H r n (client c) x
  pub grown : Grown lab (r ∷ H)

module _ (the : Handed) where
  open the use {lab, H, r, n, c, x, taken, grown}

  abbrev e : Entry
  e = entry_of lab H (now H) n no_ep (given x) (client c)

  is_entry : r.entry ≡ Some e
  is_entry = taken.entry

  made_of : (xs : List Send) → e.step.sends ≡ xs → r.made ≡ (by_way lab H (now H) (way_out lab.chain c.nat) c.inside (armed H) 0 [] xs).made
  made_of xs is = taken.did.made
      ∙ ap (λ (z : List Send). (by_way lab H (now H) (way_out lab.chain c.nat) c.inside (armed H) 0 [] z).made) is

  -- NO SEND IS TO FAIL

  -- where entries are left, the client sent something
  sends : (later : List Full) → Grown lab (later ++ r ∷ H) → AreFresh r later → (k : ℕ) → r.first ≤ k → k < length (wire (later ++ r ∷ H))
      → has_sends r.entry ≡ true
  sends later g fresh k low high = by e.step.sends refl where
    by : (xs : List Send) → e.step.sends ≡ xs → has_sends r.entry ≡ true
    by (s ∷ ss) is = ap has_sends is_entry ∙ ap (λ (ys : List Send). has_any ys) is
    by [] is =
        let nothing : r.made ≡ [] = made_of [] is in
        let same : later ≡ [] = alone lab H r grown nothing later g fresh in
        let within : k < length (wire (r ∷ H)) = subst (λ (z : List Full). k < length (wire (z ++ r ∷ H))) same high in
        absurd (beyond k r.first (length (wire H)) (length (wire (r ∷ H))) low (first_is lab H r grown)
        (as_long lab H r nothing) within)

  stays : (b : Bool) → armed_after b None ≡ None
  stays true = refl
  stays false = refl

  -- so nothing is armed any more
  disarmed : (later : List Full) → Grown lab (later ++ r ∷ H) → AreFresh r later → has_sends r.entry ≡ true → armed (later ++ r ∷ H) ≡ None
  disarmed [] g fresh some = ap (λ (b : Bool). armed_after b (option_or (arms r.asked) (armed H))) some
  disarmed (q ∷ later) g fresh some =
      let d = is_delivery (later ++ r ∷ H) q fresh.0.number (asked_for lab (later ++ r ∷ H) q g.0) fresh.0.delivered in
      let none = arms_none (later ++ r ∷ H) q.asked fresh.0.number d.asked in
      ap (λ (o : Option ℕ). armed_after (has_sends q.entry) (option_or o (armed (later ++ r ∷ H)))) none
      ∙ ap (λ (o : Option ℕ). armed_after (has_sends q.entry) (option_or None o)) (disarmed later g.1 fresh.1 some)
      ∙ stays (has_sends q.entry)

  -- ONE MORE

  -- one more event after a fresh schedule
  pub record FurtherEvent : Type 0 where
    pub later : List Full
    pub g : Grown lab (later ++ r ∷ H)
    pub fresh : AreFresh r later
    pub a : Event
    pub k : ℕ

  module _ (further_event : FurtherEvent) where
    open further_event use {later, g, fresh, a, k}

    abbrev G : List Full
    G = later ++ r ∷ H

    abbrev q : Full
    q = next_of lab G 0 a

    -- the next record of an event that delivers entry k, which is y
    on : GoesOn G a → IsEvent lab.topology a → q ≡ delivers lab G (numbered 0 a) k → r.first ≤ k → k < length (wire G) → was_delivered k later ≡ false
        → (y : Item) → slice_get (wire G) k ≡ Some y → Further lab H r later
    on goes may is low high new y at =
        let of = of_its_event lab G 0 a in
        let to : q ≡ delivers_to lab G (numbered 0 a) k y (route lab G (now G) y) = is ∙ ap (delivers_item lab G (numbered 0 a) k) at in
        record {
          next = q;
          grown = (
            record {
              goes_on = subst (GoesOn G) (sym of.asked) goes;
              event = subst (IsEvent lab.topology) (sym of.asked) may;
              is = ap (λ (i : ℕ). next_of lab G i a) (sym of.event) ∙ ap (λ (z : Event). next_of lab G q.event z) (sym of.asked);
            },
            g,
          );
          fresh = (
            record {
              number = k;
              delivered = ap (λ (z : Full). z.delivered) to ∙ delivers_it lab G (numbered 0 a) k y (route lab G (now G) y);
              new = low;
              once = new;
              sound = subst HasNoFault (sym to) (sound lab G (numbered 0 a) k y (route lab G (now G) y)
                  (disarmed later g fresh (sends later g fresh k low high)));
            },
            fresh,
          );
        }

    -- there is such an entry
    further : GoesOn G a → IsEvent lab.topology a → q ≡ delivers lab G (numbered 0 a) k → r.first ≤ k → k < length (wire G) → was_delivered k later ≡ false
        → Further lab H r later
    further goes may is low high new = by (slice_get_cases (wire G) k).1 (on goes may is low high new) where
      by : ((y : Item) × (k < length (wire G)) × (slice_get (wire G) k ≡ Some y) × (get_or (wire G) k y ≡ y))
          ⊎ ((length (wire G) ≤ k) × (slice_get (wire G) k ≡ None))
          → ((y : Item) → slice_get (wire G) k ≡ Some y → Further lab H r later) → Further lab H r later
      by (inl there) on = on there.0 there.2
      by (inr past) on = let beyond_it : length (wire G) ≤ k = past.0 in absurd (omega (arith, beyond_it, high))

  -- the record itself delivered nothing
  not_by_it : (k : ℕ) → r.first ≤ k → was_delivered k (r ∷ H) ≡ false
  not_by_it k low =
      let first = first_is lab H r grown in
      let high : length (wire H) ≤ k = omega (arith, first, low) in
      ap (λ (o : Option ℕ). is_number k o || was_delivered k H) taken.delivered ∙ not_yet lab H grown.1 k high

  small : (later : List Full) → IsNameable (later ++ r ∷ H) → (k : ℕ) → k < length (wire (later ++ r ∷ H)) → k ≤ ENTRY_NUMBER_MAX
  small later short k high = let most : length (wire (later ++ r ∷ H)) ≤ ENTRY_NUMBER_MAX + 1 = short in omega (arith, most, high)

  -- behind a record whose event is at its end
  by_deliver : (later : List Full) → Grown lab (later ++ r ∷ H) → AreFresh r later → IsNameable (later ++ r ∷ H) → (k : ℕ) → r.first ≤ k
      → k < length (wire (later ++ r ∷ H)) → was_delivered k later ≡ false → GoesOn (later ++ r ∷ H) (event.Deliver k) → Further lab H r later
  by_deliver later g fresh short k low high new goes =
      further (record { later = later; g = g; fresh = fresh; a = event.Deliver k; k = k }) goes (small later short k high) refl low high new

  -- in a settle the next one is the first that is left, which is none of those before the packet
  module _ (q : Full) (later : List Full) (g : Grown lab (q ∷ later ++ r ∷ H)) (fresh : AreFresh r (q ∷ later)) where
    abbrev B : List Full
    B = later ++ r ∷ H

    is_of : IsDelivery B q fresh.0.number
    is_of = is_delivery B q fresh.0.number (asked_for lab B q g.0) fresh.0.delivered

    either : (b c : Bool) → (b || c) ≡ false → c ≡ false
    either false c e = e
    either true c e = absurd (false≢true (sym e))

    no_sooner : (i : ℕ) → was_delivered i (q ∷ B) ≡ false → first_undelivered B ≡ Some fresh.0.number → r.first ≤ i
    no_sooner i left first = by (nat_le r.first i) refl where
      new : r.first ≤ fresh.0.number
      new = fresh.0.new

      by : (b : Bool) → nat_le r.first i ≡ b → r.first ≤ i
      by true is = grind (arith, nat_tests)
      by false is =
          let less : i < r.first = grind (arith, nat_tests) in
          absurd (false≢true (sym (either (is_number i q.delivered) (was_delivered i B) left)
          ∙ before_first B 0 (wire B) fresh.0.number i first (omega arith) (omega (arith, less, new))))

    settling : (k : ℕ) → r.first ≤ k → k < length (wire (q ∷ B)) → was_delivered k (q ∷ later) ≡ false → has_more q.asked q.act ≡ true
        → Further lab H r (q ∷ later)
    settling k low high new more =
        let s = is_settle B q.asked fresh.0.number is_of.asked (ap (has_more q.asked) (sym is_of.act) ∙ more) in
        let f = first_one (q ∷ B) 0 (wire (q ∷ B)) k (omega arith) (omega (arith, high)) (in_neither k (q ∷ later) (r ∷ H) new (not_by_it k low)) in
        let within : f.0 < 0 + length (wire (q ∷ B)) = f.1.within in
        further (record { later = q ∷ later; g = g; fresh = fresh; a = event.Settle; k = f.0 }) (λ _. sym s.0) tt
        (ap (delivers_or lab (q ∷ B) (numbered 0 event.Settle) (blank (q ∷ B) (numbered 0 event.Settle) (plain verb.Settle) None fate.Done)) f.1.is)
        (no_sooner f.0 f.1.undelivered s.1) (omega (arith, within)) (in_later f.0 (q ∷ later) (r ∷ H) f.1.undelivered)

  pub goes_on : (later : List Full) → Grown lab (later ++ r ∷ H) → AreFresh r later → IsNameable (later ++ r ∷ H) → (k : ℕ) → r.first ≤ k
      → k < length (wire (later ++ r ∷ H)) → was_delivered k later ≡ false → Further lab H r later
  goes_on [] g fresh short k low high new = by_deliver [] g fresh short k low high new (λ more. absurd (false≢true (sym (at_end) ∙ more))) where
    at_end : has_more r.asked r.act ≡ false
    at_end = hands_once lab H r.asked taken.verb n x taken.hands r.act
  goes_on (q ∷ later) g fresh short k low high new = by (has_more q.asked q.act) refl where
    by : (b : Bool) → has_more q.asked q.act ≡ b → Further lab H r (q ∷ later)
    by false end = by_deliver (q ∷ later) g fresh short k low high new (λ more. absurd (false≢true (sym end ∙ more)))
    by true more = settling q later g fresh k low high new more
