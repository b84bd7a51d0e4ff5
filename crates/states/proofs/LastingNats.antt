-- What a NAT keeps lasts until its end.
use Rattle.std.proofs.Common.{◌≡◌, ◌≤◌, ◌<◌, ◌-◌, ◌+◌, ℕ, Bool, true, false, List, [], ◌∷◌, ◌++◌, cond, filter, not, Option, Some, None, refl, sym, ap, subst, arith, ◌∙◌}
use Rattle.std.proofs.Math.Nat.{le_refl, le_trans}
use Rattle.std.proofs.lemmas.Bool.{false≢true, le-ltb, lt-ltb, ltb-false, ltb-true}
use Rattle.std.proofs.lemmas.List.Elements.{filter-append}
use Rattle.std.specs.Prelude.{filter_map, nat_lt, option_map}
use Rattle.std.specs.List.{AllByRecursion, cons_option, flat_map}
use Rattle.td_base.specs.declared.endpoint.Ep.{Ep}
use Rattle.td_base.proofs.Lists.{all_map}
use Rattle.td_base.specs.Ep.{same_ep}
use Rattle.nat_kinds.specs.declared.kind.NatKind.{NatKind}
use Rattle.nat_kinds.specs.declared.kind.NatKind.TheVariants.{Cone, Restricted, Port, Symmetric}
use Rattle.nat_kinds.specs.declared.outgoing.Outward.{Outward}
use Rattle.nat_kinds.specs.declared.settings.NatSettings.{NatSettings}
use Rattle.nat_kinds.specs.History.{NatEntry, Out, Forget, Restart, counting, is_young, kept, young}
use Rattle.nat_kinds.specs.Laws.{IsHistory, IsPast, latest_moment}
use Rattle.nat_kinds.specs.Mappings.{has_key, latest}
use Rattle.nat_kinds.specs.Way.{endpoint_number}
use Rattle.nat_kinds.proofs.ListLemmas.{all_any, all_filter, all_passed, all_two, filter_swap}
use Rattle.nat_kinds.proofs.LawProofs.{latest_datagram_decides}
use Rattle.nat_kinds.proofs.OrderLemmas.{kept_before, none_young, young-again}
use Rattle.nat_kinds.proofs.PortLemmas.{key_symm}
use Rattle.states.specs.Facts.{Fact, Whom, holds_port, lets}
use Rattle.states.specs.Kept.{asks_alike, has_lower_destination, has_lower_port, latest_asked, lets_fact, lets_facts, port_fact, port_facts, whom_asked}
use Rattle.states.specs.Orders.{in_order}
use Rattle.states.specs.Lasting.{NatFactsLast, fact_lasts}
use Rattle.states.proofs.Sorted.{all_ordered, by_number, ordered_left}

-- MOMENTS

-- the moments don't fall, the latest first
abbrev Fall : List Outward → Type 0
Fall [] = Unit {0}
Fall (e ∷ outs) = AllByRecursion (λ (o : Outward). o.moment.0 ≤ e.moment.0) outs × Fall outs

fall_left : (p : Outward → Bool) (outs : List Outward) → Fall outs → Fall (filter p outs)
fall_left p [] fall = tt
fall_left p (e ∷ outs) fall = by (p e) (fall_left p outs fall.1) where
  by : (t : Bool) → Fall (filter p outs) → Fall (cond t (e ∷ filter p outs) (filter p outs))
  by true rest = (all_filter (λ (o : Outward). o.moment.0 ≤ e.moment.0) p outs fall.0, rest)
  by false rest = rest

kept_fall : (s : NatSettings) (h : List NatEntry) → IsHistory s h → Fall (kept h)
kept_fall s [] is = tt
kept_fall s (Out e ∷ h) is = (all_map (λ (o : Outward). o.moment.0 ≤ latest_moment h) (λ (o : Outward). o.moment.0 ≤ e.moment.0) (kept h) (λ o l. le_trans l is.0) (kept_before s h is.2), kept_fall s h is.2)
kept_fall s (Forget who ∷ h) is = fall_left (λ (o : Outward). not (same_ep o.inside who)) (kept h) (kept_fall s h is)
kept_fall s (Restart ∷ h) is = tt

-- the latest of each key is not before any of its key
latest_last : (kind : NatKind) (outs : List Outward) → Fall outs
    → AllByRecursion (λ (m : Outward). AllByRecursion (λ (o : Outward). has_key kind m.inside m.dst o ≡ true → o.moment.0 ≤ m.moment.0) outs) (latest kind outs)
latest_last kind [] fall = tt
latest_last kind (e ∷ outs) fall = (
  (λ k. le_refl e.moment.0, all_map (λ (o : Outward). o.moment.0 ≤ e.moment.0) (λ (o : Outward). has_key kind e.inside e.dst o ≡ true → o.moment.0 ≤ e.moment.0) outs (λ o l k. l) fall.0),
  all_two _ _ _ (filter (λ (o : Outward). not (has_key kind e.inside e.dst o)) (latest kind outs)) (λ m others its. (λ k. absurd (other m others k), its))
      (all_passed (λ (o : Outward). not (has_key kind e.inside e.dst o)) (latest kind outs))
      (all_filter _ (λ (o : Outward). not (has_key kind e.inside e.dst o)) (latest kind outs) (latest_last kind outs fall.1)),
)
  where
    other : (m : Outward) → not (has_key kind e.inside e.dst m) ≡ true → has_key kind m.inside m.dst e ≡ true → ⊥
    other m n k = by (has_key kind e.inside e.dst m) (key_symm kind e m ∙ k) n where
      by : (t : Bool) → t ≡ true → not t ≡ true → ⊥
      by true is both = false≢true both
      by false is both = false≢true is

-- WHAT LASTS

module _ (s : NatSettings) (n : ℕ) (lives : 1 ≤ s.idle) where
  abbrev Y : Outward → Bool
  Y e = is_young s.idle n e

  -- what ends its idle time after it lasts as long as it is young
  end_is : (m : ℕ) → nat_lt n (m + s.idle) ≡ nat_lt (n - m) s.idle
  end_is m = by (nat_lt (n - m) s.idle) refl where
    by : (t : Bool) → nat_lt (n - m) s.idle ≡ t → nat_lt n (m + s.idle) ≡ t
    by true is = let l : n - m < s.idle = ltb-true _ _ is in lt-ltb _ _ (omega (arith, l, lives))
    by false is = let l : s.idle ≤ n - m = ltb-false _ _ is in le-ltb _ _ (omega (arith, l, lives))

  -- WHOM IT LETS IN

  -- whom a datagram has a NAT of this kind let in
  abbrev let_by : NatKind → ℕ → Outward → Option Fact
  let_by kind port e = option_map (λ (w : Whom). lets port w (e.moment.0 + s.idle)) (whom_asked kind e.dst)

  told_left : (kind : NatKind) (port : ℕ) (xs : List Outward) → filter (fact_lasts n) (filter_map (let_by kind port) xs) ≡ filter_map (let_by kind port) (filter Y xs)
  told_left kind port [] = refl
  told_left kind port (e ∷ xs) = by (whom_asked kind e.dst) refl (Y e) refl (told_left kind port xs) where
    by : (w : Option Whom) → whom_asked kind e.dst ≡ w → (b : Bool) → Y e ≡ b → filter (fact_lasts n) (filter_map (let_by kind port) xs) ≡ filter_map (let_by kind port) (filter Y xs)
        → filter (fact_lasts n) (cons_option (option_map (λ (w : Whom). lets port w (e.moment.0 + s.idle)) w) (filter_map (let_by kind port) xs))
        ≡ filter_map (let_by kind port) (cond b (e ∷ filter Y xs) (filter Y xs))
    by None is true y rest = rest ∙ sym (ap (λ (o : Option Whom). cons_option (option_map (λ (w : Whom). lets port w (e.moment.0 + s.idle)) o) (filter_map (let_by kind port) (filter Y xs))) is)
    by None is false y rest = rest
    by (Some x) is true y rest = ap (λ (t : Bool). cond t (lets port x (e.moment.0 + s.idle) ∷ filter (fact_lasts n) (filter_map (let_by kind port) xs)) (filter (fact_lasts n) (filter_map (let_by kind port) xs))) (end_is e.moment.0 ∙ y)
        ∙ ap (λ (fs : List Fact). lets port x (e.moment.0 + s.idle) ∷ fs) rest
        ∙ sym (ap (λ (o : Option Whom). cons_option (option_map (λ (w : Whom). lets port w (e.moment.0 + s.idle)) o) (filter_map (let_by kind port) (filter Y xs))) is)
    by (Some x) is false y rest = ap (λ (t : Bool). cond t (lets port x (e.moment.0 + s.idle) ∷ filter (fact_lasts n) (filter_map (let_by kind port) xs)) (filter (fact_lasts n) (filter_map (let_by kind port) xs))) (end_is e.moment.0 ∙ y)
        ∙ rest

  -- of those that asked the same, the latest
  asked_left : (kind : NatKind) (xs : List Outward) → Fall xs → latest_asked kind (filter Y xs) ≡ filter Y (latest_asked kind xs)
  asked_left kind [] fall = refl
  asked_left kind (e ∷ xs) fall = by (Y e) refl (ap (filter others) (asked_left kind xs fall.1) ∙ filter_swap others Y (latest_asked kind xs)) where
    others : Outward → Bool
    others o = not (asks_alike kind e o)

    by : (b : Bool) → Y e ≡ b → filter others (latest_asked kind (filter Y xs)) ≡ filter Y (filter others (latest_asked kind xs))
        → latest_asked kind (cond b (e ∷ filter Y xs) (filter Y xs)) ≡ cond b (e ∷ filter Y (filter others (latest_asked kind xs))) (filter Y (filter others (latest_asked kind xs)))
    by true y rest = ap (λ (os : List Outward). e ∷ os) rest
    by false y rest =
        let none : filter Y xs ≡ [] = none_young s.idle n e.moment.0 xs fall.0 y in
        ap (latest_asked kind) none ∙ sym (ap (λ (os : List Outward). filter others (latest_asked kind os)) none) ∙ rest

  abbrev inside_of_it : Outward → Outward → Bool
  inside_of_it m e = same_ep e.inside m.inside

  -- what is said of a mapping of a NAT of this kind
  abbrev lets_by : NatKind → List Outward → Outward → List Fact
  lets_by kind outs m = filter_map (let_by kind m.port) (in_order has_lower_destination (latest_asked kind (filter (inside_of_it m) outs)))

  lets_left : (kind : NatKind) (outs : List Outward) (m : Outward) → Fall outs → filter (fact_lasts n) (lets_by kind outs m) ≡ lets_by kind (filter Y outs) m
  lets_left kind outs m fall =
      told_left kind m.port (in_order has_lower_destination (latest_asked kind (filter (inside_of_it m) outs)))
      ∙ ap (filter_map (let_by kind m.port)) (sym (ordered_left has_lower_destination (by_number (λ (o : Outward). endpoint_number o.dst)) Y (latest_asked kind (filter (inside_of_it m) outs)))
      ∙ ap (λ (os : List Outward). in_order has_lower_destination os) (sym (asked_left kind (filter (inside_of_it m) outs) (fall_left (inside_of_it m) outs fall))
      ∙ ap (latest_asked kind) (filter_swap Y (inside_of_it m) outs)))

  -- none is told by a kind that tells of nobody
  none_told : (kind : NatKind) → ((dst : Ep) → whom_asked kind dst ≡ None) → (port : ℕ) (xs : List Outward) → filter_map (let_by kind port) xs ≡ []
  none_told kind nobody port [] = refl
  none_told kind nobody port (e ∷ xs) =
      ap (λ (o : Option Whom). cons_option (option_map (λ (w : Whom). lets port w (e.moment.0 + s.idle)) o) (filter_map (let_by kind port) xs)) (nobody e.dst) ∙ none_told kind nobody port xs

  abbrev IsLast : NatKind → List Outward → Outward → Type 0
  IsLast kind outs m = AllByRecursion (λ (o : Outward). has_key kind m.inside m.dst o ≡ true → o.moment.0 ≤ m.moment.0) outs

  -- where the latest of an inside endpoint has ended, all of it has
  none_inside : (m : Outward) (outs : List Outward) → Y m ≡ false → AllByRecursion (λ (o : Outward). same_ep o.inside m.inside ≡ true → o.moment.0 ≤ m.moment.0) outs → filter (inside_of_it m) (filter Y outs) ≡ []
  none_inside m outs y last = filter_swap (inside_of_it m) Y outs ∙ none_young s.idle n m.moment.0 (filter (inside_of_it m) outs)
      (all_two (λ (o : Outward). inside_of_it m o ≡ true) (λ (o : Outward). same_ep o.inside m.inside ≡ true → o.moment.0 ≤ m.moment.0) (λ (o : Outward). o.moment.0 ≤ m.moment.0) (filter (inside_of_it m) outs) (λ o is its. its is)
      (all_passed (inside_of_it m) outs) (all_filter (λ (o : Outward). same_ep o.inside m.inside ≡ true → o.moment.0 ≤ m.moment.0) (inside_of_it m) outs last)) y

  lets_none : (kind : NatKind) (outs : List Outward) (m : Outward) → Y m ≡ false → IsLast kind outs m → lets_by kind (filter Y outs) m ≡ []
  lets_none Cone outs m y last = none_told Cone (λ dst. refl) m.port (in_order has_lower_destination (latest_asked Cone (filter (inside_of_it m) (filter Y outs))))
  lets_none Symmetric outs m y last = none_told Symmetric (λ dst. refl) m.port (in_order has_lower_destination (latest_asked Symmetric (filter (inside_of_it m) (filter Y outs))))
  lets_none Restricted outs m y last = ap (λ (os : List Outward). filter_map (let_by Restricted m.port) (in_order has_lower_destination (latest_asked Restricted os))) (none_inside m outs y last)
  lets_none Port outs m y last = ap (λ (os : List Outward). filter_map (let_by Port m.port) (in_order has_lower_destination (latest_asked Port os))) (none_inside m outs y last)

  -- PORTS

  -- a port, and whom it lets in
  abbrev facts_on : List Outward → Outward → List Fact
  facts_on outs m = port_fact s m ∷ lets_facts s outs m

  one_left : (outs : List Outward) (m : Outward) → Fall outs → IsLast s.kind outs m → (b : Bool) → Y m ≡ b → filter (fact_lasts n) (facts_on outs m) ≡ cond b (facts_on (filter Y outs) m) []
  one_left outs m fall last true y = ap (λ (t : Bool). cond t (port_fact s m ∷ filter (fact_lasts n) (lets_facts s outs m)) (filter (fact_lasts n) (lets_facts s outs m))) (end_is m.moment.0 ∙ y)
      ∙ ap (λ (fs : List Fact). port_fact s m ∷ fs) (lets_left s.kind outs m fall)
  one_left outs m fall last false y = ap (λ (t : Bool). cond t (port_fact s m ∷ filter (fact_lasts n) (lets_facts s outs m)) (filter (fact_lasts n) (lets_facts s outs m))) (end_is m.moment.0 ∙ y)
      ∙ lets_left s.kind outs m fall ∙ lets_none s.kind outs m y last

  ports_left : (outs : List Outward) → Fall outs → (ms : List Outward) → AllByRecursion (IsLast s.kind outs) ms
      → flat_map (facts_on (filter Y outs)) (filter Y ms) ≡ filter (fact_lasts n) (flat_map (facts_on outs) ms)
  ports_left outs fall [] last = refl
  ports_left outs fall (m ∷ ms) last = by (Y m) refl (ports_left outs fall ms last.1) where
    by : (b : Bool) → Y m ≡ b → flat_map (facts_on (filter Y outs)) (filter Y ms) ≡ filter (fact_lasts n) (flat_map (facts_on outs) ms)
        → flat_map (facts_on (filter Y outs)) (cond b (m ∷ filter Y ms) (filter Y ms)) ≡ filter (fact_lasts n) (facts_on outs m ++ flat_map (facts_on outs) ms)
    by true y rest = ap (λ (fs : List Fact). facts_on (filter Y outs) m ++ fs) rest
        ∙ sym (filter-append (fact_lasts n) (facts_on outs m) (flat_map (facts_on outs) ms) ∙ ap (λ (fs : List Fact). fs ++ filter (fact_lasts n) (flat_map (facts_on outs) ms)) (one_left outs m fall last.0 true y))
    by false y rest = rest ∙ sym (filter-append (fact_lasts n) (facts_on outs m) (flat_map (facts_on outs) ms) ∙ ap (λ (fs : List Fact). fs ++ filter (fact_lasts n) (flat_map (facts_on outs) ms)) (one_left outs m fall last.0 false y))

pub nat_facts_last : NatFactsLast
nat_facts_last s h m n lives past le =
    let outs : List Outward = counting s.idle m h in
    let left : counting s.idle n h ≡ filter (is_young s.idle n) outs = sym (young-again s.idle m n (kept h) le) in
    let live : latest s.kind (counting s.idle n h) ≡ filter (is_young s.idle n) (latest s.kind outs) =
    latest_datagram_decides s h past.history n ∙ sym (ap (filter (is_young s.idle n)) (latest_datagram_decides s h past.history m) ∙ young-again s.idle m n (latest s.kind (kept h)) le) in
    let fall : Fall outs = fall_left (is_young s.idle m) (kept h) (kept_fall s h past.history) in
    ap (λ (os : List Outward). flat_map (λ (x : Outward). port_fact s x ∷ lets_facts s os x) (in_order has_lower_port (latest s.kind (counting s.idle n h)))) left
    ∙ ap (λ (ls : List Outward). flat_map (λ (x : Outward). port_fact s x ∷ lets_facts s (filter (is_young s.idle n) outs) x) (in_order has_lower_port ls)) live
    ∙ ap (λ (ls : List Outward). flat_map (λ (x : Outward). port_fact s x ∷ lets_facts s (filter (is_young s.idle n) outs) x) ls) (ordered_left has_lower_port (by_number (λ (o : Outward). o.port)) (is_young s.idle n) (latest s.kind outs))
    ∙ ports_left s n lives outs fall (in_order has_lower_port (latest s.kind outs))
    (all_ordered has_lower_port (by_number (λ (o : Outward). o.port))
    (λ (x : Outward). AllByRecursion (λ (o : Outward). has_key s.kind x.inside x.dst o ≡ true → o.moment.0 ≤ x.moment.0) outs) (latest s.kind outs) (latest_last s.kind outs fall))
