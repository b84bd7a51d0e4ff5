-- What a client sends to its own NAT's address is lost there: nothing comes onto the wire, and the NAT's history stays.
-- And none of its sends fails by itself where none is armed to.
use Rattle.full_tables.proofs.Words.{AllByRecursion, Bool, ClientNode, Crossing, Ep, Err, Full, Lab, List, NatRefusal, None, Ok, Passing, Result, Send, Sendings, [], answered, ap, by_way, cond, crossing, crossing_unless, false, filter_map, is_fault, item_in, list_any, live_after, live_port, marked, nat_history, nat_pasts, nat_set_up, or_loss, outs_at, port_for, refl, same_ip, subst, sym, true, ℕ, ◌++◌, ◌+◌, ◌||◌, ◌∙◌, ◌∷◌, ◌≡◌}
use Rattle.nat_kinds.specs.declared.refusal.NatRefusal.TheVariants as refusal

-- NO FAULT

-- a refusal of a NAT is none
no_fault_of : (x : Send) (r : Result Ep NatRefusal) → is_fault (marked x (or_loss false r)) ≡ false
no_fault_of x (Ok src) = refl
no_fault_of x (Err refusal.Hairpin) = refl
no_fault_of x (Err refusal.Full) = refl
no_fault_of x (Err refusal.NoMemory) = refl

module _ (lab : Lab) (H : List Full) (m : ℕ) (way : List ℕ) (inside : Ep) where
  pub none_fails : (i : ℕ) (passed : List Passing) (xs : List Send) → list_any is_fault (by_way lab H m way inside None i passed xs).made ≡ false
  none_fails i passed [] = refl
  none_fails i passed (x ∷ xs) =
      let c = crossing_unless false lab H m x.to way inside passed in
      ap (λ (b : Bool). b || list_any is_fault (by_way lab H m way inside None (i + 1) c.passed xs).made) (no_fault_of x c.leaves)
      ∙ none_fails (i + 1) c.passed xs

-- HAIRPINS

module _ (lab : Lab) (H : List Full) (m : ℕ) (c : ClientNode) where
  abbrev k : ℕ
  k = c.nat

  abbrev inside : Ep
  inside = c.inside

  -- it goes to the NAT itself
  abbrev pub IsBack : Send → Type 0
  IsBack x = same_ip x.to.ip (nat_set_up lab.topology k).external ≡ true

  abbrev turned_back : List Passing → Crossing
  turned_back passed = record { leaves = Err refusal.Hairpin; passed = passed }

  is_refused : (x : Send) (passed : List Passing) → IsBack x → crossing_unless false lab H m x.to (k ∷ []) inside passed ≡ turned_back passed
  is_refused x passed back =
      let s = nat_set_up lab.topology k in
      let h = outs_at k passed ++ nat_history lab k H in
      ap (λ (b : Bool). answered lab.topology m k inside x.to passed (crossing lab.topology (nat_pasts lab H) m x.to [])
      (cond b (Err refusal.Hairpin) (port_for (live_port s.kind inside x.to (live_after s h m)) (live_after s h m)))) back

  -- nothing leaves
  pub record AllAreLost (before : List Passing) (after : Sendings) : Type 0 where
    pub nothing : filter_map item_in after.made ≡ []
    pub passed : after.passed ≡ before

  pub all_lost : (i : ℕ) (passed : List Passing) (xs : List Send) → AllByRecursion IsBack xs
      → AllAreLost passed (by_way lab H m (k ∷ []) inside None i passed xs)
  all_lost i passed [] back = record { nothing = refl; passed = refl }
  all_lost i passed (x ∷ xs) back =
      subst (λ (gone : Crossing). AllAreLost passed (record {
        made = marked x (or_loss false gone.leaves) ∷ (by_way lab H m (k ∷ []) inside None (i + 1) gone.passed xs).made;
        passed = (by_way lab H m (k ∷ []) inside None (i + 1) gone.passed xs).passed;
      })) (sym (is_refused x passed back.0))
      (let rest = all_lost (i + 1) passed xs back.1 in record { nothing = rest.nothing; passed = rest.passed })
