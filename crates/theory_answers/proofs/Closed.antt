-- A record that delivers an entry starts no node anew; and where a NAT shuts the entry out, this is its fate.
use Rattle.theory_answers.proofs.Words.{Delivery, Full, Item, Lab, List, Option, Some, ap, closed, false, false≢true, is_reached, is_restart, missed_fate, now, route, slice_get, sym, to_nobody, to_node, unwrap_or, wire, ℕ, ◌∙◌, ◌≡◌}
use Rattle.teredo_node.specs.declared.fate.Fate.TheVariants as fate

module _ (lab : Lab) (H : List Full) (r : Full) (number : ℕ) where
  -- what it says of its act, and of its fate where the entry is shut out
  pub record IsDelivering : Type 0 where
    pub still : is_restart r.act ≡ false
    pub shut_out : (x : Item) (k : ℕ) → slice_get (wire H) number ≡ Some x → route lab H (now H) x ≡ closed k → r.fate ≡ fate.NatClosed

  -- the entry of that number goes there
  goes_there : {x y : Item} (k : ℕ) → slice_get (wire H) number ≡ Some x → slice_get (wire H) number ≡ Some y → route lab H (now H) y ≡ closed k
      → route lab H (now H) x ≡ closed k
  goes_there {x} k at there goes = ap (λ (o : Option Item). route lab H (now H) (unwrap_or o x)) (sym at ∙ there) ∙ goes

  pub delivering : Delivery lab H r number → IsDelivering
  delivering (to_node n a x at reached) = record {
    still = reached.act.still;
    shut_out = λ y k there goes. absurd (false≢true (ap is_reached (sym (goes_there k at there goes) ∙ reached.leads)));
  }
  delivering (to_nobody x at miss) = record {
    still = miss.still;
    shut_out = λ y k there goes. miss.fate ∙ ap missed_fate (goes_there k at there goes);
  }
