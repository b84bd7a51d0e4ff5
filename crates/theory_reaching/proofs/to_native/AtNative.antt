-- The delivery of a packet on the IPv6 side that leads to a native host brings it there.
use Rattle.theory_reaching.proofs.Words.{BringsToNative, Delivery, Full, Grown, IsReached, Item, Lab, List, NativeNode, Node, None, Option, Some, ap, deliveries, entry_of, from_six, native, no_ep, now, reaches, refl, route, same_end, six, slice_get, subst, sym, to_node, unwrap_or, wire, ℕ, ◌∙◌, ◌∷◌, ◌≡◌}
use Rattle.legal.specs.Deliveries.{to_nobody}

-- record s delivers entry i, the packet x, which leads to native m
module _ (lab : Lab) (F : List Full) (s : Full) (i m : ℕ) (h : NativeNode) (x : List ℕ)
    (goes : route lab F (now F) (six None x) ≡ reaches m (native h)) where
  of_reached : IsReached lab F s m (native h) (six None x) → BringsToNative m x s
  of_reached reached = record {
    node = reached.act.node;
    entry = entry_of lab F s.moment m no_ep (from_six x) (native h);
    did = reached.act.entry;
    packet = refl;
  }

  pub brought : Grown lab (s ∷ F) → s.delivered ≡ Some i → slice_get (wire F) i ≡ Some (six None x) → BringsToNative m x s
  brought grown delivered at = by (deliveries lab F s i grown delivered) where
    same_item : (z : Item) → slice_get (wire F) i ≡ Some z → z ≡ six None x
    same_item z e = ap (λ (o : Option Item). unwrap_or o z) (sym e ∙ at)

    by : Delivery lab F s i → BringsToNative m x s
    by (to_node j a z e reached) =
        let here : IsReached lab F s j a (six None x) = subst (IsReached lab F s j a) (same_item z e) reached in
        let end = same_end (route lab F (now F) (six None x)) j m a (native h) here.leads goes in
        of_reached (subst (λ (b : Node). IsReached lab F s m b (six None x)) end.1
        (subst (λ (k : ℕ). IsReached lab F s k a (six None x)) end.0 here))
    by (to_nobody z e miss) = absurd (miss.nobody m (native h) (ap (route lab F (now F)) (same_item z e) ∙ goes))
