-- What a native host sends has the bytes of the load that it carries: the packet that it was given, or the reply to it.
use Rattle.theory_loads.proofs.Words.{Bool, Fate, Full, HasBytesIfLoaded, List, Load, Message, Native, NativeNode, None, Option, Packet, ReplyTo, Some, answer_to, ap, echo_of, echo_request, echoed, false, fields_in, inl, inr, is_global6, is_packet, just_kept, message_in, native_in, native_made, native_row, option_and_then, refl, subst, sym, true, unwrap_or, ℕ, ◌∙◌, ◌≡◌, ◌⊎◌}
use Rattle.native_host.specs.Natives.{native_out}
use Rattle.teredo_node.specs.declared.fate.Fate.TheVariants as fate
use Rattle.native_host.specs.Natives as natives
use Rattle.theory_loads.proofs.Lists.{MadeHasBytes}
use Rattle.theory_loads.proofs.Sends.{made_of_none}
use Rattle.theory_loads.proofs.Clients.{loads_sent}

-- what comes is kept, or answered
pub answers : (x : List ℕ) → (native_in x ≡ just_kept) ⊎ ((y : List ℕ) × (native_in x ≡ echoed y))
unfolding native_in
answers x = of (is_global6 (fields_in x).src) (message_in (fields_in x)) where
  of : (global : Bool) (o : Option Message) → (echo_of (fields_in x) global o ≡ just_kept) ⊎ ((y : List ℕ) × (echo_of (fields_in x) global o ≡ echoed y))
  of true (Some (echo_request id seq body)) = inr (_, refl)
  of true None = inl refl
  of false o = inl refl
  of true (Some m) = inl refl

module _ (W : List Full) where
  -- the reply to what has the bytes of a load has those of its answer
  pub answer_has : (l : Option Load) (x y : List ℕ) → HasBytesIfLoaded W l (Some x) → (native_in x).packet ≡ Some y → HasBytesIfLoaded W (answer_to l) (Some y)
  answer_has None x y has reply = tt
  answer_has (Some (Packet k)) x y has reply =
      let same : x ≡ has.bytes = ap (λ (o : Option (List ℕ)). unwrap_or o x) has.same in
      record {
        bytes = y;
        load = ap (option_and_then (λ (z : List ℕ). (native_in z).packet)) has.load ∙ ap (λ (z : List ℕ). (native_in z).packet) (sym same) ∙ reply;
        same = refl;
      }
  answer_has (Some (ReplyTo k)) x y has reply = tt

  module _ (ls : List (Option Load)) (l : Option Load) (h : NativeNode) (numbers : List ℕ) where
    abbrev OfNative : Native → Type 0
    OfNative n = MadeHasBytes W (loads_sent ls n.fate numbers l) (native_made h n.packet)

    pub native_sends : (x : List ℕ) → HasBytesIfLoaded W l (Some x) → OfNative (native_out h.six x)
    unfolding native_out
    native_sends x has = by (native_row h.six (is_packet x) (fields_in x)) where
      by : (f : Fate) → OfNative (natives.sent_by x f)
      by fate.SentSix = (has, tt)
      by f = made_of_none W (loads_sent ls f numbers l)

    pub native_answers : (x : List ℕ) → HasBytesIfLoaded W l (Some x) → OfNative (native_in x)
    native_answers x has = by (answers x) where
      by : (native_in x ≡ just_kept) ⊎ ((y : List ℕ) × (native_in x ≡ echoed y)) → OfNative (native_in x)
      by (inl is) = subst OfNative (sym is) tt
      by (inr (y, is)) = subst OfNative (sym is) (answer_has l x y has (ap (λ (n : Native). n.packet) is), tt)
