-- Where a packet goes at once, it is all that its record makes; and it is the first that a fresh schedule delivers.
use Rattle.theory_reaching.proofs.Words.{AreFresh, DeliversFresh, Full, Grown, Ip6, IsHere, Item, Lab, List, Meets, Some, [], ap, arith, client_journals, client_settings, embedded, fields_in, filter_map, has_cone, is_fresh, item_in, items_of, journal, known_by, last_there, length, meets, now, on_wire, one_longer, refl, send, sent, slice_get, subst, suc, sym, true, udp, wire, words, ℕ, ◌++◌, ◌<◌, ◌||◌, ◌∙◌, ◌∷◌, ◌≡◌, ◌≤◌}
use Rattle.theory_first_packets.proofs.passing.Elsewhere.{elsewhere}
use Rattle.theory_reaching.proofs.clients.AtOnce.{at_once}
use Rattle.theory_reaching.proofs.clients.BothSettled.{Both, own, other, a_side, b_side, differ, sender_end, receiver_end, sender_here, small, number, leave, e}

module _ (the : Both) where
  open the use {lab, H, q, n, m, c, d, x, are}

  abbrev from : Ip6
  from = own the

  abbrev to : Ip6
  to = other the

  -- the receiver is one that the sender meets, by the packet's own addresses
  its_meets : Meets (client_settings lab.topology c) (fields_in x).src (fields_in x).dst
  its_meets = subst (λ (z : Ip6). Meets (client_settings lab.topology c) (fields_in x).src z) (sym are.handed.packet.destination)
      (subst (λ (z : Ip6). Meets (client_settings lab.topology c) z to) (sym are.handed.packet.source)
      (meets lab are.rules (a_side the) (b_side the)
      (sender_end the) (receiver_end the) (differ the)))

  its_here : IsHere (client_settings lab.topology c) (journal n H) (fields_in x).src
  its_here = subst (IsHere (client_settings lab.topology c) (journal n H)) (sym are.handed.packet.source) (sender_here the)

  module _ (quick : (is_fresh (now H) (known_by H n to) || has_cone to) ≡ true) where
    sends : (e the).step.sends ≡ send (embedded to) x ∷ []
    sends =
        at_once (client_settings lab.topology c) (journal n H) (now H) x are.handed.packet.packet its_meets its_here (small the)
        are.handed.packet.no_bubble (client_journals lab H n c are.grown.1 are.at).journal
        (ap (λ (z : Ip6). is_fresh (now H) (known_by H n z) || has_cone z) are.handed.packet.destination ∙ quick) (words lab n H)
        ∙ ap (λ (z : Ip6). send (embedded z) x ∷ []) are.handed.packet.destination

    pub made_one : q.made ≡ sent (udp (embedded from) (embedded to) x) ∷ []
    made_one = (leave the (send (embedded to) x ∷ []) sends (
      elsewhere (record {
        lab = lab;
        is = are.rules;
        a = a_side the;
        b = b_side the;
        an = sender_end the;
        bn = receiver_end the;
      }) (differ the),
      tt,
    )).made

    pub items_one : items_of q ≡ udp (embedded from) (embedded to) x ∷ []
    items_one = ap (filter_map item_in) made_one

    -- it is on the wire
    pub its_place : slice_get (wire (q ∷ H)) q.first ≡ Some (udp (embedded from) (embedded to) x)
    its_place = ap (λ (xs : List Item). slice_get (wire H ++ xs) q.first) items_one
        ∙ ap (slice_get (wire H ++ udp (embedded from) (embedded to) x ∷ [])) (number the)
        ∙ last_there (wire H) (udp (embedded from) (embedded to) x)

    pub long : length (wire (q ∷ H)) ≡ suc q.first
    long = ap (λ (xs : List Item). length (wire H ++ xs)) items_one ∙ one_longer (wire H) (udp (embedded from) (embedded to) x)
        ∙ ap suc (sym (number the))

-- THE FIRST DELIVERY

-- the first of these records
pub record First (lab : Lab) (H : List Full) (q : Full) (later : List Full) : Type 0 where
  pub rest : List Full
  pub record_ : Full
  pub split : later ≡ rest ++ record_ ∷ []
  pub grown : Grown lab (record_ ∷ q ∷ H)
  pub fresh : DeliversFresh q [] record_

pub first_of : (lab : Lab) (H : List Full) (q p : Full) (later : List Full) → Grown lab (p ∷ later ++ q ∷ H) → AreFresh q (p ∷ later)
    → First lab H q (p ∷ later)
first_of lab H q p [] g fresh = record { rest = []; record_ = p; split = refl; grown = g; fresh = fresh.0 }
first_of lab H q p (r ∷ later) g fresh =
    let f = first_of lab H q r later g.1 fresh.1 in
    record { rest = p ∷ f.rest; record_ = f.record_; split = ap (λ (z : List Full). p ∷ z) f.split; grown = f.grown; fresh = f.fresh }

-- delivers the one entry that there is
pub delivers_it : (lab : Lab) (H : List Full) (q p : Full) → Grown lab (p ∷ q ∷ H) → DeliversFresh q [] p → length (wire (q ∷ H)) ≡ suc q.first
    → p.delivered ≡ Some q.first
delivers_it lab H q p g fresh long =
    let within : fresh.number < length (wire (q ∷ H)) = on_wire lab (q ∷ H) p fresh.number g fresh.delivered in
    let new : q.first ≤ fresh.number = fresh.new in
    fresh.delivered ∙ ap (λ (k : ℕ). Some k) (the_one fresh.number q.first (length (wire (q ∷ H))) within long new) where
      the_one : (k first len : ℕ) → k < len → len ≡ suc first → first ≤ k → k ≡ first
      the_one k first len less same low = omega (arith, less, same, low)
