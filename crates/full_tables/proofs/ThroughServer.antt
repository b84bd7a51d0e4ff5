-- The other bubble of b comes to the server, which sends it on to a.
use Rattle.full_tables.proofs.Words.{Ep, Follows, Full, Item, List, NatEntry, None, Option, PEERS_MAX, Primary, Send, Some, Span, [], acts, ap, arith, armed, armed_after, arrived, client, delivers_item, delivers_to, false≢true, filter_map, goes_in, has_sends, item_in, items_of, leb-true, length, lets_in, nat_history, nat_pasts, nat_set_up, now, numbered, outright, own_ep, place, reaches, refl, route, route_in, same_ep, same_ip, sent, server, server_row, server_settings, six_made, slice_get, sym, udp, wire, ℕ, ◌++◌, ◌∙◌, ◌∷◌, ◌≡◌}
use Rattle.events.specs.declared.event.Event.TheVariants as event
use Rattle.history.specs.declared.act.Act.TheVariants as act
use Rattle.full_tables.proofs.Filler.{IsFilled}
use Rattle.full_tables.proofs.Filling.{none_armed}
use Rattle.full_tables.proofs.TwoClients.{the_server, a, topology, lab}
use Rattle.full_tables.proofs.BothSettled.{both_settled, b_outside, a_outside, at_server, bubble, with_origin, computed}
use Rattle.full_tables.proofs.ManyListed.{fills_a}
use Rattle.full_tables.proofs.ListEnds.{nothing_more, at_end, both_long}
use Rattle.full_tables.proofs.TwoBubbles.{straight_bubble, server_bubble, r, at_start, eight, items_are, nat_of_a_stays, ten, q1}

-- what the server makes of it
abbrev pub sent_bubble : Item
sent_bubble = udp at_server a_outside with_origin

module _ (H : List Full) (filled : IsFilled fills_a both_settled H PEERS_MAX) where
  abbrev handing : Full
  handing = r H filled

  -- THE SERVER SENDS THE OTHER ONE ON

  abbrev after_shut : List Full
  after_shut = q1 H filled ∷ handing ∷ H

  same_wire : wire after_shut ≡ wire (handing ∷ H)
  same_wire = nothing_more (wire (handing ∷ H))

  second_there : slice_get (wire after_shut) 9 ≡ Some server_bubble
  second_there =
      ap (λ (xs : List Item). slice_get xs 9) same_wire
      ∙ ap (λ (xs : List Item). slice_get (wire H ++ xs) 9) (items_are H filled)
      ∙ at_end (wire H) (straight_bubble ∷ server_bubble ∷ []) 1 8 (eight H filled)

  route_to_server : route lab after_shut (now after_shut) server_bubble ≡ reaches 0 (server the_server)
  unfolding same_ip same_ep
  route_to_server = refl

  abbrev pub q2 : Full
  q2 = acts lab after_shut (numbered (place after_shut) (event.Deliver 9)) (act.Deliver 9) (Some 9) (now after_shut) 0 at_server (arrived b_outside bubble)
      (server the_server)

  pub follows_2 : Follows lab after_shut q2
  follows_2 = record {
    goes_on = λ more. absurd (false≢true more);
    event = leb-true _ _ refl;
    is = sym (
        ap (delivers_item lab after_shut (numbered (place after_shut) (event.Deliver 9)) 9) second_there
        ∙ ap (delivers_to lab after_shut (numbered (place after_shut) (event.Deliver 9)) 9 server_bubble) route_to_server
        );
  }

  unarmed : armed after_shut ≡ None
  unarmed = ap (λ (o : Option ℕ). armed_after (has_sends handing.entry) o) filled.armed ∙ none_armed (has_sends handing.entry)

  pub made_on : q2.made ≡ sent sent_bubble ∷ []
  unfolding same_ip
  made_on =
      ap (λ (o : Option ℕ). outright (own_ep (server the_server)) o 0 (server_row (server_settings the_server) Primary b_outside bubble).sends
      ++ six_made (arrived b_outside bubble) (server_row (server_settings the_server) Primary b_outside bubble).six) unarmed
      ∙ ap (λ (xs : List Send). outright (own_ep (server the_server)) None 0 xs
      ++ six_made (arrived b_outside bubble) (server_row (server_settings the_server) Primary b_outside bubble).six) computed.sent_on.sends
      ∙ ap (λ (o : Option Span). sent sent_bubble ∷ six_made (arrived b_outside bubble) o) computed.sent_on.six

  -- WHAT COMES TO a

  abbrev pub after_server : List Full
  after_server = q2 ∷ after_shut

  items_on : items_of q2 ≡ sent_bubble ∷ []
  items_on = ap (filter_map item_in) made_on

  ten_still : length (wire after_shut) ≡ 10
  ten_still = ap (λ (xs : List Item). length xs) same_wire ∙ ten H filled

  pub eleven : length (wire after_server) ≡ 11
  eleven = let sum = both_long (wire after_shut) (items_of q2) in let one = ap (λ (xs : List Item). length xs) items_on in omega (arith, sum, one, ten_still)

  pub third_there : slice_get (wire after_server) 10 ≡ Some sent_bubble
  third_there = ap (λ (xs : List Item). slice_get (wire after_shut ++ xs) 10) items_on ∙ at_end (wire after_shut) (sent_bubble ∷ []) 0 10 ten_still

  enters : lets_in (nat_set_up topology 1) (nat_history lab 1 after_server) (now after_server) at_server 1024 ≡ Some a.inside
  enters =
      ap (λ (h : List NatEntry). lets_in (nat_set_up topology 1) h (now H) at_server 1024) (nat_of_a_stays H filled)
      ∙ ap (λ (m : ℕ). lets_in (nat_set_up topology 1) (nat_history lab 1 both_settled) m at_server 1024) (at_start H filled)
      ∙ computed.two_ways.enters

  pub route_to_a : route lab after_server (now after_server) sent_bubble ≡ reaches 3 (client a)
  unfolding same_ip same_ep
  route_to_a = ap (λ (o : Option Ep). route_in topology (goes_in topology [] (nat_pasts lab after_server) (now after_server) at_server [] 1 o)) enters
