-- What a word within 2 and within 5 promises between a client and a native host, of which each knows the other: its premise, and that the
-- packet comes by so many deliveries.
use Rattle.worked_facts.proofs.Words.{BringsWithin, Event, Full, List, Scenario, Some, [], arith, client, from_six, given, inl, is_led_to, is_settled, native, play, playing, reach_of, refl, some_words, speaks_to, take, true, ◌∷◌, ◌≡◌}
use Rattle.nat_kinds.specs.declared.kind.NatKind.TheVariants as kind
use Rattle.teredo_node.specs.declared.fate.Fate.TheVariants as fate
use Rattle.events.specs.declared.event.Event.TheVariants as event
use Rattle.theory_reaching.specs.declared.word.Reach.TheVariants as word
use Rattle.theory_reaching.specs.ThroughRelay.{relayed}
use Rattle.worked_facts.proofs.NativeNodes.{host_six, a_own, a_own_cone, client_row, host_row, lab, to_a, to_h, after_qualifying, after_cone_qualifying}
use Rattle.worked_facts.proofs.NativeFacts.{to_port_x, to_port-goes, to_port-no-reply, to_cone_x, to_cone-goes, to_cone-no-reply}
use Rattle.worked_facts.proofs.ToNativeFacts.{from_cone_x, from_cone-goes}
use Rattle.worked_facts.proofs.WordViews.{next_seen, IsNextByWord, next_by_word}
use Rattle.worked_facts.proofs.ComingViews.{brought, handed_over, comes_to_native, comes_to_client}

-- THEY KNOW EACH OTHER

-- the client behind a cone NAT has sent the host a packet, which came
abbrev pub acquainted : List Event → Scenario
acquainted rest = after_cone_qualifying (to_h ∷ event.Deliver 2 ∷ event.Deliver 3 ∷ event.Deliver 4 ∷ event.Deliver 5 ∷ event.Deliver 6 ∷ event.Deliver 7 ∷ rest)

-- it sends one more, and then the host sends it one
abbrev pub both_ways : Scenario
both_ways = acquainted (to_h ∷ event.Deliver 8 ∷ event.Deliver 9 ∷ to_a ∷ event.Deliver 10 ∷ event.Deliver 11 ∷ [])

-- TO THE HOST

abbrev pub there_history : List Full
there_history = play some_words both_ways 14 []

pub there-seen : next_seen (lab kind.Cone) 2 4 2 there_history ≡ Some (record {
  said = Some word.Within2;
  own = a_own_cone;
  other = host_six;
  node = Some 2;
  input = Some (given from_cone_x);
  fresh = true;
  left = [];
  fates = fate.Kept ∷ fate.FromClient ∷ [];
})
unfolding playing reach_of relayed is_settled is_led_to speaks_to
there-seen = refl

pub there-is-next : IsNextByWord (lab kind.Cone) there_history 2 2 4 (client client_row) (native host_row) from_cone_x word.Within2
there-is-next = next_by_word (lab kind.Cone) 2 4 (client client_row) (native host_row) refl refl from_cone_x tt word.Within2 2 there_history there-seen
    (record { word = refl; node = refl; input = refl; packet = from_cone-goes; fresh = refl; nothing = refl })

pub there-brought : brought 0 there_history ≡ Some (record { node = Some 4; input = Some (from_six from_cone_x) })
unfolding playing
there-brought = refl

pub there-comes : BringsWithin 2 4 (native host_row) from_cone_x (take 2 there_history)
there-comes = comes_to_native 2 2 0 (omega arith) (omega arith) 4 host_row from_cone_x _ (record { node = refl; input = refl }) there_history there-brought

-- FROM THE HOST

abbrev pub back_history : List Full
back_history = play some_words both_ways 17 []

pub back-seen : next_seen (lab kind.Cone) 4 2 2 back_history ≡ Some (record {
  said = Some word.Within2;
  own = host_six;
  other = a_own_cone;
  node = Some 4;
  input = Some (given to_cone_x);
  fresh = true;
  left = [];
  fates = fate.Rule1 ∷ fate.Sent ∷ [];
})
unfolding playing reach_of relayed is_settled is_led_to speaks_to
back-seen = refl

pub back-is-next : IsNextByWord (lab kind.Cone) back_history 2 4 2 (native host_row) (client client_row) to_cone_x word.Within2
back-is-next = next_by_word (lab kind.Cone) 4 2 (native host_row) (client client_row) refl refl to_cone_x to_cone-no-reply word.Within2 2 back_history back-seen
    (record { word = refl; node = refl; input = refl; packet = to_cone-goes; fresh = refl; nothing = refl })

pub back-brought : handed_over 0 back_history ≡ Some (record { node = Some 2; handed = Some to_cone_x; late = [] })
unfolding playing
back-brought = refl

pub back-comes : BringsWithin 2 2 (client client_row) to_cone_x (take 2 back_history)
back-comes = comes_to_client 2 2 0 (omega arith) (omega arith) 2 client_row to_cone_x _ (record { node = refl; packet = inl refl }) back_history back-brought

-- THE RELAY FORGETS

-- the relay starts anew, and need not ask for a client with the cone bit; the client still trusts the host there
abbrev pub trusted_still : Scenario
trusted_still = acquainted (event.Restart 3 ∷ to_a ∷ event.Deliver 8 ∷ event.Deliver 9 ∷ [])

abbrev pub still_history : List Full
still_history = play some_words trusted_still 15 []

pub still-seen : next_seen (lab kind.Cone) 4 2 2 still_history ≡ Some (record {
  said = Some word.Within2;
  own = host_six;
  other = a_own_cone;
  node = Some 4;
  input = Some (given to_cone_x);
  fresh = true;
  left = [];
  fates = fate.Rule1 ∷ fate.SentCone ∷ [];
})
unfolding playing reach_of relayed is_settled is_led_to speaks_to
still-seen = refl

pub still-is-next : IsNextByWord (lab kind.Cone) still_history 2 4 2 (native host_row) (client client_row) to_cone_x word.Within2
still-is-next = next_by_word (lab kind.Cone) 4 2 (native host_row) (client client_row) refl refl to_cone_x to_cone-no-reply word.Within2 2 still_history still-seen
    (record { word = refl; node = refl; input = refl; packet = to_cone-goes; fresh = refl; nothing = refl })

pub still-brought : handed_over 0 still_history ≡ Some (record { node = Some 2; handed = Some to_cone_x; late = [] })
unfolding playing
still-brought = refl

pub still-comes : BringsWithin 2 2 (client client_row) to_cone_x (take 2 still_history)
still-comes = comes_to_client 2 2 0 (omega arith) (omega arith) 2 client_row to_cone_x _ (record { node = refl; packet = inl refl }) still_history still-brought

-- behind a port restricted NAT the relay asks for the client first, two seconds after it did so before
abbrev pub asked_anew : Scenario
asked_anew = after_qualifying (to_h ∷ event.Deliver 7 ∷ event.Deliver 8 ∷ event.Deliver 9 ∷ event.Deliver 10 ∷ event.Deliver 11 ∷ event.Deliver 12
    ∷ event.Deliver 13 ∷ event.Deliver 14 ∷ event.Deliver 15 ∷ event.Restart 3 ∷ event.Advance 2000 ∷ to_a ∷ event.Deliver 16 ∷ event.Deliver 17
    ∷ event.Deliver 18 ∷ event.Deliver 19 ∷ event.Deliver 20 ∷ [])

abbrev pub anew_history : List Full
anew_history = play some_words asked_anew 29 []

pub anew-seen : next_seen (lab kind.Port) 4 2 5 anew_history ≡ Some (record {
  said = Some word.Within5;
  own = host_six;
  other = a_own;
  node = Some 4;
  input = Some (given to_port_x);
  fresh = true;
  left = [];
  fates = fate.Rule1 ∷ fate.FromClientBubble ∷ fate.Indirect ∷ fate.ForwardOrigin ∷ fate.Queued ∷ [];
})
unfolding playing reach_of relayed is_settled is_led_to speaks_to
anew-seen = refl

pub anew-is-next : IsNextByWord (lab kind.Port) anew_history 5 4 2 (native host_row) (client client_row) to_port_x word.Within5
anew-is-next = next_by_word (lab kind.Port) 4 2 (native host_row) (client client_row) refl refl to_port_x to_port-no-reply word.Within5 5 anew_history anew-seen
    (record { word = refl; node = refl; input = refl; packet = to_port-goes; fresh = refl; nothing = refl })

pub anew-brought : handed_over 0 anew_history ≡ Some (record { node = Some 2; handed = Some to_port_x; late = [] })
unfolding playing
anew-brought = refl

pub anew-comes : BringsWithin 5 2 (client client_row) to_port_x (take 5 anew_history)
anew-comes = comes_to_client 5 5 0 (omega arith) (omega arith) 2 client_row to_port_x _ (record { node = refl; packet = inl refl }) anew_history anew-brought
