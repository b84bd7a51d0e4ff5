-- What a relay makes has the bytes of the loads that it carries.
use Rattle.theory_loads.proofs.Words.{AllByRecursion, AreOfSendsAnd, Bool, EachHasBytes, Entry, Ep, Fate, Full, HasBytesIfLoaded, Input, Ip6, IsMadeItem, List, Load, Made, None, Option, RelayReceivedOnlyIf, RelaySentOnlyIf, RelaySettings, RelayStanding, RelayTickedOnlyIf, Send, Some, Step, [], ap, append-nil, arith, arrived, destination_in, drop, due_by, embedded, entry_peer, false, fields_in, filter_map, from_six, given, is_barred, is_packet, is_payload, item_in, known, length, length-drop, load_at, map, packet_in, part, reception_is_warranted, refl, relay_entry, relay_first_peer, relay_given, relay_in, relay_known_in, relay_mentions, relay_queues, relay_reception, relay_reception_row, relay_reception_step, relay_seen, relay_six, relay_standing_at, relay_standing_of, relay_tick, relay_tick_step, relay_transmission, relay_transmission_row, relay_transmission_step, releases, rest_of, send, sent, six, six_made, source_in, subst, sym, take_all, ticked, true, unspecified, unwrap_or, value_in, ℕ, ◌++◌, ◌-◌, ◌∙◌, ◌∷◌, ◌≡◌}
use Rattle.teredo_node.specs.declared.fate.Fate.TheVariants as fate
use Rattle.relay_rules.proofs.LawProofs.{transmission_is_warranted, tick_is_warranted}
use Rattle.theory_loads.proofs.Lists.{MadeHasBytes}
use Rattle.theory_loads.proofs.Sends.{SendsHaveBytes, packet_of, packet_sent, no_sends, one_send, made_of_sends, released_and}
use Rattle.theory_loads.proofs.Given.{packet_in_input}
use Rattle.theory_loads.proofs.Clients.{loads_sent, WaitHere}

-- all of a datagram from a place on
pub rest_is : (at : ℕ) (x : List ℕ) → part x (rest_of at x) ≡ drop at x
rest_is at x = take_all (length x - at) (drop at x) (let l = length-drop at x in omega (arith, l))

-- what was made is of these sends alone, or of no sends
module _ (W : List Full) where
  abbrev pub AreMade : List Made → Type 0
  AreMade ms = AllByRecursion IsMadeItem (filter_map item_in ms)

  pub of_sends_alone : (ls : List (Option Load)) (ms : List Made) (ss : List Send) → AreOfSendsAnd ss [] ms → AreMade ms → SendsHaveBytes W ls ss → MadeHasBytes W ls ms
  of_sends_alone ls ms ss of made has =
      let same : ms ≡ of.front = of.split ∙ append-nil of.front in
      subst (MadeHasBytes W ls) (sym same) (made_of_sends W ls of.front ss of.each (subst AreMade same made) has)

  pub of_releases_and : (to : Ep) (ls more : List (Option Load)) (xs : List (List ℕ)) (behind ms : List Made) → EachHasBytes W ls (map (λ (x : List ℕ). Some x) xs)
      → AllByRecursion (λ (x : List ℕ). is_packet x ≡ true) xs → AreOfSendsAnd (releases to xs) behind ms → AreMade ms
      → MadeHasBytes W more behind → MadeHasBytes W (ls ++ more) ms
  of_releases_and to ls more xs behind ms each are of made has =
      subst (MadeHasBytes W (ls ++ more)) (sym of.split) (released_and W to ls more xs of.front behind each are of.each (subst AreMade of.split made) has)

  -- the packet of a payload, on its way on the IPv6 side
  pub goes_six : (l : Option Load) (x : List ℕ) (at : ℕ) → is_payload x ≡ true → at ≡ (value_in x).lead.at → HasBytesIfLoaded W l (packet_in x)
      → MadeHasBytes W (l ∷ []) (sent (six None (part x (rest_of at x))) ∷ [])
  goes_six l x at is same has = (
    subst (λ (o : Option (List ℕ)). HasBytesIfLoaded W l o) (packet_of x is ∙ ap (λ (k : ℕ). Some (drop k x)) (sym same) ∙ ap (λ (y : List ℕ). Some y) (sym (rest_is at x))) has,
    tt,
  )

module _ (W : List Full) (ls : List (Option Load)) (l : Option Load) (ms : List Made) (made : AreMade W ms) where
  module _ (s : RelaySettings) (j : List Entry) (m : ℕ) where
    -- A DATAGRAM

    module _ (from : Ep) (x : List ℕ) (numbers : List ℕ) where
      abbrev a : RelayStanding
      a = relay_standing_of j m (source_in x)

      abbrev to : Ep
      to = embedded (value_in x).packet.src

      abbrev OfStep : Step → Type 0
      OfStep step = AreOfSendsAnd step.sends (six_made (arrived from x) step.six) ms → MadeHasBytes W (loads_sent ls step.fate numbers l) ms

      datagram_makes : WaitHere W ls numbers (relay_known_in a).waiting → HasBytesIfLoaded W l (packet_in x) → OfStep (relay_in s j m from x).step
      unfolding relay_in relay_reception relay_seen
      datagram_makes wait has = by (relay_reception_row (relay_seen s a from x)) (reception_is_warranted s a from x) where
        by : (f : Fate) → RelayReceivedOnlyIf f (relay_seen s a from x) → OfStep (relay_reception_step a x (value_in x) f)
        by fate.FromClient only = λ of. of_releases_and W to (map (load_at ls) numbers) (l ∷ []) (relay_known_in a).waiting _ ms wait.each wait.packets of made
            (goes_six W l x (value_in x).lead.at only.peer.payload refl has)
        by fate.FromClientBubble only = λ of. of_releases_and W to (map (load_at ls) numbers) [] (relay_known_in a).waiting [] ms wait.each wait.packets of made tt
        by fate.Unserved only = λ of. of_releases_and W to (map (load_at ls) numbers) [] (relay_known_in a).waiting [] ms wait.each wait.packets of made tt
        by f only = λ of. of_sends_alone W (loads_sent ls f numbers l) ms [] of made (no_sends W (loads_sent ls f numbers l))

    -- A PACKET OF THE IPV6 SIDE

    module _ (x : List ℕ) (numbers : List ℕ) where
      abbrev b : RelayStanding
      b = relay_standing_of j m (destination_in x)

      queued_sends : (barred : Bool) → SendsHaveBytes W (loads_sent ls (relay_queues barred s (fields_in x).dst).fate numbers l) (relay_queues barred s (fields_in x).dst).sends
      queued_sends true = tt
      queued_sends false = tt

      packet_sends : HasBytesIfLoaded W l (Some x) → SendsHaveBytes W (loads_sent ls (relay_six s j m x).step.fate numbers l) (relay_six s j m x).step.sends
      unfolding relay_six relay_transmission relay_given
      packet_sends has = by (relay_transmission_row (relay_given s b x)) (transmission_is_warranted s b x) where
        by : (f : Fate) → RelaySentOnlyIf f (relay_given s b x)
            → SendsHaveBytes W (loads_sent ls (relay_transmission_step s b x (fields_in x).dst f).fate numbers l) (relay_transmission_step s b x (fields_in x).dst f).sends
        by fate.Sent only = one_send W l (send (embedded (fields_in x).dst) x) (packet_sent W l x only.out.packet has)
        by fate.SentCone only = one_send W l (send (embedded (fields_in x).dst) x) (packet_sent W l x only.out.packet has)
        by fate.Queued only = queued_sends (is_barred b.moment (relay_known_in b))
        by f only = no_sends W (loads_sent ls f numbers l)

    -- A TICK

    tick_carries : (numbers : List ℕ) → loads_sent ls (relay_tick s j m).step.fate numbers l ≡ []
    unfolding relay_tick
    tick_carries numbers = by (relay_tick_step s m (due_by m (relay_first_peer j m))).fate (tick_is_warranted s m (due_by m (relay_first_peer j m))) where
      by : (f : Fate) → RelayTickedOnlyIf f m (due_by m (relay_first_peer j m)) → loads_sent ls f numbers l ≡ []
      by fate.GiveUp only = refl
      by fate.Bubbles only = refl
      by fate.Idle only = refl
      by _ only = absurd only

    -- ANY INPUT

    module _ (numbers : Ip6 → List ℕ) (wait : (p : Ip6) → WaitHere W ls (numbers p) (known (relay_mentions j) m p).waiting) where
      pub relay_makes : (input : Input) → HasBytesIfLoaded W l (packet_in_input input)
          → AreOfSendsAnd (relay_entry s j m input).step.sends (six_made input (relay_entry s j m input).step.six) ms
          → MadeHasBytes W (loads_sent ls (relay_entry s j m input).step.fate (numbers (entry_peer (Some (relay_entry s j m input)))) l) ms
      unfolding relay_in relay_six relay_standing_at
      relay_makes (arrived from x) has of = datagram_makes from x (numbers (unwrap_or (source_in x) unspecified)) (wait (unwrap_or (source_in x) unspecified)) has of
      relay_makes (from_six x) has of =
          of_sends_alone W (loads_sent ls (relay_six s j m x).step.fate (numbers (unwrap_or (destination_in x) unspecified)) l) ms (relay_six s j m x).step.sends of made
          (packet_sends x (numbers (unwrap_or (destination_in x) unspecified)) has)
      relay_makes ticked has of = subst (λ (ks : List (Option Load)). MadeHasBytes W ks ms) (sym (tick_carries (numbers (entry_peer (Some (relay_tick s j m)))))) tt
      relay_makes (given x) has of = tt
