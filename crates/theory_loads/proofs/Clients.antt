-- What a client sends has the bytes of the loads that it carries.
use Rattle.theory_loads.proofs.Words.{AllByRecursion, Bool, EachHasBytes, Ep, Fate, Full, HasBytesIfLoaded, Input, Ip6, Journal, List, Load, None, Option, SentOnlyIf, Settings, Some, Standing, TickedOnlyIf, Words, [], arrived, client_entry, client_in, client_out, client_tick, destination_in, due_at, embedded, entry_peer, false, fields_in, first_peer, from_six, given, if◌then◌else◌, is_barred, is_packet, known, known_in, load_at, load_goes_on, map, mentions, option_to_list, qualification, queues, reception, reception_fate, reception_step, refl, releases_all, send, source_in, standing_at, standing_of, subst, sym, tick, ticked, transmission, transmission_row, transmission_step, true, unspecified, unwrap_or, value_in, ℕ, ◌++◌, ◌∷◌, ◌≡◌}
use Rattle.teredo_node.specs.declared.fate.Fate.TheVariants as fate
use Rattle.client_rules.specs.Transmission as table
use Rattle.client_rules.proofs.LawProofs.{transmission_is_warranted, tick_is_warranted}
use Rattle.theory_loads.proofs.Sends.{SendsHaveBytes, packet_sent, no_sends, one_send, released_have}
use Rattle.theory_loads.proofs.Given.{packet_in_input}

-- what the sends of a step with this fate carry: of the packets of these records, and of what was given
abbrev pub loads_sent : List (Option Load) → Fate → List ℕ → Option Load → List (Option Load)
loads_sent ls f numbers l = map (load_at ls) (if releases_all f then numbers else []) ++ load_goes_on f l

-- what waits for an address has the bytes of the loads of these records
pub record WaitHere (W : List Full) (ls : List (Option Load)) (numbers : List ℕ) (waiting : List (List ℕ)) : Type 0 where
  pub each : EachHasBytes W (map (load_at ls) numbers) (map (λ (x : List ℕ). Some x) waiting)
  pub packets : AllByRecursion (λ (x : List ℕ). is_packet x ≡ true) waiting

module _ (W : List Full) (ls : List (Option Load)) (l : Option Load) where
  module _ (s : Settings) (j : Journal) (m : ℕ) (w : Words) where
    -- A DATAGRAM

    module _ (from : Ep) (x : List ℕ) (numbers : List ℕ) where
      abbrev a : Standing
      a = standing_of s j m (source_in x)

      datagram_sends : WaitHere W ls numbers (known_in a).waiting → SendsHaveBytes W (loads_sent ls (client_in s j m from x w).step.fate numbers l) (client_in s j m from x w).step.sends
      unfolding client_in reception
      datagram_sends wait = by (reception_fate s a from x) where
        by : (f : Fate) → SendsHaveBytes W (loads_sent ls (reception_step s a from x (value_in x) w f).fate numbers l) (reception_step s a from x (value_in x) w f).sends
        by fate.Rule1 = released_have W from (map (load_at ls) numbers) (known_in a).waiting wait.each wait.packets
        by fate.Rule1Bubble = released_have W from (map (load_at ls) numbers) (known_in a).waiting wait.each wait.packets
        by fate.Rule2 = released_have W from (map (load_at ls) numbers) (known_in a).waiting wait.each wait.packets
        by fate.Rule3 = released_have W from (map (load_at ls) numbers) (known_in a).waiting wait.each wait.packets
        by fate.Rule3Bubble = released_have W from (map (load_at ls) numbers) (known_in a).waiting wait.each wait.packets
        by fate.Indirect = tt
        by fate.HeldTest = tt
        by fate.SuspiciousTest = tt
        by f = no_sends W (loads_sent ls f numbers l)

    -- A PACKET OF THE HOST

    module _ (x : List ℕ) (numbers : List ℕ) where
      abbrev b : Standing
      b = standing_of s j m (destination_in x)

      maybe_sent : (o : Option Ep) → is_packet x ≡ true → HasBytesIfLoaded W l (Some x) → SendsHaveBytes W (l ∷ []) (map (λ (at : Ep). send at x) (option_to_list o))
      maybe_sent None is has = tt
      maybe_sent (Some at) is has = one_send W l (send at x) (packet_sent W l x is has)

      queued_sends : (barred : Bool) → SendsHaveBytes W (loads_sent ls (queues barred s b (fields_in x).dst w).fate numbers l) (queues barred s b (fields_in x).dst w).sends
      queued_sends true = tt
      queued_sends false = tt

      packet_sends : HasBytesIfLoaded W l (Some x) → SendsHaveBytes W (loads_sent ls (client_out s j m x w).step.fate numbers l) (client_out s j m x w).step.sends
      unfolding client_out transmission table.given
      packet_sends has = by (transmission_row (table.given s b x)) (transmission_is_warranted s b x) where
        by : (f : Fate) → SentOnlyIf f (table.given s b x)
            → SendsHaveBytes W (loads_sent ls (transmission_step s b x (fields_in x).dst w f).fate numbers l) (transmission_step s b x (fields_in x).dst w f).sends
        by fate.Sent only = maybe_sent (known_in b).trusted only.out.packet has
        by fate.SentCone only = one_send W l (send (embedded (fields_in x).dst) x) (packet_sent W l x only.out.packet has)
        by fate.Queued only = queued_sends (is_barred b.moment (known_in b))
        by f only = no_sends W (loads_sent ls f numbers l)

    -- A TICK

    module _ (numbers : List ℕ) where
      tick_sends : SendsHaveBytes W (loads_sent ls (client_tick s j m w).step.fate numbers l) (client_tick s j m w).step.sends
      unfolding client_tick
      tick_sends = subst (λ (ms : List (Option Load)). SendsHaveBytes W ms (client_tick s j m w).step.sends)
          (sym (by (tick s m (qualification s j) w (due_at m (qualification s j) (first_peer j m))).fate (tick_is_warranted s m (qualification s j) w (first_peer j m)))) tt where
            by : (f : Fate) → TickedOnlyIf f m (qualification s j) (first_peer j m) → loads_sent ls f numbers l ≡ []
            by fate.RsCone only = refl
            by fate.RsRestricted only = refl
            by fate.RsSecondary only = refl
            by fate.OffLine only = refl
            by fate.Refresh only = refl
            by fate.GiveUp only = refl
            by fate.Bubbles only = refl
            by fate.Test only = refl
            by fate.Idle only = refl
            by _ only = absurd only

    -- ANY INPUT

    module _ (numbers : Ip6 → List ℕ) (wait : (p : Ip6) → WaitHere W ls (numbers p) (known (mentions j.entries) m p).waiting) where
      pub client_sends : (input : Input) → HasBytesIfLoaded W l (packet_in_input input)
          → SendsHaveBytes W (loads_sent ls (client_entry s j m input w).step.fate (numbers (entry_peer (Some (client_entry s j m input w)))) l) (client_entry s j m input w).step.sends
      unfolding client_in client_out standing_at
      client_sends (arrived from x) has = datagram_sends from x (numbers (unwrap_or (source_in x) unspecified)) (wait (unwrap_or (source_in x) unspecified))
      client_sends (given x) has = packet_sends x (numbers (unwrap_or (destination_in x) unspecified)) has
      client_sends ticked has = tick_sends (numbers (entry_peer (Some (client_tick s j m w))))
      client_sends (from_six x) has = tt
