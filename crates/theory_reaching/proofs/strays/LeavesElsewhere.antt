-- A datagram that nodes make and that says that it comes from the address of a NAT goes to another address: a NAT sends nothing back
-- to its own. It is so whoever spoke for others before.
use Rattle.theory_reaching.proofs.Words.{AllByRecursion, Bool, ClientNode, Ep, Event, Forges, Full, GoesElsewhere, Grown, HasOwnSource, IsBehind, IsTopology, Item, Lab, List, MadeBy, Node, Option, Some, TopologyState, ap, as_client, by_client, by_native, by_relay, by_server, each_pair, false, false≢true, from_nowhere, is_honest_event, is_some, items_are_made, items_of, leaves_elsewhere, nat, nat_pasts, nats_from, node_at, option_and_then, outer_in, own_ep, own_sources, refl, relay, server, strange, subst, sym, to_six, true, unwrap_or, ℕ, ◌∙◌, ◌∷◌, ◌≡◌}
use Rattle.events.specs.declared.event.Event.TheVariants as event
use Rattle.legal.specs.Makers.{copied}
use Rattle.theory_origins.proofs.SentElsewhere.{at_nat}

-- EVENTS

-- the event puts a datagram onto the wire that no node sent
abbrev pub is_put : Event → Bool
is_put (event.Stranger src dst bytes) = true
is_put (event.Copy number src dst) = true
is_put _ = false

no_forgery : (H : List Full) (src dst : Ep) (bytes : List ℕ) (e : Event) → Forges H src dst bytes e → is_put e ≡ false → ⊥
no_forgery H src dst bytes _ strange none = false≢true (sym none)
no_forgery H src dst bytes _ (copied number x at is) none = false≢true (sym none)

honest : (t : TopologyState) (e : Event) → is_put e ≡ false → is_honest_event t e ≡ true
honest t (event.Stranger src dst bytes) none = absurd (false≢true (sym none))
honest t (event.Copy number src dst) none = absurd (false≢true (sym none))
honest t _ none = refl

-- A RECORD

module _ (lab : Lab) (H : List Full) (r : Full) (none : is_put r.asked ≡ false) where
  -- a record of a client behind a NAT is that of a client
  its_client : (k n : ℕ) (a : Node) → IsBehind lab r k → r.node ≡ Some n → node_at lab.topology n ≡ Some a → is_some (as_client a) ≡ true
  its_client k n a behind node there =
      let same : n ≡ behind.number = ap (λ (o : Option ℕ). unwrap_or o n) (sym node ∙ behind.node) in
      ap (λ (o : Option ClientNode). is_some o)
      (ap (option_and_then as_client) (sym there ∙ ap (node_at lab.topology) same) ∙ behind.client)

  elsewhere : (y : Item) → HasOwnSource lab r y → MadeBy lab H r y → GoesElsewhere lab y
  elsewhere y own (from_nowhere src dst bytes forged e) = absurd (no_forgery H src dst bytes r.asked forged none)
  elsewhere y own (by_server n b e s act c same) =
      subst (GoesElsewhere lab) (sym same) (λ k a at from to.
      false≢true (its_client k n (server b) (subst (HasOwnSource lab r) same own k (nat a) at (at_nat (own_ep (server b) s.side).ip a from))
      act.node act.there))
  elsewhere y own (by_relay n b e s act c same) =
      subst (GoesElsewhere lab) (sym same) (λ k a at from to.
      false≢true (its_client k n (relay b) (subst (HasOwnSource lab r) same own k (nat a) at (at_nat b.at.ip a from)) act.node act.there))
  elsewhere y own (by_client n c e s src act held leaves same) =
      subst (GoesElsewhere lab) (sym same) (λ k a at from to.
      leaves_elsewhere (record { rows = lab.topology; pasts = nat_pasts lab H; moment = r.moment; to = s.to }) c.nat
      (nats_from lab.chain lab.chain (outer_in lab.chain c.nat)) c.inside leaves.before src leaves.leaves (to ∙ sym from))
  elsewhere y own (by_native n h e bytes act p same) = subst (GoesElsewhere lab) (sym same) tt
  elsewhere y own (to_six n a e from bytes span act i p same) = subst (GoesElsewhere lab) (sym same) tt

  -- so each that it made goes elsewhere
  pub all_elsewhere : IsTopology lab.topology → Grown lab (r ∷ H) → AllByRecursion (GoesElsewhere lab) (items_of r)
  all_elsewhere is g =
      each_pair {P = HasOwnSource lab r} {Q = MadeBy lab H r} {R = GoesElsewhere lab} elsewhere (items_of r)
      (own_sources lab H r is g (honest lab.topology r.asked none)) (items_are_made lab H r g)
