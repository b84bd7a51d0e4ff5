-- `within 4` and `within 5`: the packet comes with a complete schedule, and one with so many deliveries is complete.
use Rattle.theory_reaching.proofs.Words.{AreFresh, Arrives, BringsWithin, ClientNode, ComesInTime, Full, GetsThrough, GivesToHost, Grown, HasArrived, IsComplete, IsNameable, KeepsItsPromise, List, Node, Relayed, SomeBrings, TwoClients, [], address_at, ap, arith, between_clients_lines, between_clients_row, client, false, from_native_lines, from_native_row, host_hands, inl, inr, length, next_packet_arrives_along, refl, relayed, some_so, subst, suc, sym, to_native_lines, to_native_row, true, two_clients, was_delivered, wire, ℕ, ◌++◌, ◌+◌, ◌-◌, ◌<◌, ◌∷◌, ◌≡◌, ◌≤◌, ◌⊎◌}
use Rattle.theory_settled.proofs.Earlier.{earlier}
use Rattle.theory_reaching.specs.declared.word.Reach.TheVariants as word
use Rattle.theory_reaching.proofs.Lines.{which_held, that_one}
use Rattle.theory_reaching.proofs.Pairs.{SaidBy, between_clients, to_native, from_native, said_by}
use Rattle.theory_reaching.proofs.schedules.Undelivered.{all_or_one}
use Rattle.theory_reaching.proofs.from_native.FromNativesInTime as from_host
use Rattle.theory_reaching.proofs.clients.Further.{goes_on}
use Rattle.theory_reaching.proofs.clients.MayMeetByWord.{is_four, is_late, passes, may_meet}
use Rattle.theory_reaching.proofs.NextPacket.{NextPacket, of_nodes, over}

-- WHAT THE LINES SAY

-- the first of these words wants the cone bit of the sender
four_from_cone : (a : TwoClients) → is_four (between_clients_row a) ≡ true → a.from_cone ≡ true
four_from_cone a e = that_one a.from_cone (which_held is_four (between_clients_lines a) word.Within5 refl e)

-- they are never said of packets to a native host
never_to : (a : Relayed) → is_late (to_native_row a) ≡ true → ⊥
never_to a e = which_held is_late (to_native_lines a) word.Within6 refl e

-- nor the first of them of packets from one
never_from : (a : Relayed) → is_four (from_native_row a) ≡ true → ⊥
never_from a e = which_held is_four (from_native_lines a) word.Within6 refl e

-- THE SCHEDULE

-- an arrival brings it
brings : (m : ℕ) (d : ClientNode) (x : List ℕ) (later : List Full) → HasArrived m x later → SomeBrings m (client d) x later
brings m d x = some_so (Arrives m x) (GivesToHost m x) (λ (q : Full) (a : Arrives m x q). record { node = a.node; packet = inl a.packet })

-- either all is delivered, or something is left
left_or_complete : (H : List Full) (q : Full) (later : List Full) → IsComplete H q later
    ⊎ ((k : ℕ) × (q.first ≤ k) × (k < length (wire (later ++ q ∷ H))) × (was_delivered k later ≡ false))
left_or_complete H q later = by (all_or_one later q.first (length (wire (later ++ q ∷ H)) - q.first)) where
  by : ((k : ℕ) → q.first ≤ k → k < q.first + (length (wire (later ++ q ∷ H)) - q.first) → was_delivered k later ≡ true)
      ⊎ ((k : ℕ) × (q.first ≤ k) × (k < q.first + (length (wire (later ++ q ∷ H)) - q.first)) × (was_delivered k later ≡ false))
      → IsComplete H q later ⊎ ((k : ℕ) × (q.first ≤ k) × (k < length (wire (later ++ q ∷ H))) × (was_delivered k later ≡ false))
  by (inl all) = inl (λ k low high. all k low (omega (arith, low, high)))
  by (inr one) = let a : q.first ≤ one.0 = one.1 in let b : one.0 < q.first + (length (wire (later ++ q ∷ H)) - q.first) = one.2 in
      inr (one.0, one.1, omega (arith, a, b), one.3)

module _ (c d : ClientNode) (the : NextPacket (client c) (client d)) where
  open the use {lab, H, is, chained, q, later, n, m, x, g, at, to, sent, fresh}

  -- so many deliveries are the most, and a complete schedule brings the packet
  abbrev pub GoesWell : ℕ → Type 0
  GoesWell most = (l : List Full) → Grown lab (l ++ q ∷ H) → AreFresh q l → (length l ≤ most) × (IsComplete H q l → HasArrived m x l)

  pub in_time : (most : ℕ) → GoesWell most → ComesInTime H q m (client d) x later most
  in_time most well = record { whole = whole; enough = λ short many. by short many (left_or_complete H q later) } where
    there : Grown lab (q ∷ H)
    there = earlier lab later (q ∷ H) g

    whole : IsComplete H q later → BringsWithin most m (client d) x later
    whole complete = record {
      rest = [];
      first = later;
      split = refl;
      few = (well later g fresh).0;
      comes = brings m d x later ((well later g fresh).1 complete);
    }

    too_many : (k : ℕ) → suc k ≤ most → most ≤ k → ⊥
    too_many k few many = omega (arith, few, many)

    by : IsNameable (later ++ q ∷ H) → most ≤ length later
        → IsComplete H q later ⊎ ((k : ℕ) × (q.first ≤ k) × (k < length (wire (later ++ q ∷ H))) × (was_delivered k later ≡ false))
        → BringsWithin most m (client d) x later
    by short many (inl complete) = whole complete
    by short many (inr one) =
        let taken = host_hands H at there.0 sent.handed in
        let on = goes_on (record { lab = lab; H = H; r = q; n = n; c = c; x = x; taken = taken; grown = there }) later g fresh
        short one.0 one.1 one.2 one.3 in
        absurd (too_many (length later) (well (on.next ∷ later) on.grown on.fresh).0 many)

  -- THE WORDS

  -- it is carried as any packet between clients that may meet
  carried : is_late (between_clients_row (two_clients lab H n m c d)) ≡ true → (l : List Full) → Grown lab (l ++ q ∷ H) → AreFresh q l
      → GetsThrough H q m (address_at lab H n) (address_at lab H m) x l
  carried late l grown new =
      next_packet_arrives_along lab H q l is chained grown n m c d (address_at lab H n) (address_at lab H m) x
      (record { clients = may_meet lab H (earlier lab later (q ∷ H) g).1 (over the) n m c d at to (passes (two_clients lab H n m c d) late); handed = sent.handed }) new

  four : between_clients_row (two_clients lab H n m c d) ≡ word.Within4 → ComesInTime H q m (client d) x later 4
  unfolding two_clients
  four e = in_time 4 (λ l grown f. (
    (carried (ap is_late e) l grown f).few_from_cone (four_from_cone (two_clients lab H n m c d) (ap is_four e)),
    (carried (ap is_late e) l grown f).arrives,
  ))

  five : between_clients_row (two_clients lab H n m c d) ≡ word.Within5 → ComesInTime H q m (client d) x later 5
  five e = in_time 5 (λ l grown f. ((carried (ap is_late e) l grown f).few, (carried (ap is_late e) l grown f).arrives))

pub four_is_kept : KeepsItsPromise word.Within4
four_is_kept lab H is chained q later n m a b x g at to said sent fresh = by (said_by (record { lab = lab; H = H; n = n; m = m; said = word.Within4 }) a b at to said) where
  the : NextPacket a b
  the = record { lab = lab; H = H; is = is; chained = chained; q = q; later = later; n = n; m = m; x = x; g = g; at = at; to = to; sent = sent; fresh = fresh }

  by : SaidBy lab H n m a b word.Within4 → ComesInTime H q m b x later 4
  by (between_clients c d same other e) = subst (λ (z : Node). ComesInTime H q m z x later 4) (sym other) (four c d (of_nodes the same other) e)
  by (to_native c h r same other through e) = absurd (never_to (relayed lab H n c h r) (ap is_late e))
  by (from_native h c r same other through e) = absurd (never_from (relayed lab H m c h r) (ap is_four e))

pub five_is_kept : KeepsItsPromise word.Within5
five_is_kept lab H is chained q later n m a b x g at to said sent fresh = by (said_by (record { lab = lab; H = H; n = n; m = m; said = word.Within5 }) a b at to said) where
  the : NextPacket a b
  the = record { lab = lab; H = H; is = is; chained = chained; q = q; later = later; n = n; m = m; x = x; g = g; at = at; to = to; sent = sent; fresh = fresh }

  by : SaidBy lab H n m a b word.Within5 → ComesInTime H q m b x later 5
  by (between_clients c d same other e) = subst (λ (z : Node). ComesInTime H q m z x later 5) (sym other) (five c d (of_nodes the same other) e)
  by (to_native c h r same other through e) = absurd (never_to (relayed lab H n c h r) (ap is_late e))
  by (from_native h c r same other through e) = subst (λ (z : Node). ComesInTime H q m z x later 5) (sym other)
      (from_host.five h c (of_nodes the same other) said)
