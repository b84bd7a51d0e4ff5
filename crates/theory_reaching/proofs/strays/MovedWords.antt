-- `moved`, where a packet goes at once: between clients, and to a native host that is trusted at its relay. Nothing is asked but the sender's
-- own standing and its NATs.
use Rattle.theory_reaching.proofs.Words.{Bool, ClientNode, Ep, Full, GoneElsewhere, Grown, HostHandsIn, Ip6, IsHandedIn, IsTopology, Lab, List, MovedBetweenClients, MovedToNatives, Option, Some, address_at, address_of, ap, client, client_journals, client_settings, each_node, embedded, false, false≢true, fields_in, has_cone, inl, inr, is_fresh, is_on, is_teredo, is_trusted_at, journal, known_by, native, node_at, now, or_left, packet_is_payload, read_as, refl, speaks_to, subst, sym, true, trusted_at, trusted_is_embedded, unwrap_or, words, ℕ, ◌&&◌, ◌||◌, ◌∙◌, ◌∷◌, ◌≡◌, ◌⊎◌}
use Rattle.theory_settled.proofs.Earlier.{earlier}
use Rattle.theory_first_packets.proofs.HandedIn as handed_in
use Rattle.theory_reaching.proofs.strays.Moved.{none_come}
use Rattle.theory_reaching.proofs.strays.MovedOut.{IsForNobody, IsMoved, address_when_on}
use Rattle.theory_reaching.proofs.entries.StraightOut.{sends_straight}

-- in the record q after H the host of client n hands in x, which goes to D at once, and the client doesn't speak to D, or nobody is there
record IsStraightTo (lab : Lab) (H : List Full) (q : Full) (n : ℕ) (c : ClientNode) (x : List ℕ) (D : Ep) : Type 0 where
  rules : IsTopology lab.topology
  grown : Grown lab (q ∷ H)
  at : node_at lab.topology n ≡ Some (client c)
  on : is_on lab H n c ≡ true
  dst : Ip6
  handed : HostHandsIn q n (address_at lab H n) dst x
  gone : (speaks_to lab H c (address_at lab H n) D ≡ false) ⊎ IsForNobody lab D dst
  quick : (is_fresh (now H) (known_by H n dst) || (is_teredo dst && has_cone dst)) ≡ true
  trusts : (at : Ep) → (known_by H n dst).trusted ≡ Some at → at ≡ D
  its : is_fresh (now H) (known_by H n dst) ≡ false → embedded dst ≡ D

of_straight : (lab : Lab) (H : List Full) (q : Full) (n : ℕ) (c : ClientNode) (x : List ℕ) (D : Ep) → IsStraightTo lab H q n c x D
    → IsMoved lab H q n c x x D
of_straight lab H q n c x D is = record {
  rules = is.rules;
  grown = is.grown;
  at = is.at;
  on = is.on;
  dst = is.dst;
  handed = is.handed;
  one = sends_straight (client_settings lab.topology c) (journal n H) (now H) x (words lab n H) is.handed.packet.packet D
      (ap (λ (z : Ip6). is_fresh (now H) (known_by H n z) || (is_teredo z && has_cone z)) goes ∙ is.quick)
      (λ at e. is.trusts at (sym (ap (λ (z : Ip6). (known_by H n z).trusted) goes) ∙ e))
      (λ stale. ap embedded goes ∙ is.its (sym (ap (λ (z : Ip6). is_fresh (now H) (known_by H n z)) goes) ∙ stale));
  small = handed_in.small lab H q n (client c) x is_handed_in;
  source = is.handed.packet.source;
  reads = λ bytes short. packet_is_payload x (fields_in x) bytes short (read_as x is.handed.packet.packet);
  gone = by is.gone;
} where
  goes : (fields_in x).dst ≡ is.dst
  goes = is.handed.packet.destination

  is_handed_in : IsHandedIn lab H q n (client c) x
  is_handed_in = record { rules = is.rules; grown = is.grown; there = is.at; own = address_at lab H n; other = is.dst; handed = is.handed }

  by : (speaks_to lab H c (address_at lab H n) D ≡ false) ⊎ IsForNobody lab D is.dst
      → (speaks_to lab H c (address_at lab H n) D ≡ false) ⊎ IsForNobody lab D (fields_in x).dst
  by (inl moved) = inl moved
  by (inr nobody) = inr (subst (IsForNobody lab D) (sym goes) nobody)

pub between_clients : MovedBetweenClients
between_clients lab H q later n m c d x is g at to on there quick moved sent fresh =
    none_come (record {
      lab = lab;
      H = H;
      q = q;
      n = n;
      c = c;
      x = x;
      z = x;
      D = embedded other;
      is = of_straight lab H q n c x (embedded other) (record {
        rules = is;
        grown = earlier lab later (q ∷ H) g;
        at = at;
        on = on;
        dst = other;
        handed = sent.handed;
        gone = inl moved;
        quick = by (is_fresh (now H) (known_by H n other)) quick;
        trusts = λ e trusted. trusted_is_embedded _ (journal n H) (now H) other e (client_journals lab H n c grown.1 at).journal teredo trusted;
        its = λ stale. refl;
      });
    }) m (client d) later g fresh where
      other : Ip6
      other = address_at lab H m

      grown : Grown lab (q ∷ H)
      grown = earlier lab later (q ∷ H) g

      teredo : is_teredo other ≡ true
      teredo = (address_when_on lab H m d is grown.1 to there).1

      by : (b : Bool) → (b || has_cone other) ≡ true → (b || (is_teredo other && has_cone other)) ≡ true
      by true e = refl
      by false e = ap (λ (z : Bool). z && has_cone other) teredo ∙ e

pub to_natives : MovedToNatives
unfolding is_trusted_at
to_natives lab H q later n m c h r x is g at to through on quick trusted moved sent fresh =
    none_come (record {
      lab = lab;
      H = H;
      q = q;
      n = n;
      c = c;
      x = x;
      z = x;
      D = r.at;
      is = of_straight lab H q n c x r.at (record {
        rules = is;
        grown = earlier lab later (q ∷ H) g;
        at = at;
        on = on;
        dst = h.six;
        handed = subst (λ (z : Ip6). HostHandsIn q n (address_at lab H n) z x) (ap (address_of lab H m) to) sent.handed;
        gone = inl moved;
        quick = or_left (is_fresh (now H) (known_by H n h.six)) (is_teredo h.six && has_cone h.six) quick;
        trusts = λ e its. ap (λ (o : Option Ep). unwrap_or o e) (sym its ∙ trusted_at r.at (known_by H n h.six).trusted trusted);
        its = λ stale. absurd (false≢true (sym stale ∙ quick));
      });
    }) m (native h) later g fresh

pub to_nobody : GoneElsewhere
unfolding is_trusted_at
to_nobody lab H q later n m c h D x is g at to on quick trusted unanswered sent fresh =
    let outside = (each_node lab.topology m (native h) is to).outside in
    none_come (record {
      lab = lab;
      H = H;
      q = q;
      n = n;
      c = c;
      x = x;
      z = x;
      D = D;
      is = of_straight lab H q n c x D (record {
        rules = is;
        grown = earlier lab later (q ∷ H) g;
        at = at;
        on = on;
        dst = h.six;
        handed = subst (λ (z : Ip6). HostHandsIn q n (address_at lab H n) z x) (ap (address_of lab H m) to) sent.handed;
        gone = inr (record { unanswered = unanswered; native = outside.other; global = outside.global });
        quick = or_left (is_fresh (now H) (known_by H n h.six)) (is_teredo h.six && has_cone h.six) quick;
        trusts = λ e its. ap (λ (o : Option Ep). unwrap_or o e) (sym its ∙ trusted_at D (known_by H n h.six).trusted trusted);
        its = λ stale. absurd (false≢true (sym stale ∙ quick));
      });
    }) m (native h) later g fresh
