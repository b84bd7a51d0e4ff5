-- A client that is handed a packet for a peer to which it is closed makes nothing, so no delivery follows.
use Rattle.theory_reaching.proofs.Words.{AreFresh, ClientNode, Full, Grown, HostHandsIn, Ip6, Lab, List, Made, Send, [], address_at, alone, ap, armed, by_way, client_out, client_settings, false, fields_in, has_cone, has_room, is_barred, is_fresh, is_teredo, journal, known_by, now, peers_of, subst, sym, true, way_out, words, ℕ, ◌&&◌, ◌++◌, ◌∙◌, ◌∷◌, ◌≡◌, ◌⊎◌}
use Rattle.theory_settled.proofs.Earlier.{earlier}
use Rattle.theory_reaching.proofs.clients.SilentSender.{sends_nothing}

module _ (lab : Lab) (H : List Full) (q : Full) (n : ℕ) (c : ClientNode) (p : Ip6) (x : List ℕ) where
  -- what comes of the client's datagrams
  abbrev made_of : List Send → List Made
  made_of xs = (by_way lab H (now H) (way_out lab.chain c.nat) c.inside (armed H) 0 [] xs).made

  -- in the record q after H its host hands in x for p, which isn't fresh and has no cone bit, and to which the client is closed
  pub record IsClosedOff : Type 0 where
    pub handed : HostHandsIn q n (address_at lab H n) p x
    pub made : q.made ≡ made_of (client_out (client_settings lab.topology c) (journal n H) (now H) x (words lab n H)).step.sends
    pub stale : is_fresh (now H) (known_by H n p) ≡ false
    pub plain : (is_teredo p && has_cone p) ≡ false
    pub closed : (is_barred (now H) (known_by H n p) ≡ true) ⊎ (has_room (peers_of H n) (now H) p ≡ false)

  pub nothing_made : IsClosedOff → q.made ≡ []
  nothing_made is =
      let goes : (fields_in x).dst ≡ p = is.handed.packet.destination in
      let silent = sends_nothing (client_settings lab.topology c) (journal n H) (now H) x (words lab n H) is.handed.packet.packet
      (ap (λ (z : Ip6). is_fresh (now H) (known_by H n z)) goes ∙ is.stale)
      (ap (λ (z : Ip6). is_teredo z && has_cone z) goes ∙ is.plain)
      (subst (λ (z : Ip6). (is_barred (now H) (known_by H n z) ≡ true) ⊎ (has_room (peers_of H n) (now H) z ≡ false)) (sym goes) is.closed) in
      is.made ∙ ap made_of silent

  pub none_follow : IsClosedOff → (later : List Full) → Grown lab (later ++ q ∷ H) → AreFresh q later → later ≡ []
  none_follow is later g fresh = alone lab H q (earlier lab later (q ∷ H) g) (nothing_made is) later g fresh
