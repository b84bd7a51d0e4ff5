-- What relays, servers and native hosts put onto the wire at the stages of a packet between a client and a native.
use Rattle.theory_first_natives.proofs.Words.{Bool, Did, Entry, Ep, Full, HasNoFault, Input, Ip6, Lab, List, Made, Native, NativeNode, None, ReadsPayload, RelayNode, Send, Some, Step, [], ap, armed, arrived, cond, echoed, embedded, entry_of, false, false≢true, fields_in, from_six, given, is_at_place, is_big, is_fault, is_global6, is_packet, is_teredo, list_any, made_outright, native, native_in, native_made, native_out, native_row, no_ep, now, outright, own_ep, refl, relay, rest_of, same_ip6, same_ip6-self, send, sent, sent_by, server, side_at, six, six_made, subst, sym, take_rest, test_bytes, ticked, true, udp, value_written, ℕ, ◌++◌, ◌∙◌, ◌∷◌, ◌≡◌}
use Rattle.theory_first_natives.proofs.from_native.Trio.{Trio, IsTrio}
use Rattle.theory_first_natives.proofs.tables.ServerTells.{row}
use Rattle.theory_first_natives.proofs.tables.ServerGives as server_gives

-- nothing goes to the IPv6 side where nothing is said of it
no_six : (i : Input) → six_made i None ≡ []
no_six (arrived from x) = refl
no_six (given x) = refl
no_six (from_six x) = refl
no_six ticked = refl

-- THE RELAY

module _ {lab : Lab} {H : List Full} {q : Full} {k : ℕ} {r : RelayNode} {e : Entry} (did : Did lab H q k (relay r) e) (sound : HasNoFault q) where
  -- one datagram leaves from its endpoint
  pub relay_sends : (to : Ep) (bytes : List ℕ) → e.step.sends ≡ send to bytes ∷ [] → e.step.six ≡ None → q.made ≡ sent (udp r.at to bytes) ∷ []
  relay_sends to bytes sends none = made_so ∙ unless (is_at_place 0 (armed H)) (subst (λ (ms : List Made). list_any is_fault ms ≡ false) made_so sound) where
    made_so : q.made ≡ made_outright (is_at_place 0 (armed H)) (own_ep (relay r)) (send to bytes) ∷ []
    made_so = did.made
        ∙ ap (λ (xs : List Send). outright (own_ep (relay r)) (armed H) 0 xs ++ six_made e.input e.step.six) sends
        ∙ ap (λ (ms : List Made). made_outright (is_at_place 0 (armed H)) (own_ep (relay r)) (send to bytes) ∷ ms) (ap (six_made e.input) none ∙ no_six e.input)

    unless : (b : Bool) → list_any is_fault (made_outright b (own_ep (relay r)) (send to bytes) ∷ []) ≡ false
        → (made_outright b (own_ep (relay r)) (send to bytes) ∷ []) ≡ sent (udp r.at to bytes) ∷ []
    unless true bad = absurd (false≢true (sym bad))
    unless false good = refl

  -- a packet goes to the IPv6 side
  pub relay_passes : (from : Ep) (x : List ℕ) → e.step.sends ≡ [] → e.step.six ≡ Some (rest_of 0 x) → e.input ≡ arrived from x → q.made ≡ sent (six None x) ∷ []
  relay_passes from x sends passes input =
      did.made
      ∙ ap (λ (xs : List Send). outright (own_ep (relay r)) (armed H) 0 xs ++ six_made e.input e.step.six) sends
      ∙ ap (λ (i : Input). six_made i e.step.six) input
      ∙ ap (six_made (arrived from x)) passes
      ∙ ap (λ (y : List ℕ). sent (six None y) ∷ []) (take_rest x 0)

-- THE NATIVE

-- its host's packet it sends
pub host_sends : (own : Ip6) (x : List ℕ) → is_packet x ≡ true → is_big (fields_in x) ≡ false → (fields_in x).src ≡ own → is_global6 (fields_in x).dst ≡ true
    → (native_out own x).packet ≡ Some x
unfolding native_out
host_sends own x one small src global =
    ap (λ (b : Bool). (sent_by x (native_row own b (fields_in x))).packet) one
    ∙ rw (small, (ap (λ (z : Ip6). same_ip6 z own) src ∙ same_ip6-self own), global) refl

-- a record of a native host, and a packet
pub record NativeStep : Type 0 where
  pub lab : Lab
  pub H : List Full
  pub q : Full
  pub m : ℕ
  pub h : NativeNode
  pub x : List ℕ

module _ (native_step : NativeStep) where
  open native_step use {lab, H, q, m, h, x}

  -- it answers an echo request through its relay
  pub native_echoes : Did lab H q m (native h) (entry_of lab H (now H) m no_ep (from_six x) (native h)) → (y : List ℕ) → native_in x ≡ echoed y
      → is_teredo (fields_in y).dst ≡ true → q.made ≡ sent (six (Some h.relay) y) ∷ []
  native_echoes did y same teredo = did.made ∙ ap (λ (z : Native). native_made h z.packet) same
      ∙ ap (λ (b : Bool). sent (six (cond b (Some h.relay) None) y) ∷ []) teredo

  pub native_gives : Did lab H q m (native h) (entry_of lab H (now H) m no_ep (given x) (native h)) → is_packet x ≡ true → is_big (fields_in x) ≡ false
      → (fields_in x).src ≡ h.six → is_global6 (fields_in x).dst ≡ true → is_teredo (fields_in x).dst ≡ true → q.made ≡ sent (six (Some h.relay) x) ∷ []
  native_gives did one small src global teredo = did.made ∙ ap (native_made h) (host_sends h.six x one small src global)
      ∙ ap (λ (b : Bool). sent (six (cond b (Some h.relay) None) x) ∷ []) teredo

-- THE SERVER

module _ (p : Trio) (is : IsTrio p) (H : List Full) (q : Full) (dst : Ep) where
  abbrev node_row : Step → List Made
  node_row z = outright (own_ep (server (row p is))) (armed H) 0 z.sends

  -- it gives a test to the IPv6 side
  pub server_gives_test : (nonce : ℕ) → ReadsPayload (value_written None None (server_gives.test p is nonce)) (test_bytes p.a.own p.h.six nonce)
      → Did p.lab H q p.a.c.server (server (row p is)) (entry_of p.lab H (now H) p.a.c.server dst
      (arrived (embedded p.a.own) (test_bytes p.a.own p.h.six nonce)) (server (row p is)))
      → q.made ≡ sent (six None (test_bytes p.a.own p.h.six nonce)) ∷ []
  server_gives_test nonce reads did = did.made
      ∙ ap (λ (z : Step). node_row z ++ six_made (arrived (embedded p.a.own) (test_bytes p.a.own p.h.six nonce)) z.six)
      (server_gives.gives p is nonce (side_at (server (row p is)) dst) reads)
      ∙ ap (λ (y : List ℕ). sent (six None y) ∷ []) (take_rest (test_bytes p.a.own p.h.six nonce) 0)
