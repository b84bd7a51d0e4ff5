-- A datagram from a server's endpoint is the server's own, where no event speaks for it.
use Rattle.theory_origins.proofs.Words.{Bool, EachServerHasOwnVoice, Ep, Event, Forges, Full, IsActOf, IsOwnIfSent, IsOwnSend, IsTopology, Item, Lab, List, MadeBy, Node, Primary, ServerNode, Some, all_map, ap, by_client, by_native, by_relay, by_server, copied, false, false≢true, from_nowhere, has_address, inl, inr, is_at, is_sent_by, items_are_made, items_of, node_at, or_cases, own_ep, own_send, refl, relay, same_ep, same_ep-true, server, server_ep, speaks_for, strange, subst, sym, to_six, true, udp, ℕ, ◌∙◌, ◌≡◌, ◌⊎◌}
use Rattle.td_base.specs.declared.side.Side.TheVariants.{Secondary}
use Rattle.theory_origins.proofs.SentFrom.{Has, server_has, one_has, same_node, leaves_at, nat_has}

-- an endpoint of a server has an address of it
address_of : (a : ServerNode) (src : Ep) → is_at src (server a) ≡ true → has_address src.ip (server a) ≡ true
address_of a src at = by (or_cases (same_ep src (server_ep a.primary)) (same_ep src (server_ep a.secondary)) at) where
  by : (same_ep src (server_ep a.primary) ≡ true) ⊎ (same_ep src (server_ep a.secondary) ≡ true) → has_address src.ip (server a) ≡ true
  by (inl e) = ap (λ (o : Ep). has_address o.ip (server a)) (same_ep-true src (server_ep a.primary) e) ∙ server_has a Primary
  by (inr e) = ap (λ (o : Ep). has_address o.ip (server a)) (same_ep-true src (server_ep a.secondary) e) ∙ server_has a Secondary

is_server : Node → Bool
is_server (server a) = true
is_server _ = false

row_of : ServerNode → Node → ServerNode
row_of d (server a) = a
row_of d _ = d

-- a server for which nobody speaks in the latest record
record QuietServer (a : ServerNode) : Type 0 where
  lab : Lab
  H : List Full
  r : Full
  is : IsTopology lab.topology
  n : ℕ
  there : node_at lab.topology n ≡ Some (server a)
  quiet : speaks_for a r.asked ≡ false

module _ {a : ServerNode} (quiet_server : QuietServer a) where
  open quiet_server use {lab, H, r, is, n, there, quiet}

  has_it : (src : Ep) → is_at src (server a) ≡ true → Has lab.topology n src.ip
  has_it src at = record { node = server a; at = there; has = address_of a src at }

  forged : {e : Event} {src dst : Ep} {bytes : List ℕ} → Forges H src dst bytes e → is_at src (server a) ≡ speaks_for a e
  forged strange = refl
  forged (copied number y at same) = refl

  own : (x : Item) → MadeBy lab H r x → is_sent_by a x ≡ true → IsOwnSend lab H r n a x
  unfolding row_of has_it is_server
  own x (from_nowhere src dst bytes forges e) of =
      let at : is_at src (server a) ≡ true = sym (ap (is_sent_by a) e) ∙ of in
      absurd (false≢true (sym quiet ∙ sym (forged forges) ∙ at))
  own x (by_server k b e s act c same) of =
      let at : is_at (own_ep (server b) s.side) (server a) ≡ true = sym (ap (is_sent_by a) same) ∙ of in
      let one = same_node lab.topology k n (own_ep (server b) s.side).ip is
      (record { node = server b; at = act.there; has = server_has b s.side }) (has_it (own_ep (server b) s.side) at) in
      let row : b ≡ a = ap (row_of b) one.1 in
      let act_n : IsActOf lab H r n (server a) e = subst (λ (z : ServerNode). IsActOf lab H r n (server z) e) row
      (subst (λ (j : ℕ). IsActOf lab H r j (server b) e) one.0 act) in
      own_send e s act_n c (subst (λ (z : ServerNode). x ≡ udp (own_ep (server z) s.side) s.to s.bytes) row same)
  own x (by_relay k b e s act c same) of =
      let at : is_at b.at (server a) ≡ true = sym (ap (is_sent_by a) same) ∙ of in
      let one = same_node lab.topology k n b.at.ip is (record { node = relay b; at = act.there; has = one_has b.at.ip }) (has_it b.at at) in
      absurd (false≢true (ap is_server one.1))
  own x (by_client k c e s src act held leaves same) of =
      let at : is_at src (server a) ≡ true = sym (ap (is_sent_by a) same) ∙ of in
      let one = nat_has lab c src.ip n is (leaves_at lab H r.moment c s.to src leaves) (has_it src at) in
      absurd (false≢true (ap is_server one.2))
  own x (by_native k h e bytes act p same) of = absurd (false≢true (sym (ap (is_sent_by a) same) ∙ of))
  own x (to_six k b e from bytes span act i p same) of = absurd (false≢true (sym (ap (is_sent_by a) same) ∙ of))

pub each_server_has_own_voice : EachServerHasOwnVoice
each_server_has_own_voice lab H r n a is g there quiet =
    all_map (MadeBy lab H r) (IsOwnIfSent lab H r n a) (items_of r) (own (record { lab = lab; H = H; r = r; is = is; n = n; there = there; quiet = quiet })) (items_are_made lab H r g)
