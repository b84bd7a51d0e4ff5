-- What a server answers a delivery to one of its endpoints: the output that an audit draws of it.
use Rattle.theory_wires.proofs.Words.{Bool, Contains, Ep, IsTopology, Lab, List, None, Primary, Secondary, Send, ServerNode, ServerSettings, Side, Some, ap, arith, audited, cond, datagram, each_node, false, false≢true, inl, inr, is_audited, length, node_at, on_wire, one_output, output, own_ep, refl, reply_to, same_ep, same_ep-self, same_ep-true, same_ip, same_ip-self, server, server_ep, server_row, side_at, side_with, subst, sym, true, udp, ℕ, ◌||◌, ◌∙◌, ◌≡◌, ◌≤◌, ◌⊎◌}
use Rattle.theory_wires.proofs.Places.{held, only_one, own_is_endpoint}

-- the server whose wire is audited
pub record Audited : Type 0 where
  pub lab : Lab
  pub is : IsTopology lab.topology
  pub number : ℕ
  pub row : ServerNode
  pub there : node_at lab.topology number ≡ Some (server row)

abbrev pub settings_of : Audited → ServerSettings
settings_of v = audited v.row.primary v.row.secondary

-- WHAT A DELIVERY ANSWERS

module _ (v : Audited) where
  abbrev lab : Lab
  lab = v.lab

  abbrev n : ℕ
  n = v.number

  abbrev a : ServerNode
  a = v.row

  abbrev s : ServerSettings
  s = settings_of v

  side_is : (dst : Ep) → (dst ≡ server_ep a.primary) ⊎ (dst ≡ server_ep a.secondary) → side_with s dst ≡ side_at (server a) dst
  side_is dst (inl e) = subst (λ (z : Ep). side_with s z ≡ side_at (server a) z) (sym e)
      (ap (λ (b : Bool). cond b Primary Secondary) (same_ep-self (server_ep a.primary))
      ∙ sym (ap (λ (b : Bool). cond b Secondary Primary) (each_node lab.topology n (server a) v.is v.there).apart))
  side_is dst (inr e) = subst (λ (z : Ep). side_with s z ≡ side_at (server a) z) (sym e)
      (ap (λ (b : Bool). cond b Primary Secondary) (other (same_ep (server_ep a.secondary) (server_ep a.primary)) refl)
      ∙ sym (ap (λ (b : Bool). cond b Secondary Primary) (same_ip-self a.secondary)))
    where
      other : (b : Bool) → same_ep (server_ep a.secondary) (server_ep a.primary) ≡ b → b ≡ false
      other false g = refl
      other true g =
          let same = ap (λ (z : Ep). z.ip) (same_ep-true (server_ep a.secondary) (server_ep a.primary) g) in
          absurd (false≢true (sym (each_node lab.topology n (server a) v.is v.there).apart
          ∙ ap (λ (z : _). same_ip z a.secondary) (sym same) ∙ same_ip-self a.secondary))

  audited_is : (dst : Ep) → (dst ≡ server_ep a.primary) ⊎ (dst ≡ server_ep a.secondary) → is_audited s dst ≡ true
  unfolding is_audited
  audited_is dst (inl e) =
      subst (λ (z : Ep). is_audited s z ≡ true) (sym e)
      (ap (λ (b : Bool). b || same_ep (server_ep a.primary) (server_ep a.secondary)) (same_ep-self (server_ep a.primary)))
  audited_is dst (inr e) =
      subst (λ (z : Ep). is_audited s z ≡ true) (sym e)
      (by (same_ep (server_ep a.secondary) (server_ep a.primary)) (same_ep (server_ep a.secondary) (server_ep a.secondary))
      (same_ep-self (server_ep a.secondary)))
    where
      by : (b c : Bool) → c ≡ true → (b || c) ≡ true
      by true c h = refl
      by false c h = h

  -- the reply to what came, where the server sends z
  pub replies : (from dst : Ep) (x : List ℕ) (z : Send) → (dst ≡ server_ep a.primary) ⊎ (dst ≡ server_ep a.secondary)
      → Contains (server_row s (side_at (server a) dst) from x).sends z
      → output s (held (udp from dst x)) ≡ Some (datagram (own_ep (server a) z.side) z.to z.bytes)
  unfolding reply_to
  replies from dst x z at c =
      let most = one_output s (side_at (server a) dst) from x in
      let few : length (server_row s (side_at (server a) dst) from x).sends ≤ 1 = omega (arith, most) in
      let sends = only_one (server_row s (side_at (server a) dst) from x).sends z few c in
      ap (λ (b : Bool). cond b (on_wire s (server_row s (side_with s dst) from x).sends) None) (audited_is dst at)
      ∙ ap (λ (side : Side). on_wire s (server_row s side from x).sends) (side_is dst at)
      ∙ ap (λ (zs : List Send). on_wire s zs) sends
      ∙ ap (λ (e : Ep). Some (datagram e z.to z.bytes)) (sym (own_is_endpoint a z.side))
