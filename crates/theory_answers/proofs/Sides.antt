-- Where a client asks its server, and whence the answer comes: from the other address where it asks as a cone.
use Rattle.theory_answers.proofs.Words.{Bool, ClientNode, Cone, Ep, HasServer, Ip4, Ip6, IsEp, IsTopology, Lab, OffLine, Phase, Primary, Qualification, Qualified, Restricted, Secondary, ServerNode, Settings, Side, Symmetric, answering_side, ap, asks_as_cone, client_settings, expected, expected_in, false, if◌then◌else◌, inl, inr, is_cone, link_local, link_local_tells, other_side, own_ep, refl, same_ip, same_ip-self, same_ip-true, second, server, server_asked, server_ep, side_at, sym, true, two_addresses, ◌∙◌, ◌≡◌, ◌⊎◌}

module _ (lab : Lab) (c : ClientNode) (is : IsTopology lab.topology)
    (has : HasServer lab.topology c) (q : Qualification) where
  abbrev s : Settings
  s = client_settings lab.topology c

  abbrev row : ServerNode
  row = has.row

  abbrev cone : Bool
  cone = asks_as_cone q q.phase

  abbrev src : Ip6
  src = link_local cone s.inside

  -- it asks one of them
  pub to_one : (ph : Phase) → (server_asked s ph ≡ server_ep row.primary) ⊎ (server_asked s ph ≡ server_ep row.secondary)
  to_one Secondary = inr (ap server_ep has.secondary)
  to_one Cone = inl (ap server_ep has.primary)
  to_one Restricted = inl (ap server_ep has.primary)
  to_one Qualified = inl (ap server_ep has.primary)
  to_one Symmetric = inl (ap server_ep has.primary)
  to_one OffLine = inl (ap server_ep has.primary)

  abbrev side_in : Phase → Side
  side_in Secondary = second
  side_in _ = Primary

  abbrev side_by : Bool → Side
  side_by b = if b then second else Primary

  at_first : side_at (server row) (server_ep s.primary) ≡ Primary
  at_first = by (same_ip s.primary row.secondary) refl where
    by : (b : Bool) → same_ip s.primary row.secondary ≡ b → side_by b ≡ Primary
    by false e = refl
    by true e = absurd (two_addresses lab c is has (same_ip-true s.primary row.secondary e ∙ sym has.secondary))

  at_second : side_at (server row) (server_ep s.secondary) ≡ second
  at_second = ap (λ (ip : Ip4). side_by (same_ip s.secondary ip)) (sym has.secondary) ∙ ap side_by (same_ip-self s.secondary)

  side_of : (ph : Phase) → side_at (server row) (server_asked s ph) ≡ side_in ph
  side_of Secondary = at_second
  side_of Cone = at_first
  side_of Restricted = at_first
  side_of Qualified = at_first
  side_of Symmetric = at_first
  side_of OffLine = at_first

  abbrev from_side : Side → Bool → Ep
  from_side side as_cone = own_ep (server row) (if as_cone then other_side side else side)

  from_by : (ph : Phase) → from_side (side_in ph) (asks_as_cone q ph) ≡ expected_in s ph (is_cone q)
  from_by Cone = ap server_ep (sym has.secondary)
  from_by Restricted = ap server_ep (sym has.primary)
  from_by Secondary = ap server_ep (sym has.secondary)
  from_by Qualified = by (is_cone q) where
    by : (b : Bool) → from_side Primary b ≡ expected_in s Qualified b
    by true = ap server_ep (sym has.secondary)
    by false = ap server_ep (sym has.primary)
  from_by Symmetric = ap server_ep (sym has.primary)
  from_by OffLine = ap server_ep (sym has.primary)

  abbrev side : Side
  side = side_at (server row) (server_asked s q.phase)

  -- the answer comes from where it is expected
  pub from_is : IsEp s.inside → own_ep (server row) (answering_side side src) ≡ expected s q
  unfolding expected
  from_is inside =
      ap (λ (b : Bool). from_side side b) (link_local_tells cone s.inside inside).cone_is
      ∙ ap (λ (z : Side). from_side z cone) (side_of q.phase) ∙ from_by q.phase
