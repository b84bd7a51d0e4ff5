-- What a client makes of a datagram weighs less than the datagram, whatever its fate is.
use Rattle.theory_storms.proofs.Words.{Bool, Each, Fate, List, Phase, advert_lines, advert_row, client_in, client_rules_reception_is_warranted, false, first_line, first_of_each, phase_line, refl, skip, true, value_in, ◌++◌}
use Rattle.teredo_node.specs.declared.fate.Fate.TheVariants as fate
use Rattle.qualify.specs.declared.phase.Phase.TheVariants as phase
use Rattle.client_rules.specs.Reception as reception
use Rattle.theory_storms.proofs.clients.AtClient.{AtClient, weigh, setup, stands, seen_of, heard_of, came, LightAs, Light, IsAtClient, IsCalm, calm}
use Rattle.theory_storms.proofs.clients.ClientReleases.{releasing}
use Rattle.theory_storms.proofs.clients.ClientAnswers.{indirect, tests}

module _ (d : AtClient) (g : IsAtClient d) where
  -- EACH FATE

  quietly : (f : Fate) → IsCalm (came d f) → Light d f
  quietly f is only = calm (weigh d) d.m d.j (came d f) d.heavy g.least is

  rule1 : Light d fate.Rule1
  rule1 only = releasing d g (came d fate.Rule1) only.direct.mine refl (refl, refl, refl, refl) refl refl

  rule1_bubble : Light d fate.Rule1Bubble
  rule1_bubble only = releasing d g (came d fate.Rule1Bubble) only.direct.mine refl (refl, refl, refl, refl) refl refl

  rule2 : Light d fate.Rule2
  rule2 only = releasing d g (came d fate.Rule2) only.direct.mine refl (refl, refl, refl, refl) refl refl

  rule3 : Light d fate.Rule3
  rule3 only = releasing d g (came d fate.Rule3) only.direct.mine refl (refl, refl, refl, refl) refl refl

  rule3_bubble : Light d fate.Rule3Bubble
  rule3_bubble only = releasing d g (came d fate.Rule3Bubble) only.direct.mine refl (refl, refl, refl, refl) refl refl

  held_test : Light d fate.HeldTest
  held_test only = tests d g false (came d fate.HeldTest) only refl (refl, refl, refl, refl) refl refl

  suspicious_test : Light d fate.SuspiciousTest
  suspicious_test only = tests d g true (came d fate.SuspiciousTest) only refl (refl, refl, refl, refl) refl refl

  -- ADVERTISEMENTS

  by_phase : (now : Phase) (same : Bool) → Light d (phase_line now same)
  by_phase phase.Cone same = quietly fate.QualifiedCone (refl, refl, refl, refl)
  by_phase phase.Restricted same = quietly fate.FirstAnswer (refl, refl, refl, refl)
  by_phase phase.Secondary true = quietly fate.QualifiedRestricted (refl, refl, refl, refl)
  by_phase phase.Secondary false = quietly fate.Symmetric (refl, refl, refl, refl)
  by_phase phase.Qualified true = quietly fate.Same (refl, refl, refl, refl)
  by_phase phase.Qualified false = quietly fate.Changed (refl, refl, refl, refl)
  by_phase phase.Symmetric same = quietly fate.Nonce (refl, refl, refl, refl)
  by_phase phase.OffLine same = quietly fate.Nonce (refl, refl, refl, refl)

  advert_each : Each (Light d) (advert_lines (heard_of d))
  advert_each = (
    quietly fate.Nonce (refl, refl, refl, refl),
    (
      quietly fate.AdvertSource (refl, refl, refl, refl),
      (quietly fate.Origin (refl, refl, refl, refl), (quietly fate.Prefix (refl, refl, refl, refl), (quietly fate.Prefix (refl, refl, refl, refl), tt))),
    ),
  )

  abbrev told : Fate
  told = advert_row (setup d) (stands d).qualification d.src (value_in d.x)

  advert : Light d told
  unfolding advert_row
  advert = first_of_each (Light d) (advert_lines (heard_of d)) (phase_line (heard_of d).phase (heard_of d).same_origin) advert_each
      (by_phase (heard_of d).phase (heard_of d).same_origin)

  -- THE TABLE, BY ITS PARTS

  abbrev a : reception.Seen
  a = seen_of d

  suspicious_each : Each (Light d) (reception.suspicious_lines a)
  suspicious_each = (held_test, (suspicious_test, (quietly fate.Held (refl, refl, refl, refl), tt)))

  teredo_each : Each (Light d) (reception.teredo_lines a)
  teredo_each = (quietly fate.PeersFull (refl, refl, refl, refl), (rule3_bubble, (rule3, (quietly fate.Mismatch (refl, refl, refl, refl), tt))))

  trusted_each : Each (Light d) (reception.trusted_lines a)
  trusted_each = (rule1_bubble, (rule1, (rule2, tt)))

  direct : Light d (first_line (reception.direct_lines a) fate.Suspicious)
  direct = skip (Light d) (reception.trusted_lines a) (reception.teredo_lines a ++ reception.suspicious_lines a) fate.Suspicious trusted_each
      (skip (Light d) (reception.teredo_lines a) (reception.suspicious_lines a) fate.Suspicious teredo_each
      (first_of_each (Light d) (reception.suspicious_lines a) fate.Suspicious suspicious_each (quietly fate.Suspicious (refl, refl, refl, refl))))

  indirect_each : Each (Light d) (reception.indirect_lines a)
  indirect_each = (
    quietly fate.Origin (refl, refl, refl, refl),
    (quietly fate.PeersFull (refl, refl, refl, refl), (quietly fate.Barred (refl, refl, refl, refl), (indirect d g, tt))),
  )

  packet_each : Each (Light d) (reception.packet_lines a)
  packet_each = (quietly fate.Off (refl, refl, refl, refl), (quietly fate.NotMine (refl, refl, refl, refl), (quietly fate.Itself (refl, refl, refl, refl), tt)))

  abbrev for_client : List (Bool × Fate)
  for_client = reception.packet_lines a ++ (reception.indirect_lines a ++ reception.direct_lines a)

  packet : Light d (first_line for_client fate.Suspicious)
  packet = skip (Light d) (reception.packet_lines a) (reception.indirect_lines a ++ reception.direct_lines a) fate.Suspicious packet_each
      (skip (Light d) (reception.indirect_lines a) (reception.direct_lines a) fate.Suspicious indirect_each direct)

  server_each : Each (Light d) (reception.server_lines a told)
  server_each = (quietly fate.Icmp (refl, refl, refl, refl), (advert, (quietly fate.ServerOther (refl, refl, refl, refl), tt)))

  datagram_each : Each (Light d) (reception.datagram_lines a)
  datagram_each = (
    quietly fate.Malformed (refl, refl, refl, refl),
    (quietly fate.Keyed (refl, refl, refl, refl), (quietly fate.Confirmation (refl, refl, refl, refl), (quietly fate.Big (refl, refl, refl, refl), tt))),
  )

  each_fate : Light d (reception.reception_row a told)
  each_fate = skip (Light d) (reception.datagram_lines a) (reception.server_lines a told ++ for_client) fate.Suspicious datagram_each
      (skip (Light d) (reception.server_lines a told) for_client fate.Suspicious server_each packet)

  pub datagram_lightens : LightAs d (client_in (setup d) d.j d.m d.src d.x d.w)
  unfolding client_in reception.reception reception.reception_fate
  datagram_lightens = each_fate (client_rules_reception_is_warranted (setup d) (stands d) d.src d.x)
