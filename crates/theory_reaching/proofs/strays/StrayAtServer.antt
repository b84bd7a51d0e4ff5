-- A stray at a server, which drops it: its source isn't where it came from.
use Rattle.theory_reaching.proofs.Words.{ALL_ROUTERS, Advert, Bool, Dropped, Ep, Fields, Forward, ForwardOrigin, List, None, Rule, RuledOnlyIf, ServerSettings, Six, Value, and_left, ap, by_payload, embedded, false, fields_in, is_forged, is_link_local, is_solicit, is_solicitation, message_in, not, refl, rule_is_warranted, rule_of, same_ep, same_ip6, server_seen, step_of, subst, sym, true, value_written, ℕ, ◌&&◌, ◌∙◌, ◌≡◌}
use Rattle.td_base.specs.declared.side.Side.{Side}
use Rattle.server_core.specs.Server.{server_row}
use Rattle.theory_reaching.proofs.Tests.{never}
use Rattle.theory_reaching.proofs.strays.Stray.{IsStray, IsNothing}

module _ (s : ServerSettings) (side : Side) (from : Ep) (x : List ℕ) (stray : IsStray from x) where
  abbrev p : Fields
  p = fields_in x

  abbrev w : Value
  w = value_written None None p

  no_solicitation : is_solicitation p ≡ false
  unfolding is_solicitation
  no_solicitation = and_left (is_link_local p.src && same_ip6 p.dst ALL_ROUTERS) (is_solicit (message_in p))
      (and_left (is_link_local p.src) (same_ip6 p.dst ALL_ROUTERS) stray.no_link)

  forged : is_forged from p ≡ true
  unfolding is_forged
  forged = ap (λ (b : Bool). b && not (same_ep (embedded p.src) from)) stray.teredo ∙ ap not stray.elsewhere

  by_rule : (r : Rule) → RuledOnlyIf r (server_seen s from w) → IsNothing (step_of s side from x w r)
  by_rule (Dropped f) k = record { sends = refl; six = refl; handed = refl; late = refl }
  by_rule Advert k = never (is_solicitation p) k.solicitation no_solicitation
  by_rule ForwardOrigin k = never (is_forged from p) forged k.on.unforged
  by_rule Forward k = never (is_forged from p) forged k.on.unforged
  by_rule Six k = never (is_forged from p) forged k.on.unforged

  pub at_server : IsNothing (server_row s side from x)
  unfolding server_row
  at_server = subst IsNothing (sym (ap (by_payload s side from x) stray.reads.read)) (by_rule (rule_of s from w) (rule_is_warranted s from w))
