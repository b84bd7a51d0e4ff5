-- A client's server, and what it tells.
use Rattle.theory_storms.proofs.Words.{Bool, ClientNode, Ep, HasServer, Ip4, Ip6, IsTopology, None, Option, Policy, Some, TopologyState, and_parts, ap, client_settings, embedded, false, false≢true, is_server_at, is_some_server, is_teredo, is_usable, nodes, not, refl, same_ep, same_ep-self, same_ep-true, server, server_ep, sym, true, ◌||◌, ◌∙◌, ◌≡◌}
use Rattle.client_rules.specs.Reception as reception
use Rattle.theory_storms.proofs.Places.{first_at, first_is, any_there}

-- what comes from it is from a server
pub from_server_is : (t : TopologyState) (c : ClientNode) (from : Ep) → HasServer t c → reception.is_from_server (client_settings t c) from ≡ true
    → is_some_server t from ≡ true
unfolding reception.is_from_server
from_server_is t c from s h =
    any_there (is_server_at from) (nodes t) c.server (server s.row) s.there
    (ap (λ (ip : Ip4). same_ep from (server_ep ip) || same_ep from (server_ep s.row.secondary)) (sym s.primary)
    ∙ ap (λ (ip : Ip4). same_ep from (server_ep (client_settings t c).primary) || same_ep from (server_ep ip)) (sym s.secondary) ∙ h)

-- its primary endpoint is the server's
pub own_server : (t : TopologyState) (c : ClientNode) → IsTopology t → (s : HasServer t c)
    → first_at t (server_ep (client_settings t c).primary) ≡ Some (server s.row)
own_server t c is s =
    ap (λ (ip : Ip4). first_at t (server_ep ip)) s.primary
    ∙ first_is t (server_ep s.row.primary) c.server (server s.row) is s.there
    (ap (λ (b : Bool). b || same_ep (server_ep s.row.primary) (server_ep s.row.secondary)) (same_ep-self (server_ep s.row.primary)))

-- a good origin is there, and a Teredo source embeds it
pub good_origin : (policy : Policy) (p : Ip6) (o : Option Ep) → reception.is_good_origin policy p o ≡ true
    → (to : Ep) × (o ≡ Some to) × (is_teredo p ≡ true → to ≡ embedded p)
good_origin policy p None h = absurd (false≢true h)
good_origin policy p (Some to) h = (
  to,
  refl,
  λ teredo. same_ep-true to (embedded p)
      (embeds (is_teredo p) (same_ep to (embedded p)) teredo (and_parts (is_usable policy to) (not (is_teredo p) || same_ep to (embedded p)) h).1),
) where
  embeds : (b c : Bool) → b ≡ true → (not b || c) ≡ true → c ≡ true
  embeds true c e g = g
  embeds false c e g = absurd (false≢true e)
