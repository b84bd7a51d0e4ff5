-- A question at a client's server: this makes one entry of it, the advertisement for the nonce, from where the client expects it.
use Rattle.theory_answers.proofs.Words.{Bool, ClientNode, Delivery, Ep, Full, Grown, HasMadeSource, HasServer, Ip6, IsEp, IsIp4, IsPeer, IsReached, IsTopology, Item, Journal, Lab, List, Made, Node, Option, Qualification, ServerNode, Settings, Side, Some, Step, [], advert_bytes, answering_side, ap, arith, armed, arrived, asks_as_cone, client, client_at, client_is_there, client_made, client_settings, deliveries, done_with, each_is_reached, expected, false, false≢true, is_at_place, is_node, link_local, nat_tests, node_at, node_in, now, number_in, outright, own_ep, qualification, question, reaches, refl, route, sendings, sends_one, sent, server, server_asked, server_row, server_settings, side_at, six_made, slice_get, solicitation, standing, subst, sym, to_nobody, to_node, true, udp, unwrap_or, wire, ℕ, ◌++◌, ◌<◌, ◌==◌, ◌^◌, ◌∙◌, ◌∷◌, ◌≡◌}
use Rattle.teredo_node.specs.declared.fate.Fate.TheVariants as fate
use Rattle.theory_answers.proofs.Answered.{answered, IsAskedBy, goes_back, dropped, asked_by}
use Rattle.theory_answers.proofs.Sides.{to_one, from_is}
use Rattle.theory_answers.proofs.Sent.{is_sent, got_through}

-- a question of client n, which is c, is delivered after H, and the server's record makes one entry
pub record IsServedNext (lab : Lab) (H : List Full) (serves : Full) (n : ℕ) (c : ClientNode) : Type 0 where
  pub number : ℕ
  pub left : Ep
  pub nonce : ℕ
  pub asked : serves.delivered ≡ Some number
  pub asks : slice_get (wire H) number ≡ Some (question (client_settings lab.topology c) (standing lab H n c) left nonce)
  pub fits : nonce < 2 ^ 64
  pub answer : Item
  pub makes : serves.made ≡ sent answer ∷ []

-- a server's record that answers a client at once
pub record ServedNext : Type 0 where
  pub lab : Lab
  pub H : List Full
  pub serves : Full
  pub n : ℕ
  pub c : ClientNode
  pub is : IsTopology lab.topology
  pub g : Grown lab (serves ∷ H)
  pub listed : client_at lab.topology n ≡ Some c
  pub a : IsServedNext lab H serves n c

module _ (served_next : ServedNext) where
  open served_next use {lab, H, serves, n, c, is, g, listed, a}

  abbrev pub s : Settings
  s = client_settings lab.topology c

  abbrev pub q : Qualification
  q = standing lab H n c

  abbrev pub cone : Bool
  cone = asks_as_cone q q.phase

  abbrev pub src : Ip6
  src = link_local cone s.inside

  abbrev bytes : List ℕ
  bytes = solicitation s cone a.nonce

  abbrev x : Item
  x = question s q a.left a.nonce

  pub node : node_at lab.topology n ≡ Some (client c)
  node = client_is_there.node lab.topology n c listed

  abbrev pub has : HasServer lab.topology c
  has = client_is_there.server_of lab.topology n c is node

  abbrev pub row : ServerNode
  row = has.row

  pub primary : IsIp4 row.primary
  primary = subst IsIp4 has.primary (client_made lab.topology n c is node).primary

  pub inside : IsEp s.inside
  inside = (client_made lab.topology n c is node).inside

  abbrev pub side : Side
  side = side_at (server row) (server_asked s q.phase)

  -- the answer comes from where the client expects it
  pub whence : own_ep (server row) (answering_side side src) ≡ expected s q
  whence = from_is lab c is has q inside

  -- THE SERVER'S RECORD

  abbrev pub advert : List ℕ
  advert = advert_bytes (server_settings row) a.left (Some a.nonce) src

  abbrev pub given : Item
  given = udp (own_ep (server row) (answering_side side src)) a.left advert

  abbrev made_of : Step → List Made
  made_of st = outright (own_ep (server row)) (armed H) 0 st.sends ++ six_made (arrived a.left bytes) st.six

  step_from : IsPeer (server_settings row) a.left
      → server_row (server_settings row) side a.left bytes ≡ sends_one fate.Advert (answering_side side src) a.left advert
  step_from peer = answered (record { server = server_settings row; client = s; from = a.left; cone = cone; nonce = a.nonce; inside = inside; nonce_fits = a.fits }) peer side

  abbrev made_by : ℕ → Node → Item → List Made
  made_by k b y = (sendings lab H serves.moment (done_with lab H serves k b y) b).made

  -- the question came to the client's server, which may send there and made its answer, and the client did nothing
  pub record IsServed : Type 0 where
    pub is_given : a.answer ≡ given
    pub peer : IsPeer (server_settings row) a.left
    pub made : IsEp a.left
    pub same : standing lab (serves ∷ H) n c ≡ q
    pub idle : is_node n serves.node ≡ false

  leads_there : route lab H (now H) x ≡ reaches c.server (server row)
  leads_there = each_is_reached lab H (now H) x c.server (server row) is has.there (to_one lab c is has q q.phase)

  abbrev is_client : Option Node → Bool
  is_client (Some (client d)) = true
  is_client _ = false

  made_is : {k : ℕ} {b : Node} {y : Item} → IsReached lab H serves k b y → y ≡ x → reaches k b ≡ reaches c.server (server row) → {st : Step}
      → server_row (server_settings row) side a.left bytes ≡ st → made_of st ≡ sent a.answer ∷ []
  made_is {k} {b} {y} i item goes step =
      sym (i.act.made ∙ ap (λ (m : ℕ). made_by m b y) (ap (number_in k) goes) ∙ ap (λ (z : Node). made_by c.server z y) (ap (node_in b) goes)
      ∙ ap (made_by c.server (server row)) item ∙ ap made_of step) ∙ a.makes

  of_server : {k : ℕ} {b : Node} {y : Item} → slice_get (wire H) a.number ≡ Some y → IsReached lab H serves k b y → IsServed
  of_server {k} {b} {y} at i = by (asked_by (record { server = server_settings row; client = s; from = a.left; cone = cone; nonce = a.nonce; inside = inside; nonce_fits = a.fits }) side) where
    item : y ≡ x
    item = ap (λ (o : Option Item). unwrap_or o y) (sym at ∙ a.asks)

    goes : reaches k b ≡ reaches c.server (server row)
    goes = sym i.leads ∙ ap (route lab H (now H)) item ∙ leads_there

    number : k ≡ c.server
    number = ap (number_in k) goes

    other : n ≡ k → ⊥
    other e = false≢true (ap is_client (sym has.there) ∙ ap (λ (m : ℕ). is_client (node_at lab.topology m)) (sym (e ∙ number)) ∙ ap is_client node)

    apart : (b : Bool) → (n == k) ≡ b → (n == k) ≡ false
    apart false e = e
    apart true e = absurd (other (grind (arith, nat_tests)))

    by : IsAskedBy (record { server = server_settings row; client = s; from = a.left; cone = cone; nonce = a.nonce; inside = inside; nonce_fits = a.fits }) side → IsServed
    by (dropped f step) = absurd (false≢true (ap is_sent (made_is i item goes step)))
    by (goes_back may) = record {
      is_given = got_through (own_ep (server row)) (record { side = answering_side side src; to = a.left; bytes = advert }) a.answer
          (is_at_place 0 (armed H)) (made_is i item goes (step_from may));
      peer = may;
      made = subst HasMadeSource item (i.came is).source;
      same = ap (λ (j : Journal). qualification s j) (i.others n other);
      idle = ap (is_node n) i.act.node ∙ apart (n == k) refl;
    }

  served : Delivery lab H serves a.number → IsServed
  served (to_node k b y at i) = of_server at i
  served (to_nobody y at i) = absurd (i.nobody c.server (server row)
      (ap (route lab H (now H)) (ap (λ (o : Option Item). unwrap_or o y) (sym at ∙ a.asks)) ∙ leads_there))

  pub is_served : IsServed
  is_served = served (deliveries lab H serves a.number g a.asked)
