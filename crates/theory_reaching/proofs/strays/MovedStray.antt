-- A datagram that leaves from elsewhere than its packet's source says is a stray, and comes from no client's server. Where nobody answers neither a
-- server nor a relay is.
use Rattle.theory_reaching.proofs.Words.{Bool, ClientNode, Ep, HasServer, Ip4, Ip6, IsMadeItem, IsTopology, Lab, List, Node, Ok, Option, ServerNode, Some, [], address_at, answers_at, ap, client, client_is_there, client_settings, embedded, false, false_from_ne_true, false≢true, has_address, inl, inr, is_from, is_from_server, is_link_local, is_some, is_teredo, leaves_at, list_any, nat, nat_has, nat_set_up, node_at, nodes, now, or_left, or_right, outermost, same_ep, same_ep-self, same_ep-true, server, server_ep, set_up_past, slice_get, somebody_answers, speaks_to, subst, suc, sym, true, udp, unwrap_or, way_to, zero, ℕ, ◌||◌, ◌∙◌, ◌∷◌, ◌≡◌, ◌⊎◌}
use Rattle.theory_reaching.proofs.strays.Stray.{IsStray}
use Rattle.theory_reaching.proofs.Tests.{either}
use Rattle.theory_reaching.proofs.strays.MovedOut as out
use Rattle.theory_reaching.proofs.strays.MovedOut.{Moving}

abbrev is_nat : Node → Bool
is_nat (nat a) = true
is_nat _ = false

-- what comes from the address of a client's NAT comes from no server
module _ (lab : Lab) (c : ClientNode) (src : Ep) (rules : IsTopology lab.topology)
    (external : src.ip ≡ (nat_set_up lab.topology (outermost lab c)).external) where
  module _ (i : ℕ) (e : ClientNode) (there : node_at lab.topology i ≡ Some (client e)) where
    abbrev its : HasServer lab.topology e
    its = client_is_there.server_of lab.topology i e rules there

    not_its : (ip : Ip4) → has_address ip (server its.row) ≡ true → src.ip ≡ ip → ⊥
    not_its ip has same =
        let one = nat_has lab c src.ip e.server rules external (record {
          node = server its.row;
          at = its.there;
          has = subst (λ (z : Ip4). has_address z (server its.row) ≡ true) (sym same) has;
        }) in
        false≢true (sym (ap is_nat one.2))

    pub from_a_nat : is_from_server (client_settings lab.topology e) src ≡ false
    unfolding is_from_server
    from_a_nat = false_from_ne_true (same_ep src (server_ep (client_settings lab.topology e).primary)
        || same_ep src (server_ep (client_settings lab.topology e).secondary)) (λ h.
        by (either (same_ep src (server_ep (client_settings lab.topology e).primary))
        (same_ep src (server_ep (client_settings lab.topology e).secondary)) h)) where
          by : (same_ep src (server_ep (client_settings lab.topology e).primary) ≡ true)
              ⊎ (same_ep src (server_ep (client_settings lab.topology e).secondary) ≡ true) → ⊥
          by (inl h) = not_its its.row.primary its.has_primary
              (ap (λ (z : Ep). z.ip) (same_ep-true src (server_ep (client_settings lab.topology e).primary) h) ∙ its.primary)
          by (inr h) = not_its its.row.secondary its.has_secondary
              (ap (λ (z : Ep). z.ip) (same_ep-true src (server_ep (client_settings lab.topology e).secondary) h) ∙ its.secondary)

module _ (the : Moving) where
  open the use {lab, H, q, n, c, x, z, D, is}

  abbrev own : Ip6
  own = address_at lab H n

  module _ (src : Ep) (leaves : (way_to lab H c D).leaves ≡ Ok src) where
    from_elsewhere : speaks_to lab H c own D ≡ false → same_ep src (embedded own) ≡ false
    unfolding speaks_to
    from_elsewhere moved = sym (ap (is_from (embedded own)) leaves) ∙ moved

    elsewhere : speaks_to lab H c own D ≡ false → same_ep (embedded own) src ≡ false
    elsewhere moved = false_from_ne_true (same_ep (embedded own) src)
        (λ h. false≢true (sym (from_elsewhere moved) ∙ ap (same_ep src) (same_ep-true (embedded own) src h) ∙ same_ep-self src))

    pub stray : IsMadeItem (udp src D z) → speaks_to lab H c own D ≡ false → IsStray src z
    stray made moved = record {
      short = is.small;
      teredo = ap is_teredo is.source ∙ out.teredo the;
      no_link = ap is_link_local is.source ∙ out.no_link the;
      elsewhere = ap (λ (w : Ip6). same_ep (embedded w) src) is.source ∙ elsewhere moved;
      reads = is.reads made.bytes made.short;
    }

    -- it comes from a NAT's address, so from no server
    external : src.ip ≡ (nat_set_up lab.topology (outermost lab c)).external
    external = leaves_at lab H (now H) c D src (record {
      before = [];
      pasts = λ k. set_up_past lab H k is.grown.1;
      leaves = leaves;
    })

    pub no_server : (i : ℕ) (e : ClientNode) → node_at lab.topology i ≡ Some (client e) → is_from_server (client_settings lab.topology e) src ≡ false
    no_server = from_a_nat lab c src is.rules external

-- WHO IS THERE

module _ (lab : Lab) (D : Ep) where
  -- a server or a relay of the topology answers at its endpoint
  any_at : (f : Node → Bool) (xs : List Node) (i : ℕ) (a : Node) → slice_get xs i ≡ Some a → f a ≡ true → list_any f xs ≡ true
  any_at f [] i a e h = absurd (false≢true (ap (λ (o : Option Node). is_some o) e))
  any_at f (z ∷ xs) zero a e h = or_left (f z) (list_any f xs) (ap (λ (o : Option Node). f (unwrap_or o z)) e ∙ h)
  any_at f (z ∷ xs) (suc i) a e h = or_right (f z) (list_any f xs) (any_at f xs i a e h)

  pub nobody_there : (i : ℕ) (a : Node) → node_at lab.topology i ≡ Some a → answers_at D a ≡ true → somebody_answers lab D ≡ false → ⊥
  unfolding somebody_answers
  nobody_there i a at there none = false≢true (sym none ∙ any_at (answers_at D) (nodes lab.topology) i a at there)

  pub of_server : (b : ServerNode) → (D ≡ server_ep b.primary) ⊎ (D ≡ server_ep b.secondary) → answers_at D (server b) ≡ true
  of_server b (inl same) = or_left (same_ep D (server_ep b.primary)) (same_ep D (server_ep b.secondary))
      (ap (λ (z : Ep). same_ep z (server_ep b.primary)) same ∙ same_ep-self (server_ep b.primary))
  of_server b (inr same) = or_right (same_ep D (server_ep b.primary)) (same_ep D (server_ep b.secondary))
      (ap (λ (z : Ep). same_ep z (server_ep b.secondary)) same ∙ same_ep-self (server_ep b.secondary))
