-- What is seen of a client after a history: whether it was disturbed, what it makes of its NAT, and what the NAT keeps of it.
-- And what shows that its verdict is wrong.
use Rattle.worked_facts.proofs.Words.{Bool, ClientNode, Ep, Full, Ip6, IsRight, IsSettled, Lab, List, None, Option, Phase, Some, ap, are_honest, asks_at, began_seen, client_address, embedded, false, false≢true, has_cone, has_sent, is_cone_kind, is_qualified, is_some, nat_behind, option_map, port_to, same_ip, same_ip-self, standing, sym, true, unwrap_or, was_answered, was_lost, was_shut, ℕ, ◌||◌, ◌∙◌, ◌≡◌}

-- WHAT IS SEEN

-- what disturbs a client: a dishonest event; a NAT that knew it at its start, that lost it since, that wasn't kept open to its
-- server from the first datagram on, or from the first answer on
pub record Disturbance : Type 0 where
  pub honest : Bool
  pub seen : Bool
  pub lost : Bool
  pub shut : Bool
  pub shut_since_answer : Bool

-- its verdict, what its address says, and the port that its NAT holds for it towards its server
pub record Verdict : Type 0 where
  pub phase : Phase
  pub address : Option Ip6
  pub embeds : Option Ep
  pub says_cone : Option Bool
  pub port : Option ℕ

-- both
pub record ClientView : Type 0 where
  pub disturbed : Disturbance
  pub verdict : Verdict

-- of client n, which is c
abbrev pub view : Lab → List Full → ℕ → ClientNode → ClientView
view lab H n c = record {
  disturbed = record {
    honest = are_honest lab.topology H;
    seen = began_seen lab H n c;
    lost = was_lost lab H n c;
    shut = was_shut (λ (before : List Full). has_sent lab before n c) lab H n c;
    shut_since_answer = was_shut (λ (before : List Full). has_sent lab before n c || was_answered before n) lab H n c;
  };
  verdict = record {
    phase = (standing lab H n c).phase;
    address = client_address lab H n c;
    embeds = option_map embedded (client_address lab H n c);
    says_cone = option_map has_cone (client_address lab H n c);
    port = port_to lab H c (asks_at lab c);
  };
}

-- nothing disturbs it
abbrev pub calm : Disturbance
calm = record { honest = true; seen = false; lost = false; shut = false; shut_since_answer = false }

-- A WRONG VERDICT

module _ (lab : Lab) (H : List Full) (n : ℕ) (c : ClientNode) (v : ClientView) (is : view lab H n c ≡ v) (qualified : is_qualified v.verdict.phase ≡ true) where
  settled : IsRight lab H n c → (own : Ip6) × IsSettled lab H n c own
  settled r = r.settled (ap (λ (x : ClientView). is_qualified x.verdict.phase) is ∙ qualified)

  -- the NAT doesn't hold a port for it
  pub wrong_port : v.verdict.port ≡ None → IsRight lab H n c → ⊥
  wrong_port none r =
      let own = settled r in
      false≢true (ap (λ (o : Option ℕ). is_some o) (sym none ∙ ap (λ (x : ClientView). x.verdict.port) (sym is) ∙ own.1.port))

  -- the NAT isn't cone, as the address says
  pub wrong_cone : v.verdict.says_cone ≡ Some true → is_cone_kind (nat_behind lab c).kind ≡ false → IsRight lab H n c → ⊥
  wrong_cone says other r =
      let own = settled r in
      let bit : has_cone own.0 ≡ true = ap (λ (o : Option Bool). unwrap_or o true) (ap (option_map has_cone) (sym own.1.address) ∙ ap (λ (x : ClientView). x.verdict.says_cone) is ∙ says) in
      false≢true (sym other ∙ own.1.cone bit)

  -- the address embeds an endpoint of somebody else
  pub wrong_address : (e : Ep) → v.verdict.embeds ≡ Some e → same_ip e.ip (nat_behind lab c).external ≡ false → IsRight lab H n c → ⊥
  wrong_address e embeds other r =
      let own = settled r in
      let one : embedded own.0 ≡ e = ap (λ (o : Option Ep). unwrap_or o e) (ap (option_map embedded) (sym own.1.address) ∙ ap (λ (x : ClientView). x.verdict.embeds) is ∙ embeds) in
      false≢true (sym other ∙ ap (λ (x : Ep). same_ip x.ip (nat_behind lab c).external) (sym one) ∙ ap (λ ip. same_ip ip (nat_behind lab c).external) own.1.external ∙ same_ip-self (nat_behind lab c).external)
