-- What is seen of a client behind several NATs after a history: what disturbed it, and what it makes of them.
use Rattle.worked_facts.proofs.Words.{Bool, ClientNode, Ep, Fate, Full, Inward, Ip6, IsRightAlong, Lab, List, Option, Phase, Some, [], ap, are_honest_for, asks_at, began_seen, chain_in, client_address, embedded, false, false≢true, has_cone, has_sent, has_symmetric, is_all_cone, is_chain, is_qualified, map, nat_pasts, nats_of, now, option_map, outer_nats_of, outermost, passed_known, standing, sym, true, unwrap_or, was_answered, was_lost, was_restarted, was_shut_along, ℕ, ◌||◌, ◌∙◌, ◌∷◌, ◌≡◌}

-- what disturbs a client: somebody who speaks for its server; NATs that knew it, were started anew, weren't kept open
pub record WayDisturbance : Type 0 where
  pub chained : Bool
  pub honest : Bool
  pub seen : Bool
  pub lost : Bool
  pub restarted : List Bool
  pub shut : Bool
  pub known : List Bool
  pub shut_since_answer : Bool

-- its verdict, what its address embeds and says, of what kinds its NATs are, and where its server is let in there
pub record WayVerdict : Type 0 where
  pub way : List ℕ
  pub phase : Phase
  pub embeds : Option Ep
  pub says_cone : Option Bool
  pub symmetric : Bool
  pub all_cone : Bool
  pub reached : Option Inward

-- both
pub record WayView : Type 0 where
  pub disturbed : WayDisturbance
  pub verdict : WayVerdict

-- of client n, which is c
abbrev pub way_view : Lab → List Full → ℕ → ClientNode → WayView
way_view lab H n c = record {
  disturbed = record {
    chained = is_chain lab.topology lab.chain;
    honest = are_honest_for lab.topology c H;
    seen = began_seen lab H n c;
    lost = was_lost lab H n c;
    restarted = map (was_restarted H n) (outer_nats_of lab c);
    shut = was_shut_along (λ (before : List Full). has_sent lab before n c) lab H n c;
    known = map (passed_known lab H n) (outer_nats_of lab c);
    shut_since_answer = was_shut_along (λ (before : List Full). has_sent lab before n c || was_answered before n) lab H n c;
  };
  verdict = record {
    way = nats_of lab c;
    phase = (standing lab H n c).phase;
    embeds = option_map embedded (client_address lab H n c);
    says_cone = option_map has_cone (client_address lab H n c);
    symmetric = has_symmetric lab c;
    all_cone = is_all_cone lab c;
    reached = option_map (λ (own : Ip6). chain_in lab.topology lab.chain (nat_pasts lab H) (now H) (outermost lab c) (asks_at lab c) (embedded own).port)
        (client_address lab H n c);
  };
}

-- nothing disturbs a client behind two NATs
abbrev pub calm_along : WayDisturbance
calm_along = record {
  chained = true;
  honest = true;
  seen = false;
  lost = false;
  restarted = false ∷ [];
  shut = false;
  known = false ∷ [];
  shut_since_answer = false;
}

-- the fates of records, the latest first
abbrev pub fates : List Full → List Fate
fates H = map (λ (r : Full). r.fate) H

-- A WRONG VERDICT

module _ (lab : Lab) (H : List Full) (n : ℕ) (c : ClientNode) (v : WayView) (is : way_view lab H n c ≡ v) where
  -- not all NATs are cone, as the address says
  pub wrong_cone_along : is_qualified v.verdict.phase ≡ true → v.verdict.says_cone ≡ Some true → v.verdict.all_cone ≡ false
      → IsRightAlong lab H n c → ⊥
  wrong_cone_along qualified says other r =
      let own = r.settled (ap (λ (x : WayView). is_qualified x.verdict.phase) is ∙ qualified) in
      let bit : has_cone own.0 ≡ true = ap (λ (o : Option Bool). unwrap_or o true)
      (ap (option_map has_cone) (sym own.1.address) ∙ ap (λ (x : WayView). x.verdict.says_cone) is ∙ says) in
      false≢true (sym other ∙ ap (λ (x : WayView). x.verdict.all_cone) (sym is) ∙ own.1.cone bit)
