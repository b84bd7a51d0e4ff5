-- The NATs of a client's way are such that walks after a record show what they let out of it.
use Rattle.std.proofs.Common.{◌≡◌, ◌≤◌, ◌==◌, ℕ, Bool, true, false, List, [], ◌∷◌, ◌++◌, cond, reverse, Option, Some, None, refl, sym, ap, subst, ◌∙◌}
use Rattle.std.proofs.lemmas.Bool.{eqb-true, false≢true}
use Rattle.std.proofs.lemmas.List.{append-nil, reverse-reverse}
use Rattle.std.specs.List.{AllByRecursion, flat_map}
use Rattle.std.specs.Prelude.{IfSome, is_some, option_and_then}
use Rattle.nat_kinds.specs.declared.settings.NatSettings.{NatSettings}
use Rattle.nat_kinds.specs.Laws.{IsPast}
use Rattle.teredo_node.specs.Journal.{Entry}
use Rattle.topology.specs.declared.nat_node.NatNode.{NatNode}
use Rattle.topology.specs.declared.client_node.ClientNode.{ClientNode}
use Rattle.topology.specs.declared.node.Node.{Node}
use Rattle.topology.specs.declared.node.Node.TheVariants.{Server as server, Nat as nat, Client as client, Relay as relay, Native as native}
use Rattle.topology.specs.Rows.{TopologyState}
use Rattle.topology.specs.Rules.{IsTopology}
use Rattle.topology.specs.NodeRules.{IsClientNode, IsNatNode}
use Rattle.topology.specs.Named.{is_nat}
use Rattle.topology.specs.Topology.{as_nat, nat_at, node_at, settings_of_nat}
use Rattle.topology.specs.Chains.{Behind, Passing, nats_from, nat_set_up, outer_in, outs_at, way_out}
use Rattle.topology.proofs.LawProofs.{each_node}
use Rattle.td_chain.specs.ChainRules.{is_chain}
use Rattle.td_chain.proofs.ThereLemmas.{outer_is_nat}
use Rattle.history.specs.Full.{Full, Made}
use Rattle.history.specs.Records.{marks_of}
use Rattle.legal.specs.Lab.{Lab}
use Rattle.legal.specs.Legal.{Grown}
use Rattle.legal.specs.Past.{armed, at_nat, is_node, nat_history, nat_pasts}
use Rattle.legal.specs.Emit.{by_way}
use Rattle.legal.specs.Actors.{IsActOf}
use Rattle.legal.proofs.LawProofs.{nat_pasts as each_nat_is_past}
use Rattle.states.specs.Walked.{PassedIsWalked, walk_marked, walk_of}
use Rattle.states.proofs.Walks.{Fits, IsOnto, Walking, all_sent, marks_walk, sent_walked, walk_made}

-- node k is a NAT
record IsNatAt (t : TopologyState) (k : ℕ) : Type 0 where
  pub row : NatNode
  pub at : node_at t k ≡ Some (nat row)

there : (t : TopologyState) (k : ℕ) → is_nat (node_at t k) ≡ true → IsNatAt t k
there t k h = by (node_at t k) refl h where
  by : (o : Option Node) → node_at t k ≡ o → is_nat o ≡ true → IsNatAt t k
  by None e g = absurd (false≢true g)
  by (Some (nat a)) e g = record { row = a; at = e }
  by (Some (server a)) e g = absurd (false≢true g)
  by (Some (client a)) e g = absurd (false≢true g)
  by (Some (relay a)) e g = absurd (false≢true g)
  by (Some (native a)) e g = absurd (false≢true g)

behind : (t : TopologyState) (k : ℕ) → is_some (nat_at t k) ≡ true → IsNatAt t k
behind t k h = by (node_at t k) refl h where
  by : (o : Option Node) → node_at t k ≡ o → is_some (option_and_then as_nat o) ≡ true → IsNatAt t k
  by None e g = absurd (false≢true g)
  by (Some (nat a)) e g = record { row = a; at = e }
  by (Some (server a)) e g = absurd (false≢true g)
  by (Some (client a)) e g = absurd (false≢true g)
  by (Some (relay a)) e g = absurd (false≢true g)
  by (Some (native a)) e g = absurd (false≢true g)

abbrev is_client_node : Option Node → Bool
is_client_node (Some (client c)) = true
is_client_node _ = false

-- a record of client n
record Recorded : Type 0 where
  pub lab : Lab
  pub before : List Full
  pub full : Full
  pub n : ℕ
  pub row : ClientNode
  pub entry : Entry
  pub is : IsTopology lab.topology
  pub chained : is_chain lab.topology lab.chain ≡ true
  pub grown : Grown lab (full ∷ before)
  pub act : IsActOf lab before full n (client row) entry

abbrev walking : Recorded → Walking
walking x = record {
  lab = x.lab;
  before = x.before;
  m = x.full.moment;
  all = x.full.passed;
  at = subst (λ (ps : List Passing). AllByRecursion (λ (p : Passing). p.datagram.moment.0 ≡ x.full.moment) ps) (sym x.act.passed)
      (all_sent x.lab x.before x.full.moment (way_out x.lab.chain x.row.nat) x.row.inside (armed x.before) x.entry.step.sends 0 [] tt);
  new = nat_pasts x.lab (x.full ∷ x.before);
}

module _ (x : Recorded) (k : ℕ) (nat_k : IsNatAt x.lab.topology k) where
  not_own : is_node k x.full.node ≡ false
  not_own = ap (is_node k) x.act.node ∙ by (k == x.n) refl where
    by : (b : Bool) → (k == x.n) ≡ b → (k == x.n) ≡ false
    by false h = h
    by true h = absurd (false≢true (ap is_client_node (sym nat_k.at ∙ ap (node_at x.lab.topology) (eqb-true k x.n h) ∙ x.act.there)))

  fits : Fits (walking x) k
  fits = record {
    same = ap (λ (b : Bool). cond b (at_nat x.lab x.full.asked x.full.act) (outs_at k x.full.passed) ++ nat_history x.lab k x.before) not_own;
    past = subst (λ (s : NatSettings). IsPast s (nat_history x.lab k (x.full ∷ x.before)) x.full.moment)
        (sym (ap (λ (o : Option Node). settings_of_nat (option_and_then as_nat o)) nat_k.at))
        (each_nat_is_past x.lab (x.full ∷ x.before) k nat_k.row x.grown (ap (option_and_then as_nat) nat_k.at));
    lives = let keeps : IsNatNode nat_k.row = each_node x.lab.topology k (nat nat_k.row) x.is nat_k.at in
        subst (λ (s : NatSettings). 1 ≤ s.idle) (sym (ap (λ (o : Option Node). settings_of_nat (option_and_then as_nat o)) nat_k.at)) keeps.idle.least;
  }

module _ (x : Recorded) where
  all_from : (at_most : List Behind) (next : Option ℕ) → IfSome next (λ k. is_nat (node_at x.lab.topology k) ≡ true) → AllByRecursion (Fits (walking x)) (nats_from x.lab.chain at_most next)
  all_from at_most None is = tt
  all_from [] (Some k) is = tt
  all_from (b ∷ rest) (Some k) is = (fits x k (there x.lab.topology k is), all_from rest (outer_in x.lab.chain k) (next (outer_in x.lab.chain k) refl)) where
    next : (o : Option ℕ) → outer_in x.lab.chain k ≡ o → IfSome o (λ j. is_nat (node_at x.lab.topology j) ≡ true)
    next None e = tt
    next (Some j) e = outer_is_nat x.lab.topology x.lab.chain k j x.chained e

  all_fit : AllByRecursion (Fits (walking x)) (way_out x.lab.chain x.row.nat)
  all_fit = (fits x x.row.nat (behind x.lab.topology x.row.nat keeps.rules.behind), all_from x.lab.chain (outer_in x.lab.chain x.row.nat) (next (outer_in x.lab.chain x.row.nat) refl)) where
    keeps : IsClientNode x.lab.topology x.row
    keeps = each_node x.lab.topology x.n (client x.row) x.is x.act.there

    next : (o : Option ℕ) → outer_in x.lab.chain x.row.nat ≡ o → IfSome o (λ j. is_nat (node_at x.lab.topology j) ≡ true)
    next None e = tt
    next (Some j) e = outer_is_nat x.lab.topology x.lab.chain x.row.nat j x.chained e

  walks_show : reverse x.full.passed ≡ flat_map (walk_marked (walk_of x.lab (x.full ∷ x.before) x.full.moment x.row)) (marks_of x.full.first x.full.made)
  walks_show =
      let walks = walk_of x.lab (x.full ∷ x.before) x.full.moment x.row in
      let made : List Made = (by_way x.lab x.before x.full.moment (way_out x.lab.chain x.row.nat) x.row.inside (armed x.before) 0 [] x.entry.step.sends).made in
      let on : IsOnto x.full.passed (by_way x.lab x.before x.full.moment (way_out x.lab.chain x.row.nat) x.row.inside (armed x.before) 0 [] x.entry.step.sends).passed =
      record { later = []; is = x.act.passed } in
      ap reverse (x.act.passed ∙ sent_walked (walking x) (way_out x.lab.chain x.row.nat) x.row.inside (armed x.before) all_fit x.entry.step.sends 0 [] on ∙ append-nil (reverse (flat_map (walk_made walks) made)))
      ∙ reverse-reverse (flat_map (walk_made walks) made)
      ∙ ap (λ (ms : List Made). flat_map (walk_made walks) ms) (sym x.act.made)
      ∙ sym (marks_walk walks x.full.first x.full.made)

pub passed_is_walked : PassedIsWalked
passed_is_walked lab H r n c e is chained grown act =
    walks_show (record { lab = lab; before = H; full = r; n = n; row = c; entry = e; is = is; chained = chained; grown = grown; act = act })
