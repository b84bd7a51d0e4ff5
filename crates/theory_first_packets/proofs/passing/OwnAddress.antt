-- A client that has its address: it is qualified, and most entries leave the address.
use Rattle.theory_first_packets.proofs.Words.{Bool, ClientNode, Entry, Full, Grown, Ip6, Journal, Lab, List, Option, Phase, Qualification, Settings, Some, Turn, address_after, ap, begins, client, client_address, client_journals, client_settings, cond, false, flags_word, fresh, is_qualified, is_some, journal, keeps_still, leaves, node_at, origin_given, own_address, qualification, qualified_has_address, refl, renews, says_nothing, sym, true, turn, turn_of, turns, unspecified, unwrap_or, with_entry, ℕ, ◌∙◌, ◌≡◌}
use Rattle.teredo_node.specs.declared.fate.Fate.TheVariants as fate
use Rattle.qualify.specs.declared.phase.Phase.TheVariants.{Restricted}

-- it has the address
pub record IsHere (s : Settings) (j : Journal) (own : Ip6) : Type 0 where
  pub address : (qualification s j).address ≡ Some own
  pub qualified : is_qualified (qualification s j).phase ≡ true

-- its own address
pub address_is : (s : Settings) (j : Journal) (own : Ip6) → (qualification s j).address ≡ Some own → own_address (qualification s j) ≡ own
unfolding own_address
address_is s j own e = ap (λ (o : Option Ip6). unwrap_or o unspecified) e

-- client n, which is c, has the address own
pub record HasOwn (lab : Lab) (H : List Full) (n : ℕ) (c : ClientNode) (own : Ip6) : Type 0 where
  pub grown : Grown lab H
  pub there : node_at lab.topology n ≡ Some (client c)
  pub address : client_address lab H n c ≡ Some own

-- so it is qualified
pub is_here : (lab : Lab) (H : List Full) (n : ℕ) (c : ClientNode) (own : Ip6) → HasOwn lab H n c own
    → IsHere (client_settings lab.topology c) (journal n H) own
is_here lab H n c own has = record {
  address = has.address;
  qualified = sym (qualified_has_address (client_settings lab.topology c) (journal n H) (client_journals lab H n c has.grown has.there).journal)
      ∙ ap (λ (o : Option Ip6). is_some o) has.address;
}

-- THE ADDRESS STAYS

-- an entry that says nothing of it leaves the address
pub address_stays : (s : Settings) (j : Journal) (e : Entry) → turn_of e ≡ says_nothing
    → (qualification s (with_entry j e)).address ≡ (qualification s j).address
address_stays s j e none = ap (λ (q : Qualification). q.address) (keeps_still s j e none)

no_leave : (phase : Phase) → leaves phase renews ≡ false
no_leave Restricted = refl
no_leave _ = refl

-- an indirect bubble leaves it too
pub address_renewed : (s : Settings) (j : Journal) (e : Entry) → e.step.fate ≡ fate.Indirect
    → (qualification s (with_entry j e)).address ≡ (qualification s j).address
address_renewed s j e indirect =
    let q = qualification s j in
    ap (λ (z : Qualification). z.address) (turns s j e)
    ∙ ap (λ (u : Turn). address_after s u (flags_word s e.words) (origin_given e.input)
    (cond (leaves q.phase u) (fresh (unwrap_or (begins u) q.phase) e.moment) q).address) (ap turn indirect)
    ∙ ap (λ (b : Bool). (cond b (fresh (unwrap_or (begins renews) q.phase) e.moment) q).address) (no_leave q.phase)
