-- What the host of a client that isn't qualified hands in is `off`, and makes nothing.
use Rattle.theory_reaching.proofs.Words.{Entry, Fate, Follows, Full, Given, HandsIn, Input, Ip6, IsActOf, Journal, Lab, List, Node, OfNode, OffMakesNothing, Option, Send, Settings, Some, Standing, Words, [], acts, ap, armed, by_lines, by_way, client, client_out, client_settings, destination_in, destination_lines, entry_input, entry_of, false, false≢true, fields_in, host_lines, is_qualified, is_some, journal, node_at, not, of_node, qualification, refl, rests, standing_at, standing_of, sym, transmission_row, transmission_step, unwrap_or, way_out, words, ℕ, ◌++◌, ◌∙◌, ◌≡◌}
use Rattle.teredo_node.specs.declared.fate.Fate.TheVariants as fate
use Rattle.teredo_node.specs.Journal.{given}
use Rattle.client_rules.specs.Transmission as transmission
use Rattle.theory_reaching.proofs.Tests.{never}

record IsOff (e : Entry) : Type 0 where
  off : e.step.fate ≡ fate.Off
  nothing : e.step.sends ≡ []

-- THE TABLE

record Does (s : Settings) (a : Standing) (x : List ℕ) (p : Ip6) (w : Words) (f : Fate) : Type 0 where
  off : (transmission_step s a x p w f).fate ≡ fate.Off
  nothing : (transmission_step s a x p w f).sends ≡ []

off_row : (s : Settings) (a : Standing) (x : List ℕ) (p : Ip6) (w : Words) (g : Given) → g.qualified ≡ false → Does s a x p w (transmission_row g)
off_row s a x p w g e = by_lines (Does s a x p w) (host_lines g ++ destination_lines g) fate.Queued (
  (λ _. record { off = refl; nothing = refl }),
  (λ on. never (not g.qualified) (ap not e) on),
)

module _ (s : Settings) (j : Journal) (m : ℕ) (x : List ℕ) (w : Words) where
  abbrev stands : Standing
  stands = standing_of s j m (destination_in x)

  off_so : Does s stands x (fields_in x).dst w (transmission_row (transmission.given s stands x)) → IsOff (client_out s j m x w)
  unfolding client_out transmission.transmission
  off_so d = record { off = d.off; nothing = d.nothing }

  off_entry : is_qualified (qualification s j).phase ≡ false → IsOff (client_out s j m x w)
  unfolding transmission.given standing_at
  off_entry e = off_so (off_row s stands x (fields_in x).dst w (transmission.given s stands x) e)

-- THE RECORD

-- of a node whose host hands in x
module _ (lab : Lab) (H : List Full) (q : Full) (n : ℕ) (a : Node) (x : List ℕ) (follows : Follows lab H q)
    (at : node_at lab.topology n ≡ Some a) (hands : HandsIn q n x) where
  pub its_act : (e : Entry) × (act : IsActOf lab H q n a e) × (act.input ≡ given x)
  its_act = by (of_node lab H q n a follows hands.node at) where
    by : OfNode lab H q n a → (e : Entry) × (act : IsActOf lab H q n a e) × (act.input ≡ given x)
    by (rests idle) = absurd (false≢true (ap (λ (o : Option Entry). is_some o) (sym idle.entry ∙ hands.did)))
    by (acts e act) =
        let same : e ≡ hands.entry = ap (λ (o : Option Entry). unwrap_or o e) (sym act.entry ∙ hands.did) in (
          e,
          act,
          sym (ap (λ (z : Entry). z.input) act.step ∙ entry_input lab H q.moment n act.dst act.input a)
              ∙ ap (λ (z : Entry). z.input) same ∙ hands.packet_in,
        )

pub off_makes_nothing : OffMakesNothing
off_makes_nothing lab H q n c x g at off hands =
    let s = client_settings lab.topology c in
    let done = its_act lab H q n (client c) x g.0 at hands in
    let is : done.0 ≡ client_out s (journal n H) q.moment x (words lab n H) = done.1.step
    ∙ ap (λ (i : Input). entry_of lab H q.moment n done.1.dst i (client c)) done.2 in
    let it = off_entry s (journal n H) q.moment x (words lab n H) off in (
      done.1.fate ∙ ap (λ (z : Entry). z.step.fate) is ∙ it.off,
      done.1.made ∙ ap (λ (xs : List Send). (by_way lab H q.moment (way_out lab.chain c.nat) c.inside (armed H) 0 [] xs).made)
          (ap (λ (z : Entry). z.step.sends) is ∙ it.nothing),
    )
