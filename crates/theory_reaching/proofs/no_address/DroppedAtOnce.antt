-- A packet is dropped at once where its sender isn't qualified, or where it goes to no address: nothing is sent, and no fresh
-- schedule has a delivery.
use Rattle.theory_reaching.proofs.Words.{AreFresh, Bool, ClientNode, Entry, Fate, Full, Given, Grown, Handing, Ip6, IsDroppedAtOnce, Journal, Lab, List, Native, NativeNode, None, Send, Settings, Standing, Words, [], alone, ap, armed, by_lines, by_way, client, client_out, client_settings, destination_in, destination_lines, false, false≢true, fields_in, first_line, host_lines, is_big, is_drop, is_global6, is_packet, is_qualified, journal, native, native_made, native_out, not, now, qualification, refl, same_ip6, sent_by, standing_at, standing_of, sym, transmission_row, transmission_step, true, way_out, words, ℕ, ◌++◌, ◌∙◌, ◌∷◌, ◌≡◌}
use Rattle.teredo_node.specs.declared.fate.Fate.TheVariants as fate
use Rattle.client_rules.specs.Transmission as transmission
use Rattle.theory_reaching.proofs.Tests.{never}

-- A CLIENT'S TABLE

-- a fate that is a drop, by which nothing is sent
pub record Drops (s : Settings) (a : Standing) (x : List ℕ) (p : Ip6) (w : Words) (f : Fate) : Type 0 where
  pub drop : is_drop (transmission_step s a x p w f).fate ≡ true
  pub nothing : (transmission_step s a x p w f).sends ≡ []

module _ (s : Settings) (a : Standing) (x : List ℕ) (p : Ip6) (w : Words) (g : Given) where
  abbrev Row : Fate → Type 0
  Row = Drops s a x p w

  -- of a client that isn't qualified
  off_drops : g.qualified ≡ false → Row (transmission_row g)
  off_drops e = by_lines Row (host_lines g ++ destination_lines g) fate.Queued (
    (λ _. record { drop = refl; nothing = refl }),
    (λ on. never (not g.qualified) (ap not e) on),
  )

  -- of a packet whose destination is no global address
  nowhere_drops : g.global ≡ false → Row (transmission_row g)
  nowhere_drops e = by_lines Row (host_lines g ++ destination_lines g) fate.Queued (
    (λ _. record { drop = refl; nothing = refl }),
    (λ _. (
      (λ _. record { drop = refl; nothing = refl }),
      (λ _. (
        (λ _. record { drop = refl; nothing = refl }),
        (λ _. (
          (λ _. record { drop = refl; nothing = refl }),
          (λ _. (
            (λ _. record { drop = refl; nothing = refl }),
            (λ global. never (not g.global) (ap not e) global),
          )),
        )),
      )),
    )),
  )

-- the entry of a packet that is dropped
pub record IsDropEntry (e : Entry) : Type 0 where
  pub drop : is_drop e.step.fate ≡ true
  pub nothing : e.step.sends ≡ []

module _ (s : Settings) (j : Journal) (m : ℕ) (x : List ℕ) (w : Words) where
  abbrev stands : Standing
  stands = standing_of s j m (destination_in x)

  abbrev of_step : Fate → Type 0
  of_step = Drops s stands x (fields_in x).dst w

  entry_drops : of_step (transmission_row (transmission.given s stands x)) → IsDropEntry (client_out s j m x w)
  unfolding client_out transmission.transmission
  entry_drops d = record { drop = d.drop; nothing = d.nothing }

  pub off_entry : is_qualified (qualification s j).phase ≡ false → IsDropEntry (client_out s j m x w)
  unfolding transmission.given standing_at
  off_entry e = entry_drops (off_drops s stands x (fields_in x).dst w (transmission.given s stands x) e)

  pub nowhere_entry : is_global6 (fields_in x).dst ≡ false → IsDropEntry (client_out s j m x w)
  unfolding transmission.given standing_at
  nowhere_entry e = entry_drops (nowhere_drops s stands x (fields_in x).dst w (transmission.given s stands x) e)

-- A NATIVE HOST'S TABLE

pub record IsKeptBack (z : Native) : Type 0 where
  pub drop : is_drop z.fate ≡ true
  pub nothing : z.packet ≡ None

pub out_drops : (own : Ip6) (x : List ℕ) → is_global6 (fields_in x).dst ≡ false → IsKeptBack (native_out own x)
unfolding native_out
out_drops own x e = by (is_packet x) (is_big (fields_in x)) (same_ip6 (fields_in x).src own) (is_global6 (fields_in x).dst) e where
  by : (packet big mine global : Bool) → global ≡ false
      → IsKeptBack (sent_by x (first_line
      ((not packet, fate.Malformed) ∷ (big, fate.Big) ∷ (not mine, fate.Source) ∷ (not global, fate.Dest) ∷ []) fate.SentSix))
  by packet big mine true e = absurd (false≢true (sym e))
  by false big mine false e = record { drop = refl; nothing = refl }
  by true true mine false e = record { drop = refl; nothing = refl }
  by true false false false e = record { drop = refl; nothing = refl }
  by true false true false e = record { drop = refl; nothing = refl }

-- THE RECORD

module _ (lab : Lab) (H : List Full) (q : Full) (n : ℕ) (x : List ℕ) where
  -- of a client
  pub client_drops : (c : ClientNode) → Handing lab H q n (client c) x
      → IsDropEntry (client_out (client_settings lab.topology c) (journal n H) (now H) x (words lab n H))
      → (later : List Full) → Grown lab (later ++ q ∷ H) → Grown lab (q ∷ H) → AreFresh q later → IsDroppedAtOnce q later
  client_drops c taken e later g there fresh =
      let nothing : q.made ≡ [] = taken.did.made
      ∙ ap (λ (z : List Send). (by_way lab H (now H) (way_out lab.chain c.nat) c.inside (armed H) 0 [] z).made) e.nothing in
      record {
        drop = ap is_drop taken.did.fate ∙ e.drop;
        nothing = nothing;
        alone = alone lab H q there nothing later g fresh;
      }

  -- of a native host
  pub native_drops : (h : NativeNode) → Handing lab H q n (native h) x → is_global6 (fields_in x).dst ≡ false
      → (later : List Full) → Grown lab (later ++ q ∷ H) → Grown lab (q ∷ H) → AreFresh q later → IsDroppedAtOnce q later
  native_drops h taken e later g there fresh =
      let is = out_drops h.six x e in
      let nothing : q.made ≡ [] = taken.did.made ∙ ap (native_made h) is.nothing in
      record {
        drop = ap is_drop taken.did.fate ∙ is.drop;
        nothing = nothing;
        alone = alone lab H q there nothing later g fresh;
      }
