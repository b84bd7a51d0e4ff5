-- What a relay puts onto the IPv6 side of a packet of a client that it lists, for a host that it serves.
use Rattle.theory_reaching.proofs.Words.{Entry, Ep, List, None, ReadsPayload, RelaySettings, Some, Value, [], ap, arrived, embedded, entry_in, false, fields_in, is_big, is_bubble, is_listed, is_teredo, known, list_any, of_peer, packet_goes_on, refl, relay_in, relay_mentions, relay_standing_at, releases, rest_of, same_ip6, subst, sym, true, value_written, ℕ, ◌≡◌}
use Rattle.teredo_node.specs.declared.fate.Fate.TheVariants as fate
use Rattle.theory_first_natives.proofs.tables.RelayHears.{seen_here}

-- a packet of a listed client, of which nothing waits, for a host that the relay serves
pub record IsOfListed (s : RelaySettings) (j : List Entry) (n : ℕ) (x : List ℕ) : Type 0 where
  pub reads : ReadsPayload (value_written None None (fields_in x)) x
  pub short : is_big (fields_in x) ≡ false
  pub teredo : is_teredo (fields_in x).src ≡ true
  pub plain : is_bubble (fields_in x) ≡ false
  pub listed : is_listed (fields_in x).src n (relay_mentions j) ≡ true
  pub served : list_any (same_ip6 (fields_in x).dst) s.served ≡ true
  pub nothing_waits : (known (relay_mentions j) n (fields_in x).src).waiting ≡ []

-- it goes to the IPv6 side, and nothing else does
pub record PassesOn (x : List ℕ) (from : Ep) (e : Entry) : Type 0 where
  pub sends : e.step.sends ≡ []
  pub six : e.step.six ≡ Some (rest_of 0 x)
  pub input : e.input ≡ arrived from x

module _ (s : RelaySettings) (j : List Entry) (n : ℕ) (x : List ℕ) (is : IsOfListed s j n x) where
  abbrev from : Ep
  from = embedded (fields_in x).src

  abbrev v : Value
  v = value_written None None (fields_in x)

  pub passes_it_on : PassesOn x from (relay_in s j n from x)
  unfolding relay_standing_at
  passes_it_on = subst (PassesOn x from) (sym (entry_in s j n from x v is.reads
      (packet_goes_on (seen_here s j n from x v is.reads) (record {
        peer = of_peer (record { s = s; j = j; n = n; x = x; p = fields_in x; reads = is.reads }) is.short is.teredo is.listed;
        no_bubble = is.plain;
        served = is.served;
      }))))
      (record { sends = ap (releases from) is.nothing_waits; six = refl; input = refl })
