-- What a relay does with a packet of a client that it lists for a native that it serves, by its table, and what comes onto the wire.
use Rattle.theory_first_natives.proofs.Words.{Did, Entry, Ep, Fields, Full, Input, Lab, List, None, ReadsPayload, RelayNode, RelaySettings, Send, Some, Value, [], ap, armed, arrived, embedded, false, is_big, is_bubble, is_keyed, is_listed, is_teredo, known, list_any, listed_is_known, outright, own_ep, refl, relay, relay_in, relay_mentions, relay_standing_at, releases, rest_of, same_ep-self, same_ip6, sent, six, six_made, subst, sym, take_rest, true, value_written, ℕ, ◌++◌, ◌∙◌, ◌∷◌, ◌≡◌}
use Rattle.teredo_node.specs.declared.fate.Fate.TheVariants as fate
use Rattle.theory_first_natives.proofs.tables.NativeTables.{packet_goes_on}
use Rattle.theory_first_natives.proofs.tables.RelayHears.{seen_here, entry_in}

module _ (s : RelaySettings) (j : List Entry) (n : ℕ) (x : List ℕ) (p : Fields) (reads : ReadsPayload (value_written None None p) x) where
  abbrev v : Value
  v = value_written None None p

  unkeyed : is_keyed v.lead ≡ false
  unfolding is_keyed
  unkeyed = refl

  -- x is no bubble, and from a listed client to a native that the relay serves
  pub record IsOfClient : Type 0 where
    pub short : is_big p ≡ false
    pub teredo : is_teredo p.src ≡ true
    pub no_bubble : is_bubble p ≡ false
    pub listed : is_listed p.src n (relay_mentions j) ≡ true
    pub served : list_any (same_ip6 p.dst) s.served ≡ true

  pub record Passes (e : Entry) : Type 0 where
    pub fate : e.step.fate ≡ fate.FromClient
    pub sends : e.step.sends ≡ releases (embedded p.src) (known (relay_mentions j) n p.src).waiting
    pub six : e.step.six ≡ Some (rest_of 0 x)
    pub about : e.peer ≡ Some p.src
    pub moment : e.moment ≡ n
    pub came : e.input ≡ arrived (embedded p.src) x

  pub passes_it_on : IsOfClient → Passes (relay_in s j n (embedded p.src) x)
  unfolding relay_standing_at
  passes_it_on is = subst Passes (sym (entry_in s j n (embedded p.src) x v reads
      (packet_goes_on (seen_here s j n (embedded p.src) x v reads) (record {
        peer = record {
          payload = refl;
          unkeyed = unkeyed;
          short = is.short;
          teredo = is.teredo;
          embedded = same_ep-self (embedded p.src);
          listed = listed_is_known (relay_mentions j) n p.src ∙ is.listed;
        };
        no_bubble = is.no_bubble;
        served = is.served;
      }))))
      (record { fate = refl; sends = refl; six = refl; about = refl; moment = refl; came = refl })

-- the packet goes to the IPv6 side, and nothing else leaves
pub one_passes : {lab : Lab} (H : List Full) {q : Full} {k : ℕ} {r : RelayNode} {e : Entry} → Did lab H q k (relay r) e → (from : Ep) (x : List ℕ)
    → e.step.sends ≡ [] → e.step.six ≡ Some (rest_of 0 x) → e.input ≡ arrived from x → q.made ≡ sent (six None x) ∷ []
one_passes H {r} {e} did from x sends passes input =
    did.made
    ∙ ap (λ (xs : List Send). outright (own_ep (relay r)) (armed H) 0 xs ++ six_made e.input e.step.six) sends
    ∙ ap (λ (i : Input). six_made i e.step.six) input
    ∙ ap (six_made (arrived from x)) passes
    ∙ ap (λ (y : List ℕ). sent (six None y) ∷ []) (take_rest x 0)
