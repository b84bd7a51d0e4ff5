-- What a relay does with a bubble of a client that it lists, by its table.
use Rattle.theory_first_natives.proofs.Words.{Bool, Entry, Ep, Fate, Fields, Ip6, IsOfPeer, List, None, Option, ReadsPayload, RelaySeen, RelaySettings, RelayStanding, Some, Value, ap, arrived, cond, embedded, false, is_big, is_bubble, is_keyed, is_listed, is_payload, is_teredo, known, listed_is_known, packet_in, refl, relay_in, relay_mentions, relay_reception, relay_reception_row, relay_reception_step, relay_seen, relay_seen_of, relay_standing_at, relay_standing_of, releases, same_ep-self, source_in, subst, sym, true, unspecified, unwrap_or, value_in, value_written, wordless_entry, ℕ, ◌∙◌, ◌≡◌}
use Rattle.teredo_node.specs.declared.fate.Fate.TheVariants as fate
use Rattle.theory_first_natives.proofs.tables.NativeTables.{bubble_is_heard}

module _ (s : RelaySettings) (j : List Entry) (n : ℕ) (from : Ep) (x : List ℕ) (v : Value) (reads : ReadsPayload v x) where
  abbrev standing_to : RelayStanding
  standing_to = relay_standing_at j n v.packet.src

  abbrev pub seen_here : RelaySeen
  seen_here = relay_seen_of s standing_to from true v

  source : source_in x ≡ Some v.packet.src
  unfolding source_in
  source = ap (λ (b : Bool). cond b (Some (value_in x).packet.src) None) reads.is_one ∙ ap (λ (u : Value). Some u.packet.src) reads.value

  stands : relay_standing_of j n (source_in x) ≡ standing_to
  stands = ap (λ (o : Option Ip6). relay_standing_at j n (unwrap_or o unspecified)) source

  row_is : relay_reception_row (relay_seen s (relay_standing_of j n (source_in x)) from x) ≡ relay_reception_row seen_here
  unfolding relay_seen
  row_is =
      ap (λ (a : RelayStanding). relay_reception_row (relay_seen_of s a from (is_payload x) (value_in x))) stands
      ∙ ap (λ (b : Bool). relay_reception_row (relay_seen_of s standing_to from b (value_in x))) reads.is_one
      ∙ ap (λ (u : Value). relay_reception_row (relay_seen_of s standing_to from true u)) reads.value

  -- the entry with the fate of the row
  pub entry_in : {f : Fate} → relay_reception_row seen_here ≡ f
      → relay_in s j n from x ≡ wordless_entry n (arrived from x) (packet_in x) (Some v.packet.src) (relay_reception_step standing_to x v f)
  unfolding relay_in relay_reception
  entry_in {f} is =
      ap (λ (g : Fate). wordless_entry n (arrived from x) (packet_in x) (source_in x)
      (relay_reception_step (relay_standing_of j n (source_in x)) x (value_in x) g)) (row_is ∙ is)
      ∙ ap (λ (u : Value). wordless_entry n (arrived from x) (packet_in x) (source_in x)
      (relay_reception_step (relay_standing_of j n (source_in x)) x u f)) reads.value
      ∙ ap (λ (a : RelayStanding). wordless_entry n (arrived from x) (packet_in x) (source_in x) (relay_reception_step a x v f)) stands
      ∙ ap (λ (o : Option Ip6). wordless_entry n (arrived from x) (packet_in x) o (relay_reception_step standing_to x v f)) source

-- what is read without indications isn't keyed
pub unkeyed : (p : Fields) → is_keyed (value_written None None p).lead ≡ false
unfolding is_keyed
unkeyed p = refl

-- a payload that a relay reads, and its fields
pub record HeardPayload : Type 0 where
  pub s : RelaySettings
  pub j : List Entry
  pub n : ℕ
  pub x : List ℕ
  pub p : Fields
  pub reads : ReadsPayload (value_written None None p) x

module _ (heard : HeardPayload) where
  open heard use {s, j, n, x, p, reads}

  abbrev v : Value
  v = value_written None None p

  -- a listed client's, from where its address says
  pub of_peer : is_big p ≡ false → is_teredo p.src ≡ true → is_listed p.src n (relay_mentions j) ≡ true
      → IsOfPeer (seen_here s j n (embedded p.src) x v reads)
  unfolding relay_standing_at
  of_peer small teredo listed = record {
    payload = refl;
    unkeyed = unkeyed p;
    short = small;
    teredo = teredo;
    embedded = same_ep-self (embedded p.src);
    listed = listed_is_known (relay_mentions j) n p.src ∙ listed;
  }

  -- a bubble of a listed client lets go what waits for it
  pub record LetsGo (e : Entry) : Type 0 where
    pub fate : e.step.fate ≡ fate.FromClientBubble
    pub sends : e.step.sends ≡ releases (embedded p.src) (known (relay_mentions j) n p.src).waiting
    pub about : e.peer ≡ Some p.src
    pub moment : e.moment ≡ n
    pub nothing : e.step.six ≡ None

  pub lets_go : is_big p ≡ false → is_teredo p.src ≡ true → is_bubble p ≡ true → is_listed p.src n (relay_mentions j) ≡ true
      → LetsGo (relay_in s j n (embedded p.src) x)
  unfolding relay_standing_at
  lets_go small teredo bubble listed = subst LetsGo (sym (entry_in s j n (embedded p.src) x v reads
      (bubble_is_heard (seen_here s j n (embedded p.src) x v reads) (record { peer = of_peer small teredo listed; bubble = bubble }))))
      (record { fate = refl; sends = refl; about = refl; moment = refl; nothing = refl })
