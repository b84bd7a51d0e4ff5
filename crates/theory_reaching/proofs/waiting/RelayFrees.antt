-- What a relay at which nothing but a packet waits for a client does with the client's bubble: it lets the packet go.
use Rattle.theory_reaching.proofs.Words.{AllByRecursion, Bool, Entry, Ep, Fate, Ip6, List, None, Option, ReadsPayload, RelaySeen, RelaySettings, RelayStanding, Send, Some, Value, [], ap, arrived, by_lines, cond, embedded, is_bubble, is_payload, known, option_to_list, packet_in, reception_lines, refl, relay_bearing_of, relay_in, relay_known_in, relay_mention, relay_mentions, relay_reception, relay_reception_row, relay_reception_step, relay_seen, relay_seen_of, relay_standing_at, relay_standing_of, releases, send, source_in, subst, sym, true, unspecified, unwrap_or, value_in, wordless_entry, ℕ, ◌∙◌, ◌∷◌, ◌≡◌}
use Rattle.teredo_node.specs.declared.fate.Fate.TheVariants as fate
use Rattle.theory_reaching.proofs.Tests.{never}
use Rattle.theory_reaching.proofs.waiting.RelayKeepsOnly.{OnlyThis, only_still}

-- a fate by which what waits is let go, or nothing, and nothing comes to wait
record LetsGo (a : RelayStanding) (z : List ℕ) (v : Value) (f : Fate) : Type 0 where
  sends : (x : List ℕ) → OnlyThis x (relay_known_in a).waiting
      → AllByRecursion (λ (u : Send). u ≡ send (embedded v.packet.src) x) (relay_reception_step a z v f).sends
  six : (relay_reception_step a z v f).six ≡ None
  fate : (relay_reception_step a z v f).fate ≡ f
  queues : (e : Entry) → (relay_bearing_of f e).queues ≡ None

all_released : (to : Ep) (x : List ℕ) (ws : List (List ℕ)) → OnlyThis x ws → AllByRecursion (λ (u : Send). u ≡ send to x) (releases to ws)
all_released to x [] all = tt
all_released to x (w ∷ ws) all = (ap (send to) all.0, all_released to x ws all.1)

lets_go : (a : RelayStanding) (z : List ℕ) (v : Value) (g : RelaySeen) → g.bubble ≡ true → LetsGo a z v (relay_reception_row g)
lets_go a z v g bubble = by_lines (LetsGo a z v) (reception_lines g) fate.Unserved (
  (λ _. record { sends = λ x all. tt; six = refl; fate = refl; queues = λ e. refl }),
  (λ _. (
    (λ _. record { sends = λ x all. tt; six = refl; fate = refl; queues = λ e. refl }),
    (λ _. (
      (λ _. record { sends = λ x all. tt; six = refl; fate = refl; queues = λ e. refl }),
      (λ _. (
        (λ _. record { sends = λ x all. tt; six = refl; fate = refl; queues = λ e. refl }),
        (λ _. (
          (λ _. record { sends = λ x all. tt; six = refl; fate = refl; queues = λ e. refl }),
          (λ _. (
            (λ _. record { sends = λ x all. tt; six = refl; fate = refl; queues = λ e. refl }),
            (λ _. (
              (λ _. record {
                sends = λ x all. all_released (embedded v.packet.src) x (relay_known_in a).waiting all;
                six = refl;
                fate = refl;
                queues = λ e. refl;
              }),
              (λ plain. never g.bubble bubble plain),
            )),
          )),
        )),
      )),
    )),
  )),
)

module _ (s : RelaySettings) (j : List Entry) (n : ℕ) (from : Ep) (z : List ℕ) (v : Value) (reads : ReadsPayload v z)
    (bubble : is_bubble v.packet ≡ true) where
  abbrev peer : Ip6
  peer = v.packet.src

  abbrev its_row : Fate
  its_row = relay_reception_row (relay_seen_of s (relay_standing_at j n peer) from true v)

  abbrev made : RelayStanding → Value → Fate → Entry
  made a u f = wordless_entry n (arrived from z) (packet_in z) (source_in z) (relay_reception_step a z u f)

  source : source_in z ≡ Some peer
  unfolding source_in
  source = ap (λ (b : Bool). cond b (Some (value_in z).packet.src) None) reads.is_one ∙ ap (λ (u : Value). Some u.packet.src) reads.value

  stood : relay_standing_of j n (source_in z) ≡ relay_standing_at j n peer
  stood = ap (λ (o : Option Ip6). relay_standing_at j n (unwrap_or o unspecified)) source

  abbrev its : Entry
  its = made (relay_standing_at j n peer) v its_row

  made_is : relay_in s j n from z ≡ its
  unfolding relay_in relay_reception relay_seen
  made_is =
      ap (λ (a : RelayStanding). made a (value_in z) (relay_reception_row (relay_seen_of s a from (is_payload z) (value_in z)))) stood
      ∙ ap (λ (b : Bool). made (relay_standing_at j n peer) (value_in z)
      (relay_reception_row (relay_seen_of s (relay_standing_at j n peer) from b (value_in z)))) reads.is_one
      ∙ ap (λ (u : Value). made (relay_standing_at j n peer) u (relay_reception_row (relay_seen_of s (relay_standing_at j n peer) from true u))) reads.value

  goes : LetsGo (relay_standing_at j n peer) z v its_row
  goes = lets_go (relay_standing_at j n peer) z v (relay_seen_of s (relay_standing_at j n peer) from true v) bubble

  -- what waits goes to the client, and nothing comes to wait
  pub record FreesOnly (e : Entry) : Type 0 where
    pub sends : (x : List ℕ) → OnlyThis x (known (relay_mentions j) n peer).waiting
        → AllByRecursion (λ (u : Send). u ≡ send (embedded peer) x) e.step.sends
    pub six : e.step.six ≡ None
    pub waits : (x : List ℕ) (p : Ip6) → OnlyThis x (known (relay_mentions j) n p).waiting → OnlyThis x (known (relay_mentions (e ∷ j)) n p).waiting

  frees_so : FreesOnly its
  unfolding relay_mentions relay_standing_at
  frees_so = record {
    sends = goes.sends;
    six = goes.six;
    waits = λ x p. only_still x (relay_mention its) (relay_mentions j) n p refl
        (subst (λ (f : Fate). OnlyThis x (option_to_list (relay_bearing_of f its).queues)) (sym goes.fate)
        (subst (λ (o : Option (List ℕ)). OnlyThis x (option_to_list o)) (sym (goes.queues its)) tt));
  }

  pub frees_only : FreesOnly (relay_in s j n from z)
  frees_only = subst FreesOnly (sym made_is) frees_so
