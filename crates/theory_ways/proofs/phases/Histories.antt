-- What a whole history of a client comes to, record by record: its starts, and what is lost in between.
use Rattle.theory_ways.proofs.Words.{AllByRecursion, Bool, ClientNode, Full, Grown, IsKeptAlong, IsKeptOpenAlong, IsUndisturbedAlong, Lab, List, NatEntry, Option, [], and_parts, ap, are_honest_for, began_seen, cond, false, false≢true, find, has_sent, is_honest_event_for, is_loss_of, is_node, is_open_along, is_restart, is_seen, is_some, let_out_of, list_any, nat_entries, not, or_parts, outer_nats_of, passed_known, refl, starts, sym, true, was_answered, was_lost, was_restarted, was_shut_along, went_to, ℕ, ◌&&◌, ◌||◌, ◌∙◌, ◌∷◌, ◌≡◌}
use Rattle.theory_ways.proofs.phases.OneMore.{Asker, OneMore, IsThere}
use Rattle.theory_ways.proofs.outwards.Asks.{server_of}
use Rattle.theory_ways.proofs.phases.Concerns.{AsksCount}
use Rattle.theory_ways.proofs.phases.Calm.{IsCalm}

-- a record that starts nothing anew doesn't start the client so
pub not_started : (n : ℕ) (r : Full) → is_restart r.act ≡ false → starts n r ≡ false
not_started n r still = by (is_node n r.node) where
  by : (b : Bool) → (b && is_restart r.act) ≡ false
  by true = still
  by false = refl

-- a record more of client n, which is c
abbrev pub one_more_of : (lab : Lab) (n : ℕ) (c : ClientNode) → IsThere lab n c → (H : List Full) (r : Full) → Grown lab (r ∷ H) → OneMore
one_more_of lab n c there H r g = record { lab = lab; before = H; full = r; number = n; row = c; there = there; grown = g }

-- no further NAT was started anew in the record, nor before it
pub off_parts : (H : List Full) (r : Full) (n : ℕ) → starts n r ≡ false → (way : List ℕ) → AllByRecursion (λ (k : ℕ). was_restarted (r ∷ H) n k ≡ false) way
    → AllByRecursion (λ (k : ℕ). starts k r ≡ false) way × AllByRecursion (λ (k : ℕ). was_restarted H n k ≡ false) way
off_parts H r n off [] a = (tt, tt)
off_parts H r n off (k ∷ way) a =
    let one = or_parts (starts k r) (was_restarted H n k)
    (ap (λ (b : Bool). cond b false (starts k r || was_restarted H n k)) (sym off) ∙ a.0) in
    let on = off_parts H r n off way a.1 in
    ((one.0, on.0), (one.1, on.1))

-- what NATs let out before the record came from where they knew nothing
pub unknown_before : (lab : Lab) (H : List Full) (r : Full) (n : ℕ) → starts n r ≡ false → (way : List ℕ)
    → AllByRecursion (λ (k : ℕ). passed_known lab (r ∷ H) n k ≡ false) way → AllByRecursion (λ (k : ℕ). passed_known lab H n k ≡ false) way
unknown_before lab H r n off [] a = tt
unknown_before lab H r n off (k ∷ way) a = (second _ (passed_known lab H n k) (starts n r) off a.0, unknown_before lab H r n off way a.1) where
  second : (p y b : Bool) → b ≡ false → cond b false (p || y) ≡ false → y ≡ false
  second p y false e h = (or_parts p y h).1
  second p y true e h = absurd (false≢true (sym e))

module _ (lab : Lab) (n : ℕ) (c : ClientNode) (H : List Full) (r : Full) where
  -- the history before was honest too
  pub honest_before : are_honest_for lab.topology c (r ∷ H) ≡ true → are_honest_for lab.topology c H ≡ true
  honest_before h = (and_parts (is_honest_event_for lab.topology c r.asked) (are_honest_for lab.topology c H) h).1

  pub lost_parts : starts n r ≡ false → was_lost lab (r ∷ H) n c ≡ false
      → (list_any (is_loss_of c.inside) (nat_entries lab c.nat r) ≡ false) × (was_lost lab H n c ≡ false)
  lost_parts off h = or_parts (list_any (is_loss_of c.inside) (nat_entries lab c.nat r)) (was_lost lab H n c)
      (ap (λ (b : Bool). cond b false (list_any (is_loss_of c.inside) (nat_entries lab c.nat r) || was_lost lab H n c)) (sym off) ∙ h)

  -- nor was it too old for any NAT
  pub open_parts : (has_begun : List Full → Bool) → starts n r ≡ false → was_shut_along has_begun lab (r ∷ H) n c ≡ false
      → ((has_begun H && not (is_open_along lab H r.moment n c)) ≡ false) × (was_shut_along has_begun lab H n c ≡ false)
  open_parts has_begun off h = or_parts (has_begun H && not (is_open_along lab H r.moment n c)) (was_shut_along has_begun lab H n c)
      (ap (λ (b : Bool). cond b false ((has_begun H && not (is_open_along lab H r.moment n c)) || was_shut_along has_begun lab H n c)) (sym off) ∙ h)

  shut_before : (has_begun : List Full → Bool) → starts n r ≡ false → was_shut_along has_begun lab (r ∷ H) n c ≡ false
      → was_shut_along has_begun lab H n c ≡ false
  shut_before has_begun off h = (open_parts has_begun off h).1

  -- and its NATs were kept
  pub kept_before : starts n r ≡ false → IsKeptAlong lab (r ∷ H) n c → IsKeptAlong lab H n c
  kept_before off kept = record { next = (lost_parts off kept.next).1; outer = (off_parts H r n off (outer_nats_of lab c) kept.outer).1 }

  -- so was all of it
  pub undisturbed_before : starts n r ≡ false → IsUndisturbedAlong lab (r ∷ H) n c → IsUndisturbedAlong lab H n c
  undisturbed_before off calm = record {
    began = ap (λ (b : Bool). cond b (is_seen lab (r ∷ H) c) (began_seen lab H n c)) (sym off) ∙ calm.began;
    lasts = kept_before off calm.lasts;
    server_open = shut_before (λ (before : List Full). has_sent lab before n c) off calm.server_open;
    new = unknown_before lab H r n off (outer_nats_of lab c) calm.new;
  }

  pub kept_open_before : starts n r ≡ false → IsKeptOpenAlong lab (r ∷ H) n c → IsKeptOpenAlong lab H n c
  kept_open_before off calm = record {
    lasts = kept_before off calm.lasts;
    server_open = shut_before (λ (before : List Full). has_sent lab before n c || was_answered before n) off calm.server_open;
  }

  -- the record is calm
  pub calm_of : (there : IsThere lab n c) (g : Grown lab (r ∷ H)) → starts n r ≡ false → are_honest_for lab.topology c (r ∷ H) ≡ true
      → IsKeptAlong lab (r ∷ H) n c → IsCalm (one_more_of lab n c there H r g)
  calm_of there g off honest kept = record {
    honest = honest_before honest;
    off = off;
    here = (lost_parts off kept.next).0;
    outer = (off_parts H r n off (outer_nats_of lab c) kept.outer).0;
  }

-- at a start nothing was asked
pub asks_at_start : (v : Asker) → ((k : ℕ) → let_out_of v.number k v.past ≡ []) → AsksCount v
asks_at_start v none have = absurd (false≢true (ap (λ (o : Option NatEntry). is_some o)
    (sym (ap (find (went_to (server_of v))) (none v.row.nat)) ∙ have.0.1)))
