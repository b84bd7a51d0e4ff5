-- Restarts, and NATs that forget.
use Rattle.world.proofs.Words.{ChainsState, ChangesAt, ClientNode, Draws, Forget, IsKept, Lab, List, NodesOf, Ok, Option, PlayedNode, Plays, Restart, Restarts, Some, StandsFor, WorldState, [], ap, arith, at_nat, client_at, drawn, eqb_tells, false, fresh_record, inl, inr, journal, lab_in, new_journal, next_of, now, option_map, option_to_list, past_of, plain, refl, restarted, same_Some, slice_get, subst, sym, true, with_deed, ℕ, ◌+◌, ◌==◌, ◌∙◌, ◌∷◌, ◌≡◌, ◌≢◌, ◌⊎◌}
use Rattle.teredo_node.specs.declared.fate.Fate.TheVariants as fate
use Rattle.events.specs.declared.event.Event.TheVariants as event
use Rattle.events.specs.declared.verb.Verb.TheVariants as verb
use Rattle.history.specs.Full.{Full}
use Rattle.lab_nodes.specs.declared.played_node.PlayedNode.TheVariants as played
use Rattle.world.proofs.Kept.{AsPast, kept_as, is_itself, words_same, away, all_rest, Joins, nats_join}
use Rattle.world.proofs.Played.{nothing_made}

-- one node changes, of which the record is
changed : (lab : Lab) (does : PlayedNode → PlayedNode → Type 0) (old new : List PlayedNode) (H : List Full) (r : Full) (n : ℕ) → NodesOf lab old H → r.node ≡ Some n
    → (is : ChangesAt does n old new) → (IsKept lab.topology n (past_of lab n H) is.before → IsKept lab.topology n (past_of lab n (r ∷ H)) is.after) → NodesOf lab new (r ∷ H)
changed lab does old new H r n of node is there = record { rows = is.rows ∙ of.rows; each = λ k p at. by k p at (eqb_tells k n) } where
  by : (k : ℕ) (p : PlayedNode) → slice_get new k ≡ Some p → ((k == n) ≡ true) × (k ≡ n) ⊎ ((k == n) ≡ false) × (k ≢ n) → IsKept lab.topology k (past_of lab k (r ∷ H)) p
  by k p at (inl (yeah, same)) =
      let here : is.after ≡ p = same_Some is.after p (sym is.is ∙ ap (slice_get new) (sym same) ∙ at) in
      subst (λ (j : ℕ). IsKept lab.topology j (past_of lab j (r ∷ H)) p) (sym same) (subst (IsKept lab.topology n (past_of lab n (r ∷ H))) here (there (of.each n is.before is.was)))
  by k p at (inr (nope, apart)) =
      kept_as lab.topology k (past_of lab k H) (past_of lab k (r ∷ H)) p (away lab H r k p (λ e. apart (sym (same_Some n k (sym node ∙ e)))))
      (of.each k p (sym (is.elsewhere k apart) ∙ at))

-- A NODE STARTS ANEW

restart_as : (lab : Lab) (H : List Full) (i n m : ℕ) (p : PlayedNode) → m ≡ now H
    → AsPast p (restarted m (past_of lab n H)) (past_of lab n (next_of lab H i (event.Restart n) ∷ H))
restart_as lab H i n m p same = by p where
  its_journal : journal n (next_of lab H i (event.Restart n) ∷ H) ≡ new_journal m
  its_journal = rw (is_itself n) (ap new_journal (sym same))

  its_words : drawn n (next_of lab H i (event.Restart n) ∷ H) ≡ drawn n H
  its_words = let none : drawn n H + 0 ≡ drawn n H = omega arith in rw (is_itself n) none

  by : (p : PlayedNode) → AsPast p (restarted m (past_of lab n H)) (past_of lab n (next_of lab H i (event.Restart n) ∷ H))
  by (played.Nat row) = tt
  by (played.Client row is) = (its_journal, words_same lab n (next_of lab H i (event.Restart n)) H its_words)
  by (played.Server row) = tt
  by (played.Relay row is) = its_journal
  by (played.Native row) = tt

pub starts_anew : (d : Draws) (old : WorldState) (states : List PlayedNode) (nats : ChainsState) (H : List Full) (i n : ℕ) → StandsFor d old H
    → ChangesAt (Restarts old.moment) n old.nodes states → Joins n Restart old.nats nats
    → Plays d old (record old { chain = nats.chain; nodes = states; nats = nats }) H (next_of (lab_in d old) H i (event.Restart n))
    (Ok (with_deed (fresh_record i old.moment) (plain verb.Restart) (Some n) fate.Done))
starts_anew d old states nats H i n s is joins =
    let t = old.topology in
    let lab = lab_in d old in
    let r = next_of lab H i (event.Restart n) in (
      ap (λ (m : ℕ). with_deed (fresh_record i m) (plain verb.Restart) (Some n) fate.Done) s.moment,
      record {
        moment = s.moment;
        nodes = changed lab (Restarts old.moment) old.nodes states H r n s.nodes refl is
            (λ kept. kept_as t n (restarted old.moment (past_of lab n H)) (past_of lab n (r ∷ H)) is.after (restart_as lab H i n old.moment is.after s.moment) (is.change t n (past_of lab n H) kept));
        nats = nats_join lab H r n Restart old.nats nats refl refl refl joins s.nats;
        wire = nothing_made old r refl;
        done = λ k. refl;
        armed = s.armed;
      },
    )

-- A NAT FORGETS A CLIENT

pub forgets : (d : Draws) (old : WorldState) (nats : ChainsState) (H : List Full) (i n who : ℕ) (c : ClientNode) → StandsFor d old H → client_at old.topology who ≡ Some c
    → Joins n (Forget c.inside) old.nats nats
    → Plays d old (record old { chain = nats.chain; nats = nats }) H (next_of (lab_in d old) H i (event.Forget n who))
    (Ok (with_deed (fresh_record i old.moment) (plain verb.Forget) (Some n) fate.Done))
forgets d old nats H i n who c s there joins =
    let lab = lab_in d old in
    let r = next_of lab H i (event.Forget n who) in
    let its : at_nat lab r.asked r.act ≡ Forget c.inside ∷ [] = ap (λ (o : Option ClientNode). option_to_list (option_map (λ (a : ClientNode). Forget a.inside) o)) there in (
      ap (λ (m : ℕ). with_deed (fresh_record i m) (plain verb.Forget) (Some n) fate.Done) s.moment,
      record {
        moment = s.moment;
        nodes = all_rest lab old.nodes H r s.nodes refl refl;
        nats = nats_join lab H r n (Forget c.inside) old.nats nats refl refl its joins s.nats;
        wire = nothing_made old r refl;
        done = λ k. refl;
        armed = s.armed;
      },
    )
