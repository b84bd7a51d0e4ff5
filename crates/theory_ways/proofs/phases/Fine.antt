-- One record more of a client that nothing disturbs along its way.
use Rattle.theory_ways.proofs.Words.{AddressStays, Bool, ClientNode, Entry, Ep, Full, Has, IsActOf, Journal, Lab, List, Out, Phase, Settings, ap, client, cond, contains_of, counted, counting, counts_kept, counts_of, each_is_later, false, has_of, has_sent, inl, inr, is_early, is_open_along, is_out_of, is_resting, is_told, journal, list_any, nat_entries, nat_history, nat_of, none_has, not, now, open_of, or_parts, outer_nats_of, phase_next, qualification, refl, rests_late, same_ep, same_ep-self, still_early, subst, sym, true, turn_of, with_entry, young_before, ℕ, ◌&&◌, ◌||◌, ◌∙◌, ◌∷◌, ◌≡◌, ◌⊎◌}
use Rattle.theory_ways.proofs.phases.OneMore.{Asker, OneMore, was, after}
use Rattle.theory_ways.proofs.phases.Sound.{settings_of, standing_of, HasAsked, IsSoundNow}
use Rattle.theory_ways.proofs.phases.Calm.{IsCalm, is_told_along}
use Rattle.theory_ways.proofs.phases.Concerns.{AsksCount, IsOpen, Concerns, own, others, concerns, SentNothing, asks_next, asks_on}
use Rattle.theory_ways.proofs.phases.FirstAsks.{IsUnseenAt, Unknown}
use Rattle.theory_ways.proofs.phases.SoundOn.{IsReady, unheard, sound_next, stays_next}

-- until the client sent something, nothing of it counts and nothing came
pub record IsUntried (v : Asker) : Type 0 where
  pub unseen : IsUnseenAt v (now v.past)
  pub early : is_early (standing_of v).phase ≡ true

-- what holds of a client that nothing disturbs
pub record IsFine (v : Asker) : Type 0 where
  pub sound : IsSoundNow v
  pub asks : AsksCount v
  pub rests : is_resting (standing_of v).phase ≡ true → HasAsked v
  pub untried : has_sent v.lab v.past v.number v.row ≡ false → IsUntried v
  pub stays : AddressStays v.past v.number

module _ (x : OneMore) (calm : IsCalm x) where
  abbrev lab : Lab
  lab = x.lab

  abbrev H : List Full
  H = x.before

  abbrev r : Full
  r = x.full

  abbrev n : ℕ
  n = x.number

  abbrev c : ClientNode
  c = x.row

  abbrev s : Settings
  s = settings_of (was x)

  abbrev ph : Phase
  ph = (standing_of (was x)).phase

  -- what counts later counts before
  unseen_at : IsUnseenAt (was x) (now H) → IsUnseenAt (was x) r.moment
  unseen_at u d counts left =
      let idle = (nat_of lab c.nat).idle in
      let h = nat_history lab c.nat H in
      let before = counts_kept idle r.moment h d (has_of (counting idle r.moment h) d counts) in
      u d (contains_of (counting idle (now H) h) d
      (counts_of idle (now H) h d before.0 (young_before idle (now H) r.moment d (each_is_later lab H r x.grown) before.1))) left

  early_next : IsUntried (was x) → is_early (standing_of (after x)).phase ≡ true
  early_next u = by (concerns x calm) where
    of_turn : (e : Entry) → IsActOf lab H r n (client c) e → (b : Bool) → is_told (turn_of e) ≡ b
        → is_early (qualification s (with_entry (journal n H) e)).phase ≡ true
    of_turn e act true h = absurd (unheard x calm e (is_told_along x calm e act h) (unseen_at u.unseen))
    of_turn e act false h = ap is_early (phase_next s (journal n H) e) ∙ still_early (turn_of e) ph h u.early

    by : Concerns x calm → is_early (standing_of (after x)).phase ≡ true
    by (own e act) = subst (λ (j : Journal). is_early (qualification s j).phase ≡ true) (sym act.later) (of_turn e act (is_told (turn_of e)) refl)
    by (others same out goes) = subst (λ (j : Journal). is_early (qualification s j).phase ≡ true) (sym same) u.early

  unseen_next : list_any (is_out_of c.inside) (nat_entries lab c.nat r) ≡ false → IsUnseenAt (was x) (now H) → IsUnseenAt (after x) r.moment
  unseen_next none u d counts left =
      let idle = (nat_of lab c.nat).idle in
      by (counted idle (now H) r.moment (nat_entries lab c.nat r) (nat_history lab c.nat H) d
      (each_is_later lab H r x.grown) (has_of (counting idle r.moment (nat_history lab c.nat (r ∷ H))) d counts)) where
        by : Has (nat_entries lab c.nat r) (Out d) ⊎ Has (counting (nat_of lab c.nat).idle (now H) (nat_history lab c.nat H)) d → ⊥
        by (inl new) = none_has (is_out_of c.inside) (nat_entries lab c.nat r) (Out d) none new
            (ap (λ (e : Ep). same_ep e c.inside) left ∙ same_ep-self c.inside)
        by (inr old) = u d (contains_of (counting (nat_of lab c.nat).idle (now H) (nat_history lab c.nat H)) d old) left

  untried_next : IsFine (was x) → has_sent lab (r ∷ H) n c ≡ false → IsUntried (after x)
  untried_next fine none =
      let both = or_parts (list_any (is_out_of c.inside) (nat_entries lab c.nat r)) (has_sent lab H n c)
      (ap (λ (b : Bool). cond b false (list_any (is_out_of c.inside) (nat_entries lab c.nat r) || has_sent lab H n c)) (sym calm.off) ∙ none) in
      let u = fine.untried both.1 in
      record { unseen = unseen_next both.0 u.unseen; early = early_next u }

  -- once it sent something each NAT is open
  after_sent : IsFine (was x) → IsOpen x calm → IsFine (after x)
  after_sent fine open_ =
      let ready : IsReady x calm = record { asks = fine.asks; begun = inl open_; rests = λ rests. open_ } in
      record {
        sound = sound_next x calm ready fine.sound;
        asks = asks_next x calm fine.asks (inl open_) (concerns x calm);
        rests = λ rests. asks_on x calm fine.asks open_;
        untried = untried_next fine;
        stays = stays_next x calm ready fine.sound fine.stays;
      }

  -- until then nothing came
  before_sent : IsFine (was x) → SentNothing x calm → (c.cone_try ≡ true → Unknown x (outer_nats_of lab c)) → IsFine (after x)
  before_sent fine none unknown =
      let u = fine.untried none in
      let ready : IsReady x calm = record {
        asks = fine.asks;
        begun = inr (none, λ tries. (unseen_at u.unseen, unknown tries));
        rests = λ rests. absurd (rests_late ph rests u.early);
      } in
      record {
        sound = sound_next x calm ready fine.sound;
        asks = asks_next x calm fine.asks (inr none) (concerns x calm);
        rests = λ rests. absurd (rests_late (standing_of (after x)).phase rests (early_next u));
        untried = untried_next fine;
        stays = stays_next x calm ready fine.sound fine.stays;
      }

  pub fine_next : IsFine (was x) → (has_sent lab H n c && not (is_open_along lab H r.moment n c)) ≡ false → Unknown x (outer_nats_of lab c)
      → IsFine (after x)
  fine_next fine shut unknown = by (has_sent lab H n c) refl where
    by : (b : Bool) → has_sent lab H n c ≡ b → IsFine (after x)
    by true e = after_sent fine (open_of (has_sent lab H n c) (is_open_along lab H r.moment n c) e shut)
    by false e = before_sent fine e (λ tries. unknown)
