-- When something is due of a relay, and how much.
use Rattle.relay_core.proofs.Words.{DoesDue, Entry, Idles, IsNoSooner, Lessens, List, Option, Relay, RelayAsBefore, RelayStandsFor, Step, arith, due_moment, first_due_in, just, option_map, refl, relay_due, relay_owing, subst, sym, ℕ, ◌<◌, ◌∙◌, ◌≡◌, ◌≤◌}
use Rattle.teredo_node.specs.declared.fate.Fate.TheVariants as fate
use Rattle.relay_core.proofs.Read.{read_same}

-- WHEN

pub due_told : (r : Relay) (n : ℕ) (d : Option ℕ) → r.peers.moment ≤ n → d ≡ option_map due_moment (first_due_in r.peers n) → (j : List Entry) → RelayStandsFor r j → d ≡ relay_due j n
unfolding relay_due
due_told r n d l e j h = let s = read_same r j n h l in e ∙ (λ i. option_map due_moment (s.first i))

-- where no peer has something before a moment, nothing is due before it
pub none_sooner : (r : Relay) (m : ℕ) → ((n : ℕ) → IsNoSooner m (option_map due_moment (first_due_in r.peers n)))
    → (j : List Entry) (n : ℕ) → RelayStandsFor r j → r.peers.moment ≤ n → IsNoSooner m (relay_due j n)
none_sooner r m peers j n h l = subst (IsNoSooner m) (due_told r n (option_map due_moment (first_due_in r.peers n)) l refl j h) (peers n)

-- A TICK WHERE NOTHING IS DUE

pub rests : (r : Relay) (n : ℕ) → Idles (relay_owing r n) (RelayAsBefore r r) (just fate.Idle)
rests r n owed = (refl, record { stands = λ j h. h; settings = refl })

pub rests_too : (r : Relay) (n : ℕ) → relay_owing r n ≡ 0 → Lessens (relay_owing r n) (relay_owing r n) (just fate.Idle)
rests_too r n none owed = absurd (omega (arith, none, owed))

-- A TICK WHERE A PEER IS DUE

pub put_off_idles : (old new : Relay) (n : ℕ) (step : Step) → DoesDue old new n step → Idles (relay_owing old n) (RelayAsBefore old new) step
put_off_idles old new n step p owed = let less = p.less in absurd (omega (arith, less, owed))

pub put_off_lessens : (old new : Relay) (n : ℕ) (step : Step) → DoesDue old new n step → Lessens (relay_owing old n) (relay_owing new n) step
put_off_lessens old new n step p owed = (p.less, p.busy)

pub given_up : (old new : Relay) (n : ℕ) (step : Step) → relay_owing new n < relay_owing old n → step.fate ≡ fate.GiveUp → DoesDue old new n step
given_up old new n step less f = record { less = less; busy = λ e. let no_way : fate.GiveUp ≡ fate.Idle = sym f ∙ e in cc }

pub tried_off : (old new : Relay) (n : ℕ) (step : Step) → relay_owing new n < relay_owing old n → step.fate ≡ fate.Bubbles → DoesDue old new n step
tried_off old new n step less f = record { less = less; busy = λ e. let no_way : fate.Bubbles ≡ fate.Idle = sym f ∙ e in cc }
