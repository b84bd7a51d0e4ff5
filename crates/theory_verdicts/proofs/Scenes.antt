-- A record of a client where no NAT is behind another one, and what it rests on.
use Rattle.theory_verdicts.proofs.Words.{ClientNode, Entry, Ep, Full, Grown, IsEp, Lab, List, Qualification, Settings, Some, [], are_honest_for, client_settings, expected, expected_in, false, is_cone, is_loss_of, is_open_at, is_same_origin, list_any, nat_entries, now, origin_before, origin_given, phase_line, standing, true, ℕ, ◌∷◌, ◌≡◌}
use Rattle.theory_verdicts.proofs.Views.{View}
use Rattle.theory_verdicts.proofs.SoundAdverts.{IsLetInAt}
use Rattle.theory_verdicts.proofs.Sound.{IsSoundIn}
use Rattle.theory_verdicts.proofs.LetIn.{view_of, Place}
use Rattle.theory_verdicts.proofs.Phases.{is_resting}

-- what the client's phase says after a history is so
abbrev pub IsSound : Lab → List Full → ℕ → ClientNode → Type 0
IsSound lab H n c = IsSoundIn (view_of lab H c) c.cone_try (standing lab H n c).phase (standing lab H n c).kept (standing lab H n c).address

-- a client expects an answer by its phase and its cone bit
pub as_expected : (s : Settings) (q : Qualification) (v : View) (dst : Ep) → IsLetInAt v (expected s q) dst
    → IsLetInAt v (expected_in s q.phase (is_cone q)) dst
unfolding expected
as_expected s q v dst is = is

-- a record of this client, after a history that is honest for it
pub record Scene : Type 0 where
  pub place : Place
  pub H : List Full
  pub r : Full
  pub grown : Grown place.lab (r ∷ H)
  pub honest : are_honest_for place.lab.topology place.c H ≡ true

-- the NAT loses nothing of the client, and its server is let in where the phase rests on that
pub record IsCalm (lab : Lab) (H : List Full) (r : Full) (n : ℕ) (c : ClientNode) : Type 0 where
  pub spared : list_any (is_loss_of c.inside) (nat_entries lab c.nat r) ≡ false
  pub server_open : is_resting (standing lab H n c).phase ≡ true → is_open_at lab H r.moment c ≡ true

-- what a client was told, where it was let in
pub record IsToldAt (lab : Lab) (H : List Full) (r : Full) (n : ℕ) (c : ClientNode) (e : Entry) : Type 0 where
  pub dst : Ep
  pub made : IsEp dst
  pub let_in : IsLetInAt (view_of lab H c) (expected (client_settings lab.topology c) (standing lab H n c)) dst
  pub origin : origin_given e.input ≡ Some dst
  pub phase : phase_line (standing lab H n c).phase (is_same_origin (Some dst) (origin_before (standing lab H n c) (standing lab H n c).phase)) ≡ e.step.fate
  pub quiet : e.step.sends ≡ []
  pub moment : r.moment ≡ now H
