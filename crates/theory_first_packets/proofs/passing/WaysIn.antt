-- Ways in past the NATs of a client: at one moment they stay open, and past cone NATs they are open to everybody.
use Rattle.theory_first_packets.proofs.Words.{EntersPast, Ep, Full, Grown, Lab, List, [], and_parts, cone_asked, is_cone_kind, let_in_where_asked, list_all, nat_history, nat_of, now, set_up_past, true, ℕ, ◌∷◌, ◌≡◌}
use Rattle.theory_first_packets.proofs.passing.Ways.{Way, IsCalmNext, still_way}

-- each of these NATs lets in what comes from src: the last one at dst, and each further in where the one outside it sends it on to.
-- The first one lets it in to `inside`
abbrev pub WayIn : Lab → List Full → Ep → List ℕ → (inside dst : Ep) → Type 0
WayIn lab H src [] inside dst = inside ≡ dst
WayIn lab H src (k ∷ way) inside dst = (at : Ep) × (at.ip ≡ (nat_of lab k).external) × Way lab H k src at.port inside × WayIn lab H src way at dst

-- it stays, too
pub still_in : {lab : Lab} (H : List Full) {r : Full} → IsCalmNext lab H r → (src : Ep) (way : List ℕ) (inside dst : Ep)
    → WayIn lab H src way inside dst → WayIn lab (r ∷ H) src way inside dst
still_in H next src [] inside dst same = same
still_in {lab} H {r} next src (k ∷ way) inside dst w =
    (w.0, w.1, still_way lab H r next k w.2, still_in H next src way w.0 dst w.3)

-- what comes in past NATs was asked for at each
pub asked_along : (lab : Lab) (H : List Full) → Grown lab H → (src : Ep) (way : List ℕ) (inside dst : Ep)
    → EntersPast lab H (now H) src way inside dst → WayIn lab H src way inside dst
asked_along lab H g src [] inside dst same = same
asked_along lab H g src (k ∷ way) inside dst e = (
  e.0,
  e.1,
  (let_in_where_asked (nat_of lab k) (nat_history lab k H) (now H) (set_up_past lab H k g) src e.0.port inside).0 e.2,
  asked_along lab H g src way e.0 dst e.3,
)

-- and what was asked for at each comes in
pub enters_along : (lab : Lab) (H : List Full) → Grown lab H → (src : Ep) (way : List ℕ) (inside dst : Ep)
    → WayIn lab H src way inside dst → EntersPast lab H (now H) src way inside dst
enters_along lab H g src [] inside dst same = same
enters_along lab H g src (k ∷ way) inside dst w = (
  w.0,
  w.1,
  (let_in_where_asked (nat_of lab k) (nat_history lab k H) (now H) (set_up_past lab H k g) src w.0.port inside).1 w.2,
  enters_along lab H g src way w.0 dst w.3,
)

-- past cone NATs everybody comes in
pub cone_along : (lab : Lab) (H : List Full) (src other : Ep) (way : List ℕ) (inside dst : Ep)
    → list_all (λ (k : ℕ). is_cone_kind (nat_of lab k).kind) way ≡ true → WayIn lab H src way inside dst → WayIn lab H other way inside dst
cone_along lab H src other [] inside dst cone same = same
cone_along lab H src other (k ∷ way) inside dst cone w =
    let both = and_parts (is_cone_kind (nat_of lab k).kind) (list_all (λ (j : ℕ). is_cone_kind (nat_of lab j).kind) way) cone in (
      w.0,
      w.1,
      record {
        datagram = w.2.datagram;
        counts = w.2.counts;
        left = w.2.left;
        by_port = w.2.by_port;
        asked = cone_asked (nat_of lab k).kind other w.2.datagram both.0;
      },
      cone_along lab H src other way w.0 dst both.1 w.3,
    )
