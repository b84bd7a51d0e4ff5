-- A packet is carried, and takes its course: from where its schedule begins to its end.
use Rattle.theory_first_packets.proofs.Words.{AreFresh, Bool, ClientNode, Fate, Full, GetsThrough, Grown, Ip6, IsComplete, Lab, List, NextPacketArrivesAlong, OfEachSchedule, [], arith, earlier, false, false≢true, fates_of, has_cone, refl, sym, true, ℕ, ◌++◌, ◌∙◌, ◌∷◌, ◌≡◌}
use Rattle.theory_first_packets.proofs.schedule.Pair.{Pair}
use Rattle.theory_first_packets.proofs.schedule.Course.{AtFirst, all_follow}
use Rattle.theory_first_packets.proofs.schedule.PairBoards.{PairRun, Board, boards, few, arrives, taken}
use Rattle.theory_first_packets.proofs.HandedIn.{sound_first}
use Rattle.theory_first_packets.proofs.Premise.{IsStart, is_pair}
use Rattle.theory_first_packets.proofs.schedule.FirstGround.{back, forth}
use Rattle.theory_first_packets.proofs.schedule.FirstBoards.{to_cone, from_cone, with_both}

-- a fresh schedule after the first packet
pub record FreshRun : Type 0 where
  pub p : Pair
  pub H : List Full
  pub r : Full
  pub start : IsStart p H r
  pub later : List Full
  pub g : Grown p.lab (later ++ r ∷ H)
  pub fresh : AreFresh r later

module _ (fresh_run : FreshRun) where
  open fresh_run use {p, H, r, start, later, g, fresh}

  -- whether each trusts the other
  abbrev pub sender_trusts : Bool
  sender_trusts = back p H r start

  abbrev pub receiver_trusts : Bool
  receiver_trusts = forth p H r start

  -- of the fates of a complete schedule P holds, if it does of what may follow by the cone bits of both
  module _ (P : List Fate → Type 0) where
    abbrev run : ℕ → PairRun
    run total = record { p = p; before = H; r = r; total = total; back = sender_trusts }

    -- the whole schedule
    all : (total : ℕ) → Board (run total) P [] → Board (run total) P later
    all total board = boards (run total) P (is_pair p H r start) later g fresh board

    -- it is carried, and takes its course
    pub record Ends : Type 0 where
      pub carried : GetsThrough H r p.b.n p.a.own p.b.own p.x later
      pub course : IsComplete H r later → P (fates_of later)

    -- by the cone bits of both
    pub ended : (far : Bool) → has_cone p.b.own ≡ far → (near : Bool) → has_cone p.a.own ≡ near → AtFirst P sender_trusts receiver_trusts near far → Ends
    ended true cone near plain ahead =
        let board = all 1 (to_cone p H r start P cone ahead) in
        let most = few (run 1) P later board in
        record {
          carried = record {
            few = omega (arith, most);
            few_from_cone = λ _. omega (arith, most);
            few_to_cone = λ _. most;
            arrives = arrives (run 1) P later board;
          };
          course = taken (run 1) P later board;
        }
    ended false far true cone ahead =
        let board = all 4 (from_cone p H r start P far cone ahead) in
        let most = few (run 4) P later board in
        record {
          carried = record {
            few = omega (arith, most);
            few_from_cone = λ _. most;
            few_to_cone = λ c. absurd (false≢true (sym far ∙ c));
            arrives = arrives (run 4) P later board;
          };
          course = taken (run 4) P later board;
        }
    ended false far false plain ahead =
        let board = all 5 (with_both p H r start P far plain ahead) in
        let most = few (run 5) P later board in
        record {
          carried = record {
            few = most;
            few_from_cone = λ c. absurd (false≢true (sym plain ∙ c));
            few_to_cone = λ c. absurd (false≢true (sym far ∙ c));
            arrives = arrives (run 5) P later board;
          };
          course = taken (run 5) P later board;
        }

  -- it is carried, whatever the course
  pub carried_so : {near far : Bool} → has_cone p.a.own ≡ near → has_cone p.b.own ≡ far → GetsThrough H r p.b.n p.a.own p.b.own p.x later
  carried_so {near} {far} n f = (ended (λ (fs : List Fate). Unit {0}) far f near n (any near far)).carried where
    any : (n f : Bool) → AtFirst (λ (fs : List Fate). Unit {0}) sender_trusts receiver_trusts n f
    any n true = tt
    any true false = tt
    any false false = all_follow (λ (fs : List Fate). Unit {0}) (λ fs. tt) sender_trusts true receiver_trusts 4

-- the two clients of a packet
abbrev pub pair_of : Lab → (n m : ℕ) (a b : ClientNode) (own other : Ip6) → List ℕ → Pair
pair_of lab n m a b own other x = record { lab = lab; a = record { n = n; c = a; own = own }; b = record { n = m; c = b; own = other }; x = x }

-- each packet between clients that may meet is carried
pub each_next : OfEachSchedule NextPacketArrivesAlong
each_next lab H r later is chained g n m a b own other x next fresh =
    let p = pair_of lab n m a b own other x in
    let start : IsStart p H r = record {
      rules = is;
      chained = chained;
      grown = earlier lab later (r ∷ H) g;
      first = next;
      sound = sound_first r later fresh;
    } in
    carried_so (record { p = p; H = H; r = r; start = start; later = later; g = g; fresh = fresh }) {near = (has_cone own)} {far = (has_cone other)} refl refl
