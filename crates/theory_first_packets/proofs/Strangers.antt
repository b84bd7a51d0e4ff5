-- Strangers may meet: so a first packet between them is carried, and takes one of the courses.
use Rattle.theory_first_packets.proofs.Words.{AreStrangersAlong, Bool, ClientNode, Contains, Ep, Fate, FirstPacketArrivesAlong, Full, Ip6, IsNew, IsReadyFor, IsUnbarredFor, Lab, List, MayMeetAlong, OfEachSchedule, Peer, StrangersMayMeet, TakesACourseAlong, ap, arith, courses, earlier, embedded, false, false≢true, has_cone, is_fresh, is_trusted_at, journal, known_by, mentions, no_peer, now, refl, subst, sym, true, unlisted, ℕ, ◌∷◌, ◌≡◌}
use Rattle.theory_first_packets.proofs.tables.Known.{untried}
use Rattle.theory_first_packets.proofs.HandedIn.{sound_first}
use Rattle.theory_first_packets.proofs.Premise.{IsStart}
use Rattle.theory_first_packets.proofs.schedule.Course.{AtFirst}
use Rattle.theory_first_packets.proofs.schedule.PairStart.{pair_of, ended, each_next}

-- who is new is nothing known, so it is ready and unbarred
module _ (H : List Full) (n : ℕ) (peer : Ip6) (new : IsNew H n peer) where
  unknown : known_by H n peer ≡ no_peer
  unknown = unlisted (mentions (journal n H).entries) (now H) peer new.unlisted

  ready : IsReadyFor H n peer
  ready = record { room = new.room; nothing_waits = ap (λ (k : Peer). k.waiting) unknown }

  unbarred : IsUnbarredFor H n peer
  unbarred = untried (now H) (known_by H n peer) (ap (λ (k : Peer). k.tries) unknown)

  stale : is_fresh (now H) (known_by H n peer) ≡ false
  unfolding is_fresh
  stale = ap (is_fresh (now H)) unknown

  -- nor is it trusted
  untrusted : (from : Ep) → is_trusted_at from (known_by H n peer) ≡ false
  unfolding is_trusted_at
  untrusted from = ap (is_trusted_at from) unknown

pub strangers_may : StrangersMayMeet
strangers_may lab H n m a b own other are = record {
  sender = are.sender;
  receiver = are.receiver;
  apart = are.apart;
  sender_settled = are.sender_settled;
  receiver_settled = are.receiver_settled;
  stale = stale H n other are.sender_new;
  receiver_ready = ready H m own are.receiver_new;
  sender_ready = λ far. ready H n other are.sender_new;
  sender_unbarred = λ far. unbarred H n other are.sender_new;
  receiver_unbarred = λ far. unbarred H m own are.receiver_new;
}

-- along their ways too
strangers_along : {lab : Lab} (H : List Full) {n m : ℕ} {a b : ClientNode} {own other : Ip6} → AreStrangersAlong lab H n m a b own other
    → MayMeetAlong lab H n m a b own other
strangers_along H {n} {m} {own} {other} are = record {
  sender = are.sender;
  receiver = are.receiver;
  apart = are.apart;
  sender_settled = are.sender_settled;
  receiver_settled = are.receiver_settled;
  stale = stale H n other are.sender_new;
  receiver_ready = ready H m own are.receiver_new;
  sender_ready = λ far. ready H n other are.sender_new;
  sender_unbarred = λ far. unbarred H n other are.sender_new;
  receiver_unbarred = λ far. unbarred H m own are.receiver_new;
}

-- so the first packet between them is carried
pub each_first : OfEachSchedule FirstPacketArrivesAlong
each_first lab H r later is chained g n m a b own other x first fresh =
    each_next lab H r later is chained g n m a b own other x
    (record { clients = strangers_along H first.clients; handed = first.handed }) fresh

-- THE COURSES

-- what may follow between strangers
all_courses : (near far : Bool) → AtFirst (λ (fs : List Fate). Contains (courses near far) fs) false false near far
all_courses near true = (0, omega arith, refl)
all_courses true false = (0, omega arith, refl)
all_courses false false = (
  λ may. (0, omega arith, refl),
  (
    (2, omega arith, refl),
    (
      λ may. (1, omega arith, refl),
      (
        (3, omega arith, refl),
        (
          λ may. absurd (false≢true may),
          ((4, omega arith, refl), (λ may. absurd (false≢true may), ((4, omega arith, refl), (5, omega arith, refl)))),
        ),
      ),
    ),
  ),
)

-- each takes one of them
pub each_course : OfEachSchedule TakesACourseAlong
each_course lab H r later is chained g n m a b own other x first fresh complete =
    let P : List Fate → Type 0 = λ fs. Contains (courses (has_cone own) (has_cone other)) fs in
    let p = pair_of lab n m a b own other x in
    let start : IsStart p H r = record {
      rules = is;
      chained = chained;
      grown = earlier lab later (r ∷ H) g;
      first = record { clients = strangers_along H first.clients; handed = first.handed };
      sound = sound_first r later fresh;
    } in
    let sender = untrusted H n other first.clients.sender_new (embedded other) in
    let receiver = untrusted H m own first.clients.receiver_new (embedded own) in
    let forth = is_trusted_at (embedded own) (known_by H m own) in
    (ended (record { p = p; H = H; r = r; start = start; later = later; g = g; fresh = fresh }) P (has_cone other) refl (has_cone own) refl
    (subst (λ (back : Bool). AtFirst P back forth (has_cone own) (has_cone other)) (sym sender)
    (subst (λ (z : Bool). AtFirst P false z (has_cone own) (has_cone other)) (sym receiver) (all_courses (has_cone own) (has_cone other))))).course complete
