-- What becomes of a client's sends: past each NAT of its way, where the client holds a port, each leaves where its address says.
use Rattle.theory_first_packets.proofs.Words.{AllByRecursion, Bool, Contains, Crossing, Ep, Full, Ip4, Lab, List, Made, NatPasts, NatRefusal, Ok, Option, Out, Outward, Passing, Result, Send, Sendings, [], after_passing, ap, arith, by_way, cond, counting, crossing, crossing_unless, false, false≢true, is_at_place, is_fault, is_symmetric, list_any, map, marked, nat_answer, nat_history, nat_of, nat_pasts, nat_tests, or_loss, or_parts, outs_at, passing, refl, same_ip, sent, subst, sym, true, udp, ℕ, ◌++◌, ◌+◌, ◌<◌, ◌==◌, ◌∙◌, ◌∷◌, ◌≡◌}
use Rattle.topology.specs.Chains.{answered}
use Rattle.legal.proofs.NatPasts as nat_past
use Rattle.theory_first_packets.proofs.passing.Ways.{counts_on, counts_itself, answers}

-- none of these NATs is symmetric, and each keeps what it let out for a while
pub record ArePlain (lab : Lab) (way : List ℕ) : Type 0 where
  pub kinds : list_any (λ (k : ℕ). is_symmetric (nat_of lab k).kind) way ≡ false
  pub live : AllByRecursion (λ (k : ℕ). 0 < (nat_of lab k).idle) way

-- none has this address
abbrev pub IsElsewhere : Lab → Ip4 → List ℕ → Type 0
IsElsewhere lab ip way = AllByRecursion (λ (k : ℕ). same_ip ip (nat_of lab k).external ≡ false) way

-- a client's sends at a moment, which NATs let out
module _ (lab : Lab) (H : List Full) (m : ℕ) where
  -- the NATs' histories with what was let out
  abbrev pub since : List Passing → NatPasts
  since passed = after_passing passed (nat_pasts lab H)

  abbrev pub CountsAt : List Passing → ℕ → Outward → Type 0
  CountsAt passed k d = Contains (counting (nat_of lab k).idle m (since passed k)) d

  -- an inside endpoint holds a port at NAT k
  pub record HoldsAt (passed : List Passing) (k : ℕ) (inside : Ep) (port : ℕ) : Type 0 where
    pub datagram : Outward
    pub counts : CountsAt passed k datagram
    pub left : datagram.inside ≡ inside
    pub by_port : datagram.port ≡ port

  -- at each of these NATs, each further one being asked about where the one before it lets a datagram out: the last one does at `out`
  abbrev pub HeldAlong : List Passing → List ℕ → (inside out : Ep) → Type 0
  HeldAlong passed [] inside out = inside ≡ out
  HeldAlong passed (k ∷ way) inside out = (at : Ep) × (at.ip ≡ (nat_of lab k).external) × HoldsAt passed k inside at.port × HeldAlong passed way at out

  -- a datagram to dst went out past them, and counts at each
  abbrev pub WentOut : List Passing → (dst : Ep) → List ℕ → (inside out : Ep) → Type 0
  WentOut passed dst [] inside out = inside ≡ out
  WentOut passed dst (k ∷ way) inside out =
      (at : Ep) × (at.ip ≡ (nat_of lab k).external) × CountsAt passed k (passing k m inside dst at.port).datagram × WentOut passed dst way at out

  -- ONE NAT

  -- what counted counts on
  abbrev pub Lasts : (passed later : List Passing) → Type 0
  Lasts passed later = (k : ℕ) (d : Outward) → CountsAt passed k d → CountsAt later k d

  -- the histories are pasts
  abbrev pub ArePasts : List Passing → Type 0
  ArePasts passed = (k : ℕ) → nat_past.Past lab H m k passed

  one_lasts : (j : ℕ) (inside dst : Ep) (port : ℕ) (passed : List Passing) → Lasts passed (passing j m inside dst port ∷ passed)
  one_lasts j inside dst port passed k d c = by (j == k) where
    by : (b : Bool) → Contains (counting (nat_of lab k).idle m (cond b (Out (passing j m inside dst port).datagram ∷ outs_at k passed) (outs_at k passed)
        ++ nat_history lab k H)) d
    by true = counts_on (nat_of lab k).idle m (passing j m inside dst port).datagram (since passed k) d c
    by false = c

  -- it counts itself
  it_counts : (k : ℕ) (inside dst : Ep) (port : ℕ) (passed : List Passing) → 0 < (nat_of lab k).idle
      → CountsAt (passing k m inside dst port ∷ passed) k (passing k m inside dst port).datagram
  it_counts k inside dst port passed lives = by (k == k) (grind (arith, nat_tests)) where
    by : (b : Bool) → b ≡ true → Contains (counting (nat_of lab k).idle m (cond b (Out (passing k m inside dst port).datagram ∷ outs_at k passed)
        (outs_at k passed) ++ nat_history lab k H)) (passing k m inside dst port).datagram
    by true e = counts_itself (nat_of lab k).idle m (passing k m inside dst port).datagram (since passed k) refl lives
    by false e = absurd (false≢true e)

  -- so what is held is held on
  pub held_on : (passed later : List Passing) → Lasts passed later → (way : List ℕ) (inside out : Ep) → HeldAlong passed way inside out
      → HeldAlong later way inside out
  held_on passed later lasts [] inside out same = same
  held_on passed later lasts (k ∷ way) inside out held = (
    held.0,
    held.1,
    record { datagram = held.2.datagram; counts = lasts k held.2.datagram held.2.counts; left = held.2.left; by_port = held.2.by_port },
    held_on passed later lasts way held.0 out held.3,
  )

  went_on : (passed later : List Passing) → Lasts passed later → (dst : Ep) (way : List ℕ) (inside out : Ep) → WentOut passed dst way inside out
      → WentOut later dst way inside out
  went_on passed later lasts dst [] inside out same = same
  went_on passed later lasts dst (k ∷ way) inside out went =
      (went.0, went.1, lasts k (passing k m inside dst went.0.port).datagram went.2, went_on passed later lasts dst way went.0 out went.3)

  -- ALL OF A WAY

  at_address : (e : Ep) (ip : Ip4) → e.ip ≡ ip → record { ip = ip; port = e.port } ≡ e
  at_address e ip same = ap (λ (z : Ip4). record { ip = z; port = e.port }) (sym same)

  -- it leaves
  pub record Crosses (dst : Ep) (way : List ℕ) (inside out : Ep) (passed : List Passing) (after : Crossing) : Type 0 where
    pub leaves : after.leaves ≡ Ok out
    pub pasts : ArePasts after.passed
    pub lasts : Lasts passed after.passed
    pub went : WentOut after.passed dst way inside out

  pub crosses : (dst : Ep) (way : List ℕ) {inside out : Ep} {passed : List Passing} → ArePlain lab way → IsElsewhere lab dst.ip way → ArePasts passed
      → HeldAlong passed way inside out → Crosses dst way inside out passed (crossing lab.topology (nat_pasts lab H) m dst way inside passed)
  crosses dst [] plain elsewhere pasts same =
      record { leaves = ap (λ (e : Ep). Ok e) same; pasts = pasts; lasts = λ k d c. c; went = same }
  crosses dst (k ∷ way) {inside} {out} {passed} plain elsewhere pasts held =
      let at = held.0 in
      let s = nat_of lab k in
      let kinds = or_parts (is_symmetric s.kind) (list_any (λ (j : ℕ). is_symmetric (nat_of lab j).kind) way) plain.kinds in
      let answer : nat_answer s (since passed k) m inside dst ≡ Ok at.port = answers {s = s} {h = (since passed k)} {n = m} {inside = inside} {port = at.port} (record {
        past = pasts k;
        datagram = held.2.datagram;
        counts = held.2.counts;
        left = held.2.left;
        by_port = held.2.by_port;
      }) dst kinds.0 elsewhere.0 in
      let ps : List Passing = passing k m inside dst at.port ∷ passed in
      let lasts = one_lasts k inside dst at.port passed in
      let on = crosses dst way {passed = ps} (record { kinds = kinds.1; live = plain.live.1 }) elsewhere.1
      (λ j. nat_past.one_more lab H m j k inside dst at.port passed answer (pasts j)) (held_on passed ps lasts way at out held.3) in
      let goes : crossing lab.topology (nat_pasts lab H) m dst (k ∷ way) inside passed ≡ crossing lab.topology (nat_pasts lab H) m dst way at ps =
      ap (answered lab.topology m k inside dst passed (crossing lab.topology (nat_pasts lab H) m dst way)) answer
      ∙ ap (λ (e : Ep). crossing lab.topology (nat_pasts lab H) m dst way e ps) (at_address at s.external held.1) in
      subst (Crosses dst (k ∷ way) inside out passed) (sym goes) (record {
        leaves = on.leaves;
        pasts = on.pasts;
        lasts = λ j d c. on.lasts j d (lasts j d c);
        went = (at, held.1, on.lasts k (passing k m inside dst at.port).datagram (it_counts k inside dst at.port passed plain.live.0), on.went);
      })

  -- EACH SEND

  -- each leaves, and counts from then on
  pub record AllLeave (way : List ℕ) (inside out : Ep) (passed : List Passing) (xs : List Send) (after : Sendings) : Type 0 where
    pub made : after.made ≡ map (λ (x : Send). sent (udp out x.to x.bytes)) xs
    pub lasts : Lasts passed after.passed
    pub each : AllByRecursion (λ (x : Send). WentOut after.passed x.to way inside out) xs

  -- where none fails all leave
  pub record PlainWay : Type 0 where
    pub way : List ℕ
    pub inside : Ep
    pub out : Ep
    pub plain : ArePlain lab way

  module _ (along : PlainWay) where
    open along use {way, inside, out, plain}

    pub all_leave : (fails : Option ℕ) (i : ℕ) {passed : List Passing} (xs : List Send) → AllByRecursion (λ (x : Send). IsElsewhere lab x.to.ip way) xs
        → ArePasts passed → HeldAlong passed way inside out → list_any is_fault (by_way lab H m way inside fails i passed xs).made ≡ false
        → AllLeave way inside out passed xs (by_way lab H m way inside fails i passed xs)
    all_leave fails i [] elsewhere pasts held sound = record { made = refl; lasts = λ k d c. c; each = tt }
    all_leave fails i {passed} (x ∷ xs) elsewhere pasts held sound = by (is_at_place i fails) sound
        (λ ps lasts later e. all_leave fails (i + 1) xs elsewhere.1 later (held_on passed ps lasts way inside out held) e) where
          after_one : (fails_now : Bool) → Crossing → Sendings
          after_one b c = record {
            made = marked x (or_loss b c.leaves) ∷ (by_way lab H m way inside fails (i + 1) c.passed xs).made;
            passed = (by_way lab H m way inside fails (i + 1) c.passed xs).passed;
          }

          by : (b : Bool) → list_any is_fault (after_one b (crossing_unless b lab H m x.to way inside passed)).made ≡ false
              → ((ps : List Passing) → Lasts passed ps → ArePasts ps → list_any is_fault (by_way lab H m way inside fails (i + 1) ps xs).made ≡ false
              → AllLeave way inside out ps xs (by_way lab H m way inside fails (i + 1) ps xs))
              → AllLeave way inside out passed (x ∷ xs) (after_one b (crossing_unless b lab H m x.to way inside passed))
          by true bad ih = absurd (false≢true (sym bad))
          by false good ih =
              let c : Crossing = crossing lab.topology (nat_pasts lab H) m x.to way inside passed in
              let it = crosses x.to way plain elsewhere.0 pasts held in
              let leaves : marked x (or_loss false c.leaves) ≡ sent (udp out x.to x.bytes) =
              ap (λ (r : Result Ep NatRefusal). marked x (or_loss false r)) it.leaves in
              let rest = ih c.passed it.lasts it.pasts (or_parts (is_fault (marked x (or_loss false c.leaves)))
              (list_any is_fault (by_way lab H m way inside fails (i + 1) c.passed xs).made) good).1 in
              record {
                made = ap (λ (z : Made). z ∷ (by_way lab H m way inside fails (i + 1) c.passed xs).made) leaves
                    ∙ ap (λ (z : List Made). sent (udp out x.to x.bytes) ∷ z) rest.made;
                lasts = λ k d counted. rest.lasts k d (it.lasts k d counted);
                each = (went_on c.passed (by_way lab H m way inside fails (i + 1) c.passed xs).passed rest.lasts x.to way inside out it.went, rest.each);
              }
