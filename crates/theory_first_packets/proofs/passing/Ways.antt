-- A NAT at one moment: what counts goes on to count, and a port that is held answers.
use Rattle.theory_first_packets.proofs.Words.{Bool, Cone, Contains, Ep, Err, Follows, Full, IsPast, Lab, List, NatEntry, NatKind, NatSettings, Ok, Option, Out, Outward, Passing, Port, Restart, Some, Symmetric, WasAsked, [], ap, arith, at_nat, cond, counting, counting_datagram_holds_its_port, false, false≢true, forgotten, is_node, is_restart, is_symmetric, is_young, latest_moment, live_after, live_port, nat_answer, nat_entries, nat_history, nat_lt, nat_set_up, nat_tests, now, outs_at, port_for, refl, same_ip, subst, suc, sym, true, ℕ, ◌++◌, ◌-◌, ◌<◌, ◌==◌, ◌∙◌, ◌∷◌, ◌≡◌, ◌≤◌}
use Rattle.nat_kinds.specs.declared.kind.NatKind.TheVariants.{Restricted}
use Rattle.nat_kinds.specs.declared.refusal.NatRefusal.TheVariants as refusal

-- more in front
pub behind : {A : Type 0} → (x : A) (xs : List A) (y : A) → Contains xs y → Contains (x ∷ xs) y
behind x xs y c = (suc c.0, (let within = c.1 in omega (arith, within)), c.2)

pub in_front : {A : Type 0} → (x : A) (xs : List A) → Contains (x ∷ xs) x
in_front x xs = (0, omega arith, refl)

-- MORE DATAGRAMS

-- one more leaves what counts
pub counts_on : (idle n : ℕ) (e : Outward) (h : List NatEntry) (d : Outward) → Contains (counting idle n h) d → Contains (counting idle n (Out e ∷ h)) d
counts_on idle n e h d c = by (is_young idle n e) where
  by : (b : Bool) → Contains (cond b (e ∷ counting idle n h) (counting idle n h)) d
  by true = behind e (counting idle n h) d c
  by false = c

-- the one that goes out at a moment counts then
pub counts_itself : (idle n : ℕ) (e : Outward) (h : List NatEntry) → e.moment.0 ≡ n → 0 < idle → Contains (counting idle n (Out e ∷ h)) e
counts_itself idle n e h at positive = by (is_young idle n e) young where
  young : is_young idle n e ≡ true
  young = subst (λ (m : ℕ). nat_lt (n - m) idle ≡ true) (sym at) (lasts idle n positive) where
    lasts : (i m : ℕ) → 0 < i → nat_lt (m - m) i ≡ true
    lasts i m p = grind (arith, nat_tests)

  by : (b : Bool) → b ≡ true → Contains (cond b (e ∷ counting idle n h) (counting idle n h)) e
  by true g = in_front e (counting idle n h)
  by false g = absurd (false≢true g)

-- so do those that a NAT let out of a record
outs_count : (k idle n : ℕ) (h : List NatEntry) (d : Outward) (passed : List Passing) → Contains (counting idle n h) d
    → Contains (counting idle n (outs_at k passed ++ h)) d
outs_count k idle n h d [] held = held
outs_count k idle n h d (p ∷ ps) held = by (p.nat == k) (outs_count k idle n h d ps held) where
  by : (b : Bool) → Contains (counting idle n (outs_at k ps ++ h)) d
      → Contains (counting idle n (cond b (Out p.datagram ∷ outs_at k ps) (outs_at k ps) ++ h)) d
  by true c = counts_on idle n p.datagram (outs_at k ps ++ h) d c
  by false c = c

-- RECORDS THAT LEAVE NATS

-- no NAT starts anew in it, and none forgets anybody
abbrev pub LeavesNats : Lab → Full → Type 0
LeavesNats lab r = at_nat lab r.asked r.act ≡ []

pub nats_left : (lab : Lab) (r : Full) → is_restart r.act ≡ false → forgotten lab r.asked ≡ [] → LeavesNats lab r
nats_left lab r still lasting = ap (λ (b : Bool). cond b (Restart ∷ []) (forgotten lab r.asked)) still ∙ lasting

-- a datagram counts at NAT k now
abbrev pub Counts : Lab → List Full → ℕ → Outward → Type 0
Counts lab H k d = Contains (counting (nat_set_up lab.topology k).idle (now H) (nat_history lab k H)) d

-- NAT k lets what comes from src in at a port to an inside endpoint, since some datagram asked for it
abbrev pub Way : Lab → List Full → ℕ → Ep → ℕ → Ep → Type 0
Way lab H k src port inside = WasAsked (nat_set_up lab.topology k) (nat_history lab k H) (now H) src port inside

-- a record that follows, at once, and leaves NATs
pub record IsCalmNext (lab : Lab) (H : List Full) (r : Full) : Type 0 where
  pub follows : Follows lab H r
  pub calm : LeavesNats lab r
  pub moment : r.moment ≡ now H

module _ (lab : Lab) (H : List Full) (r : Full) (next : IsCalmNext lab H r) where
  abbrev idle : ℕ → ℕ
  idle k = (nat_set_up lab.topology k).idle

  -- what counted counts after it
  still_counts : (k : ℕ) (d : Outward) → Counts lab H k d → Counts lab (r ∷ H) k d
  still_counts k d held = subst (λ (m : ℕ). Contains (counting (idle k) m (nat_entries lab k r ++ nat_history lab k H)) d) (sym next.moment)
      (by (is_node k r.node)) where
        by : (b : Bool) → Contains (counting (idle k) (now H) (cond b (at_nat lab r.asked r.act) (outs_at k r.passed) ++ nat_history lab k H)) d
        by true = subst (λ (z : List NatEntry). Contains (counting (idle k) (now H) (z ++ nat_history lab k H)) d) (sym next.calm) held
        by false = outs_count k (idle k) (now H) (nat_history lab k H) d r.passed held

  -- so a way in stays
  pub still_way : (k : ℕ) {src : Ep} {port : ℕ} {inside : Ep} → Way lab H k src port inside → Way lab (r ∷ H) k src port inside
  still_way k way = record {
    datagram = way.datagram;
    counts = still_counts k way.datagram way.counts;
    left = way.left;
    by_port = way.by_port;
    asked = way.asked;
  }

-- A HELD PORT ANSWERS

-- where the NAT isn't symmetric, whatever the destination
pub any_dst : (kind : NatKind) (inside dst other : Ep) (live : List Outward) → is_symmetric kind ≡ false
    → live_port kind inside dst live ≡ live_port kind inside other live
any_dst Cone inside dst other live h = refl
any_dst Restricted inside dst other live h = refl
any_dst Port inside dst other live h = refl
any_dst Symmetric inside dst other live h = absurd (false≢true (sym h))

-- an inside endpoint holds a port
pub record Holds (s : NatSettings) (h : List NatEntry) (n : ℕ) (inside : Ep) (port : ℕ) : Type 0 where
  pub past : IsPast s h n
  pub datagram : Outward
  pub counts : Contains (counting s.idle n h) datagram
  pub left : datagram.inside ≡ inside
  pub by_port : datagram.port ≡ port

module _ {s : NatSettings} {h : List NatEntry} {n : ℕ} {inside : Ep} {port : ℕ} (holds : Holds s h n inside port) where
  -- it goes on from that port
  pub held_port : (dst : Ep) → is_symmetric s.kind ≡ false → live_port s.kind inside dst (live_after s h n) ≡ Some port
  held_port dst kind =
      any_dst s.kind inside dst holds.datagram.dst (live_after s h n) kind
      ∙ ap (λ (e : Ep). live_port s.kind e holds.datagram.dst (live_after s h n)) (sym holds.left)
      ∙ counting_datagram_holds_its_port s h n holds.past holds.datagram holds.counts
      ∙ ap (λ (p : ℕ). Some p) holds.by_port

  -- so the NAT answers it
  pub answers : (dst : Ep) → is_symmetric s.kind ≡ false → same_ip dst.ip s.external ≡ false → nat_answer s h n inside dst ≡ Ok port
  answers dst kind elsewhere =
      ap (λ (b : Bool). cond b (Err refusal.Hairpin) (port_for (live_port s.kind inside dst (live_after s h n)) (live_after s h n))) elsewhere
      ∙ ap (λ (o : Option ℕ). port_for o (live_after s h n)) (held_port dst kind)

  -- one datagram more: the port is held
  pub holds_on : (e : Outward) → e.moment.0 ≡ n → nat_answer s h n e.inside e.dst ≡ Ok e.port → Holds s (Out e ∷ h) n inside port
  holds_on e at answer = record {
    past = record {
      history = (
        subst (λ (m : ℕ). latest_moment h ≤ m) (sym at) holds.past.moments,
        subst (λ (m : ℕ). nat_answer s h m e.inside e.dst ≡ Ok e.port) (sym at) answer,
        holds.past.history,
      );
      moments = subst (λ (m : ℕ). m ≤ n) (sym at) (omega arith);
    };
    datagram = holds.datagram;
    counts = counts_on s.idle n e h holds.datagram holds.counts;
    left = holds.left;
    by_port = holds.by_port;
  }
