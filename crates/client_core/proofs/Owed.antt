-- When something is due of a client, and how much.
use Rattle.client_core.proofs.Words.{AsBefore, Bool, Client, ClientStandsFor, Cone, Due, Fate, Idles, Ip6, IsFirstDue, IsNoSooner, IsSooner, Journal, Lessens, Listing, Millis, None, OffLine, Option, Phase, PutsOff, Qualification, Qualified, QualifierState, Restricted, SOLICITATIONS_MAX, Secondary, Settings, Some, Step, Symmetric, Table, Words, ap, arith, client_due, due_by, due_fate, due_moment, due_of, due_step, false, false≢true, first_due_in, has_due, if◌then◌else◌, is_due, is_some, just, le-leb, listing_at, lt-leb, ltb-false, ltb-true, max, nat_le, nat_lt, next_due, nothing, option_map, overdue_in, owing, peer_due, refl, settings_of, solicits_by, sooner, stands_whole, step_at, subst, sym, tries, true, try_fate, ℕ, ◌+◌, ◌<◌, ◌∙◌, ◌≡◌, ◌≤◌}
use Rattle.teredo_node.specs.declared.fate.Fate.TheVariants as fate
use Rattle.client_core.proofs.Read.{read_same}

-- WHEN

pub due_told : (c : Client) (n : ℕ) (d : Option ℕ) → c.peers.moment ≤ n → d ≡ sooner c.qualifier.now.due (option_map (λ (l : Listing). due_of l.peer) (first_due_in c.peers n))
    → (j : Journal) → ClientStandsFor c j → d ≡ client_due (settings_of c) j n
unfolding client_due next_due
due_told c n d l e j h =
    let q = stands_whole c.qualifier j h.qualification in
    let r = read_same c j n h l in
    e ∙ (λ i. sooner (q i).due (option_map (λ (x : Listing). due_of x.peer) (r.first i)))

sooner_no_sooner : (m : ℕ) (a b : Option ℕ) → IsNoSooner m a → IsNoSooner m b → IsNoSooner m (sooner a b)
sooner_no_sooner m None b h k = k
sooner_no_sooner m (Some a) None h k = h
sooner_no_sooner m (Some a) (Some b) h k = by_test (nat_lt b a) where
  by_test : (t : Bool) → IsNoSooner m (if t then Some b else Some a)
  by_test true = k
  by_test false = h

-- the sooner of two says this of both, or of one of them
pub none_of_two_sooner : (m : ℕ) (a b : Option ℕ) → IsNoSooner m (sooner a b) → IsNoSooner m a × IsNoSooner m b
none_of_two_sooner m None b h = (tt, h)
none_of_two_sooner m (Some a) None h = (h, tt)
none_of_two_sooner m (Some a) (Some b) h = by_test (nat_lt b a) refl h where
  by_test : (t : Bool) → nat_lt b a ≡ t → IsNoSooner m (if t then Some b else Some a) → (m ≤ a) × (m ≤ b)
  by_test true is le = let lt = ltb-true b a is in (omega (arith, lt, le), le)
  by_test false is le = let ge = ltb-false b a is in (le, omega (arith, ge, le))

pub one_of_two_sooner : {X : Type 0} (m : ℕ) (a b : Option ℕ) → (IsSooner m a → X) → (IsSooner m b → X) → IsSooner m (sooner a b) → X
one_of_two_sooner m None b one other h = other h
one_of_two_sooner m (Some a) None one other h = one h
one_of_two_sooner {X} m (Some a) (Some b) one other h = by_test (nat_lt b a) h where
  by_test : (t : Bool) → IsSooner m (if t then Some b else Some a) → X
  by_test true lt = other lt
  by_test false lt = one lt

-- where neither phase nor peers have something before a moment, nothing is due before it
abbrev pub NothingBefore : Client → ℕ → Type 0
NothingBefore c m = (j : Journal) (n : ℕ) → ClientStandsFor c j → c.peers.moment ≤ n → IsNoSooner m (client_due (settings_of c) j n)

pub none_sooner : (c : Client) (m : ℕ) → IsNoSooner m c.qualifier.now.due
    → ((n : ℕ) → IsNoSooner m (option_map due_moment (first_due_in c.peers n))) → NothingBefore c m
none_sooner c m phase peers j n h l =
    let due : Option ℕ = sooner c.qualifier.now.due (option_map due_moment (first_due_in c.peers n)) in
    subst (IsNoSooner m) (due_told c n due l refl j h) (sooner_no_sooner m c.qualifier.now.due (option_map due_moment (first_due_in c.peers n)) phase (peers n))

-- HOW MUCH

owes_nothing : (c : Client) (n : ℕ) → is_due n c.qualifier.now.due ≡ false → overdue_in c.peers n ≡ 0 → owing c n ≡ 0
owes_nothing c n phase peers = λ i. (if phase i then 1 else 0) + peers i

owes_phase : (c : Client) (n : ℕ) → is_due n c.qualifier.now.due ≡ true → owing c n ≡ 1 + overdue_in c.peers n
owes_phase c n phase = λ i. (if phase i then 1 else 0) + overdue_in c.peers n

pub owes_peers : (c : Client) (n : ℕ) → is_due n c.qualifier.now.due ≡ false → owing c n ≡ overdue_in c.peers n
owes_peers c n phase = (λ i. (if phase i then 1 else 0) + overdue_in c.peers n) ∙ omega arith

not_yet : (c : Client) (m q : ℕ) → c.qualifier.now.due ≡ Some q → m < q → is_due m c.qualifier.now.due ≡ false
not_yet c m q e l = ap (λ (d : Option ℕ). is_due m d) e ∙ lt-leb q m l

never : (c : Client) (m : ℕ) → c.qualifier.now.due ≡ None → is_due m c.qualifier.now.due ≡ false
never c m e = ap (λ (d : Option ℕ). is_due m d) e

already : (c : Client) (n q : ℕ) → c.qualifier.now.due ≡ Some q → q ≤ n → 0 < owing c n
already c n q e l = let is = owes_phase c n (ap (λ (d : Option ℕ). is_due n d) e ∙ le-leb q n l) in omega (arith, is)

peers_owe : (c : Client) (n : ℕ) → 0 < overdue_in c.peers n → 0 < owing c n
peers_owe c n some = omega (arith, some)

first_of_both : (c : Client) (n q : ℕ) (p at : Millis) → c.qualifier.now.due ≡ Some q → IsFirstDue (overdue_in c.peers) n (Some p)
    → Some at.0 ≡ (if nat_lt p.0 q then Some p.0 else Some q) → IsFirstDue (owing c) n (Some at)
first_of_both c n q p at e f is = by_test (nat_lt p.0 q) refl is where
  by_test : (b : Bool) → nat_lt p.0 q ≡ b → Some at.0 ≡ (if b then Some p.0 else Some q) → IsFirstDue (owing c) n (Some at)
  by_test true t k =
      let same : at.0 ≡ p.0 = cc in
      let earlier = ltb-true p.0 q t in (
        (λ m le lt. owes_nothing c m (not_yet c m q e (omega (arith, same, earlier, lt))) (f.0 m le (omega (arith, same, lt)))),
        subst (λ (m : ℕ). 0 < owing c (max n m)) (sym same) (peers_owe c (max n p.0) f.1),
      )
  by_test false t k =
      let same : at.0 ≡ q = cc in
      let later = ltb-false p.0 q t in (
        (λ m le lt. owes_nothing c m (not_yet c m q e (omega (arith, same, lt))) (f.0 m le (omega (arith, same, later, lt)))),
        already c (max n at.0) q e (omega (arith, same)),
      )

-- what is due first of the phase and of the peers is due first of both
pub first_due_of : (c : Client) (n : ℕ) (qd : Option ℕ) (try d : Option Millis) → c.qualifier.now.due ≡ qd → IsFirstDue (overdue_in c.peers) n try
    → option_map (λ (m : Millis). m.0) d ≡ sooner qd (option_map (λ (m : Millis). m.0) try) → IsFirstDue (owing c) n d
first_due_of c n None None None e f is = λ m le. owes_nothing c m (never c m e) (f m le)
first_due_of c n None None (Some at) e f is = absurd (false≢true (sym (ap (λ (o : Option ℕ). is_some o) is)))
first_due_of c n None (Some p) None e f is = absurd (false≢true (ap (λ (o : Option ℕ). is_some o) is))
first_due_of c n None (Some p) (Some at) e f is =
    let same : at.0 ≡ p.0 = cc in (
      (λ m le lt. owes_nothing c m (never c m e) (f.0 m le (omega (arith, same, lt)))),
      subst (λ (m : ℕ). 0 < owing c (max n m)) (sym same) (peers_owe c (max n p.0) f.1),
    )
first_due_of c n (Some q) None None e f is = absurd (false≢true (ap (λ (o : Option ℕ). is_some o) is))
first_due_of c n (Some q) None (Some at) e f is =
    let same : at.0 ≡ q = cc in
    ((λ m le lt. owes_nothing c m (not_yet c m q e (omega (arith, same, lt))) (f m le)), already c (max n at.0) q e (omega (arith, same)))
first_due_of c n (Some q) (Some p) None e f is = none_of_two (nat_lt p.0 q) is where
  none_of_two : (b : Bool) → None ≡ (if b then Some p.0 else Some q) → IsFirstDue (owing c) n None
  none_of_two true k = absurd (false≢true (ap (λ (o : Option ℕ). is_some o) k))
  none_of_two false k = absurd (false≢true (ap (λ (o : Option ℕ). is_some o) k))
first_due_of c n (Some q) (Some p) (Some at) e f is = first_of_both c n q p at e f is

-- OF THE PHASE OR THE REFRESH

-- by a fate something is done
abbrev IsBusy : Settings → Qualification → Words → Fate → Type 0
IsBusy s q w f = (solicits_by s q w f).fate ≡ fate.Idle → ⊥

busy_by : (s : Settings) (q : Qualification) (w : Words) (f g : Fate) (b : Bool) → IsBusy s q w f → IsBusy s q w g → IsBusy s q w (if b then f else g)
busy_by s q w f g true x y = x
busy_by s q w f g false x y = y

busy : (s : Settings) (q : Qualification) (w : Words) (p : Phase) (sends : ℕ) → has_due p ≡ true → IsBusy s q w (due_fate p sends)
busy s q w Cone sends h = busy_by s q w fate.RsCone fate.RsRestricted (nat_lt sends SOLICITATIONS_MAX) (λ e. cc) (λ e. cc)
busy s q w Restricted sends h = busy_by s q w fate.RsRestricted fate.OffLine (nat_lt sends SOLICITATIONS_MAX) (λ e. cc) (λ e. cc)
busy s q w Secondary sends h = busy_by s q w fate.RsSecondary fate.OffLine (nat_lt sends SOLICITATIONS_MAX) (λ e. cc) (λ e. cc)
busy s q w Qualified sends h = λ e. cc
busy s q w Symmetric sends h = absurd (false≢true h)
busy s q w OffLine sends h = absurd (false≢true h)

phase_due : (n : ℕ) (d : Option ℕ) → is_due n d ≡ true → is_some d ≡ true
phase_due n None h = absurd (false≢true h)
phase_due n (Some q) h = refl

-- a tick of qualification, at a moment when its phase or its refresh is due
pub record OfPhase (old : Client) (n : ℕ) (w : Words) (step : Step) (new : Client) : Type 0 where
  pub due : is_due n old.qualifier.now.due ≡ true
  pub some : is_some old.qualifier.now.due ≡ has_due old.qualifier.now.phase
  pub does : step ≡ step_at (settings_of old) old.qualifier.now n w
  pub done : is_due n new.qualifier.now.due ≡ false
  pub peers : new.peers ≡ old.peers

pub phase_idles : (old new : Client) (n : ℕ) (w : Words) (step : Step) → OfPhase old n w step new → Idles (owing old n) (AsBefore old new) step
phase_idles old new n w step o none = let some = owes_phase old n o.due in absurd (omega (arith, some, none))

pub phase_lessens : (old new : Client) (n : ℕ) (w : Words) (step : Step) → OfPhase old n w step new → Lessens (owing old n) (owing new n) step
unfolding due_step
phase_lessens old new n w step o some =
    let before = owes_phase old n o.due in
    let after = owes_peers new n o.done ∙ ap (λ (t : Table). overdue_in t n) o.peers in
    let is : step ≡ solicits_by (settings_of old) old.qualifier.now w (due_fate old.qualifier.now.phase old.qualifier.now.sends) = o.does
    ∙ ap (λ (b : Bool). if b then due_step (settings_of old) old.qualifier.now w else just fate.Idle) o.due in
    (omega (arith, before, after), λ idle. busy (settings_of old) old.qualifier.now w old.qualifier.now.phase old.qualifier.now.sends (sym o.some ∙ phase_due n old.qualifier.now.due o.due) (sym (ap (λ (s : Step). s.fate) is) ∙ idle))

-- OF THE PEERS

same_stays : (old new : Client) → new ≡ old → AsBefore old new
same_stays old new e = subst (λ (c : Client). AsBefore old c) (sym e) (record { stands = λ j h. h; words = refl; settings = refl })

pub peers_idle_too : (old new : Client) (n : ℕ) (step : Step) → is_due n old.qualifier.now.due ≡ false → PutsOff old new n step → Idles (owing old n) (AsBefore old new) step
peers_idle_too old new n step phase p none =
    let both = p.idle (sym (owes_peers old n phase) ∙ none) in
    (both.0, same_stays old new both.1)

pub peers_lessen : (old new : Client) (n : ℕ) (step : Step) → is_due n old.qualifier.now.due ≡ false → PutsOff old new n step → Lessens (owing old n) (owing new n) step
peers_lessen old new n step phase p some =
    let before = owes_peers old n phase in
    let phase_after : is_due n new.qualifier.now.due ≡ false = ap (λ (q : QualifierState). is_due n q.now.due) p.qualifier ∙ phase in
    let after = owes_peers new n phase_after in
    let both = p.less (omega (arith, before, some)) in
    (omega (arith, before, after, both.0), both.1)

-- nothing is due of them
pub nothing_put_off : (c : Client) (n : ℕ) → overdue_in c.peers n ≡ 0 → PutsOff c c n (just fate.Idle)
nothing_put_off c n none = record {
  idle = λ e. (refl, refl);
  less = λ some. absurd (omega (arith, none, some));
  qualifier = refl;
}

put_off : (old new : Client) (n : ℕ) (step : Step) → overdue_in new.peers n < overdue_in old.peers n → new.qualifier ≡ old.qualifier → (step.fate ≡ fate.Idle → ⊥) → PutsOff old new n step
put_off old new n step less q f = record {
  idle = λ none. absurd (omega (arith, less, none));
  less = λ some. (less, f);
  qualifier = q;
}

pub given_up : (old new : Client) (n : ℕ) (step : Step) → overdue_in new.peers n < overdue_in old.peers n → new.qualifier ≡ old.qualifier → step.fate ≡ fate.GiveUp → PutsOff old new n step
given_up old new n step less q f = put_off old new n step less q (λ e. let no_way : fate.GiveUp ≡ fate.Idle = sym f ∙ e in cc)

try_busy : (b : Bool) → try_fate b ≡ fate.Idle → ⊥
try_busy true e = cc
try_busy false e = cc

pub tried_off : (old new : Client) (n : ℕ) (b : Bool) (step : Step) → overdue_in new.peers n < overdue_in old.peers n → new.qualifier ≡ old.qualifier → step.fate ≡ try_fate b → PutsOff old new n step
tried_off old new n b step less q f = put_off old new n step less q (λ e. try_busy b (sym f ∙ e))

-- a moment is there before and after it is read
pub some_too : (o : Option Millis) → is_some (option_map (λ (m : Millis). m.0) o) ≡ is_some o
some_too None = refl
some_too (Some m) = refl

-- WHO IS DUE

-- what is due of a peer
abbrev of_peer : Option Listing → Due
of_peer None = nothing
of_peer (Some l) = tries l

peer_is : (n : ℕ) (o : Option Listing) → peer_due n o ≡ of_peer (due_by n o)
peer_is n None = refl
peer_is n (Some l) = by_test (nat_le (due_of l.peer) n) where
  by_test : (b : Bool) → (if b then tries l else nothing) ≡ of_peer (if b then Some l else None)
  by_test true = refl
  by_test false = refl

due_is : (t : Table) (n : ℕ) (who : Option Ip6) → option_map (listing_at t n) who ≡ due_by n (first_due_in t n) → peer_due n (first_due_in t n) ≡ of_peer (option_map (listing_at t n) who)
due_is t n who e = peer_is n (first_due_in t n) ∙ ap of_peer (sym e)

-- where nobody is overdue, and where somebody is
pub nobody_due : (t : Table) (n : ℕ) (who : Option Ip6) → option_map (listing_at t n) who ≡ due_by n (first_due_in t n) → who ≡ None → peer_due n (first_due_in t n) ≡ nothing
nobody_due t n who e is = due_is t n who e ∙ ap (λ (o : Option Ip6). of_peer (option_map (listing_at t n) o)) is

pub somebody_due : (t : Table) (n : ℕ) (who : Option Ip6) (p : Ip6) → option_map (listing_at t n) who ≡ due_by n (first_due_in t n) → who ≡ Some p → peer_due n (first_due_in t n) ≡ tries (listing_at t n p)
somebody_due t n who p e is = due_is t n who e ∙ ap (λ (o : Option Ip6). of_peer (option_map (listing_at t n) o)) is
