-- An advertisement leaves what a client's phase says so, and tells it no other address.
use Rattle.theory_ways.proofs.Words.{Bool, Cone, EntersPast, Ep, Fate, Full, Grown, Ip6, IsEp, IsIp4, Lab, List, None, OffLine, Option, Phase, Qualification, Qualified, Restricted, Secondary, Settings, Some, Symmetric, WasAsked, [], address_then, address_told, and_from, and_parts, ap, begins, cone_is_plain, embedded, expected_in, false, false≢true, flags_of, flags_tell, has_cone, has_symmetric, is_all_cone, is_cone_kind, is_same_origin, is_symmetric, kept_then, let_in_where_asked, list_all, list_any, nat_history, nat_of, now, only_cone, option_map, origin_before, phase_line, refl, same_ep, same_ep-self, same_ep-true, server_ep, set_up_past, subst, sym, teredo_ip, teredo_tells, true, turn, unwrap_or, ℕ, ◌||◌, ◌∙◌, ◌∷◌, ◌≡◌}
use Rattle.teredo_node.specs.Journal.{is_changed}
use Rattle.theory_ways.proofs.phases.OneMore.{Asker}
use Rattle.theory_ways.proofs.outwards.Asks.{server_of, left_at, same_ep_of, from_server, from_any, same_place}
use Rattle.theory_ways.proofs.phases.Sound.{settings_of, AloneFrom, way_of, HasAsked, IsOwn, GoodAddress, OwnOrigin, IsSoundAlong, HasAskedIn}

-- KINDS

-- cone NATs aren't symmetric
all_plain : (lab : Lab) (way : List ℕ) → list_all (λ (k : ℕ). is_cone_kind (nat_of lab k).kind) way ≡ true
    → list_any (λ (k : ℕ). is_symmetric (nat_of lab k).kind) way ≡ false
all_plain lab [] h = refl
all_plain lab (k ∷ way) h =
    let both = and_parts (is_cone_kind (nat_of lab k).kind) (list_all (λ (j : ℕ). is_cone_kind (nat_of lab j).kind) way) h in
    ap (λ (b : Bool). b || list_any (λ (j : ℕ). is_symmetric (nat_of lab j).kind) way) (cone_is_plain (nat_of lab k).kind both.0)
    ∙ all_plain lab way both.1

-- WHAT AN ADVERTISEMENT LEAVES OF IT

-- one came to dst, and the two addresses of the client's server are apart
pub record TellsOf (v : Asker) (dst : Ep) : Type 0 where
  pub grown : Grown v.lab v.past
  pub primary : IsIp4 (settings_of v).primary
  pub apart : (settings_of v).primary ≡ (settings_of v).secondary → ⊥
  pub made : IsEp dst

-- the client hears it in this phase
pub record Hears (v : Asker) (dst : Ep) (q : Qualification) (cone : Bool) (ph : Phase) : Type 0 where
  pub sound : IsSoundAlong v ph q.kept q.address
  pub enters : EntersPast v.lab v.past (now v.past) (expected_in (settings_of v) ph cone) (way_of v) v.row.inside dst
  pub asked : HasAskedIn v ph

module _ (v : Asker) (dst : Ep) (t : TellsOf v dst) where
  abbrev lab : Lab
  lab = v.lab

  abbrev H : List Full
  H = v.past

  abbrev s : Settings
  s = settings_of v

  abbrev Q : Ep
  Q = server_ep s.secondary

  abbrev Comes : Ep → Type 0
  Comes src = EntersPast lab H (now H) src (way_of v) v.row.inside dst

  other : Q ≡ server_of v → ⊥
  other same = t.apart (sym (ap (λ (e : Ep). e.ip) same))

  embeds : (cone : Bool) (w : Option ℕ) → embedded (teredo_ip s.primary (flags_of cone w) dst) ≡ dst
  embeds cone w = (teredo_tells s.primary (flags_of cone w) dst t.primary (flags_tell cone w).sixteen t.made).mapped_is

  bit : (cone : Bool) (w : Option ℕ) → has_cone (teredo_ip s.primary (flags_of cone w) dst) ≡ cone
  bit cone w = (teredo_tells s.primary (flags_of cone w) dst t.primary (flags_tell cone w).sixteen t.made).cone_is ∙ (flags_tell cone w).cone_is

  -- it makes a good address
  good : (cone : Bool) (w : Option ℕ) → IsOwn v dst → has_symmetric lab v.row ≡ false
      → (cone ≡ true → (is_all_cone lab v.row ≡ true) × (v.row.cone_try ≡ true)) → GoodAddress v (address_told s cone w (Some dst))
  good cone w own plain says = record {
    opened = λ o asks. embeds cone w ∙ own o asks;
    plain = plain;
    cone = λ h. says (sym (bit cone w) ∙ h);
  }

  -- in phase Cone, from the secondary address: only past cone NATs
  past_cones : (way : List ℕ) (inside : Ep) → AloneFrom v way inside → EntersPast lab H (now H) Q way inside dst
      → list_all (λ (k : ℕ). is_cone_kind (nat_of lab k).kind) way ≡ true
  past_cones [] inside alone e = refl
  past_cones (k ∷ way) inside alone e =
      let w : WasAsked (nat_of lab k) (nat_history lab k H) (now H) Q e.0.port inside =
      (let_in_where_asked (nat_of lab k) (nat_history lab k H) (now H) (set_up_past lab H k t.grown) Q e.0.port inside).0 e.2 in
      let a = alone w.datagram w.counts w.left in
      let cone : is_cone_kind (nat_of lab k).kind ≡ true = only_cone (nat_of lab k).kind s.primary s.secondary w.datagram t.apart a.0 w.asked in
      let same : left_at lab k w.datagram ≡ e.0 = same_ep_of (left_at lab k w.datagram) e.0 (sym e.1) w.by_port in
      and_from (is_cone_kind (nat_of lab k).kind) (list_all (λ (j : ℕ). is_cone_kind (nat_of lab j).kind) way) cone
      (past_cones way e.0 (subst (λ (x : Ep). AloneFrom v way x) same a.1) e.3)

  in_cone : (w : Option ℕ) → v.row.cone_try ≡ true → AloneFrom v (way_of v) v.row.inside → Comes Q → GoodAddress v (address_told s true w (Some dst))
  in_cone w tries alone e =
      let cones = past_cones (way_of v) v.row.inside alone e in
      let plain = all_plain lab (way_of v) cones in
      good true w (λ o asks. from_any v t.grown Q (way_of v) v.row.inside plain asks e) plain (λ h. (cones, tries))

  -- from the primary address
  in_restricted : Comes (server_of v) → IsOwn v dst
  in_restricted e o asks = from_server v t.grown (way_of v) v.row.inside o dst asks e

  -- in phase Secondary, from the secondary address
  plain_own : (src : Ep) → has_symmetric lab v.row ≡ false → Comes src → IsOwn v dst
  plain_own src plain e o asks = from_any v t.grown src (way_of v) v.row.inside plain asks e

  -- WHAT THE PHASE SAYS AFTER IT

  abbrev pub After : Option ℕ → Phase → Option Ep → Option Ip6 → Fate → Type 0
  After w ph k a f = IsSoundAlong v (unwrap_or (begins (turn f)) ph) (kept_then ph (turn f) (Some dst) k) (address_then s ph (turn f) w (Some dst) a)

  by_second : (w : Option ℕ) (k : Option Ep) (a : Option Ip6) → OwnOrigin v k → Comes Q → HasAsked v → (same : Bool)
      → is_same_origin (Some dst) k ≡ same → After w Secondary k a (phase_line Secondary same)
  by_second w None a is e asks same eq = absurd is
  by_second w (Some k) a is e asks true eq =
      let at : dst ≡ asks.0 = same_ep-true dst k eq ∙ is asks.0 asks.1 in
      let plain : has_symmetric lab v.row ≡ false = (same_place v t.grown Q other (way_of v) asks.0 asks.1
      (subst (λ (x : Ep). EntersPast lab H (now H) Q (way_of v) v.row.inside x) at e)).1 in
      good false w (plain_own Q plain e) plain (λ h. absurd (false≢true h))
  by_second w (Some k) a is e asks false eq = by (has_symmetric lab v.row) refl where
    by : (b : Bool) → has_symmetric lab v.row ≡ b → has_symmetric lab v.row ≡ true
    by true h = h
    by false h =
        absurd (false≢true (sym eq ∙ ap (same_ep dst) (is asks.0 asks.1 ∙ sym (plain_own Q h e asks.0 asks.1)) ∙ same_ep-self dst))

  by_refresh : (w : Option ℕ) (src : Ep) (k : Option Ep) (a : Option Ip6) → GoodAddress v a → Comes src → (same : Bool)
      → After w Qualified k a (phase_line Qualified same)
  by_refresh w src k None is e same = absurd is
  by_refresh w src k (Some own) is e true = is
  by_refresh w src k (Some own) is e false = good (has_cone own) w (plain_own src is.plain e) is.plain is.cone

  pub told : (w : Option ℕ) {q : Qualification} {cone : Bool} (ph : Phase) → Hears v dst q cone ph → {same : Bool}
      → is_same_origin (Some dst) (origin_before q ph) ≡ same → After w ph q.kept q.address (phase_line ph same)
  told w Cone h eq = let a = h.asked refl in in_cone w h.sound.0 (h.sound.1 a.0 a.1) h.enters
  told w Restricted h eq = in_restricted h.enters
  told w {q} Secondary h {same} eq = by_second w q.kept q.address h.sound h.enters (h.asked refl) same eq
  told w {q} {cone} Qualified h {same} eq = by_refresh w (expected_in s Qualified cone) q.kept q.address h.sound h.enters same
  told w Symmetric h eq = h.sound
  told w OffLine h eq = tt

  -- IT TELLS NO OTHER ADDRESS

  unchanged_by : (src : Ep) (a : Option Ip6) → GoodAddress v a → Comes src → HasAsked v → (same : Bool)
      → is_same_origin (Some dst) (option_map embedded a) ≡ same → is_changed (phase_line Qualified same) ≡ false
  unchanged_by src a is e asks true eq = refl
  unchanged_by src None is e asks false eq = absurd is
  unchanged_by src (Some own) is e asks false eq = absurd (false≢true
      (sym eq ∙ ap (same_ep dst) (is.opened asks.0 asks.1 ∙ sym (plain_own src is.plain e asks.0 asks.1)) ∙ same_ep-self dst))

  pub told_same : {q : Qualification} {cone : Bool} (ph : Phase) → Hears v dst q cone ph → (same : Bool)
      → is_same_origin (Some dst) (origin_before q ph) ≡ same → is_changed (phase_line ph same) ≡ false
  told_same Cone h same eq = refl
  told_same Restricted h same eq = refl
  told_same Secondary h true eq = refl
  told_same Secondary h false eq = refl
  told_same {q} {cone} Qualified h same eq = unchanged_by (expected_in s Qualified cone) q.address h.sound h.enters (h.asked refl) same eq
  told_same Symmetric h same eq = refl
  told_same OffLine h same eq = refl
