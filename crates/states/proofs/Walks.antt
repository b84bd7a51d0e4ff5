-- What the NATs of a client's way let out of its sends, send by send, is what walks after the record show.
use Rattle.std.proofs.Common.{◌≡◌, ◌≤◌, ◌==◌, ◌+◌, ℕ, Bool, true, false, List, [], ◌∷◌, ◌++◌, cond, reverse, Option, Some, None, Result, Ok, Err, refl, sym, ap, subst, ◌∙◌}
use Rattle.std.specs.List.{AllByRecursion, flat_map}
use Rattle.std.proofs.lemmas.Grind.{reverse_onto}
use Rattle.std.proofs.lemmas.List.{append_assoc, append-nil, reverse-reverse, reverse-append}
use Rattle.td_base.specs.Ip4.{same_ip, same_ip-true, same_ip_decides}
use Rattle.td_base.specs.declared.ipv4.Ip4.{Ip4}
use Rattle.td_base.specs.declared.endpoint.Ep.{Ep}
use Rattle.std.proofs.lemmas.Bool.{eq-eqb}
use Rattle.nat_kinds.specs.Mappings.{live_port}
use Rattle.nat_kinds.specs.declared.outgoing.Outward.{Outward}
use Rattle.nat_kinds.specs.declared.settings.NatSettings.{NatSettings}
use Rattle.nat_kinds.specs.declared.refusal.NatRefusal.{NatRefusal}
use Rattle.nat_kinds.specs.declared.refusal.NatRefusal.TheVariants.{Hairpin, Full as AtFull, NoMemory}
use Rattle.nat_kinds.specs.History.{NatEntry, Out}
use Rattle.nat_kinds.specs.Answer.{IsAnswer, live_after, nat_answer}
use Rattle.nat_kinds.specs.Laws.{IsPast}
use Rattle.nat_kinds.proofs.AnswerLemmas.{answer-is}
use Rattle.teredo_node.specs.Step.{Send}
use Rattle.topology.specs.Chains.{Crossing, NatPasts, Passing, after_passing, answered, crossing, nat_set_up, outs_at, passing}
use Rattle.history.specs.declared.mark.Loss.{Loss}
use Rattle.history.specs.declared.mark.Loss.TheVariants as loss
use Rattle.history.specs.Full.{udp, six, Made, sent, lost, Full}
use Rattle.history.specs.Records.{marks_of}
use Rattle.legal.specs.Lab.{Lab}
use Rattle.legal.specs.Past.{nat_pasts}
use Rattle.legal.specs.Emit.{Sendings, is_at_place, by_way, crossing_unless, loss_of, marked, or_loss}
use Rattle.td_chain.specs.Walk.{live_at, walk, walked_on}
use Rattle.states.specs.Walked.{walk_lost, walk_marked}
use Rattle.states.proofs.HeldPorts.{GoOutAt, keeps, own_port, past_before, shut_full, stays_shut}

-- what a mark tells, of what became of a send
abbrev pub walk_made : (Ep → List Passing) → Made → List Passing
walk_made walks (sent (udp src dst bytes)) = walks dst
walk_made walks (sent (six relay bytes)) = []
walk_made walks (lost why dst bytes) = walk_lost walks why dst

pub marks_walk : (walks : Ep → List Passing) (number : ℕ) (made : List Made) → flat_map (walk_marked walks) (marks_of number made) ≡ flat_map (walk_made walks) made
marks_walk walks number [] = refl
marks_walk walks number (sent (udp src dst bytes) ∷ made) = ap (λ (ps : List Passing). walks dst ++ ps) (marks_walk walks (number + 1) made)
marks_walk walks number (sent (six relay bytes) ∷ made) = marks_walk walks (number + 1) made
marks_walk walks number (lost why dst bytes ∷ made) = ap (λ (ps : List Passing). walk_lost walks why dst ++ ps) (marks_walk walks number made)

-- LISTS

apart : {a b : Ip4} → (a ≡ b → ⊥) → same_ip a b ≡ false
apart {a} {b} not = by (same_ip a b) refl where
  by : (t : Bool) → same_ip a b ≡ t → same_ip a b ≡ false
  by false is = is
  by true is = absurd (not (same_ip-true a b is))

one_more : (p : Passing) (ps passed : List Passing) → reverse ps ++ (p ∷ passed) ≡ reverse (p ∷ ps) ++ passed
one_more p ps passed = sym (append_assoc (reverse ps) (p ∷ []) passed) ∙ ap (λ (xs : List Passing). xs ++ passed) (sym (reverse_onto ps p []))

-- these came later than those
pub record IsOnto (all passed : List Passing) : Type 0 where
  pub later : List Passing
  pub is : all ≡ later ++ passed

onto_itself : (passed : List Passing) → IsOnto passed passed
onto_itself passed = record { later = []; is = refl }

onto_one : (all : List Passing) (p : Passing) (passed : List Passing) → IsOnto all (p ∷ passed) → IsOnto all passed
onto_one all p passed o = record { later = o.later ++ p ∷ []; is = o.is ∙ sym (append_assoc o.later (p ∷ []) passed) }

onto_more : (all mid passed : List Passing) → IsOnto all mid → IsOnto mid passed → IsOnto all passed
onto_more all mid passed a b = record { later = a.later ++ b.later; is = a.is ∙ ap (λ (xs : List Passing). a.later ++ xs) b.is ∙ sym (append_assoc a.later b.later passed) }

outs_append : (k : ℕ) (ps passed : List Passing) → outs_at k (ps ++ passed) ≡ outs_at k ps ++ outs_at k passed
outs_append k [] passed = refl
outs_append k (p ∷ ps) passed = by (p.nat == k) (outs_append k ps passed) where
  by : (b : Bool) → outs_at k (ps ++ passed) ≡ outs_at k ps ++ outs_at k passed → cond b (Out p.datagram ∷ outs_at k (ps ++ passed)) (outs_at k (ps ++ passed)) ≡ cond b (Out p.datagram ∷ outs_at k ps) (outs_at k ps) ++ outs_at k passed
  by true rest = ap (λ (xs : List NatEntry). Out p.datagram ∷ xs) rest
  by false rest = rest

-- THE RECORD

-- all were let out at m
abbrev pub AllAt : ℕ → List Passing → Type 0
AllAt m ps = AllByRecursion (λ (p : Passing). p.datagram.moment.0 ≡ m) ps

go_out : (m k : ℕ) (ps : List Passing) → AllAt m ps → GoOutAt m (outs_at k ps)
go_out m k [] all = tt
go_out m k (p ∷ ps) all = by (p.nat == k) (go_out m k ps all.1) where
  by : (b : Bool) → GoOutAt m (outs_at k ps) → GoOutAt m (cond b (Out p.datagram ∷ outs_at k ps) (outs_at k ps))
  by true rest = (all.0, rest)
  by false rest = rest

all_later : (m : ℕ) (ps passed : List Passing) → AllAt m (ps ++ passed) → AllAt m ps
all_later m [] passed all = tt
all_later m (p ∷ ps) passed all = (all.0, all_later m ps passed all.1)

-- a record at m of a client, after these; `all` is what NATs let out of it
pub record Walking : Type 0 where
  pub lab : Lab
  pub before : List Full
  pub m : ℕ
  pub all : List Passing
  pub at : AllAt m all
  pub new : NatPasts  -- the histories of NATs after it

-- and before it
abbrev pub old : Walking → NatPasts
old x = nat_pasts x.lab x.before

-- node k is such a NAT
pub record Fits (x : Walking) (k : ℕ) : Type 0 where
  pub same : x.new k ≡ after_passing x.all (old x) k
  pub past : IsPast (nat_set_up x.lab.topology k) (x.new k) x.m
  pub lives : 1 ≤ (nat_set_up x.lab.topology k).idle

-- ONE NAT

module _ (x : Walking) (k : ℕ) (fits : Fits x k) (from dst : Ep) (passed : List Passing) where
  abbrev s : NatSettings
  s = nat_set_up x.lab.topology k

  abbrev then : List NatEntry
  then = after_passing passed (old x) k

  abbrev live_now : Option ℕ
  live_now = live_at x.lab.topology x.new x.m k from dst

  -- what NATs let out later stands before what they had let out
  new_is : (o : IsOnto x.all passed) → x.new k ≡ outs_at k o.later ++ then
  new_is o = fits.same ∙ ap (λ (ps : List Passing). outs_at k ps ++ old x k) o.is ∙ ap (λ (es : List NatEntry). es ++ old x k) (outs_append k o.later passed)
      ∙ append_assoc (outs_at k o.later) (outs_at k passed) (old x k)

  later_outs : (o : IsOnto x.all passed) → GoOutAt x.m (outs_at k o.later)
  later_outs o = go_out x.m k o.later (all_later x.m o.later passed (subst (AllAt x.m) o.is x.at))

  -- it is full: it lets nothing out later for the key
  pub full_still : IsOnto x.all passed → nat_answer s then x.m from dst ≡ Err AtFull → live_now ≡ None
  full_still o full =
      let past : IsPast s (outs_at k o.later ++ then) x.m = subst (λ (h : List NatEntry). IsPast s h x.m) (new_is o) fits.past in
      subst (λ (h : List NatEntry). live_port s.kind from dst (live_after s h x.m) ≡ None) (sym (new_is o))
      (stays_shut s (outs_at k o.later) then x.m past (later_outs o) fits.lives from dst (shut_full s then x.m (past_before s (outs_at k o.later) then x.m past) from dst full)).none

  -- an answer says whether the datagram is for the NAT itself
  not_own : (port : ℕ) → nat_answer s then x.m from dst ≡ Ok port → same_ip dst.ip s.external ≡ false
  not_own port ok = apart (subst (IsAnswer s (live_after s then x.m) from dst) ok (answer-is s (live_after s then x.m) from dst)).0

  own : nat_answer s then x.m from dst ≡ Err Hairpin → same_ip dst.ip s.external ≡ true
  own hairpin = (same_ip_decides dst.ip s.external).1 (subst (IsAnswer s (live_after s then x.m) from dst) hairpin (answer-is s (live_after s then x.m) from dst))

  no_memory : nat_answer s then x.m from dst ≡ Err NoMemory → ⊥
  no_memory lacks = subst (IsAnswer s (live_after s then x.m) from dst) lacks (answer-is s (live_after s then x.m) from dst)

  full_not_own : nat_answer s then x.m from dst ≡ Err AtFull → same_ip dst.ip s.external ≡ false
  full_not_own full = apart (subst (IsAnswer s (live_after s then x.m) from dst) full (answer-is s (live_after s then x.m) from dst)).0

  -- it let the datagram out by a port: the key has that live
  passed_live : (port : ℕ) → nat_answer s then x.m from dst ≡ Ok port → IsOnto x.all (passing k x.m from dst port ∷ passed) → live_now ≡ Some port
  passed_live port ok o =
      let e : Outward = (passing k x.m from dst port).datagram in
      let its : outs_at k (passing k x.m from dst port ∷ passed) ++ old x k ≡ Out e ∷ then = ap (λ (b : Bool). cond b (Out e ∷ outs_at k passed) (outs_at k passed) ++ old x k) (eq-eqb k k refl) in
      let is : x.new k ≡ outs_at k o.later ++ Out e ∷ then =
      fits.same ∙ ap (λ (ps : List Passing). outs_at k ps ++ old x k) o.is ∙ ap (λ (es : List NatEntry). es ++ old x k) (outs_append k o.later (passing k x.m from dst port ∷ passed))
      ∙ append_assoc (outs_at k o.later) (outs_at k (passing k x.m from dst port ∷ passed)) (old x k) ∙ ap (λ (es : List NatEntry). outs_at k o.later ++ es) its in
      let past : IsPast s (outs_at k o.later ++ Out e ∷ then) x.m = subst (λ (h : List NatEntry). IsPast s h x.m) is fits.past in
      let out : GoOutAt x.m (outs_at k o.later) = go_out x.m k o.later (all_later x.m o.later (passing k x.m from dst port ∷ passed) (subst (AllAt x.m) o.is x.at)) in
      subst (λ (h : List NatEntry). live_port s.kind from dst (live_after s h x.m) ≡ Some port) (sym is)
      (keeps s (outs_at k o.later) (Out e ∷ then) x.m past out fits.lives from dst port
      (own_port (record { s = s; h = then; m = x.m; e = e; past = past_before s (outs_at k o.later) (Out e ∷ then) x.m past; moment = refl; lives = fits.lives })))

-- THE WAY

module _ (x : Walking) where
  abbrev cross : Ep → List ℕ → Ep → List Passing → Crossing
  cross dst way from passed = crossing x.lab.topology (old x) x.m dst way from passed

  abbrev walks : List ℕ → Ep → Ep → List Passing
  walks way from dst = walk x.lab.topology x.new x.m dst way from

  abbrev beyond : ℕ → ℕ → Ep
  beyond k port = record { ip = (nat_set_up x.lab.topology k).external; port = port }

  abbrev answer_at : ℕ → Ep → Ep → List Passing → Result ℕ NatRefusal
  answer_at k from dst passed = nat_answer (nat_set_up x.lab.topology k) (after_passing passed (old x) k) x.m from dst

  grows : (way : List ℕ) (dst from : Ep) (passed : List Passing) → IsOnto (cross dst way from passed).passed passed
  grows [] dst from passed = onto_itself passed
  grows (k ∷ way) dst from passed = by (answer_at k from dst passed) (λ port. grows way dst (beyond k port) (passing k x.m from dst port ∷ passed)) where
    by : (r : Result ℕ NatRefusal) → ((port : ℕ) → IsOnto (cross dst way (beyond k port) (passing k x.m from dst port ∷ passed)).passed (passing k x.m from dst port ∷ passed))
        → IsOnto (answered x.lab.topology x.m k from dst passed (cross dst way) r).passed passed
    by (Ok port) on = onto_one _ (passing k x.m from dst port) passed (on port)
    by (Err why) on = onto_itself passed

  -- past these NATs the walk shows what they let out
  walked : (way : List ℕ) → AllByRecursion (Fits x) way → (dst from : Ep) (passed : List Passing) → IsOnto x.all (cross dst way from passed).passed
      → (cross dst way from passed).passed ≡ reverse (walks way from dst) ++ passed
  walked [] fits dst from passed o = refl
  walked (k ∷ way) fits dst from passed o = by (answer_at k from dst passed) refl o
      (λ port o. walked way fits.1 dst (beyond k port) (passing k x.m from dst port ∷ passed) o) where
        walk_here : (b : Bool) (r : Option ℕ) → same_ip dst.ip (nat_set_up x.lab.topology k).external ≡ b → live_at x.lab.topology x.new x.m k from dst ≡ r
            → walks (k ∷ way) from dst ≡ walked_on x.lab.topology x.m k from dst (λ e. walks way e dst) (cond b None r)
        walk_here b r own live = rw (own, live) refl

        by : (r : Result ℕ NatRefusal) → answer_at k from dst passed ≡ r → IsOnto x.all (answered x.lab.topology x.m k from dst passed (cross dst way) r).passed
            → ((port : ℕ) → IsOnto x.all (cross dst way (beyond k port) (passing k x.m from dst port ∷ passed)).passed
            → (cross dst way (beyond k port) (passing k x.m from dst port ∷ passed)).passed ≡ reverse (walks way (beyond k port) dst) ++ (passing k x.m from dst port ∷ passed))
            → (answered x.lab.topology x.m k from dst passed (cross dst way) r).passed ≡ reverse (walks (k ∷ way) from dst) ++ passed
        by (Ok port) is o on =
            let p : Passing = passing k x.m from dst port in
            let onto : IsOnto x.all (p ∷ passed) = onto_more x.all _ (p ∷ passed) o (grows way dst (beyond k port) (p ∷ passed)) in
            on port o ∙ one_more p (walks way (beyond k port) dst) passed
            ∙ ap (λ (ps : List Passing). reverse ps ++ passed) (sym (walk_here false (Some port) (not_own x k fits.0 from dst passed port is) (passed_live x k fits.0 from dst passed port is onto)))
        by (Err Hairpin) is o on = ap (λ (ps : List Passing). reverse ps ++ passed) (sym (walk_here true (live_at x.lab.topology x.new x.m k from dst) (own x k fits.0 from dst passed is) refl))
        by (Err AtFull) is o on = ap (λ (ps : List Passing). reverse ps ++ passed) (sym (walk_here false None (full_not_own x k fits.0 from dst passed is) (full_still x k fits.0 from dst passed o is)))
        by (Err NoMemory) is o on = absurd (no_memory x k fits.0 from dst passed is)

  -- THE SENDS

  module _ (way : List ℕ) (inside : Ep) (fails : Option ℕ) where
    abbrev rest : ℕ → List Passing → List Send → Sendings
    rest i passed ys = by_way x.lab x.before x.m way inside fails i passed ys

    abbrev past_nats : Bool → Ep → List Passing → Crossing
    past_nats b dst passed = crossing_unless b x.lab x.before x.m dst way inside passed

    unless_grows : (b : Bool) (dst : Ep) (passed : List Passing) → IsOnto (past_nats b dst passed).passed passed
    unless_grows true dst passed = onto_itself passed
    unless_grows false dst passed = grows way dst inside passed

    sent_grows : (ys : List Send) (i : ℕ) (passed : List Passing) → IsOnto (rest i passed ys).passed passed
    sent_grows [] i passed = onto_itself passed
    sent_grows (y ∷ ys) i passed = onto_more _ (past_nats (is_at_place i fails) y.to passed).passed passed
        (sent_grows ys (i + 1) (past_nats (is_at_place i fails) y.to passed).passed) (unless_grows (is_at_place i fails) y.to passed)

    walk_sent : (y : Send) (r : Result Ep NatRefusal) → walk_made (walks way inside) (marked y (or_loss false r)) ≡ walks way inside y.to
    walk_sent y (Ok src) = refl
    walk_sent y (Err Hairpin) = refl
    walk_sent y (Err AtFull) = refl
    walk_sent y (Err NoMemory) = refl

    in_order : (w f passed : List Passing) → reverse f ++ (reverse w ++ passed) ≡ reverse (w ++ f) ++ passed
    in_order w f passed = sym (append_assoc (reverse f) (reverse w) passed) ∙ ap (λ (ps : List Passing). ps ++ passed) (sym (reverse-append w f))

    pub sent_walked : AllByRecursion (Fits x) way → (ys : List Send) (i : ℕ) (passed : List Passing) → IsOnto x.all (rest i passed ys).passed
        → (rest i passed ys).passed ≡ reverse (flat_map (walk_made (walks way inside)) (rest i passed ys).made) ++ passed
    sent_walked fits [] i passed o = refl
    sent_walked fits (y ∷ ys) i passed o = by (is_at_place i fails) o (sent_walked fits ys (i + 1)) where
      by : (b : Bool) → IsOnto x.all (rest (i + 1) (past_nats b y.to passed).passed ys).passed
          → ((mid : List Passing) → IsOnto x.all (rest (i + 1) mid ys).passed
          → (rest (i + 1) mid ys).passed ≡ reverse (flat_map (walk_made (walks way inside)) (rest (i + 1) mid ys).made) ++ mid)
          → (rest (i + 1) (past_nats b y.to passed).passed ys).passed
          ≡ reverse (walk_made (walks way inside) (marked y (or_loss b (past_nats b y.to passed).leaves)) ++ flat_map (walk_made (walks way inside)) (rest (i + 1) (past_nats b y.to passed).passed ys).made) ++ passed
      by true o on = on passed o
      by false o on =
          let mid : List Passing = (past_nats false y.to passed).passed in
          let more : List Passing = flat_map (walk_made (walks way inside)) (rest (i + 1) mid ys).made in
          let onto : IsOnto x.all mid = onto_more x.all _ mid o (sent_grows ys (i + 1) mid) in
          on mid o ∙ ap (λ (ps : List Passing). reverse more ++ ps) (walked way fits y.to inside passed onto)
          ∙ in_order (walks way inside y.to) more passed
          ∙ ap (λ (ps : List Passing). reverse (ps ++ more) ++ passed) (sym (walk_sent y (past_nats false y.to passed).leaves))

-- ALL AT ONE MOMENT

module _ (lab : Lab) (H : List Full) (m : ℕ) where
  all_crossed : (way : List ℕ) (dst from : Ep) (passed : List Passing) → AllAt m passed → AllAt m (crossing lab.topology (nat_pasts lab H) m dst way from passed).passed
  all_crossed [] dst from passed all = all
  all_crossed (k ∷ way) dst from passed all = by (nat_answer (nat_set_up lab.topology k) (after_passing passed (nat_pasts lab H) k) m from dst) (λ ep more all. all_crossed way dst ep more all) where
    by : (r : Result ℕ NatRefusal) → ((ep : Ep) (more : List Passing) → AllAt m more → AllAt m (crossing lab.topology (nat_pasts lab H) m dst way ep more).passed)
        → AllAt m (answered lab.topology m k from dst passed (crossing lab.topology (nat_pasts lab H) m dst way) r).passed
    by (Ok port) on = on _ _ (refl, all)
    by (Err why) on = all

  pub all_sent : (way : List ℕ) (inside : Ep) (fails : Option ℕ) (ys : List Send) (i : ℕ) (passed : List Passing) → AllAt m passed → AllAt m (by_way lab H m way inside fails i passed ys).passed
  all_sent way inside fails [] i passed all = all
  all_sent way inside fails (y ∷ ys) i passed all = all_sent way inside fails ys (i + 1) _ (unless (is_at_place i fails)) where
    unless : (b : Bool) → AllAt m (crossing_unless b lab H m y.to way inside passed).passed
    unless true = all
    unless false = all_crossed way y.to inside passed all
