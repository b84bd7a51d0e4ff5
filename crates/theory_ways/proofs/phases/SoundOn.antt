-- What a client's phase says of the NATs of its way stays so, and its address stays, in a record that is calm along the way.
use Rattle.theory_ways.proofs.Words.{AddressStays, Bool, ClientNode, Cone, Contains, Entry, Ep, Full, Ip6, IsActOf, Journal, Lab, List, NatEntry, None, OffLine, Option, Phase, Qualification, Qualified, Restricted, Secondary, Settings, Some, Symmetric, WasAsked, ap, client, counting, embedded, expected, false, false≢true, inl, inr, is_resting, is_some, is_told, journal, let_in_where_asked, list_any, nat_history, nat_of, now, outer_nats_of, qualification, refl, set_up_past, subst, sym, true, turn_of, untold_same, ℕ, ◌||◌, ◌∙◌, ◌∷◌, ◌≡◌, ◌⊎◌}
use Rattle.teredo_node.specs.Journal.{is_changed}
use Rattle.theory_ways.proofs.phases.OneMore.{OneMore, was, after}
use Rattle.theory_ways.proofs.phases.Sound.{settings_of, standing_of, way_of, HasAsked, AloneFrom, IsOwn, IsAlone, GoodAddress, OwnOrigin, IsSoundAlong, IsSoundNow}
use Rattle.theory_ways.proofs.phases.Sound.{needs_asks}
use Rattle.theory_ways.proofs.outwards.LetOut.{SameOut}
use Rattle.theory_ways.proofs.outwards.StillAsks.{same_end}
use Rattle.theory_ways.proofs.phases.StillAlone.{still_alone}
use Rattle.theory_ways.proofs.phases.Calm.{IsCalm, IsToldAlong, is_told_along}
use Rattle.theory_ways.proofs.phases.Turns.{of_advert, no_change, of_rest}
use Rattle.theory_ways.proofs.phases.Concerns.{AsksCount, IsOpen, AskedAll, opened, Go, go_all, Concerns, own, others, concerns, SentNothing, none_new}
use Rattle.theory_ways.proofs.phases.FirstAsks.{IsUnseenAt, sends_go, Unknown, alone_first}

module _ (x : OneMore) (calm : IsCalm x) where
  abbrev lab : Lab
  lab = x.lab

  abbrev H : List Full
  H = x.before

  abbrev r : Full
  r = x.full

  abbrev n : ℕ
  n = x.number

  abbrev c : ClientNode
  c = x.row

  abbrev s : Settings
  s = settings_of (was x)

  abbrev q : Qualification
  q = standing_of (was x)

  abbrev outer : List ℕ
  outer = outer_nats_of lab c

  abbrev Open : Type 0
  Open = IsOpen x calm

  -- where the client sent nothing yet: nothing of it counts, and the NATs further out don't know where it comes from
  abbrev pub IsFirst : Type 0
  IsFirst = SentNothing x calm × (c.cone_try ≡ true → IsUnseenAt (was x) r.moment × Unknown x outer)

  -- each NAT is open, or the client sent nothing yet. Where its phase rests on them they are
  pub record IsReady : Type 0 where
    pub asks : AsksCount (was x)
    pub begun : Open ⊎ IsFirst
    pub rests : is_resting q.phase ≡ true → Open

  asked : AsksCount (was x) → Open → HasAsked (was x)
  asked asks open_ = let a = opened x calm asks open_ in (a.o, a.asks)

  -- WHAT STAYS

  still_own : IsReady → Open → (e : Ep) → IsOwn (was x) e → IsOwn (after x) e
  still_own ready open_ e is o b =
      let a = opened x calm ready.asks open_ in
      is a.o a.asks ∙ same_end x outer c.nat c.inside a o b

  alone_by : IsReady → Open → ((a : AskedAll x calm) → Go x calm a) → IsAlone (was x) → AloneFrom (after x) (way_of (was x)) c.inside
  alone_by ready open_ goes alone =
      let a = opened x calm ready.asks open_ in
      still_alone x outer c.nat c.inside a (goes a) (alone a.o a.asks)

  by_kept : (k : Option Ep) → IsReady → Open → OwnOrigin (was x) k → OwnOrigin (after x) k
  by_kept None ready open_ i = i
  by_kept (Some e) ready open_ i = still_own ready open_ e i

  by_address : (a : Option Ip6) → IsReady → Open → GoodAddress (was x) a → GoodAddress (after x) a
  by_address None ready open_ i = i
  by_address (Some has) ready open_ i = record { opened = still_own ready open_ (embedded has) i.opened; plain = i.plain; cone = i.cone }

  -- what a phase says, where what it says in phase Cone stays so
  stays_if : (c.cone_try ≡ true → q.phase ≡ Cone → IsAlone (was x) → IsAlone (after x)) → IsReady → (ph : Phase) → q.phase ≡ ph
      → (k : Option Ep) (a : Option Ip6) → IsSoundAlong (was x) ph k a → IsSoundAlong (after x) ph k a
  stays_if cone ready Cone at k a i = (i.0, cone i.0 at i.1)
  stays_if cone ready Restricted at k a i = tt
  stays_if cone ready Secondary at k a i = by_kept k ready (ready.rests (ap is_resting at)) i
  stays_if cone ready Qualified at k a i = by_address a ready (ready.rests (ap is_resting at)) i
  stays_if cone ready Symmetric at k a i = i
  stays_if cone ready OffLine at k a i = tt

  -- AN ADVERTISEMENT

  -- nothing comes in where nothing counts
  pub unheard : (e : Entry) → IsToldAlong x e → IsUnseenAt (was x) r.moment → ⊥
  unheard e t unseen =
      let next = nat_of lab c.nat in
      let past : List NatEntry = nat_history lab c.nat H in
      let w : WasAsked next past (now H) (expected s q) t.enters.0.port c.inside =
      (let_in_where_asked next past (now H) (set_up_past lab H c.nat x.grown.1) (expected s q) t.enters.0.port c.inside).0 t.enters.2 in
      unseen w.datagram (subst (λ (m : ℕ). Contains (counting next.idle m past) w.datagram) (sym t.moment) w.counts) w.left

  -- so the client has asked where its phase needs it
  needs_by : {e : Entry} → IsToldAlong x e → IsReady → Open ⊎ IsFirst → (ph : Phase) → q.phase ≡ ph → (k : Option Ep) (a : Option Ip6)
      → IsSoundAlong (was x) ph k a → needs_asks ph ≡ true → HasAsked (was x)
  needs_by t ready (inl open_) ph at k a i need = asked ready.asks open_
  needs_by {e} t ready (inr none) Cone at k a i need = absurd (unheard e t (none.1 i.0).0)
  needs_by t ready (inr none) Secondary at k a i need = asked ready.asks (ready.rests (ap is_resting at))
  needs_by t ready (inr none) Qualified at k a i need = asked ready.asks (ready.rests (ap is_resting at))
  needs_by t ready (inr none) Restricted at k a i need = absurd (false≢true need)
  needs_by t ready (inr none) Symmetric at k a i need = absurd (false≢true need)
  needs_by t ready (inr none) OffLine at k a i need = absurd (false≢true need)

  needs : (e : Entry) → IsToldAlong x e → IsReady → IsSoundNow (was x) → needs_asks q.phase ≡ true → HasAsked (was x)
  needs e t ready i = needs_by t ready ready.begun q.phase refl q.kept q.address i

  -- ONE RECORD MORE

  own_cone : {e : Entry} → IsActOf lab H r n (client c) e → is_told (turn_of e) ≡ false → IsReady → Open ⊎ IsFirst → c.cone_try ≡ true → q.phase ≡ Cone
      → IsAlone (was x) → IsAlone (after x)
  own_cone {e} act h ready (inl open_) tries cone alone o b = alone_by ready open_
      (λ a. go_all x calm (sends_go (record { x = x; calm = calm; e = e; act = act }) cone h) outer c.nat c.inside a.o) alone
  own_cone {e} act h ready (inr none) tries cone alone o b =
      let f = none.1 tries in alone_first (record { x = x; calm = calm; e = e; act = act }) cone h none.0 f.0 f.1 o b

  other_cone : SameOut x → ((a : AskedAll x calm) → Go x calm a) → IsReady → Open ⊎ IsFirst → IsAlone (was x) → IsAlone (after x)
  other_cone out goes ready (inl open_) alone o b = alone_by ready open_ goes alone
  other_cone out goes ready (inr none) alone o b =
      absurd (false≢true (ap (λ (z : Option NatEntry). is_some z) (sym (none_new x calm none.0 out) ∙ b.1.latest)))

  pub sound_next : IsReady → IsSoundNow (was x) → IsSoundNow (after x)
  sound_next ready i = by (concerns x calm) where
    of_turn : (e : Entry) → IsActOf lab H r n (client c) e → (b : Bool) → is_told (turn_of e) ≡ b → IsSoundNow (after x)
    of_turn e act true h =
        let t = is_told_along x calm e act h in
        of_advert x calm e act t (needs e t ready i) i
    of_turn e act false h = of_rest x calm e act h
        (stays_if (λ tries cone alone. own_cone act h ready ready.begun tries cone alone) ready q.phase refl q.kept q.address i)

    by : Concerns x calm → IsSoundNow (after x)
    by (own e act) = of_turn e act (is_told (turn_of e)) refl
    by (others same out goes) =
        subst (λ (j : Journal). IsSoundAlong (after x) (qualification s j).phase (qualification s j).kept (qualification s j).address) (sym same)
        (stays_if (λ tries cone alone. other_cone out goes ready ready.begun alone) ready q.phase refl q.kept q.address i)

  -- its address stays
  abbrev Same : Journal → Type 0
  Same j = list_any (λ (e : Entry). is_changed e.step.fate) j.entries ≡ false

  pub stays_next : IsReady → IsSoundNow (was x) → AddressStays H n → AddressStays (r ∷ H) n
  stays_next ready i before = by (concerns x calm) where
    of_turn : (e : Entry) → IsActOf lab H r n (client c) e → (b : Bool) → is_told (turn_of e) ≡ b → is_changed e.step.fate ≡ false
    of_turn e act false h = untold_same e.step.fate h
    of_turn e act true h =
        let t = is_told_along x calm e act h in
        no_change x calm e act t (needs e t ready i) i

    by : Concerns x calm → AddressStays (r ∷ H) n
    by (own e act) = subst Same (sym act.later)
        (ap (λ (b : Bool). b || list_any (λ (y : Entry). is_changed y.step.fate) (journal n H).entries) (of_turn e act (is_told (turn_of e)) refl) ∙ before)
    by (others same out goes) = subst Same (sym same) before
