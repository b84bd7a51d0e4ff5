-- A native host's packet for a client that holds as many packets of the host as it may, and has room: the client tests the host anew, and hands over what
-- it held from the relay. So the packet comes where it is among that, byte for byte, and else never.
use Rattle.theory_reaching.proofs.Words.{AllByRecursion, AreFresh, Bool, Contains, Course, Full, GivesInTime, GivesToHost, Grown, Ip6, IsOwnTo, IsStart, IsTrio, List, Made, Option, Parted, Some, SomeIs, Trio, TrioRun, [], ap, append_assoc, arith, client, client_journals, client_settings, cond, false, false≢true, filter_map, held_from, holds_most, inl, inr, is_number, is_some, is_trusted_at, item_in, items_of, journal, known, leaves_for_relay, length, mentions, most_deliveries, most_from_native, must_ask, nat_le, nat_tests, now, of_its_event, or_parts, parted, refl, subst, sym, true, waiting_is_own, was_delivered, wire, ℕ, ◌++◌, ◌<◌, ◌||◌, ◌∙◌, ◌∷◌, ◌≡◌, ◌≤◌, ◌⊎◌}
use Rattle.theory_first_natives.proofs.from_native.TrioBoards.{on_way}
use Rattle.theory_first_natives.proofs.from_native.TrioBoards as boards
use Rattle.theory_first_natives.proofs.from_native.TrioBoards.{came}
use Rattle.theory_first_natives.proofs.from_native.TrioStart as start
use Rattle.theory_reaching.proofs.from_native.AfterHeld as after_held
use Rattle.theory_reaching.proofs.from_native.AfterHeld.{to_relay}
use Rattle.theory_reaching.proofs.schedules.Throughout as throughout
use Rattle.theory_reaching.proofs.schedules.Throughout.{NoneBrings}

-- WHAT IS DELIVERED LATER

-- what none of these records delivered, neither part of them did
undelivered : (i : ℕ) (xs ys : List Full) → was_delivered i (xs ++ ys) ≡ false → (was_delivered i xs ≡ false) × (was_delivered i ys ≡ false)
undelivered i [] ys none = (refl, none)
undelivered i (q ∷ xs) ys none =
    let two = or_parts (is_number i q.delivered) (was_delivered i (xs ++ ys)) none in
    let rest = undelivered i xs ys two.1 in
    (ap (λ (b : Bool). b || was_delivered i xs) two.0 ∙ rest.0, rest.1)

-- one of the records of two parts is so
one_of_parts : (P : Full → Type 0) (xs : List Full) (q : Full) (ys : List Full) → SomeIs P (xs ++ q ∷ ys) → SomeIs P xs ⊎ (P q ⊎ SomeIs P ys)
one_of_parts P [] q ys come = inr come
one_of_parts P (z ∷ xs) q ys (inl it) = inl (inl it)
one_of_parts P (z ∷ xs) q ys (inr come) = by (one_of_parts P xs q ys come) where
  by : SomeIs P xs ⊎ (P q ⊎ SomeIs P ys) → SomeIs P (z ∷ xs) ⊎ (P q ⊎ SomeIs P ys)
  by (inl there) = inl (inr there)
  by (inr here) = inr here

module _ (the : TrioRun) (is : IsTrio the.p) (no_reply : after_held.NoReply the.p) (later : List Full) (so_far : Parted the later) where
  open the use {p, before, r}

  abbrev G : List Full
  G = boards.after the so_far.first

  abbrev t : Full
  t = so_far.handing

  grown_there : Grown p.lab (t ∷ G)
  grown_there = so_far.hands.ground.grown

  number : t.first ≡ length (wire G)
  number = ap (λ (z : Full). z.first) grown_there.0.is ∙ (of_its_event p.lab G t.event t.asked).first

  -- the entries that were delivered by then are all that there were
  none_before : (i : ℕ) → r.first ≤ i → was_delivered i (t ∷ so_far.first) ≡ false → t.first ≤ i
  none_before i low none = by (nat_le t.first i) refl where
    closed : ((false ≡ true) × (i ≡ r.first)) ⊎ ((false ≡ true) × (i ≡ so_far.last)) → ⊥
    closed (inl e) = false≢true e.0
    closed (inr e) = false≢true e.0

    by : (b : Bool) → nat_le t.first i ≡ b → t.first ≤ i
    by true e = grind (arith, nat_tests, e)
    by false e =
        let less : i < t.first = grind (arith, nat_tests, e) in
        let long = so_far.long in
        absurd (closed (so_far.are.only i low (omega (arith, less, number, long)) none))

  -- so what follows is a fresh schedule after the record
  fresh_then : (rest : List Full) → AreFresh r (rest ++ t ∷ so_far.first) → AreFresh t rest
  fresh_then [] fresh = fresh.0.sound
  fresh_then (q ∷ rest) fresh =
      let parts = undelivered fresh.0.number rest (t ∷ so_far.first) fresh.0.once in (
        record {
          number = fresh.0.number;
          delivered = fresh.0.delivered;
          new = none_before fresh.0.number fresh.0.new parts.1;
          once = parts.0;
          sound = fresh.0.sound;
        },
        fresh_then rest fresh.1,
      )

  -- WHAT IT MADE

  all_after : (ws : List (List ℕ)) → AllByRecursion (IsOwnTo (Some p.a.own) (Some p.h.six)) ws
      → AllByRecursion (after_held.IsAfter p is no_reply) (filter_map item_in (leaves_for_relay p ws))
  all_after [] all = tt
  all_after (w ∷ ws) all = (to_relay w all.0 refl, all_after ws all.1)

  made_after : AllByRecursion (after_held.IsAfter p is no_reply) (items_of t)
  made_after =
      let s = client_settings p.lab.topology p.a.c in
      let own = waiting_is_own s (journal p.a.n G) (now G) p.h.six (client_journals p.lab G p.a.n p.a.c grown_there.1 is.end.there).journal in
      subst (λ (ms : List Made). AllByRecursion (after_held.IsAfter p is no_reply) (filter_map item_in ms)) (sym so_far.hands.made)
      (all_after (known (mentions (journal p.a.n G).entries) (now G) p.h.six).waiting
      (subst (λ (o : Option Ip6). AllByRecursion (IsOwnTo o (Some p.h.six)) (known (mentions (journal p.a.n G).entries) (now G) p.h.six).waiting)
      so_far.hands.before.address own))

  none_later : NoneBrings p.lab G t p.a.n (client p.a.c) p.x
  none_later = throughout.none_brings p.lab G t p.a.n (client p.a.c) p.x (after_held.IsAfter p is no_reply) (after_held.TrustEachOther p is no_reply)
      (λ this sound holds up. after_held.step p is no_reply (record { H = G; t = t; this = this; sound = sound; up = up }) holds) number made_after (record {
        relay_trusts = so_far.hands.relay_trusts;
        client_trusts = so_far.hands.client_trusts;
        opened = so_far.hands.opened;
      })

  -- THE WHOLE SCHEDULE

  late_is : t.late ≡ held_from p.r.at p.of_host.held
  late_is = so_far.hands.late ∙ ap (λ (b : Bool). cond b (held_from p.r.at p.of_host.held) (held_from p.r.at p.of_host.held ++ p.x ∷ [])) so_far.full

  gives_held : GivesToHost p.a.n p.x t → Contains (held_from p.r.at p.of_host.held) p.x
  gives_held gives = by gives.packet where
    by : (t.handed ≡ Some p.x) ⊎ Contains t.late p.x → Contains (held_from p.r.at p.of_host.held) p.x
    by (inl over) = absurd (false≢true (ap (λ (o : Option (List ℕ)). is_some o) (sym so_far.hands.handed ∙ over)))
    by (inr late) = subst (λ (ys : List (List ℕ)). Contains ys p.x) late_is late

  pub none_but_held : Grown p.lab (later ++ r ∷ before) → AreFresh r later → (Contains (held_from p.r.at p.of_host.held) p.x → ⊥)
      → SomeIs (GivesToHost p.a.n p.x) later → ⊥
  none_but_held g fresh other come = by (one_of_parts (GivesToHost p.a.n p.x) so_far.rest t so_far.first
      (subst (SomeIs (GivesToHost p.a.n p.x)) so_far.split come)) where
        whole : Grown p.lab (so_far.rest ++ t ∷ G)
        whole = subst (Grown p.lab) (ap (λ (qs : List Full). qs ++ r ∷ before) so_far.split ∙ append_assoc so_far.rest (t ∷ so_far.first) (r ∷ before)) g

        by : SomeIs (GivesToHost p.a.n p.x) so_far.rest ⊎ (GivesToHost p.a.n p.x t ⊎ SomeIs (GivesToHost p.a.n p.x) so_far.first) → ⊥
        by (inl later_on) = none_later so_far.rest whole (fresh_then so_far.rest (subst (AreFresh r) so_far.split fresh)) later_on
        by (inr (inl then)) = other (gives_held then)
        by (inr (inr earlier_on)) = so_far.silent earlier_on

-- THE PACKET

-- in the record q after H the host of the native hands in the packet, which the client may test the native on, but holds as many of it as it may
pub record HeldAlone : Type 0 where
  pub p : Trio
  pub H : List Full
  pub q : Full
  pub later : List Full
  pub starts : IsStart p H q
  pub g : Grown p.lab (later ++ q ∷ H)
  pub fresh : AreFresh q later
  pub untrusted : is_trusted_at p.r.at p.of_host ≡ false
  pub full : holds_most p.of_host ≡ true

module _ (the : HeldAlone) where
  open the use {p, H, q, later, starts, g, fresh, untrusted, full}

  abbrev asks : Bool
  asks = must_ask H p.k p.a.own

  abbrev trusts : Bool
  trusts = is_trusted_at p.r.at p.of_host

  abbrev run : TrioRun
  run = record {
    p = p;
    before = H;
    r = q;
    total = most_deliveries asks;
    most = most_from_native trusts asks;
    bound = start.bound_is trusts asks;
  }

  course : Course run later
  course = start.carried p H q starts later g fresh

  -- it comes where it is one of those that are held
  pub comes : Contains (held_from p.r.at p.of_host.held) p.x → GivesInTime H q p.a.n p.x later (most_deliveries asks)
  comes held = subst (λ (b : Bool). GivesInTime H q p.a.n p.x later (most_from_native b asks)) untrusted
      (boards.in_time run later course (λ _ _. held))

  -- and else never
  pub never_comes : (Contains (held_from p.r.at p.of_host.held) p.x → ⊥) → SomeIs (GivesToHost p.a.n p.x) later → ⊥
  never_comes other = by course where
    by : Course run later → SomeIs (GivesToHost p.a.n p.x) later → ⊥
    by (on_way board) = board.silent full
    by (came so_far known (inl trusted)) = absurd (false≢true (sym untrusted ∙ trusted))
    by (came so_far known (inr few)) = absurd (false≢true (sym few ∙ full))
    by (parted so_far) = none_but_held run (start.is_trio p H q starts) starts.packet.no_reply later so_far g fresh other
