-- What a record leaves of what a client's phase says of its NAT.
use Rattle.theory_verdicts.proofs.Words.{AllByRecursion, Bool, Cone, Entry, EntryTellsWhereTo, Ep, HasServer, IfSome, Input, Ip6, IsActOf, IsBubbleTo, IsCarriedTo, IsEp, IsGiven, IsJournal, IsMadeInput, IsSending, Item, Journal, List, NatEntry, Option, Out, Outward, Phase, Qualification, Reaches, Restart, Send, Settings, Some, Turn, [], act_made, all_at, ap, armed, asks_at, asks_cone, asks_restricted, asks_secondary, begins, bubbles, by_way, bytes_of, carries, client, client_entry, client_is_there, client_journals, client_made, client_settings, cond, delivered, differs, each_is_later, each_send, ends, entry_input, false, false≢true, flags_word, forgotten, frame, from_its, from_of, hosted, input_of, is_answered, is_arrived, is_cone, is_qualified, is_same, is_same_origin, is_some, journal, nat_behind, nat_entries, nat_grows, node_at, now, origin_before, origin_given, origin_in, origin_is, outs_at, past_of_nat, phase_line, qualification, qualified_has_address, qualifies, refl, refreshes, renews, routes, says_nothing, server_asked, server_ep, set_up_past, six, slice_get, solicits, standing, subst, sym, tells_where_to, tests, ticks, true, turn_of, two_addresses, udp, unwrap_or, value_in, way_out, wire, with_entry, words, ℕ, ◌∙◌, ◌∷◌, ◌≡◌}
use Rattle.qualify.specs.Turns.{is_changed}
use Rattle.theory_verdicts.proofs.Members.{Has}
use Rattle.theory_verdicts.proofs.Opened.{IsNext}
use Rattle.theory_verdicts.proofs.Views.{View, counts_in, IsPastOf}
use Rattle.theory_verdicts.proofs.Adverts.{is_told, IsAdvertised, advertised}
use Rattle.theory_verdicts.proofs.SoundAdverts.{IsLetInAt, AdvertTold, After, told}
use Rattle.theory_verdicts.proofs.Sound.{IsSoundIn, stays_sound, untold}
use Rattle.theory_verdicts.proofs.Entries.{phase_next, kept_next, address_next}
use Rattle.theory_verdicts.proofs.Outs.{act_out, whose}
use Rattle.theory_verdicts.proofs.LetIn.{view_of, at_its_nat, one_client}
use Rattle.theory_verdicts.proofs.Scenes.{IsSound, as_expected, Scene, IsCalm, IsToldAt}
use Rattle.theory_verdicts.proofs.Journals.{client_does}
use Rattle.theory_verdicts.proofs.Phases.{address_then, kept_then}

module _ (scene : Scene) where
  open scene use {place, H, r}
  open place use {lab, n, c}

  abbrev s : Settings
  s = client_settings lab.topology c

  abbrev q : Qualification
  q = standing lab H n c

  pub past_before : IsPastOf (view_of lab H c)
  past_before = set_up_past lab H c.nat scene.grown.1

  pub past_after : IsPastOf (view_of lab (r ∷ H) c)
  past_after = set_up_past lab (r ∷ H) c.nat scene.grown

  has_server : HasServer lab.topology c
  has_server = client_is_there.server_of lab.topology n c place.is place.there

  -- what the record adds to the NAT's history
  next : IsCalm lab H r n c → IsNext (view_of lab H c) (nat_entries lab c.nat r) r.moment
  next calm = record { later = each_is_later lab H r scene.grown; past = past_after; spared = calm.spared }

  -- a datagram of that inside endpoint is the client's own
  pub own_record : (d : Outward) → Has (nat_entries lab c.nat r) (Out d) → Has (counts_in (view_of lab (r ∷ H) c)) d → d.inside ≡ c.inside → r.node ≡ Some n
  own_record d new counts left =
      let w = whose lab r c.nat (nat_entries lab c.nat r) d place.flat (nat_grows lab H r c.nat scene.grown.0) new in
      let at : node_at lab.topology w.number ≡ Some (client w.row) = client_is_there.node lab.topology w.number w.row w.there in
      ap_node w.number w.node (one_client place (r ∷ H) past_after d counts left w.number at w.behind
      (sym left ∙ w.sender))
    where
      ap_node : (k : ℕ) → r.node ≡ Some k → k ≡ n → r.node ≡ Some n
      ap_node k e same = e ∙ ap (λ (x : ℕ). Some x) same

  -- A RECORD THAT LEAVES THE CLIENT AS IT WAS

  -- what the phase says stays so
  pub left_alone : IsCalm lab H r n c → journal n (r ∷ H) ≡ journal n H
      → ((d : Outward) → Has (nat_entries lab c.nat r) (Out d) → Has (counts_in (view_of lab (r ∷ H) c)) d → d.inside ≡ c.inside → ⊥) → IsSound lab H n c
      → IsSound lab (r ∷ H) n c
  left_alone calm same none i =
      subst (λ (j : Journal). IsSoundIn (view_of lab (r ∷ H) c) c.cone_try (qualification s j).phase (qualification s j).kept (qualification s j).address)
      (sym same)
      (stays_sound (next calm) c.cone_try q.kept q.address q.phase calm.server_open
      (λ _ d new counts left. absurd (none d new counts left)) i)

  -- A RECORD OF THE CLIENT

  module _ {e : Entry} (act : IsActOf lab H r n (client c) e) where
    is_journal : IsJournal s (with_entry (journal n H) e)
    is_journal = subst (IsJournal s) act.later (client_journals lab (r ∷ H) n c scene.grown place.there).journal

    before_is_journal : IsJournal s (journal n H)
    before_is_journal = (client_journals lab H n c scene.grown.1 place.there).journal

    -- a datagram that was let in
    of_item : (adv : IsAdvertised s q e) (number : ℕ) (x : Item) → slice_get (wire H) number ≡ Some x → Reaches lab H (now H) x n (client c)
        → e.input ≡ input_of x → r.moment ≡ now H → IsToldAt lab H r n c e
    of_item adv number (udp src dst bytes) at goes same moment =
        let came = sym same ∙ adv.came in
        let source : src ≡ adv.from = ap (from_of src) came in
        let all : bytes ≡ adv.bytes = ap bytes_of came in
        let its = from_its lab.topology c q src (source ∙ adv.source) in
        let tells : EntryTellsWhereTo lab c (udp src dst bytes) = all_at (EntryTellsWhereTo lab c) (wire H) number (udp src dst bytes)
        (tells_where_to lab H n c place.is scene.grown.1 place.listed scene.honest) at in
        let to : origin_in (value_in bytes).lead ≡ Some dst = tells its
        (ap (λ (z : List ℕ). is_some (value_in z).lead.auth) all ∙ adv.auth) in
        let given : origin_in (value_in adv.bytes).lead ≡ Some dst = ap (λ (z : List ℕ). origin_in (value_in z).lead) (sym all) ∙ to in
        let input : IsMadeInput (input_of (udp src dst bytes)) = subst IsMadeInput same
        (act_made (record { lab = lab; before = H; full = r; is = place.is; grown = scene.grown }) n (client c) e act).input in
        record {
          dst = dst;
          made = subst (λ (o : Option Ep). IfSome o IsEp) to (origin_is bytes input.1);
          let_in = subst (λ (x : Ep). IsLetInAt (view_of lab H c) x dst) (source ∙ adv.source) (at_its_nat lab H src dst c place.flat goes);
          origin = ap (λ (i : Input). origin_given i) adv.came ∙ given;
          phase = ap (λ (o : Option Ep). phase_line q.phase (is_same_origin o (origin_before q q.phase))) (sym given) ∙ adv.phase;
          quiet = adv.quiet;
          moment = moment;
        }
    of_item adv number (six to bytes) at goes same moment = absurd (false≢true (ap is_arrived (sym same ∙ adv.came)))

    entry_given : e.input ≡ act.input
    entry_given = ap (λ (z : Entry). z.input) act.step ∙ entry_input lab H r.moment n act.dst act.input (client c)

    of_given : IsAdvertised s q e → IsGiven lab H r n (client c) act.dst act.input → IsToldAt lab H r n c e
    of_given adv (delivered number x by at goes moment to is_x) = of_item adv number x at (routes lab H (now H) x n (client c) goes)
        (entry_given ∙ is_x) moment
    of_given adv (hosted v z hands none moment to is_z) = absurd (false≢true (ap is_arrived (sym (entry_given ∙ is_z) ∙ adv.came)))
    of_given adv (ticks d due at none moment to is_d) = absurd (false≢true (ap is_arrived (sym (entry_given ∙ is_d) ∙ adv.came)))

    pub is_told_at : is_told (turn_of e) ≡ true → IsToldAt lab H r n c e
    is_told_at t =
        let did : e ≡ client_entry s (journal n H) r.moment act.input (words lab n H) = act.step ∙ client_does lab H r.moment n act.dst c act.input in
        let adv : IsAdvertised s q (client_entry s (journal n H) r.moment act.input (words lab n H)) = advertised s
        (journal n H) r.moment act.input (words lab n H) (subst (λ (z : Entry). is_told (turn_of z) ≡ true) did t) in
        of_given (subst (λ (z : Entry). IsAdvertised s q z) (sym did) adv) act.is_given

    -- an advertisement
    unchanged : e.step.sends ≡ [] → past_of_nat lab (r ∷ H) c ≡ past_of_nat lab H c
    unchanged none =
        let passed : r.passed ≡ [] = act.passed ∙ ap (λ (xs : List Send).
        (by_way lab H r.moment (way_out lab.chain c.nat) c.inside (armed H) 0 [] xs).passed) none in
        (frame lab H r).silent c.nat (ap (outs_at c.nat) passed) (ap (λ (b : Bool). cond b (Restart ∷ []) (forgotten lab r.asked)) act.still ∙ act.lasting)

    same_view : (p : List NatEntry) (m : ℕ) → p ≡ past_of_nat lab H c → m ≡ now H
        → record { nat = nat_behind lab c; past = p; moment = m; inside = c.inside; server = asks_at lab c } ≡ view_of lab H c
    same_view p m past moment = cc

    -- what holds of the entry's turn holds after the record
    entry_then : (v : View) → IsSoundIn v c.cone_try (unwrap_or (begins (turn_of e)) q.phase) (kept_then q.phase (turn_of e) (origin_given e.input) q.kept)
        (address_then s q.phase (turn_of e) (flags_word s e.words) (origin_given e.input) q.address)
        → IsSoundIn v c.cone_try (qualification s (journal n (r ∷ H))).phase (qualification s (journal n (r ∷ H))).kept
        (qualification s (journal n (r ∷ H))).address
    entry_then v i =
        subst (λ (j : Journal). IsSoundIn v c.cone_try (qualification s j).phase (qualification s j).kept (qualification s j).address) (sym act.later)
        (subst (λ (z : Phase). IsSoundIn v c.cone_try z (qualification s (with_entry (journal n H) e)).kept
        (qualification s (with_entry (journal n H) e)).address) (sym (phase_next s (journal n H) e))
        (subst (λ (z : Option Ep). IsSoundIn v c.cone_try (unwrap_or (begins (turn_of e)) q.phase) z (qualification s (with_entry (journal n H) e)).address)
        (sym (kept_next s (journal n H) e))
        (subst (λ (z : Option Ip6). IsSoundIn v c.cone_try (unwrap_or (begins (turn_of e)) q.phase)
        (kept_then q.phase (turn_of e) (origin_given e.input) q.kept) z) (sym (address_next s (journal n H) e)) i)))

    -- what it told
    of_advert : IsToldAt lab H r n c e → IsSound lab H n c → IsSound lab (r ∷ H) n c
    of_advert t i =
        let w = flags_word s e.words in
        let the : AdvertTold = record {
          s = s;
          v = view_of lab H c;
          b = c.cone_try;
          primary = (client_made lab.topology n c place.is place.there).primary;
          apart = two_addresses lab c place.is has_server;
          asks = refl;
          p = past_before;
          dst = t.dst;
          is_ep = t.made;
        } in
        let after = told the w q (is_cone q) q.phase i
        (as_expected s q (view_of lab H c) t.dst t.let_in) {same = (is_same_origin (Some t.dst) (origin_before q q.phase))} refl in
        let by_fate = subst (After the w q.phase q.kept q.address) t.phase after in
        let by_input = subst (λ (o : Option Ep). IsSoundIn (view_of lab H c) c.cone_try (unwrap_or (begins (turn_of e)) q.phase)
        (kept_then q.phase (turn_of e) o q.kept) (address_then s q.phase (turn_of e) w o q.address)) (sym t.origin) by_fate in
        entry_then (view_of lab (r ∷ H) c) (subst (λ (v : View). IsSoundIn v c.cone_try (unwrap_or (begins (turn_of e)) q.phase)
        (kept_then q.phase (turn_of e) (origin_given e.input) q.kept) (address_then s q.phase (turn_of e) w (origin_given e.input) q.address))
        (sym (same_view (past_of_nat lab (r ∷ H) c) r.moment (unchanged t.quiet) t.moment)) by_input)

    -- in phase Cone a client asks its server's primary address alone
    to_primary : (u : Turn) → is_told u ≡ false → server_asked s (unwrap_or (begins u) Cone) ≡ asks_at lab c
    to_primary u h = by u h where
      by : (u : Turn) → is_told u ≡ false → server_asked s (unwrap_or (begins u) Cone) ≡ server_ep s.primary
      by asks_cone h = refl
      by asks_restricted h = refl
      by asks_secondary h = refl
      by ends h = refl
      by refreshes h = refl
      by (qualifies cone) h = absurd (false≢true (sym h))
      by is_answered h = absurd (false≢true (sym h))
      by differs h = absurd (false≢true (sym h))
      by is_same h = refl
      by is_changed h = absurd (false≢true (sym h))
      by renews h = refl
      by says_nothing h = refl

    -- it has no address then
    no_address : q.phase ≡ Cone → (own : Ip6) → q.address ≡ Some own → ⊥
    no_address cone own has = false≢true (sym (ap is_qualified cone) ∙ sym (qualified_has_address s (journal n H) before_is_journal)
        ∙ ap (λ (o : Option Ip6). is_some o) has)

    -- so its datagrams are solicitations, and go there
    one_send : q.phase ≡ Cone → is_told (turn_of e) ≡ false → (x : Send)
        → IsSending s q (qualification s (with_entry (journal n H) e)).phase e.peer (IsBubbleTo e) (IsCarriedTo (journal n H) e) x → x.to ≡ asks_at lab c
    one_send cone h x (solicits nonce same) = ap (λ (z : Send). z.to) same
        ∙ ap (server_asked s) (phase_next s (journal n H) e ∙ ap (unwrap_or (begins (turn_of e))) cone) ∙ to_primary (turn_of e) h
    one_send cone h x (bubbles own p to has peer goes same) = absurd (no_address cone own has)
    one_send cone h x (tests own p nonce has peer same) = absurd (no_address cone own has)
    one_send cone h x (carries to bytes own goes same) = absurd (no_address cone _ own.source)

    all_sends : q.phase ≡ Cone → is_told (turn_of e) ≡ false → (xs : List Send)
        → AllByRecursion (IsSending s q (qualification s (with_entry (journal n H) e)).phase e.peer (IsBubbleTo e) (IsCarriedTo (journal n H) e)) xs
        → AllByRecursion (λ (x : Send). x.to ≡ asks_at lab c) xs
    all_sends cone h [] a = tt
    all_sends cone h (x ∷ xs) a = (one_send cone h x a.0, all_sends cone h xs a.1)

    -- any other entry
    of_rest : IsCalm lab H r n c → is_told (turn_of e) ≡ false → IsSound lab H n c → IsSound lab (r ∷ H) n c
    of_rest calm h i =
        let stays : IsSoundIn (view_of lab (r ∷ H) c) c.cone_try q.phase q.kept q.address = stays_sound (next calm) c.cone_try q.kept q.address q.phase calm.server_open
        (λ cone d new counts left. act_out (λ (x : Ep). x ≡ asks_at lab c) (record { lab = lab; past = H; full = r; number = n; row = c; entry = e; act = act })
        c.nat d
        (all_sends cone h e.step.sends (each_send s (journal n H) e is_journal)) new) i in
        entry_then (view_of lab (r ∷ H) c) (untold (record {
          s = s;
          v = view_of lab (r ∷ H) c;
          b = c.cone_try;
          u = turn_of e;
          w = flags_word s e.words;
          o = origin_given e.input;
          k = q.kept;
          a = q.address;
          h = h;
        }) q.phase stays)

    pub of_client : IsCalm lab H r n c → IsSound lab H n c → IsSound lab (r ∷ H) n c
    of_client calm i = by (is_told (turn_of e)) refl where
      by : (b : Bool) → is_told (turn_of e) ≡ b → IsSound lab (r ∷ H) n c
      by true h = of_advert (is_told_at h) i
      by false h = of_rest calm h i
