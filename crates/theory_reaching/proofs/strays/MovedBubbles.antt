-- `moved` of bubbles: a client whose bubbles for another one leave from elsewhere than its address says. Both are strays, so nothing comes of
-- them, and the packet that waits stays where it is.
use Rattle.theory_reaching.proofs.Words.{AllByRecursion, Bool, Crossing, Did, Ep, Err, Ip4, Ip6, IsHandedIn, List, Made, MovedBubbles, NatRefusal, Ok, Passing, Result, Send, [], address_at, address_is, and_parts, and_right, ap, armed, asks_at, both_bubbles, bubbles_stray, by_way, client, client_settings, crossing, crossing_unless, direct_bubble, embedded, entry_of, false, false≢true, fields_in, filter_map, has_cone, has_symmetric, indirect_bubble, is_at_place, is_elsewhere, is_fresh, is_from, is_teredo, item_in, items_of, journal, known_by, marked, nat_pasts, nats_of, no_ep, not, now, or_loss, or_parts, own_address, qualification, refl, same_ep, server_ep, server_in, set_up_past, speaks_to, strays_to, subst, sym, true, way_to, words, ℕ, ◌&&◌, ◌∙◌, ◌∷◌, ◌≡◌}
use Rattle.teredo_node.specs.Journal.{given}
use Rattle.legal.proofs.NatPasts as nat_past
use Rattle.theory_settled.proofs.Earlier.{earlier}
use Rattle.theory_first_packets.proofs.HandedIn as handed_in
use Rattle.theory_reaching.proofs.Tests.{failed}
use Rattle.theory_reaching.proofs.entries.BubblesOut.{of_bubbles}
use Rattle.theory_reaching.proofs.strays.Gone.{IsGoneItem, none_come}
use Rattle.theory_reaching.proofs.strays.SameSource.{same_source, was_given}
use Rattle.theory_reaching.proofs.strays.BubbleAstray as bubble
use Rattle.theory_reaching.proofs.strays.BubbleAstray.{Bubbling}

module _ (the : Bubbling) where
  open the use {lab, H, q, n, m, c, d, x, is}

  abbrev own : Ip6
  own = address_at lab H n

  abbrev other : Ip6
  other = address_at lab H m

  -- WHERE THEY LEAVE

  abbrev there : Ep
  there = embedded other

  abbrev server : Ep
  server = server_ep (server_in other)

  abbrev way : List ℕ
  way = nats_of lab c

  parts : (strays_to lab H c own there ≡ true) × ((not (has_symmetric lab c) && not (speaks_to lab H c own (asks_at lab d))) ≡ true)
  unfolding bubbles_stray
  parts = and_parts (strays_to lab H c own there) (not (has_symmetric lab c) && not (speaks_to lab H c own (asks_at lab d))) is.strays

  plain_and_mute : (not (has_symmetric lab c) ≡ true) × (not (speaks_to lab H c own (asks_at lab d)) ≡ true)
  plain_and_mute = and_parts (not (has_symmetric lab c)) (not (speaks_to lab H c own (asks_at lab d))) parts.1

  mute : speaks_to lab H c own server ≡ false
  mute = ap (λ (ip : Ip4). speaks_to lab H c own (server_ep ip)) (bubble.told_there the).of.server_is
      ∙ failed (speaks_to lab H c own (asks_at lab d)) plain_and_mute.1

  straight_away : (src : Ep) → (way_to lab H c there).leaves ≡ Ok src → same_ep src (embedded own) ≡ false
  unfolding strays_to
  straight_away src leaves = failed (same_ep src (embedded own)) (sym (ap (is_elsewhere (embedded own)) leaves) ∙ parts.0)

  never_refused : (why : NatRefusal) → (way_to lab H c there).leaves ≡ Err why → ⊥
  unfolding strays_to
  never_refused why refused = false≢true (sym (ap (is_elsewhere (embedded own)) refused) ∙ parts.0)

  indirect_away : (src : Ep) → (way_to lab H c server).leaves ≡ Ok src → same_ep src (embedded own) ≡ false
  unfolding speaks_to
  indirect_away src leaves = sym (ap (is_from (embedded own)) leaves) ∙ mute

  -- WHAT THE RECORD MAKES

  abbrev AreGone : List Made → Type 0
  AreGone ms = AllByRecursion (IsGoneItem lab) (filter_map item_in ms)

  abbrev crossed : Ep → List Passing → Crossing
  crossed dst passed = crossing lab.topology (nat_pasts lab H) (now H) dst way c.inside passed

  past : (k : ℕ) → nat_past.Past lab H (now H) k []
  past k = set_up_past lab H k is.grown.1

  -- the bubble to the server, after these
  then_indirect : (fails : Bool) (passed : List Passing) → ((k : ℕ) → nat_past.Past lab H (now H) k passed)
      → ((src : Ep) → (crossed server passed).leaves ≡ Ok src → same_ep src (embedded own) ≡ false)
      → AreGone (marked (indirect_bubble own other) (or_loss fails (crossing_unless fails lab H (now H) server way c.inside passed).leaves) ∷ [])
  then_indirect true passed pasts away = tt
  then_indirect false passed pasts away = by (crossed server passed).leaves refl where
    by : (r : Result Ep NatRefusal) → (crossed server passed).leaves ≡ r → AreGone (marked (indirect_bubble own other) (or_loss false r) ∷ [])
    by (Ok src) at = (bubble.item the src server (away src at) (record { before = passed; pasts = pasts; leaves = at }), tt)
    by (Err why) at = tt

  -- both
  abbrev Straight : Bool → Crossing
  Straight fails = crossing_unless fails lab H (now H) there way c.inside []

  two : (fails fails_then : Bool) → AreGone (marked (direct_bubble own other there) (or_loss fails (Straight fails).leaves)
      ∷ marked (indirect_bubble own other) (or_loss fails_then (crossing_unless fails_then lab H (now H) server way c.inside (Straight fails).passed).leaves)
      ∷ [])
  two true fails_then = then_indirect fails_then [] past indirect_away
  two false fails_then = by (way_to lab H c there).leaves refl where
    passed : List Passing
    passed = (way_to lab H c there).passed

    by : (r : Result Ep NatRefusal) → (way_to lab H c there).leaves ≡ r → AreGone (marked (direct_bubble own other there) (or_loss false r)
        ∷ marked (indirect_bubble own other)
        (or_loss fails_then (crossing_unless fails_then lab H (now H) server way c.inside (way_to lab H c there).passed).leaves) ∷ [])
    by (Ok src) at = (
      bubble.item the src there (straight_away src at) (record { before = []; pasts = past; leaves = at }),
      then_indirect fails_then (way_to lab H c there).passed pasts (λ next e.
          subst (λ (u : Ep). same_ep u (embedded own) ≡ false) (sym (same_source lab H (now H) server way c.inside src next
          (way_to lab H c there).passed (failed (has_symmetric lab c) plain_and_mute.0) pasts
          (was_given lab H (now H) there way c.inside src [] at) e)) (straight_away src at)),
    ) where
      pasts : (k : ℕ) → nat_past.Past lab H (now H) k (way_to lab H c there).passed
      pasts k = nat_past.crossed lab H (now H) k way there c.inside [] (past k)
    by (Err why) at = absurd (never_refused why at)

  abbrev made_of : List Send → List Made
  made_of xs = (by_way lab H (now H) way c.inside (armed H) 0 [] xs).made

  of_both : (cone : Bool) → AreGone (made_of (both_bubbles cone own other))
  of_both true = then_indirect (is_at_place 0 (armed H)) [] past indirect_away
  of_both false = two (is_at_place 0 (armed H)) (is_at_place 1 (armed H))

  is_handed_in : IsHandedIn lab H q n (client c) x
  is_handed_in = record { rules = is.rules; grown = is.grown; there = is.at; own = own; other = other; handed = is.handed }

  did : Did lab H q n (client c) (entry_of lab H (now H) n no_ep (given x) (client c))
  did = handed_in.did lab H q n (client c) x is_handed_in

  goes : (fields_in x).dst ≡ other
  goes = is.handed.packet.destination

  own_is : own_address (qualification (client_settings lab.topology c) (journal n H)) ≡ own
  own_is = address_is (client_settings lab.topology c) (journal n H) own (bubble.its the).0

  all : AllByRecursion (IsGoneItem lab) (items_of q)
  all = subst AreGone (sym did.made) (of_bubbles (record {
    s = client_settings lab.topology c;
    j = journal n H;
    n = now H;
    x = x;
    w = words lab n H;
    is_one = is.handed.packet.packet;
    teredo = ap is_teredo goes ∙ (bubble.theirs the).1;
    stale = ap (λ (p : Ip6). is_fresh (now H) (known_by H n p)) goes ∙ is.stale;
    plain = ap (λ (p : Ip6). is_teredo p && has_cone p) goes ∙ and_right (is_teredo other) (has_cone other) is.plain;
  })
      (λ (xs : List Send). AreGone (made_of xs)) tt
      (subst (λ (p : Ip6). AreGone (made_of (both_bubbles (has_cone p) p (fields_in x).dst))) (sym own_is)
      (subst (λ (p : Ip6). AreGone (made_of (both_bubbles (has_cone own) own p))) (sym goes) (of_both (has_cone own)))))

pub of_bubbling : MovedBubbles
of_bubbling lab H q later n m c d x is g at to on there distant strays sent fresh =
    none_come (record {
      lab = lab;
      H = H;
      q = q;
      rules = is;
      number = handed_in.number lab H q n (client c) x (is_handed_in the);
      all = all the;
    }) m (client d) x later g fresh where
      both : (is_fresh (now H) (known_by H n (address_at lab H m)) ≡ false) × (has_cone (address_at lab H m) ≡ false)
      both = or_parts (is_fresh (now H) (known_by H n (address_at lab H m))) (has_cone (address_at lab H m)) distant

      the : Bubbling
      the = record {
        lab = lab;
        H = H;
        q = q;
        n = n;
        m = m;
        c = c;
        d = d;
        x = x;
        is = record {
          rules = is;
          grown = earlier lab later (q ∷ H) g;
          at = at;
          to = to;
          on = on;
          there = there;
          stale = both.0;
          plain = both.1;
          strays = strays;
          handed = sent.handed;
        };
      }
