-- `away`: the receiver isn't qualified and stays so throughout a fresh schedule, in which no datagram has a nonce. So its host is handed nothing.
use Rattle.theory_reaching.proofs.Words.{AllByRecursion, AwayBringsNothing, Bool, ClientNode, Delivery, Entry, Full, GivesToHost, Grown, HandsIn, IsReached, IsTopology, Item, Journal, Lab, List, Made, NativeNode, Node, None, Option, Qualification, Reach, Settings, Some, SomeBrings, ap, arith, between_clients_row, client, client_settings, cond, deliveries, dst_of, entry_of, false, false≢true, filter_map, first_is, input_of, is_on, is_qualified, is_some, item_in, items_of, journal, keeps_still, nat, nat_tests, native, node_at, option_and_then, other_journal, part_of, qualification, reach_between, reach_of, refl, relay, relayed, same_number, server, six, slice_get, subst, sym, to_node, true, two_clients, udp, unwrap_or, wire, words, ℕ, ◌==◌, ◌∙◌, ◌∷◌, ◌≡◌}
use Rattle.legal.specs.Deliveries.{to_nobody}
use Rattle.theory_settled.proofs.Earlier.{earlier}
use Rattle.theory_reaching.specs.declared.word.Reach.TheVariants as word
use Rattle.theory_reaching.proofs.no_address.NoncelessItems.{IsNonceless, of_delivery, of_client_host, of_native_host}
use Rattle.theory_reaching.proofs.no_address.OffHost.{its_act}
use Rattle.theory_reaching.proofs.no_address.OffAndAway.{is_away, away_between, away_to, away_from}
use Rattle.theory_reaching.proofs.Pairs.{SaidBy, between_clients, to_native, from_native, said_by}
use Rattle.theory_reaching.proofs.entries.StaysOff.{IsMute, stays_mute}
use Rattle.theory_reaching.proofs.schedules.Throughout.{Goes, none_brings, OneDelivery}
use Rattle.theory_reaching.proofs.to_native.Unanswered.{brings_nothing}

-- THE RECEIVER

-- a client of a topology that keeps its rules
pub record ClientThere : Type 0 where
  pub lab : Lab
  pub rules : IsTopology lab.topology
  pub m : ℕ
  pub d : ClientNode
  pub there : node_at lab.topology m ≡ Some (client d)

module _ (client_there : ClientThere) where
  open client_there use {lab, rules, m, d, there}

  abbrev s : Settings
  s = client_settings lab.topology d

  abbrev IsOff : List Full → Type 0
  IsOff G = is_on lab G m d ≡ false

  -- what it does with an entry
  abbrev done : List Full → Full → Item → Entry
  done G p y = entry_of lab G p.moment m (dst_of y) (input_of y) (client d)

  mute : (G : List Full) (p : Full) (y : Item) → IsNonceless y → IsOff G → IsMute (done G p y).step
  mute G p (udp src dst bytes) none off = stays_mute s (journal m G) p.moment src bytes (words lab m G) off none
  mute G p (six to bytes) none off = record { turn = refl; handed = refl; late = refl }

  -- A DELIVERY

  module _ (this : OneDelivery lab) (none : IsNonceless this.y) (off : IsOff this.G) where
    open this use {G, p, y}

    -- to it
    at_it : IsReached lab G p m (client d) y → (z : List ℕ) → IsOff (p ∷ G) × (GivesToHost m z p → ⊥)
    at_it reached z =
        let is = mute G p y none off in (
          ap (λ (j : Journal). is_qualified (qualification s j).phase) reached.act.later
              ∙ ap (λ (u : Qualification). is_qualified u.phase) (keeps_still s (journal m G) (done G p y) is.turn) ∙ off,
          λ gives. brings_nothing p m z (reached.act.handed ∙ ap (option_and_then (part_of (done G p y).input)) is.handed)
              (reached.act.late ∙ is.late) gives,
        )

    -- or elsewhere
    elsewhere : (i : ℕ) (a : Node) → IsReached lab G p i a y → (i ≡ m → ⊥) → (z : List ℕ) → IsOff (p ∷ G) × (GivesToHost m z p → ⊥)
    elsewhere i a reached apart z = (
      ap (λ (j : Journal). is_qualified (qualification s j).phase) (reached.others m (λ same. apart (sym same))) ∙ off,
      λ gives. apart (ap (λ (o : Option ℕ). unwrap_or o i) (sym reached.act.node ∙ gives.node)),
    )

    stays : (i : ℕ) (a : Node) → IsReached lab G p i a y → (z : List ℕ) → IsOff (p ∷ G) × (GivesToHost m z p → ⊥)
    stays i a reached z = by (i == m) refl where
      by : (b : Bool) → (i == m) ≡ b → IsOff (p ∷ G) × (GivesToHost m z p → ⊥)
      by true e =
          let same : i ≡ m = grind (arith, nat_tests) in
          let here : IsReached lab G p m a y = subst (λ (k : ℕ). IsReached lab G p k a y) same reached in
          let its : a ≡ client d = ap (λ (o : Option Node). unwrap_or o a) (sym here.act.there ∙ there) in
          at_it (subst (λ (b : Node). IsReached lab G p m b y) its here) z
      by false e = elsewhere i a reached (λ same. let it : (i == m) ≡ true = grind (arith, nat_tests) in false≢true (sym e ∙ it)) z

  step : (z : List ℕ) (this : OneDelivery lab) → IsNonceless this.y → IsOff this.G → (q : Full) (H : List Full)
      → Goes lab H q m (client d) z IsNonceless IsOff this.G this.p
  step z this none off q H = by (deliveries lab this.G this.p this.serial this.g this.delivered) where
    same_item : (u : Item) → slice_get (wire this.G) this.serial ≡ Some u → this.y ≡ u
    same_item u e = ap (λ (o : Option Item). unwrap_or o this.y) (sym this.at ∙ e)

    by : Delivery lab this.G this.p this.serial → Goes lab H q m (client d) z IsNonceless IsOff this.G this.p
    by (to_node i a u e reached) =
        let its : IsReached lab this.G this.p i a this.y = subst (IsReached lab this.G this.p i a) (sym (same_item u e)) reached in
        let holds = stays this none off i a its z in
        record { made = of_delivery (record { lab = lab; rules = rules; G = this.G; p = this.p; g = this.g }) i a this.y none its; stays = holds.0; silent = holds.1 }
    by (to_nobody u e miss) = record {
      made = subst (λ (ms : List Made). AllByRecursion IsNonceless (filter_map item_in ms)) (sym miss.made) tt;
      stays = ap (λ (j : Journal). is_qualified (qualification s j).phase) (miss.journals m) ∙ off;
      silent = λ gives. brings_nothing this.p m z miss.handed miss.late gives;
    }

-- THE SENDER

-- no word is on a node and itself
module _ (lab : Lab) (H : List Full) (n : ℕ) (said : Reach) where
  nothing : None ≡ Some said → ⊥
  nothing e = false≢true (ap (λ (o : Option Reach). is_some o) e)

  not_itself : (a : Node) → reach_between lab H n n (Some a) (Some a) ≡ Some said → ⊥
  not_itself (server a) e = nothing e
  not_itself (nat a) e = nothing e
  not_itself (client c) e =
      nothing (sym (ap (λ (b : Bool). cond b None (Some (between_clients_row (two_clients lab H n n c c)))) (same_number n)) ∙ e)
  not_itself (relay a) e = nothing e
  not_itself (native h) e = nothing e

  apart : (a : Node) → node_at lab.topology n ≡ Some a → reach_of lab H n n ≡ Some said → ⊥
  unfolding reach_of
  apart a at e = not_itself a (subst (λ (o : Option Node). reach_between lab H n n o o ≡ Some said) at e)

module _ (lab : Lab) (rules : IsTopology lab.topology) (H : List Full) (q : Full) (n : ℕ) (x : List ℕ) (g : Grown lab (q ∷ H))
    (hands : HandsIn q n x) where
  -- what its record makes has no nonce
  of_client : (c : ClientNode) → node_at lab.topology n ≡ Some (client c) → AllByRecursion IsNonceless (items_of q)
  of_client c at =
      let is = its_act lab H q n (client c) x g.0 at hands in
      of_client_host (record { lab = lab; rules = rules; G = H; p = q; g = g }) n c is.0 x is.1 is.2

  of_native : (h : NativeNode) → node_at lab.topology n ≡ Some (native h) → AllByRecursion IsNonceless (items_of q)
  of_native h at =
      let is = its_act lab H q n (native h) x g.0 at hands in
      of_native_host (record { lab = lab; rules = rules; G = H; p = q; g = g }) n h is.0 is.1

-- THE WORD

pub away_brings_nothing : AwayBringsNothing
unfolding two_clients relayed
away_brings_nothing lab H rules q later n m a d x y g at to said hands fresh = by (said_by (record { lab = lab; H = H; n = n; m = m; said = word.Away }) a (client d) at to said) where
  there : Grown lab (q ∷ H)
  there = earlier lab later (q ∷ H) g

  others : n ≡ m → ⊥
  others same = apart lab H n word.Away a at (subst (λ (k : ℕ). reach_of lab H n k ≡ Some word.Away) (sym same) said)

  none : is_on lab H m d ≡ false → AllByRecursion IsNonceless (items_of q) → SomeBrings m (client d) y later → ⊥
  none off all = none_brings lab H q m (client d) y IsNonceless (λ (G : List Full). is_on lab G m d ≡ false)
      (λ this sound is still. step (record { lab = lab; rules = rules; m = m; d = d; there = to }) y this is still q H)
      (first_is lab H q there) all
      (ap (λ (j : Journal). is_qualified (qualification (client_settings lab.topology d) j).phase)
      (other_journal lab H q n m hands.node others) ∙ off) later g fresh

  -- it is the client of the line
  its : (c : ClientNode) → client d ≡ client c → is_on lab H m c ≡ false → is_on lab H m d ≡ false
  its c same off = subst (λ (z : Node). IsOffNode z) (sym same) off where
    IsOffNode : Node → Type 0
    IsOffNode (client z) = is_on lab H m z ≡ false
    IsOffNode _ = Unit {0}

  by : SaidBy lab H n m a (client d) word.Away → SomeBrings m (client d) y later → ⊥
  by (between_clients c e f same w) = none (its e same (away_between (two_clients lab H n m c e) (ap is_away w)))
      (of_client lab rules H q n x there hands c (at ∙ ap (λ (z : Node). Some z) f))
  by (to_native c h r f same through w) = absurd (away_to (relayed lab H n c h r) (ap is_away w))
  by (from_native h c r f same through w) = none (its c same (away_from (relayed lab H m c h r) (ap is_away w)))
      (of_native lab rules H q n x there hands h (at ∙ ap (λ (z : Node). Some z) f))
