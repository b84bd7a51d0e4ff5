-- A delivery to a native host eases.
use Rattle.theory_storms.proofs.Words.{Bool, Fields, IsReply, Item, List, Made, Message, NativeNode, None, Option, Some, TopologyState, [], and_parts, ap, arith, cond, each_is_reply, eases_request, entry_weight, eqb-true, false, fields_in, host_relay, inl, inr, is_eased, is_echo_reply, is_echo_request, is_global6, is_of_relay, is_teredo, is_trusted_for, items_of, message_in, native, native_in, native_made, packet_weight, refl, relay_for, relay_trusts, six, sum_by, sum_by-cons, sym, true, trusted_by, udp, ℕ, ◌&&◌, ◌==◌, ◌∙◌, ◌≡◌, ◌≤◌, ◌⊎◌}
use Rattle.theory_storms.proofs.NewItems.{items_in}
use Rattle.theory_storms.proofs.others.Natives.{IsReplyBack, reads_back}
use Rattle.theory_storms.proofs.others.ServersLighten.{MakesLess, native_makes_less}
use Rattle.theory_storms.proofs.EasedWeights.{eased_most, eased_under, weighs_less}
use Rattle.theory_storms.proofs.relays.Hosts.{relay_of_host}
use Rattle.theory_storms.proofs.clients.TrustedClients.{packet_lines}
use Rattle.theory_storms.proofs.Reached.{Weighing, topology_of, after, Comes, weigh_after, NodeEases}
use Rattle.theory_storms.proofs.others.NodesEase.{nothing_made, plainly}

-- a request that weighs 6 has a Teredo source
abbrev lines : (request reply teredo global : Bool) → ℕ
lines request reply teredo global = cond (false && reply) 5 (cond false 12 (cond (request && teredo) 6 (cond (request && global) 2 1)))

from_teredo : (request reply teredo global : Bool) → lines request reply teredo global ≡ 6 → teredo ≡ true
from_teredo request reply true global e = refl
from_teredo true reply false true e = absurd (omega (arith, e))
from_teredo true reply false false e = absurd (omega (arith, e))
from_teredo false reply false global e = absurd (omega (arith, e))

module _ (s : Weighing) (n : ℕ) (b : NativeNode) where
  abbrev t : TopologyState
  t = topology_of s

  abbrev Eases : Item → Type 0
  Eases x = NodeEases s n (native b) x

  -- its relay trusts the client
  trusted : (p : Fields) → host_relay t p.dst ≡ Some b.relay → is_trusted_for t s.before p.dst p.src ≡ true → relay_trusts t (after s) b.relay p.src ≡ true
  unfolding is_trusted_for
  trusted p of knows = s.lasts b.relay p.src (ap (trusted_by t s.before p.src) (sym of) ∙ knows)

  made_one : {to : Option ℕ} {bytes y : List ℕ} → Comes s n (native b) (six to bytes) → (native_in bytes).packet ≡ Some y
      → (f : Item → ℕ) → sum_by f (items_of s.full) ≡ f (six (relay_for b y) y)
  made_one {y} h e f =
      let is = ap (λ (ms : List Made). sum_by f (items_in ms)) (h.act.made ∙ ap (native_made b) e) in
      let one = sum_by-cons f (six (relay_for b y) y) [] in
      omega (arith, is, one)

  -- the reply to an eased request is eased too
  replies_eased : (bytes y : List ℕ) → Comes s n (native b) (six None bytes) → (native_in bytes).packet ≡ Some y
      → eases_request t s.before (fields_in bytes) ≡ true → is_eased t (after s) (six (relay_for b y) y) ≡ true
  replies_eased bytes y h e eased =
      let p : Fields = fields_in bytes in
      let both = and_parts (packet_weight false p == 6) (is_trusted_for t s.before p.dst p.src) eased in
      let back = reads_back bytes y (record { bytes = (h.came s.is).bytes; short = (h.came s.is).short }) (each_is_reply bytes y e) in
      let teredo = from_teredo (is_echo_request (message_in p)) (is_echo_reply (message_in p)) (is_teredo p.src) (is_global6 p.src)
      (eqb-true (packet_weight false p) 6 both.0) in
      let to_relay : relay_for b y ≡ Some b.relay = ap (λ (c : Bool). cond c (Some b.relay) None) (ap is_teredo back.to ∙ teredo) in
      let trust = trusted p (relay_of_host t n b p.dst s.is h.act.there h.goes.destination) both.1 in
      ap (λ (o : Option ℕ). is_eased t (after s) (six o y)) to_relay
      ∙ ap (λ (c : Bool). cond c (relay_trusts t (after s) b.relay (fields_in y).dst) (is_of_relay t b.relay (fields_in y))) back.reply
      ∙ ap (relay_trusts t (after s) b.relay) back.to ∙ trust

  -- a packet for a relay that ended here
  small : (bytes y : List ℕ) → IsReplyBack bytes y → (o : Option ℕ) → entry_weight t (six o y) ≤ 6
  small bytes y back None = by (packet_lines (fields_in y)) where
    by : (packet_weight false (fields_in y) ≡ 6) ⊎ (packet_weight false (fields_in y) ≤ 2) → packet_weight false (fields_in y) ≤ 6
    by (inl is) = omega (arith, is)
    by (inr few) = omega (arith, few)
  small bytes y back (Some k) =
      let is : packet_weight true (fields_in y) ≡ 5 = ap (λ (c : Bool). cond (true && c) 5 12) back.reply in
      omega (arith, is)

  no_reply : (bytes y : List ℕ) → IsReply bytes y → packet_weight true (fields_in bytes) ≡ 12
  no_reply bytes y is = ap (λ (m : Option Message). cond (true && is_echo_reply m) 5 12) is.request

  answered : (to : Option ℕ) (bytes y : List ℕ) → (native_in bytes).packet ≡ Some y → Comes s n (native b) (six to bytes) → Eases (six to bytes)
  answered None bytes y e h = by (eases_request t s.before (fields_in bytes)) refl where
    old : MakesLess s.lab s.full (six None bytes)
    old = native_makes_less s n b bytes y e h

    by : (c : Bool) → eases_request t s.before (fields_in bytes) ≡ c → Eases (six None bytes)
    by false eased = plainly s (six None bytes) eased old
    by true eased =
        let after = weighs_less s.ease t (after s) (six (relay_for b y) y) (replies_eased bytes y h e eased) in
        let before = weighs_less s.ease t s.before (six None bytes) eased in
        let a = made_one h e (weigh_after s) in
        let c = made_one h e (entry_weight t) in
        let fell = old in
        omega (arith, after, before, a, c, fell)
  answered (Some k) bytes y e h =
      let back = reads_back bytes y (record { bytes = (h.came s.is).bytes; short = (h.came s.is).short }) (each_is_reply bytes y e) in
      let few = small bytes y back (relay_for b y) in
      let most = eased_most s.ease t (after s) (six (relay_for b y) y) in
      let a = made_one h e (weigh_after s) in
      let under = eased_under s.ease t s.before (six (Some k) bytes) in
      let twelve = no_reply bytes y (each_is_reply bytes y e) in
      let small_ease = s.ease.few in
      omega (arith, few, most, a, under, twelve, small_ease)

  pub native_eases : (x : Item) → Comes s n (native b) x → Eases x
  native_eases (udp src dst bytes) h = nothing_made s (udp src dst bytes) h.act.made
  native_eases (six to bytes) h = by (native_in bytes).packet refl where
    by : (o : Option (List ℕ)) → (native_in bytes).packet ≡ o → Eases (six to bytes)
    by None e = nothing_made s (six to bytes) (h.act.made ∙ ap (native_made b) e)
    by (Some y) e = answered to bytes y e h
