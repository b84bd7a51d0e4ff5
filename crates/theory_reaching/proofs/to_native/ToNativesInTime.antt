-- `within 6` and `within 9` to a native host, and so of any two hosts: the packet comes by then, past the client's test and, where the
-- relay doesn't know the client, past the relay's bubble.
use Rattle.theory_reaching.proofs.Words.{Bool, BringsToNative, BringsWithin, ClientNode, ComesInTime, ComesWithin, Full, HostHandsIn, Ip6, IsPromised, IsSentNext, KeepsFromNatives, KeepsItsPromise, Lab, List, NativeNode, Node, Reach, ReachesNative, RelayNode, Some, address_at, address_of, ap, client, false≢true, most_deliveries, native, next_to_native_arrives, refl, relay_at, relayed, subst, sym, to_native_row, true, within_so, ℕ, ◌∙◌, ◌≡◌}
use Rattle.theory_reaching.specs.declared.word.Reach.TheVariants as word
use Rattle.theory_reaching.proofs.from_native.FromNativesInTime as from_natives
use Rattle.theory_reaching.proofs.clients.PastWaiting.{is_past, kept_between}
use Rattle.theory_reaching.proofs.Pairs.{SaidBy, between_clients, to_native, from_native, said_by}
use Rattle.theory_reaching.proofs.from_native.NativeMayMeetByWord.{is_nine, is_tested}
use Rattle.theory_reaching.proofs.to_native.NativeReachedByWord.{PassesOut, passes_out, native_reached}
use Rattle.theory_reaching.proofs.NextPacket.{NextPacket, of_nodes, whole}

-- what comes is brought
brings_within : (most m : ℕ) (h : NativeNode) (x : List ℕ) (later : List Full) → ComesWithin most m x later → BringsWithin most m (native h) x later
brings_within most m h x = within_so (ReachesNative m x) (BringsToNative m x) (λ (q : Full) (it : ReachesNative m x q). it.brings) most

-- both are said of two clients too
also_past : (said : Reach) → is_tested said ≡ true → is_past said ≡ true
also_past word.Within6 e = refl
also_past word.Within9 e = refl
also_past _ e = absurd (false≢true e)

-- THE WORDS

module _ (c : ClientNode) (h : NativeNode) (the : NextPacket (client c) (native h)) where
  open the use {lab, H, is, chained, q, later, n, m, x, g, at, to, sent, fresh}

  -- to a native host through its relay
  through : (r : RelayNode) → relay_at lab.topology h.relay ≡ Some r → (nine : Bool) → PassesOut nine (relayed lab H n c h r)
      → ComesInTime H q m (native h) x later (most_deliveries nine)
  unfolding relayed
  through r by_relay nine p =
      let comes = next_to_native_arrives lab H q later is chained g n m h.relay c h r (address_at lab H n) x (record {
        nodes = native_reached (record { lab = lab; H = H; whole = whole the; n = n; m = m; c = c; h = h; r = r; at = at; to = to; through = by_relay }) nine p;
        handed = subst (λ (z : Ip6). HostHandsIn q n (address_at lab H n) z x) (ap (address_of lab H m) to) sent.handed;
      }) fresh in
      subst (λ (b : Bool). ComesInTime H q m (native h) x later (most_deliveries b)) p.asks (record {
        whole = λ all. brings_within (most_deliveries (relayed lab H n c h r).asks) m h x later (comes.arrives all);
        enough = λ _ many. brings_within (most_deliveries (relayed lab H n c h r).asks) m h x later (comes.enough many);
      })

  out : (r : RelayNode) (said : Reach) → is_tested said ≡ true → relay_at lab.topology h.relay ≡ Some r
      → to_native_row (relayed lab H n c h r) ≡ said → ComesInTime H q m (native h) x later (most_deliveries (is_nine said))
  out r said tested by_relay w = through r by_relay (is_nine said)
      (subst (λ (z : Reach). PassesOut (is_nine z) (relayed lab H n c h r)) w (passes_out (relayed lab H n c h r) (ap is_tested w ∙ tested)))

-- that is what the words promise
promised : (lab : Lab) (H : List Full) (q : Full) (m : ℕ) (a b : Node) (x : List ℕ) (later : List Full) (said : Reach) → is_tested said ≡ true
    → ComesInTime H q m b x later (most_deliveries (is_nine said)) → IsPromised lab H q m a b x later said
promised lab H q m a b x later word.Within6 tested comes = comes
promised lab H q m a b x later word.Within9 tested comes = comes
promised lab H q m a b x later _ tested comes = absurd (false≢true tested)

-- so a word that is kept of packets from native hosts is kept
kept : (said : Reach) → is_tested said ≡ true → KeepsFromNatives said → KeepsItsPromise said
kept said tested back lab H is chained q later n m a b x g at to is_said sent fresh = by (said_by (record { lab = lab; H = H; n = n; m = m; said = said }) a b at to is_said) where
  the : NextPacket a b
  the = record { lab = lab; H = H; is = is; chained = chained; q = q; later = later; n = n; m = m; x = x; g = g; at = at; to = to; sent = sent; fresh = fresh }

  by : SaidBy lab H n m a b said → IsPromised lab H q m a b x later said
  by (between_clients c d same other w) = subst (λ (z : Node). IsPromised lab H q m z b x later said) (sym same)
      (subst (λ (z : Node). IsPromised lab H q m (client c) z x later said) (sym other)
      (kept_between said (also_past said tested) lab H is chained q later n m c d x g (at ∙ ap (λ (z : Node). Some z) same)
      (to ∙ ap (λ (z : Node). Some z) other) is_said (subst (λ (z : Node). IsSentNext lab H q n m z x) same sent) fresh))
  by (to_native c h r same other by_relay w) = subst (λ (z : Node). IsPromised lab H q m a z x later said) (sym other)
      (promised lab H q m a (native h) x later said tested
      (out c h (of_nodes the same other) r said tested by_relay w))
  by (from_native h c r same other by_relay w) = subst (λ (z : Node). IsPromised lab H q m z b x later said) (sym same)
      (subst (λ (z : Node). IsPromised lab H q m (native h) z x later said) (sym other)
      (back lab H is chained q later n m h c x g (at ∙ ap (λ (z : Node). Some z) same) (to ∙ ap (λ (z : Node). Some z) other) is_said
      (subst (λ (z : Node). IsSentNext lab H q n m z x) same sent) fresh))

pub six_is_kept : KeepsItsPromise word.Within6
six_is_kept = kept word.Within6 refl from_natives.six_is_kept

pub nine_is_kept : KeepsItsPromise word.Within9
nine_is_kept = kept word.Within9 refl from_natives.nine_is_kept
