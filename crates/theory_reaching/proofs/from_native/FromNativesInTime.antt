-- `within 5`, `within 6` and `within 9` from a native host: its packet comes by then, past the client's test where this doesn't trust the host
-- at the relay and, where the relay doesn't know the client, past the relay's bubble.
use Rattle.theory_reaching.proofs.Words.{Bool, ClientNode, ComesInTime, HostHandsIn, Ip6, KeepsFromNatives, NativeNode, Reach, RelayNode, Some, address_at, address_of, ap, client, false, most_from_native, native, next_from_native_arrives, reach_of, relay_at, relayed, subst, true, ◌≡◌}
use Rattle.theory_reaching.specs.declared.word.Reach.TheVariants as word
use Rattle.theory_reaching.proofs.Pairs.{of_native_and_client}
use Rattle.theory_reaching.proofs.from_native.NativeMayMeetByWord.{PassesTo, SaysBack, says_back, native_may_meet}
use Rattle.theory_reaching.proofs.NextPacket.{NextPacket, whole}

-- THE WORDS

module _ (h : NativeNode) (d : ClientNode) (the : NextPacket (native h) (client d)) where
  open the use {lab, H, is, chained, q, later, n, m, x, g, at, to, sent, fresh}

  -- through its relay
  pub through : (r : RelayNode) → relay_at lab.topology h.relay ≡ Some r → (trusted nine : Bool) → PassesTo trusted nine (relayed lab H m d h r)
      → ComesInTime H q m (client d) x later (most_from_native trusted nine)
  unfolding relayed
  through r by_relay trusted nine p =
      let comes = next_from_native_arrives lab H q later is chained g m n h.relay d h r (address_at lab H m) x (record {
        nodes = native_may_meet (record { lab = lab; H = H; n = m; m = n; c = d; h = h; r = r; at = to; to = at; through = by_relay }) trusted nine p (whole the);
        handed = subst (λ (z : Ip6). HostHandsIn q n z (address_at lab H m) x) (ap (address_of lab H n) at) sent.handed;
        no_reply = sent.no_reply;
      }) fresh in
      subst (λ (b : Bool). ComesInTime H q m (client d) x later (most_from_native b nine)) p.host_trusted
      (subst (λ (b : Bool). ComesInTime H q m (client d) x later (most_from_native (relayed lab H m d h r).trusted b)) p.asks
      (record { whole = comes.whole; enough = λ _ many. comes.enough many }))

  -- what is seen where the word is this
  seen : (said : Reach) → reach_of lab H n m ≡ Some said
      → (r : RelayNode) × (relay_at lab.topology h.relay ≡ Some r) × SaysBack (relayed lab H m d h r) said
  seen said is_said = of_native_and_client (record { lab = lab; H = H; n = n; m = m; said = said }) (λ a. SaysBack a said) (λ a w. subst (SaysBack a) w (says_back a)) h d at to is_said

  pub six : reach_of lab H n m ≡ Some word.Within6 → ComesInTime H q m (client d) x later 6
  six is_said = let s = seen word.Within6 is_said in through s.0 s.1 false false s.2

  pub nine : reach_of lab H n m ≡ Some word.Within9 → ComesInTime H q m (client d) x later 9
  nine is_said = let s = seen word.Within9 is_said in through s.0 s.1 false true s.2

  pub five : reach_of lab H n m ≡ Some word.Within5 → ComesInTime H q m (client d) x later 5
  five is_said = let s = seen word.Within5 is_said in through s.0 s.1 true true s.2

pub six_is_kept : KeepsFromNatives word.Within6
six_is_kept lab H is chained q later n m h d x g at to said sent fresh =
    six h d (record { lab = lab; H = H; is = is; chained = chained; q = q; later = later; n = n; m = m; x = x; g = g; at = at; to = to; sent = sent; fresh = fresh }) said

pub nine_is_kept : KeepsFromNatives word.Within9
nine_is_kept lab H is chained q later n m h d x g at to said sent fresh =
    nine h d (record { lab = lab; H = H; is = is; chained = chained; q = q; later = later; n = n; m = m; x = x; g = g; at = at; to = to; sent = sent; fresh = fresh }) said
