-- `within 2` to a native host: the client sends the packet to the relay, which passes it on to the host.
use Rattle.theory_reaching.proofs.Words.{AreFresh, ComesInTime, Full, Grown, Ip6, List, None, address_at, ap, embedded, filter_map, item_in, native, node_is_reached, now, reaches, route, same_ip6, same_ip6-self, six, suc, udp, ◌++◌, ◌∙◌, ◌∷◌, ◌≡◌}
use Rattle.theory_reaching.proofs.to_native.AtNative.{brought}
use Rattle.theory_reaching.proofs.relays.Relays.{AreRelayed}
use Rattle.theory_reaching.proofs.schedules.TwoDeliveries.{second_brings}
use Rattle.theory_reaching.proofs.to_native.ToRelay.{SentOut, IsReady, number, makes, passed_on}

module _ (the : SentOut) where
  open the use {lab, H, q, n, m, c, h, r, x, sent_out}

  abbrev are : AreRelayed lab H n m c h r
  are = sent_out.are

  abbrev own : Ip6
  own = address_at lab H n

  -- where the packet goes once the relay passed it on
  goes_there : (F : List Full) → route lab F (now F) (six None x) ≡ reaches m (native h)
  goes_there F = node_is_reached lab F (now F) (six None x) m (native h) are.rules are.host_is (record {
    packet = sent_out.handed.packet.packet;
    destination = ap (λ (z : Ip6). same_ip6 z h.six) sent_out.handed.packet.destination ∙ same_ip6-self h.six;
  })

  -- so the second delivery brings it to the host
  pub in_time : IsReady lab H n h.relay → (later : List Full) → Grown lab (later ++ q ∷ H) → AreFresh q later → ComesInTime H q m (native h) x later 2
  in_time ready = second_brings (record {
    lab = lab;
    H = H;
    q = q;
    one = udp (embedded own) r.at x;
    two = six None x;
    number = number the;
    makes = makes the;
    goes_on = λ p g sound delivered at. ap (filter_map item_in) (passed_on the p g sound delivered at ready);
  }) m (native h) x
      (λ s p grown sound delivered at again to. brought lab (p ∷ q ∷ H) s (suc q.first) m h x (goes_there (p ∷ q ∷ H)) grown again to)
