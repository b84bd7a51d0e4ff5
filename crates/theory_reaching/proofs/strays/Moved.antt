-- A packet that goes at once to where its sender doesn't speak to: it leaves from elsewhere than its source says, or is refused on its way. So
-- nothing comes of it, nor of a packet for the IPv6 Internet that goes where neither a server nor a relay answers.
use Rattle.theory_reaching.proofs.Words.{IsMadeItem, Item, Node, address_at, client, each_so, false, fields_in, inl, inr, items_of, speaks_to, udp, ℕ, ◌≡◌, ◌⊎◌}
use Rattle.theory_first_packets.proofs.HandedIn as handed_in
use Rattle.theory_reaching.proofs.schedules.Throughout.{NoneBrings}
use Rattle.theory_reaching.proofs.strays.Gone as gone
use Rattle.theory_reaching.proofs.strays.Gone.{IsGone, IsGoneItem}
use Rattle.theory_reaching.proofs.strays.Stray.{IsStray}
use Rattle.theory_reaching.proofs.strays.MovedOut as out
use Rattle.theory_reaching.proofs.strays.MovedOut.{IsForNobody, Moving}
use Rattle.theory_reaching.proofs.strays.MovedStray as astray

module _ (the : Moving) where
  open the use {lab, H, q, n, c, x, z, D, is}

  its : (y : Item) → out.IsStrayItem the y → IsGoneItem lab y
  its y item = record {
    src = item.src;
    to = D;
    bytes = z;
    same = item.same;
    gone = λ made. record {
      no_server = astray.no_server the item.src item.leaves;
      reads = is.reads made.bytes made.short;
      why = by made is.gone;
    };
  } where
    by : IsMadeItem (udp item.src D z) → (speaks_to lab H c (address_at lab H n) D ≡ false) ⊎ IsForNobody lab D (fields_in z).dst
        → IsStray item.src z ⊎ IsForNobody lab D (fields_in z).dst
    by made (inl moved) = inl (astray.stray the item.src item.leaves made moved)
    by made (inr nobody) = inr nobody

  module _ (m : ℕ) (b : Node) where
    -- so no delivery brings it
    pub none_come : NoneBrings lab H q m b x
    none_come = gone.none_come (record {
      lab = lab;
      H = H;
      q = q;
      rules = is.rules;
      number = handed_in.number lab H q n (client c) x (out.is_handed_in the);
      all = each_so its (items_of q) (out.all_stray the);
    }) m b x
