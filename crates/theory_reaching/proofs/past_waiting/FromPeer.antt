-- What a client does with a packet that comes from another one itself: it hands it over, and lets go what waits for that one.
use Rattle.theory_reaching.proofs.Words.{Bool, Entry, Fate, Ip6, Journal, Knows, List, Meets, Option, Settings, Some, Touches, Words, ap, arrived, bearing_of, client_in, embedded, false, fields_in, handed_by, hands_by, hands_packet, is_barred, is_changed, known, mentions, refl, releases, subst, sym, tried_after, true, untried, unwrap_or, with_entry, ℕ, ◌∙◌, ◌∷◌, ◌≡◌}
use Rattle.theory_first_packets.proofs.tables.Meeting.{Hands}
use Rattle.teredo_node.specs.declared.fate.Fate.TheVariants as fate
use Rattle.theory_reaching.proofs.past_waiting.KeptPackets.{IsKept, reads_so}

-- the entry of a packet x from a peer that the client trusts where it is, or doesn't
pub record HandsOver (j : Journal) (n : ℕ) (trusted : Bool) (x : List ℕ) (peer : Ip6) (e : Entry) : Type 0 where
  pub over : e.step.fate ≡ hands_by trusted
  pub came : e.input ≡ arrived (embedded peer) x
  pub sends : e.step.sends ≡ releases (embedded peer) (known (mentions j.entries) n peer).waiting
  pub handed : handed_by e ≡ Some x
  pub about : e.peer ≡ Some peer
  pub moment : e.moment ≡ n

-- a packet that a peer kept for the client
pub record KeptFromPeer : Type 0 where
  pub s : Settings
  pub j : Journal
  pub n : ℕ
  pub own : Ip6
  pub peer : Ip6
  pub meets : Meets s own peer
  pub trusted : Bool
  pub knows : Knows s j n own peer trusted
  pub x : List ℕ
  pub kept : IsKept peer own x

module _ (kept_from_peer : KeptFromPeer) where
  open kept_from_peer use {s, j, n, own, peer, meets, trusted, knows, x, kept}

  from_peer : peer ≡ (fields_in x).src
  from_peer = ap (λ (o : Option Ip6). unwrap_or o peer) kept.packet.source

  to_here : own ≡ (fields_in x).dst
  to_here = ap (λ (o : Option Ip6). unwrap_or o own) kept.packet.destination

  meets_so : Meets s (fields_in x).dst (fields_in x).src
  meets_so = subst (λ (z : Ip6). Meets s z (fields_in x).src) to_here (subst (λ (z : Ip6). Meets s own z) from_peer meets)

  knows_so : Knows s j n (fields_in x).dst (fields_in x).src trusted
  knows_so = subst (λ (z : Ip6). Knows s j n z (fields_in x).src trusted) to_here (subst (λ (z : Ip6). Knows s j n own z trusted) from_peer knows)

  abbrev done : Words → Ip6 → Entry
  done w z = client_in s j n (embedded z) x w

  of_source : (w : Words) → Hands (record { s = s; j = j; n = n; p = fields_in x; meets = meets_so; trusted = trusted; knows = knows_so; small = kept.packet.short }) trusted x (done w (fields_in x).src)
  of_source w = hands_packet (record { s = s; j = j; n = n; p = fields_in x; meets = meets_so; trusted = trusted; knows = knows_so; small = kept.packet.short }) (reads_so peer own x kept) kept.packet.no_bubble w

  so : (w : Words) → HandsOver j n trusted x (fields_in x).src (done w (fields_in x).src)
  so w = let h = of_source w in
      record { over = h.over; came = h.came; sends = h.sends; handed = h.handed; about = h.about; moment = h.moment }

  pub hands_over : (w : Words) → HandsOver j n trusted x peer (client_in s j n (embedded peer) x w)
  hands_over w = subst (λ (z : Ip6). HandsOver j n trusted x z (done w z)) (sym from_peer) (so w)

-- it may be tried then
pub free_after : (j : Journal) (n : ℕ) (peer : Ip6) (e : Entry) → e.peer ≡ Some peer → e.moment ≡ n → (t : Bool) → e.step.fate ≡ hands_by t
    → is_barred n (known (mentions (with_entry j e).entries) n peer) ≡ false
free_after j n peer e about moment t same = by t same where
  touches : (f : Fate) → e.step.fate ≡ f → is_changed f ≡ false → (bearing_of f e).touches ≡ true → Touches e n peer
  touches f is keeps touch = record {
    peer = about;
    moment = moment;
    keeps = ap is_changed is ∙ keeps;
    touches = ap (λ (g : Fate). (bearing_of g e).touches) is ∙ touch;
  }

  by : (t : Bool) → e.step.fate ≡ hands_by t → is_barred n (known (mentions (with_entry j e).entries) n peer) ≡ false
  by true f = untried n (known (mentions (e ∷ j.entries)) n peer) (tried_after e j.entries n peer (touches fate.Rule1 f refl refl) fate.Rule1 f)
  by false f = untried n (known (mentions (e ∷ j.entries)) n peer) (tried_after e j.entries n peer (touches fate.Rule3 f refl refl) fate.Rule3 f)
