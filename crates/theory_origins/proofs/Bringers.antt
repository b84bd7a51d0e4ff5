-- Each entry of the wire that brought a packet is the datagram in which it came: at once, or when it was held.
use Rattle.theory_origins.proofs.Words.{Bool, ClientNode, Contains, Entry, Ep, Full, Grown, HeldIn, HoldingRule, Input, IsActOf, IsBringer, IsBroughtBy, IsGiven, Item, Lab, List, OfNode, Option, ReachesHost, Some, [], acts, ap, arrived, at_once, client, client_at, delivered, earlier, entry_input, false, false≢true, hands_late, hands_now, hosted, is_some, journal, late, node_at, of_node, rests, six, slice_get, subst, sym, ticks, true, udp, unwrap_or, wire, wire_stays, ℕ, ◌∙◌, ◌∷◌, ◌≡◌}
use Rattle.theory_origins.proofs.CameDirect.{holds, packet_of}
use Rattle.theory_origins.proofs.GivenIn.{IsGivenIn, of_entry}
use Rattle.theory_origins.proofs.Datagrams.{CameDirect, at_once_in}

same_number : (o : Option ℕ) (k m : ℕ) → o ≡ Some k → o ≡ Some m → k ≡ m
same_number o k m one other = ap (λ (z : Option ℕ). unwrap_or z k) (sym one ∙ other)

abbrev is_datagram : Option Item → Bool
is_datagram (Some (udp from to bytes)) = true
is_datagram _ = false

-- a record that brings a client a packet
pub record Bringing : Type 0 where
  pub lab : Lab
  pub H : List Full
  pub r : Full
  pub g : Grown lab (r ∷ H)
  pub n : ℕ
  pub c : ClientNode
  pub x : List ℕ
  pub at : node_at lab.topology n ≡ Some (client c)

module _ (bringing : Bringing) where
  open bringing use {lab, H, r, g, n, c, x, at}

  -- the packet came with entry number k
  pub record CameWith (k : ℕ) : Type 0 where
    pub came : CameDirect lab H r n c x
    pub same : came.in_it.number ≡ k

  -- WHEN IT WAS HELD

  module _ (b : IsBroughtBy H r n x) (held_it : HeldIn H n b.number x) where
    abbrev k : ℕ
    k = b.number

    abbrev past : List Full
    past = held_it.earlier

    abbrev q : Full
    q = held_it.record_of

    grown : Grown lab (q ∷ past)
    grown = earlier lab held_it.later (q ∷ past) (subst (Grown lab) held_it.split g.1)

    stays : (m : ℕ) {z : Item} → slice_get (wire past) m ≡ Some z → slice_get (wire H) m ≡ Some z
    stays m {z} here = subst (λ (y : List Full). slice_get (wire y) m ≡ Some z) (sym held_it.split)
        (wire_stays held_it.later (q ∷ past) m z (wire_stays (q ∷ []) past m z here))

    -- what the client was given there is a datagram
    arrived_there : {d : Ep} {i : Input} → IsGiven lab past q n (client c) d i → (f : Ep) × (y : List ℕ) × (i ≡ arrived f y)
    arrived_there (delivered number (udp src to ys) told here goes moment where_to came) = (src, ys, came)
    arrived_there (delivered number (six to ys) told here goes moment where_to came) =
        let one : number ≡ k = same_number q.delivered number k told held_it.delivered in
        absurd (false≢true (ap is_datagram (sym (stays number here) ∙ ap (λ (m : ℕ). slice_get (wire H) m) one ∙ b.datagram)))
    arrived_there (hosted v y hands none moment where_to came) =
        absurd (false≢true (ap (λ (o : Option ℕ). is_some o) (sym none ∙ held_it.delivered)))
    arrived_there (ticks due least same none moment where_to came) =
        absurd (false≢true (ap (λ (o : Option ℕ). is_some o) (sym none ∙ held_it.delivered)))

    was_given : {e : Entry} → IsActOf lab past q n (client c) e → IsGivenIn lab past q n c x
    was_given {e} act =
        let same : held_it.entry ≡ e = ap (λ (o : Option Entry). unwrap_or o e) (sym held_it.did ∙ act.entry) in
        let (f, y, came) = arrived_there act.is_given in
        let input : e.input ≡ arrived f y = ap (λ (z : Entry). z.input) act.step ∙ entry_input lab past q.moment n act.dst act.input (client c) ∙ came in
        of_entry lab past q n c x grown act f y input (holds (subst (λ (z : Entry). HoldingRule z.step.fate) same held_it.rule))
        (λ is_j direct. packet_of (journal n past) e is_j f y input direct.payload
        (subst (λ (z : Entry). z.packet ≡ Some x) same held_it.packet))

    of_given : Contains r.late x → IsGivenIn lab past q n c x → CameWith k
    of_given now it =
        let one : it.number ≡ k = same_number q.delivered it.number k it.told held_it.delivered in
        record {
          came = record {
            past = past;
            record_of = q;
            in_it = it;
            datagram = stays it.number it.datagram;
            brings = late now (subst (λ (m : ℕ). HeldIn H n m x) (sym one) held_it);
          };
          same = one;
        }

    held_then : Contains r.late x → CameWith k
    held_then now = by (of_node lab past q n (client c) grown.0 held_it.node at) where
      by : OfNode lab past q n (client c) → CameWith k
      by (rests idle) = absurd (false≢true (ap (λ (o : Option Entry). is_some o) (sym idle.entry ∙ held_it.did)))
      by (acts e act) = of_given now (was_given act)

  -- EITHER WAY

  of_client : ReachesHost lab r n c x → (r.node ≡ Some n) × (client_at lab.topology n ≡ Some c)
  of_client (hands_now o) = (o.node, o.client)
  of_client (hands_late node there now) = (node, there)

  pub each_came_with : ReachesHost lab r n c x → (b : IsBroughtBy H r n x) → CameWith b.number
  each_came_with reaches b = by b.brings where
    its : (r.node ≡ Some n) × (client_at lab.topology n ≡ Some c)
    its = of_client reaches

    by : IsBringer H r n b.number x → CameWith b.number
    by (at_once has told) =
        let it = at_once_in (record { lab = lab; H = H; r = r; g = g; n = n; c = c; x = x }) its.0 its.1 has in
        record {
          came = record { past = H; record_of = r; in_it = it; datagram = it.datagram; brings = at_once has it.told };
          same = same_number r.delivered it.number b.number it.told told;
        }
    by (late now held_it) = held_then b held_it now
