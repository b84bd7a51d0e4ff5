-- Whence a packet came.
use Rattle.theory_origins.proofs.Words.{ClientNode, ComesFromClient, DATAGRAM_MAX, EachHasOrigin, Ep, Event, Fields, Forges, Full, Grown, HasOneMaker, HasOrigin, IsBrought, IsBytes, IsForgedOrClients, IsMadeItem, IsTopology, Item, Lab, List, Option, PutsFrom, Send, Some, all_at, ap, client_settings, copied, drop, each_has_one_maker, each_send, earlier, embedded, fields_in, forged, is_teredo, items_of, journal, length, now, one_of, sent_by, slice_get_within, strange, subst, sym, true, udp, unwrap_or, value_in, wire, wire_is_made, ℕ, ◌-◌, ◌∙◌, ◌∷◌, ◌≡◌, ◌≤◌}
use Rattle.theory_origins.proofs.Brought.{each_is_brought}
use Rattle.theory_origins.proofs.SentOn.{each_comes}
use Rattle.theory_origins.specs.Origin as origin
use Rattle.theory_origins.proofs.Records.{Latest}
use Rattle.theory_origins.proofs.SentFrom.{leaves_at, as_client_at}
use Rattle.theory_origins.proofs.Brings.{Brings}
use Rattle.theory_origins.proofs.Carried.{is_j, of_sending}

-- THE MAKER

pub puts : (H : List Full) (src dst from : Ep) (bytes : List ℕ) (e : Event) → Forges H src dst bytes e → src ≡ from → PutsFrom e from
puts H src dst from bytes _ strange same = same
puts H src dst from bytes _ (copied number x at of) same = same

-- a packet that came from the endpoint that its source embeds
pub record CameEmbedded : Type 0 where
  pub lab : Lab
  pub H : List Full
  pub r : Full
  pub c : ClientNode
  pub x : List ℕ
  pub is : IsTopology lab.topology
  pub g : Grown lab (r ∷ H)
  pub came : IsBrought lab H r c x
  pub embeds : came.src ≡ embedded (fields_in x).src

-- a packet that a datagram brought, which came from the endpoint that the packet's source embeds
module _ (came_embedded : CameEmbedded) where
  open came_embedded use {lab, H, c, x, is, g, came, embeds}

  abbrev datagram : Item
  datagram = udp came.src came.dst came.bytes

  one : HasOneMaker H came.number
  one = each_has_one_maker lab H came.number g.1 (slice_get_within (wire H) came.number datagram came.datagram)

  grown : Grown lab (one.maker ∷ one.earlier)
  grown = earlier lab one.later (one.maker ∷ one.earlier) (subst (Grown lab) one.makes.split g.1)

  made : IsMadeItem datagram
  made = all_at IsMadeItem (wire H) came.number datagram (wire_is_made lab H is g.1).wire came.datagram

  -- of a client's send
  brings : (s : Send) → came.dst ≡ s.to → came.bytes ≡ s.bytes → Brings lab s x
  brings s to same = record {
    past = H;
    moment = now H;
    src = came.src;
    dst = came.dst;
    to = c;
    let_in = came.let_in;
    goes = to;
    bytes = subst IsBytes same made.bytes;
    short = subst (λ (z : List ℕ). length z ≤ DATAGRAM_MAX) same made.short;
    whole = came.whole ∙ ap (λ (z : List ℕ). drop (value_in z).lead.at z) same;
    packet = ap (λ (z : List ℕ). (value_in z).packet) (sym same) ∙ came.packet;
    no_bubble = came.no_bubble;
  }

  of_client : IsForgedOrClients lab one.earlier one.maker came.src came.dst came.bytes → HasOrigin lab H came.number (fields_in x).src x
  of_client (forged f) =
      origin.put one.later one.earlier one.maker one.makes (puts one.earlier came.src came.dst (embedded (fields_in x).src) came.bytes one.maker.asked f embeds)
  of_client (sent_by n b e s act held leaves to same) =
      let latest : Latest = record { lab = lab; before = one.earlier; full = one.maker; is = is; grown = grown } in
      let journal_is = is_j (record { l = latest; n = n; c = b; e = e; s = s; act = act }) in
      let sending = one_of _ e.step.sends s (each_send (client_settings lab.topology b) (journal n one.earlier) e journal_is) held in
      let handed = of_sending (record { l = latest; n = n; c = b; e = e; s = s; act = act }) (brings s to same) sending in
      origin.sent_by one.later one.earlier one.maker one.makes n b (as_client_at lab.topology n b act.there) act.node came.dst came.bytes
      (came.datagram ∙ ap (λ (z : Ep). Some (udp z came.dst came.bytes)) embeds)
      (ap (λ (z : Ep). z.ip) (sym embeds) ∙ leaves_at lab one.earlier one.maker.moment b s.to came.src leaves) handed

  -- its maker is one of these
  comes : is_teredo (fields_in x).src ≡ true → IsForgedOrClients lab one.earlier one.maker came.src came.dst came.bytes
  comes teredo =
      let each : ComesFromClient lab one.earlier one.maker datagram = all_at (ComesFromClient lab one.earlier one.maker) (items_of one.maker)
      (came.number - length (wire one.earlier)) datagram (each_comes lab one.earlier one.maker is grown) (one.item ∙ came.datagram) in
      each (ap (λ (p : Fields). is_teredo p.src) came.packet ∙ teredo) (embeds ∙ ap (λ (p : Fields). embedded p.src) (sym came.packet))

pub each_has_origin : EachHasOrigin
each_has_origin lab H r n c x is g o teredo k delivered =
    let came : IsBrought lab H r c x = each_is_brought lab H r n c x g o in
    let embeds : came.src ≡ embedded (fields_in x).src = came.embeds teredo in
    let number : came.number ≡ k = ap (λ (z : Option ℕ). unwrap_or z k) (sym came.delivered ∙ delivered) in
    subst (λ (j : ℕ). HasOrigin lab H j (fields_in x).src x) number
    (of_client (record { lab = lab; H = H; r = r; c = c; x = x; is = is; g = g; came = came; embeds = embeds }) (comes (record { lab = lab; H = H; r = r; c = c; x = x; is = is; g = g; came = came; embeds = embeds }) teredo))
