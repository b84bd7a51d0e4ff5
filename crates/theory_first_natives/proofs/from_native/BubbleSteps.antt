-- The relay's bubble at the client, from the client's server: it is answered.
use Rattle.theory_first_natives.proofs.Words.{Did, Entry, Ip6, Journal, MayAnswer, Settings, Some, [], address_renewed, all_leaves, answers_it, ap, bubble_bytes, bubble_small, client, client_in, embedded, false, forwarded_reads_back, has_room, is_barred, is_teredo, journal, known, mentions, not, now, or_left, qualification, refl, same_ep, send, sent, server_ep, setup, true, udp, with_entry, words, ◌∷◌, ◌≡◌}
use Rattle.teredo_node.specs.declared.fate.Fate.TheVariants as fate
use Rattle.theory_first_natives.proofs.from_native.Trio.{IsTrio, relay_elsewhere, relay_keeps, relay_usable}
use Rattle.theory_first_natives.proofs.tables.ServerTells.{told, reads}
use Rattle.theory_first_natives.proofs.from_native.TrioStages.{IsOpen}
use Rattle.theory_first_natives.proofs.from_native.TrioAfter.{TrioRecord, here, sends}
use Rattle.theory_first_natives.proofs.from_native.ClientSteps.{another}

module _ (the : TrioRecord) where
  open the use {p, H, q, r}

  abbrev is : IsTrio p
  is = r.trio

  abbrev s : Settings
  s = setup p.lab p.a

  abbrev own : Ip6
  own = p.a.own

  abbrev j : Journal
  j = journal p.a.n H

  abbrev pub heard : Entry
  heard = client_in s j (now H) (server_ep s.primary) (told p is) (words p.lab p.a.n H)

  -- where it has room for the relay, and may send to it
  module _ (room : has_room (mentions j.entries) (now H) p.r.six ≡ true)
      (unbarred : is_barred (now H) (known (mentions j.entries) (now H) p.r.six) ≡ false) where
    may_answer : MayAnswer s j (now H) own p.r.six p.r.at
    may_answer = record {
      here = here the;
      strict = refl;
      usable = relay_usable p is;
      origin = or_left (not (is_teredo p.r.six)) (same_ep p.r.at (embedded p.r.six))
          (ap not (relay_keeps p is).outside.other);
      other = another the p.r.six (relay_keeps p is).outside.other;
      room = room;
      unbarred = unbarred;
    }

    -- the client answers it, and what the relay sends is let in from then on. The client keeps its address
    pub answers_bubble : Did p.lab H q p.a.n (client p.a.c) heard
        → (q.made ≡ sent (udp (embedded own) p.r.at (bubble_bytes own p.r.six)) ∷ []) × IsOpen p (q ∷ H) × (heard.step.fate ≡ fate.Indirect)
        × (heard.peer ≡ Some p.r.six) × ((qualification s (with_entry j heard)).address ≡ (qualification s j).address)
    answers_bubble did =
        let bubble = reads p is in
        let payload = forwarded_reads_back (bubble_bytes p.r.six own) _ (Some p.r.at) bubble.bytes bubble.payload.read (bubble_small p.r.six own)
        (relay_keeps p is).at in
        let g = answers_it s j (now H) own p.r.six p.r.at may_answer payload bubble.bubble (words p.lab p.a.n H) in
        let gone = all_leaves (sends the heard did) (send p.r.at (bubble_bytes own p.r.six) ∷ []) g.sends
        (relay_elsewhere p is, tt) in
        (gone.made, gone.back.0, g.indirect, g.about, address_renewed s j heard g.indirect)
