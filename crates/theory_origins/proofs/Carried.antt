-- A client's send that brought a packet to a host carries it, and the client's host had handed it in.
use Rattle.theory_origins.proofs.Words.{ClientNode, Cone, Entry, Ep, Full, Grown, HandedIn, HasServer, IfSome, Ip6, IsActOf, IsBubbleTo, IsCarriedTo, IsIp6, IsJournal, IsMadeStanding, IsOwnTo, IsRecorded, IsSending, Journal, Lab, List, Option, Send, Settings, Some, WasHandedIn, [], ap, bubble_reads_back, bubbles, carries, client, client_is_there, client_journals, client_made, client_settings, each_standing_is_made, earlier, epoch, fields_in, given, has_address, is_packet, is_recorded, journal, qualification, refl, released, server, solicits, subst, sym, tests, to_cone, to_trusted, true, with_entry, ℕ, ◌∙◌, ◌∷◌, ◌≡◌}
use Rattle.theory_origins.proofs.Records.{Latest}
use Rattle.theory_origins.proofs.Brings.{Brings, server_there, no_server, test_to, no_bubble, all_of_it}
use Rattle.theory_origins.proofs.Queued.{in_epoch, was_own}
use Rattle.theory_origins.proofs.SentOn.{act_made}

-- a send of a client in the latest record
pub record ClientSends : Type 0 where
  pub l : Latest
  pub n : ℕ
  pub c : ClientNode
  pub e : Entry
  pub s : Send
  pub act : IsActOf l.lab l.before l.full n (client c) e

-- a client's send that brought the packet carries it, and its host handed it in
module _ (client_sends : ClientSends) where
  open client_sends use {l, n, c, e, s, act}

  abbrev lab : Lab
  lab = l.lab

  abbrev H : List Full
  H = l.before

  abbrev r : Full
  r = l.full

  abbrev own : Settings
  own = client_settings lab.topology c

  abbrev before : Journal
  before = journal n H

  pub is_j : IsJournal own (with_entry before e)
  is_j = subst (IsJournal own) act.later (client_journals lab (r ∷ H) n c l.grown act.there).journal

  pub its : IsMadeStanding own before e
  its =
      let made = act_made l n (client c) e act in
      each_standing_is_made own before e is_j (client_made lab.topology n c l.is act.there) made.input made.before

  of_server_node : HasServer lab.topology c
  of_server_node = client_is_there.server_of lab.topology n c l.is act.there

  now_handed : (x : List ℕ) {p : Ip6} → e.input ≡ given x → (qualification own before).address ≡ Some p → HandedIn lab (r ∷ H) n c p x
  now_handed x input address = record {
    later = [];
    record_of = r;
    earlier = H;
    split = refl;
    node = act.node;
    entry = e;
    did = act.entry;
    packet = input;
    address = address;
  }

  once_handed : {x : List ℕ} {p : Ip6} → WasHandedIn (epoch before.entries) e.peer x → is_packet x ≡ true → p ≡ (fields_in x).src → HandedIn lab (r ∷ H) n c p x
  once_handed {x} (q, held, was) one same =
      let rec : IsRecorded lab H n q = is_recorded lab H n q l.grown.1 (in_epoch before.entries q held) in
      let grown : Grown lab (rec.record_of ∷ rec.earlier) = earlier lab rec.later (rec.record_of ∷ rec.earlier) (subst (Grown lab) rec.split l.grown.1) in
      let there : IsJournal own (with_entry (journal n rec.earlier) q) = subst (IsJournal own) rec.act.later
      (client_journals lab (rec.record_of ∷ rec.earlier) n c grown act.there).journal in
      record {
        later = r ∷ rec.later;
        record_of = rec.record_of;
        earlier = rec.earlier;
        split = ap (λ (z : List Full). r ∷ z) rec.split;
        node = rec.act.node;
        entry = q;
        did = rec.act.entry;
        packet = was.given;
        address = was_own own (journal n rec.earlier) q x there (record { peer = e.peer; was = was; one = one }) ∙ ap (λ (z : Ip6). Some z)
            (sym same);
      }

  pub carried : {to : Ep} {x : List ℕ} {p : Ip6} → IsCarriedTo before e to x → IsOwnTo (qualification own before).address e.peer x → p ≡ (fields_in x).src
      → HandedIn lab (r ∷ H) n c p x
  carried {x} {p} (to_trusted input by at) of same = now_handed x input (of.source ∙ ap (λ (z : Ip6). Some z) (sym same))
  carried {x} {p} (to_cone input by at) of same = now_handed x input (of.source ∙ ap (λ (z : Ip6). Some z) (sym same))
  carried {x} {p} (released z input was) of same = once_handed was of.well_formed same

  -- no server is where it went
  not_there : {x : List ℕ} {to : Ep} → Brings lab s x → s.to ≡ to → has_address to.ip (server of_server_node.row) ≡ true → ⊥
  not_there {x} b same has = no_server lab s x l.is b
      (c.server, of_server_node.row, of_server_node.there, ap (λ (e : Ep). has_address e.ip (server of_server_node.row)) same ∙ has)

  -- what came of the send to a client's host
  pub of_sending : {x : List ℕ} → Brings lab s x
      → IsSending own (qualification own before) (qualification own (with_entry before e)).phase e.peer (IsBubbleTo e) (IsCarriedTo before e) s
      → HandedIn lab (r ∷ H) n c (fields_in x).src x
  of_sending {x} b (solicits nonce same) =
      absurd (not_there b (ap (λ (z : Send). z.to) same) (server_there lab.topology c (qualification own (with_entry before e)).phase of_server_node))
  of_sending {x} b (bubbles mine p to has of there same) =
      let from : IsIp6 mine = subst (λ (o : Option Ip6). IfSome o IsIp6) has its.address in
      let for : IsIp6 p = subst (λ (o : Option Ip6). IfSome o IsIp6) of its.peer in
      absurd (no_bubble mine p s.bytes x (bubble_reads_back mine p from for) (ap (λ (z : Send). z.bytes) same) b.packet b.no_bubble)
  of_sending {x} b (tests mine p nonce has of same) =
      absurd (not_there b (test_to own mine p nonce s same) (server_there lab.topology c Cone of_server_node))
  of_sending {x} b (carries to y of there same) =
      let bytes : s.bytes ≡ y = ap (λ (z : Send). z.bytes) same in
      let one : x ≡ y = all_of_it s.bytes x b.bytes b.short (ap is_packet bytes ∙ of.well_formed) b.whole ∙ bytes in
      subst (λ (z : List ℕ). HandedIn lab (r ∷ H) n c (fields_in z).src z) (sym one) (carried {p = (fields_in y).src} there of refl)
