-- The two clients of a packet: what stays as it is throughout the schedule.
use Rattle.theory_first_packets.proofs.Words.{GoesBetween, IsBytes, IsChained, IsTopology, Lab, List, Some, and_right, client_at, embedded, false, fields_in, has_cone, has_symmetric, is_all_cone, is_big, is_teredo, not, not_from_true, outermost, refl, same_ep, same_ep-self, true, ℕ, ◌≡◌, ◌≢◌}
use Rattle.theory_first_packets.proofs.passing.Ends.{IsEnd}
use Rattle.theory_first_packets.proofs.tables.Meeting.{Meets}
use Rattle.theory_first_packets.proofs.passing.Sides.{Side, setup}
use Rattle.theory_first_packets.proofs.passing.Elsewhere.{no_server, no_server_address, no_server_second, others}
use Rattle.theory_first_packets.proofs.tables.AtServer.{MayTell}

-- the sender, the receiver, and the packet
pub record Pair : Type 0 where
  pub lab : Lab
  pub a : Side
  pub b : Side
  pub x : List ℕ

-- each of two clients whose outermost NATs differ may hear from the other
pub meets : (lab : Lab) → IsTopology lab.topology → (a b : Side) → IsEnd lab a.n a.c a.own → IsEnd lab b.n b.c b.own
    → outermost lab a.c ≢ outermost lab b.c → Meets (setup lab a) a.own b.own
meets lab is a b an bn differ = record {
  strict = refl;
  teredo = bn.address.of.teredo;
  global = bn.address.of.global;
  usable = bn.usable;
  server_global = bn.server_global;
  other = others (record { lab = lab; is = is; a = a; b = b; an = an; bn = bn }) differ;
  no_server = no_server (record { lab = lab; is = is; a = a; b = b; an = an; bn = bn });
}

-- what holds of them throughout
pub record IsPair (p : Pair) : Type 0 where
  pub rules : IsTopology p.lab.topology
  pub chained : IsChained p.lab
  pub sender : IsEnd p.lab p.a.n p.a.c p.a.own
  pub receiver : IsEnd p.lab p.b.n p.b.c p.b.own
  pub sender_there : client_at p.lab.topology p.a.n ≡ Some p.a.c
  pub receiver_there : client_at p.lab.topology p.b.n ≡ Some p.b.c
  pub apart : outermost p.lab p.a.c ≢ outermost p.lab p.b.c
  pub sender_kind : has_symmetric p.lab p.a.c ≡ false
  pub receiver_kind : has_symmetric p.lab p.b.c ≡ false
  pub sender_cone : has_cone p.a.own ≡ true → is_all_cone p.lab p.a.c ≡ true
  pub receiver_cone : has_cone p.b.own ≡ true → is_all_cone p.lab p.b.c ≡ true
  pub packet : GoesBetween p.a.own p.b.own p.x
  pub small : is_big (fields_in p.x) ≡ false
  pub bytes : IsBytes p.x
  pub sender_meets : Meets (setup p.lab p.a) p.a.own p.b.own
  pub receiver_meets : Meets (setup p.lab p.b) p.b.own p.a.own

-- the sender's bubble may be passed on to the receiver
pub may_tell : (p : Pair) → (is : IsPair p) → MayTell p.lab is.receiver.server_row p.a.own (embedded p.a.own)
may_tell p is = record {
  rules = is.rules;
  sixteen = is.sender.address.of.sixteen;
  usable = is.sender.usable;
  no_primary = no_server_address (record { lab = p.lab; is = is.rules; a = p.b; b = p.a; an = is.receiver; bn = is.sender });
  no_secondary = no_server_second (record { lab = p.lab; is = is.rules; a = p.b; b = p.a; an = is.receiver; bn = is.sender });
  unforged = and_right (is_teredo p.a.own) (not (same_ep (embedded p.a.own) (embedded p.a.own)))
      (not_from_true (same_ep (embedded p.a.own) (embedded p.a.own)) (same_ep-self (embedded p.a.own)));
}
