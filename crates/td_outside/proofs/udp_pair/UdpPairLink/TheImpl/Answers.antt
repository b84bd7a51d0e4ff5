-- A pair tells nothing of what comes and goes.
use Rattle.td_outside.proofs.Words.{Ep, Err, Failed, IfOk, Ip4, Ok, OnOk, Pair, Result, ap, client_on, client_opened, is_err, open_on, pair_opened, refl, ◌≡◌}
use Rattle.td_outside.proofs.Untold.{on_either}
use Rattle.td_outside.proofs.udp_pair.UdpPairLink.TheImpl.Goals as goal

is_open : {E : Type 0} (r : Result (Unit {0}) E) (old new : Pair) (primary secondary : Ip4) → new ≡ pair_opened old primary secondary (is_err r) → OnOk r (new.place ≡ open_on primary secondary)
is_open (Ok x) old new primary secondary e = ap (λ (p : Pair). p.place) e
is_open (Err x) old new primary secondary e = tt

pub open-tells : goal.open-tells
open-tells g c = record {
  opened = is_open c.result c.args.self.now c.new.self.now c.args.primary c.args.secondary c.ensures.state;
  again = λ there. (c.ensures.again there, refl);
  asked = tt;
  lists = record { coming = tt; taken = tt; attempts = tt };
  cause = c.ensures.cause;
  other = ap (λ (p : Pair). p.send_faults) c.ensures.state;
}

client_is_open : (r : Result Ep Failed) (old new : Pair) (inside : Ip4) → IfOk r (λ at. at.ip ≡ inside) → new ≡ client_opened old r → IfOk r (λ at. (at.ip ≡ inside) × (new.place ≡ client_on at))
client_is_open (Ok at) old new inside here e = (here, ap (λ (p : Pair). p.place) e)
client_is_open (Err x) old new inside here e = tt

sends_stay : (r : Result Ep Failed) (old new : Pair) → new ≡ client_opened old r → new.send_faults ≡ old.send_faults
sends_stay (Ok at) old new e = ap (λ (p : Pair). p.send_faults) e
sends_stay (Err x) old new e = ap (λ (p : Pair). p.send_faults) e

pub open_client-tells : goal.open_client-tells
open_client-tells g c = record {
  opened = client_is_open c.result c.args.self.now c.new.self.now c.args.inside c.ensures.inside c.ensures.state;
  asked = tt;
  lists = on_either c.result (λ at. record { coming = tt; taken = tt; attempts = tt }) (λ e. record { coming = tt; taken = tt; attempts = tt });
  cause = c.ensures.cause;
  other = sends_stay c.result c.args.self.now c.new.self.now c.ensures.state;
}

pub recv-tells : goal.recv-tells
recv-tells g c = record {
  room = c.ensures.room;
  side = c.ensures.side;
  lists = on_either c.result (λ arrival. record { coming = tt; taken = tt; attempts = tt }) (λ e. record { coming = tt; taken = tt; attempts = tt });
  places = ap (λ (p : Pair). p.place) c.ensures.state;
  asked = tt;
  cause = c.ensures.cause;
  other = ap (λ (p : Pair). p.send_faults) c.ensures.state;
}

pub send-tells : goal.send-tells
send-tells g c = record {
  lists = record { coming = tt; taken = tt; attempts = tt };
  places = ap (λ (p : Pair). p.place) c.ensures.state;
  asked = tt;
  cause = c.ensures.cause;
  other = ap (λ (p : Pair). p.recv_faults) c.ensures.state;
}
