use Rattle.world.proofs.Words.{WireState, [], ap, arith, refl}
use Rattle.world.proofs.world.World.in_room.Goals as goal

pub invariant_of-result : goal.invariant_of-result
invariant_of-result c = record {
  rules = c.clients-rules.ensures.rules;
  same = c.requires.same;
  clock = let start = c.requires.first.1 in omega (arith, start);
  rows = (c.in_ok-nodes.ensures.kept []).rows;
  few = c.in_ok-nodes.ensures.few;
  ready = c.in_ok-nodes.ensures.ready;
  early = omega arith;
  going = tt;
}

pub returns-clause-stands : goal.returns-clause-stands
returns-clause-stands c = record {
  grown = tt;
  moment = refl;
  began = refl;
  going = refl;
  nodes = c.in_ok-nodes.ensures.kept c.args.nats.chain;
  nats = record { topology = c.requires.same; chain = refl; stands = c.requires.first.0 };
  wire = ap (λ (w : WireState). w.items) c.in_ok-wire.ensures;
  done = λ i. rw (c.in_ok-wire.ensures) refl;
  armed = refl;
  left = refl;
  most = omega arith;
}
