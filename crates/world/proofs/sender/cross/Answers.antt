use Rattle.world.proofs.Words.{CrossesChain, Err, Hairpin, NatRefusal, Ok, nat_pasts, subst}
use Rattle.nat_kinds.specs.declared.refusal.NatRefusal.TheVariants.{Full}
use Rattle.world.proofs.Through.{crossed_so}
use Rattle.world.proofs.Amid.{crosses_amid}
use Rattle.world.proofs.sender.cross.Goals as goal

pub returns-in-Ok-clause-crosses : goal.returns-in-Ok-clause-crosses
returns-in-Ok-clause-crosses c = λ lab H passed is.
    crossed_so lab H c.args.from.nat c.args.now.0 c.args.from.inside c.args.to passed c.args.nats.now c.outward.new.self (Ok c.in-Ok.src) is c.outward.ensures.same (c.in-Ok.ensures.goes_out (nat_pasts lab H) passed is.stands)

pub returns-in-Hairpin-clause-crosses : goal.returns-in-Hairpin-clause-crosses
returns-in-Hairpin-clause-crosses c = λ lab H passed is.
    crossed_so lab H c.args.from.nat c.args.now.0 c.args.from.inside c.args.to passed c.args.nats.now c.outward.new.self (Err Hairpin) is c.outward.ensures.same
    (subst (λ (why : NatRefusal). CrossesChain c.args.nats.now c.outward.new.self (nat_pasts lab H) passed c.args.now.0 c.args.from.nat c.args.from.inside c.args.to (Err why)) c.in-Hairpin.is
    (c.in-Err.ensures.goes_out (nat_pasts lab H) passed is.stands))

pub returns-in-Full-clause-crosses : goal.returns-in-Full-clause-crosses
returns-in-Full-clause-crosses c = λ lab H passed is.
    crossed_so lab H c.args.from.nat c.args.now.0 c.args.from.inside c.args.to passed c.args.nats.now c.outward.new.self (Err Full) is c.outward.ensures.same
    (subst (λ (why : NatRefusal). CrossesChain c.args.nats.now c.outward.new.self (nat_pasts lab H) passed c.args.now.0 c.args.from.nat c.args.from.inside c.args.to (Err why)) c.in-Full.is
    (c.in-Err.ensures.goes_out (nat_pasts lab H) passed is.stands))

pub returns-in-NoMemory-clause-amid : goal.returns-in-NoMemory-clause-amid
returns-in-NoMemory-clause-amid c = λ lab H passed is.
    crosses_amid lab H c.args.from.nat c.args.now.0 c.args.from.inside c.args.to passed c.args.nats.now c.outward.new.self is c.outward.ensures.same
    (subst (λ (why : NatRefusal). CrossesChain c.args.nats.now c.outward.new.self (nat_pasts lab H) passed c.args.now.0 c.args.from.nat c.args.from.inside c.args.to (Err why)) c.in-NoMemory.is
    (c.in-Err.ensures.goes_out (nat_pasts lab H) passed is.stands))
