use Rattle.nat_kinds.proofs.Words.{NatState, subst, sym, ◌≤◌}
use Rattle.nat_kinds.proofs.QueryLemmas.{port-stands}
use Rattle.nat_kinds.proofs.translator.Nat.port.Goals as goal

pub returns : goal.returns
returns c =
    let l : c.self.inside.moment.0 ≤ c.args.now.0 = subst (λ (v : NatState). v.moment ≤ c.args.now.0) (sym c.self.view_is) c.requires.clock in
    rw (← c.self.view_is) (record {
      answer = λ h is. port-stands _ c.args.now.0 c.args.inside c.args.dst c.held_port.result l
          (rw c.deref.ensures.value at c.held_port.ensures.live) (rw c.deref.ensures.value at c.held_port.ensures.none) h is;
    })
