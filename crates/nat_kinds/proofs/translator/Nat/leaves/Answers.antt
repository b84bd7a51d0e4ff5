use Rattle.nat_kinds.proofs.Words.{Err, IsFront, List, NatState, Ok, Option, Outward, err_from_is_err_and, subst, sym, ◌≤◌}
use Rattle.nat_kinds.proofs.QueryLemmas.{leaves-stands}
use Rattle.nat_kinds.proofs.translator.Nat.leaves.Goals as goal

pub answer-requires-clause-front : goal.answer-requires-clause-front
answer-requires-clause-front c = subst (λ (places : List (Option Outward)). IsFront places c.self.inside.front) (sym c.deref.ensures.value) c.self.invariant.1

pub returns-in_err-port : goal.returns-in_err-port
returns-in_err-port c =
    let p = err_from_is_err_and c.from_residual.result c.from_residual.ensures.1 in
    let l : c.self.inside.moment.0 ≤ c.args.now.0 = subst (λ (v : NatState). v.moment ≤ c.args.now.0) (sym c.self.view_is) c.requires.clock in
    rw (p.1, p.2) (rw (← c.self.view_is) (record {
      answer = leaves-stands _ (record { moment = c.args.now; inside = c.args.inside; dst = c.args.dst })
          (Err c.in_err-port.field-0.0) l (rw c.deref.ensures.value at c.in_err-port.ensures.value);
    }))

pub returns : goal.returns
returns c =
    let l : c.self.inside.moment.0 ≤ c.args.now.0 = subst (λ (v : NatState). v.moment ≤ c.args.now.0) (sym c.self.view_is) c.requires.clock in
    rw (← c.self.view_is) (record { answer = leaves-stands _ (record { moment = c.args.now; inside = c.args.inside; dst = c.args.dst }) (Ok c.in_ok-port.port) l (rw c.deref.ensures.value at c.in_ok-port.ensures.value) })
