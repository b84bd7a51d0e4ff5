-- A datagram passes one NAT.
use Rattle.std.specs.Prelude.{ℕ, ◌∷◌, List, Option, Result, Ok, Err}
use Rattle.td_base.specs.declared.endpoint.Ep.{Ep}
use Rattle.nat_kinds.specs.declared.refusal.NatRefusal.{NatRefusal}
use Rattle.nat_kinds.specs.Answer.{nat_answer, GivesAnswer}
use Rattle.nat_kinds.specs.Nat.{NatState}
use Rattle.topology.specs.Rows.{TopologyState}
use Rattle.topology.specs.Chains.{NatPasts, Passing, passing, after_passing, nat_set_up}
use Rattle.td_chain.specs.Chains.{NatsStand}

-- what was let out till then, with what the NAT gave a port
abbrev pub passed_with : ℕ → ℕ → Ep → Ep → List Passing → Result Ep NatRefusal → List Passing
passed_with k m from dst passed (Ok ep) = passing k m from dst ep.port ∷ passed
passed_with k m from dst passed (Err why) = passed

-- NAT k answers by its history, and stands for it with what it let out
pub record Passes (t : TopologyState) (h : NatPasts) (m : ℕ) (from dst : Ep) (passed : List Passing) (k : ℕ)
    (result : Result Ep NatRefusal) (new : List (Option NatState)) : Type 0 where
  pub answer : GivesAnswer (nat_set_up t k) (nat_answer (nat_set_up t k) (after_passing passed h k) m from dst) result
  pub stands : NatsStand t new (after_passing (passed_with k m from dst passed result) h)
