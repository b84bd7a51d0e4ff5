use Rattle.td_base.proofs.Words.{refl}
use Rattle.td_base.proofs.AddressGroups.{group_first}
use Rattle.td_base.proofs.BytesLemmas.{no_bytes}
use Rattle.td_base.proofs.ipv6_groups.Groups.address.Goals as goal

pub returns-clause-is : goal.returns-clause-is
returns-clause-is c = (
  refl,
  (group_first c.high.type_inv c.low.type_inv
      (group_first c.high-2.type_inv c.low-2.type_inv (group_first c.high-3.type_inv c.low-3.type_inv
      (group_first c.high-4.type_inv c.low-4.type_inv (group_first c.high-5.type_inv c.low-5.type_inv
      (group_first c.high-6.type_inv c.low-6.type_inv (group_first c.high-7.type_inv c.low-7.type_inv
      (group_first c.high-8.type_inv c.low-8.type_inv no_bytes)))))))).each,
)
