-- The laws of this crate, each under the name of its call: crates above cite them from here.
use Rattle.td_base.proofs.Words.{TextsAreMade}
use Rattle.td_base.proofs.AddressValues.{ip4_of-sound, ep_of-sound}
use Rattle.td_base.proofs.Ip6ValueLemmas.{ip6_of-sound}

pub texts_are_made : TextsAreMade
texts_are_made = record {
  ip4 = λ text ip e. (ip4_of-sound ip text e).0;
  ep = λ text at e. (ep_of-sound at text e).0;
  ip6 = λ text ip e. (ip6_of-sound ip text e).0;
}
