-- A client's packet for a host of the IPv6 Internet: the lines on the packet let it out.
use Rattle.theory_first_natives.proofs.Words.{GoesOut, Ip6, IsHere, Journal, List, Settings, address_is, and_left, ap, false, fields_in, given_here, is_big, is_bubble, is_global6, is_packet, is_reachable, is_teredo, not, own_address, qualification, refl, same_ip6, same_ip6-self, standing_at, true, ℕ, ◌∙◌, ◌≡◌}

-- x is one of this client
pub record IsForHost (s : Settings) (j : Journal) (x : List ℕ) : Type 0 where
  pub here : IsHere s j (fields_in x).src
  pub one : is_packet x ≡ true
  pub short : is_big (fields_in x) ≡ false
  pub plain : is_bubble (fields_in x) ≡ false
  pub global : is_global6 (fields_in x).dst ≡ true
  pub native : is_teredo (fields_in x).dst ≡ false
  pub another : same_ip6 (fields_in x).dst (fields_in x).src ≡ false

module _ (s : Settings) (j : Journal) (n : ℕ) (x : List ℕ) (is : IsForHost s j x) where
  abbrev to : Ip6
  to = (fields_in x).dst

  pub own_is : own_address (qualification s j) ≡ (fields_in x).src
  own_is = address_is s j (fields_in x).src is.here.address

  pub goes_out : GoesOut (given_here s j n x is.one)
  unfolding standing_at
  goes_out = record {
    qualified = is.here.qualified;
    packet = refl;
    short = is.short;
    own_source = ap (same_ip6 (fields_in x).src) own_is ∙ same_ip6-self (fields_in x).src;
    global = is.global;
    no_bubble = is.plain;
    foreign = ap (same_ip6 to) own_is ∙ is.another;
    reachable = and_left (is_teredo to) (not (is_reachable s.policy to)) is.native;
  }
