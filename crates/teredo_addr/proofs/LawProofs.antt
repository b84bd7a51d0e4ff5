-- What an address that was made tells.
pub use Rattle.teredo_addr.proofs.FlagLaws.{flags_tell}
use Rattle.teredo_addr.proofs.Words.{Bool, Ep, Ip4, LinkLocalTells, TeredoIsMade, TeredoTells, eqb-true, false, is_global6, is_link_local, is_teredo, link_local, refl, teredo_ip, true, ℕ, ◌≡◌}
use Rattle.teredo_addr.proofs.AddressLaws.{is_teredo-teredo_ip, server_in-teredo_ip, flags_in-teredo_ip, embedded-teredo_ip, has_cone-teredo_ip, IsIp6-teredo_ip, IsIp6-link_local, embedded-link_local, has_cone-link_local, spelled}

global : (server : Ip4) (flags : ℕ) (mapped : Ep) → is_global6 (teredo_ip server flags mapped) ≡ true
unfolding is_global6 teredo_ip
global server flags mapped = refl

pub not_link : (server : Ip4) (flags : ℕ) (mapped : Ep) → is_link_local (teredo_ip server flags mapped) ≡ false
unfolding is_link_local teredo_ip
not_link server flags mapped = refl

pub teredo_tells : TeredoTells
teredo_tells server flags mapped s f m = record {
  sixteen = IsIp6-teredo_ip server flags mapped s m;
  teredo = is_teredo-teredo_ip server flags mapped;
  global = global server flags mapped;
  not_link = not_link server flags mapped;
  server_is = server_in-teredo_ip server flags mapped s;
  flags_are = flags_in-teredo_ip server flags mapped s f;
  cone_is = has_cone-teredo_ip server flags mapped s f;
  mapped_is = embedded-teredo_ip server flags mapped s m;
}

pub teredo_is_made : TeredoIsMade
unfolding is_teredo
teredo_is_made ip fits is = spelled ip fits (eqb-true _ _ is)

link : (cone : Bool) (ep : Ep) → is_link_local (link_local cone ep) ≡ true
unfolding is_link_local link_local
link cone ep = refl

not_teredo : (cone : Bool) (ep : Ep) → is_teredo (link_local cone ep) ≡ false
unfolding is_teredo link_local
not_teredo cone ep = refl

not_global : (cone : Bool) (ep : Ep) → is_global6 (link_local cone ep) ≡ false
unfolding is_global6 link_local
not_global cone ep = refl

pub link_local_tells : LinkLocalTells
link_local_tells cone ep fits = record {
  sixteen = IsIp6-link_local cone ep fits;
  link = link cone ep;
  not_teredo = not_teredo cone ep;
  not_global = not_global cone ep;
  cone_is = has_cone-link_local cone ep;
  mapped_is = embedded-link_local cone ep fits;
}
