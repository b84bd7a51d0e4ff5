-- The two clients and their nodes keep the rules of a topology.
use Rattle.full_tables.proofs.Words.{IsClient, IsRefreshRange, IsTopology, arith, is_global, is_name, leb-true, ltb-true, refl, same_ep, same_ip, same_name, ℕ, ◌≡◌, ◌≢◌}
use Rattle.full_tables.proofs.PeerAddresses.{are_bytes}
use Rattle.full_tables.proofs.TwoClients.{the_server, nat_of_a, nat_of_b, a, b, topology}

has_port : (port : ℕ) → port ≡ 4000 → port ≢ 0
has_port port is none = omega (arith, is, none)

times_keep : IsRefreshRange a.refresh
times_keep = record { least = leb-true _ _ refl; order = leb-true _ _ refl; most = leb-true _ _ refl }

a_keeps : IsClient topology a
a_keeps = record { behind = refl; asks = refl; port = has_port 4000 refl; refresh = times_keep }

b_keeps : IsClient topology b
b_keeps = record { behind = refl; asks = refl; port = has_port 4000 refl; refresh = times_keep }

pub keeps_rules : IsTopology topology
unfolding same_name same_ip same_ep is_global is_name
keeps_rules = record {
  servers = leb-true _ _ refl;
  nats = leb-true _ _ refl;
  clients = leb-true _ _ refl;
  relays = leb-true _ _ refl;
  natives = leb-true _ _ refl;
  names = (refl, (refl, (refl, (refl, (refl, tt)))));
  spelled = (refl, (refl, (refl, (refl, (refl, tt)))));
  addresses = (refl, (refl, (refl, (refl, tt))));
  global = (refl, (refl, (refl, (refl, tt))));
  idle = (record { least = leb-true _ _ refl; most = leb-true _ _ refl }, (record { least = leb-true _ _ refl; most = leb-true _ _ refl }, tt));
  each_client = (a_keeps, (b_keeps, tt));
  inside = (refl, (refl, tt));
  ports = tt;
  outside = tt;
  sixes = tt;
  through = tt;
  made = record {
    addresses = (
      (refl, are_bytes the_server.primary.0 refl),
      ((refl, are_bytes the_server.secondary.0 refl), ((refl, are_bytes nat_of_a.external.0 refl), ((refl, are_bytes nat_of_b.external.0 refl), tt))),
    );
    sixes = tt;
    inside = (
      ((refl, are_bytes a.inside.ip.0 refl), ltb-true _ _ refl),
      (((refl, are_bytes b.inside.ip.0 refl), ltb-true _ _ refl), tt),
    );
    at = tt;
  };
}
