-- One more of the generated nodes keeps the rules of a topology.
use Rattle.std.proofs.Common.{◌≡◌, ◌<◌, ℕ, zero, suc, true, [], ◌∷◌, refl, sym, ap, ◌∙◌, subst, ◌+◌, arith}
use Rattle.td_base.specs.Ip4.{same_ip}
use Rattle.td_base.specs.Ip6.{same_ip6}
use Rattle.td_base.specs.Ep.{same_ep}
use Rattle.topology.specs.Names.{same_name}
use Rattle.td_base.specs.Reach.{is_global, is_global6}
use Rattle.teredo_addr.specs.Teredo.{is_teredo}
use Rattle.topology.specs.NodeNames.{is_name}
use Rattle.topology.specs.declared.server_node.ServerNode.{ServerNode}
use Rattle.topology.specs.declared.nat_node.NatNode.{NatNode}
use Rattle.topology.specs.declared.client_node.ClientNode.{ClientNode}
use Rattle.topology.specs.declared.relay_node.RelayNode.{RelayNode}
use Rattle.topology.specs.declared.native_node.NativeNode.{NativeNode}
use Rattle.topology.specs.Rows.{TopologyState, no_nodes, with_server, with_nat, with_client, with_relay, with_native}
use Rattle.topology.specs.Rules.{IsTopology}
use Rattle.generator.specs.GeneratedNodes.{firsts, lettered_name, generated_server, generated_nat, generated_client, generated_relay, generated_native, generated_nodes}
use Rattle.generator.proofs.Decided.{keeps, kept}

-- ---- what has been made so far

abbrev pub some_servers : ℕ → TopologyState
some_servers k = record no_nodes { servers = firsts generated_server k }

abbrev pub some_nats : ℕ → TopologyState
some_nats k = record no_nodes { servers = firsts generated_server 2; nats = firsts generated_nat k }

abbrev pub some_clients : ℕ → TopologyState
some_clients k = record no_nodes { servers = firsts generated_server 2; nats = firsts generated_nat 4; clients = firsts generated_client k }

abbrev pub some_natives : ℕ → TopologyState
some_natives k = record { servers = firsts generated_server 2; nats = firsts generated_nat 4; clients = firsts generated_client 8; relays = generated_relay ∷ []; natives = firsts generated_native k }

servers_keep : (k : ℕ) → k < 2 → keeps (some_servers (suc k)) ≡ true
unfolding firsts lettered_name generated_server generated_nat generated_client generated_relay generated_native same_name same_ip same_ip6 same_ep is_global is_global6 is_teredo is_name
servers_keep zero e = refl
servers_keep (suc zero) e = refl
servers_keep (suc (suc k)) e = absurd (omega (arith, e))

nats_keep : (k : ℕ) → k < 4 → keeps (some_nats (suc k)) ≡ true
unfolding firsts lettered_name generated_server generated_nat generated_client generated_relay generated_native same_name same_ip same_ip6 same_ep is_global is_global6 is_teredo is_name
nats_keep zero e = refl
nats_keep (suc zero) e = refl
nats_keep (suc (suc zero)) e = refl
nats_keep (suc (suc (suc zero))) e = refl
nats_keep (suc (suc (suc (suc k)))) e = absurd (omega (arith, e))

clients_keep : (k : ℕ) → k < 8 → keeps (some_clients (suc k)) ≡ true
unfolding firsts lettered_name generated_server generated_nat generated_client generated_relay generated_native same_name same_ip same_ip6 same_ep is_global is_global6 is_teredo is_name
clients_keep zero e = refl
clients_keep (suc zero) e = refl
clients_keep (suc (suc zero)) e = refl
clients_keep (suc (suc (suc zero))) e = refl
clients_keep (suc (suc (suc (suc zero)))) e = refl
clients_keep (suc (suc (suc (suc (suc zero))))) e = refl
clients_keep (suc (suc (suc (suc (suc (suc zero)))))) e = refl
clients_keep (suc (suc (suc (suc (suc (suc (suc zero))))))) e = refl
clients_keep (suc (suc (suc (suc (suc (suc (suc (suc k)))))))) e = absurd (omega (arith, e))

natives_keep : (k : ℕ) → k < 2 → keeps (some_natives (suc k)) ≡ true
unfolding firsts lettered_name generated_server generated_nat generated_client generated_relay generated_native same_name same_ip same_ip6 same_ep is_global is_global6 is_teredo is_name
natives_keep zero e = refl
natives_keep (suc zero) e = refl
natives_keep (suc (suc k)) e = absurd (omega (arith, e))

relay_keeps : keeps (some_natives 0) ≡ true
unfolding firsts lettered_name generated_server generated_nat generated_client generated_relay generated_native same_name same_ip same_ip6 same_ep is_global is_global6 is_teredo is_name
relay_keeps = refl

-- ---- one more node

fits : (t u : TopologyState) → u ≡ t → keeps t ≡ true → IsTopology u
fits t u is e = subst IsTopology (sym is) (kept t e)

servers_grow : (t : TopologyState) (row : ServerNode) (k : ℕ) → t ≡ some_servers k → row ≡ generated_server k → with_server t row ≡ some_servers (suc k)
unfolding firsts
servers_grow t row k is e = ap (λ (x : TopologyState). with_server x row) is ∙ ap (with_server (some_servers k)) e

pub server_fits : (t : TopologyState) (row : ServerNode) (k : ℕ) → k < 2 → t ≡ some_servers k → row ≡ generated_server k → IsTopology (with_server t row)
server_fits t row k few is e = fits (some_servers (suc k)) (with_server t row) (servers_grow t row k is e) (servers_keep k few)

pub server_added : (t u : TopologyState) (row : ServerNode) (k : ℕ) → t ≡ some_servers k → row ≡ generated_server k → u ≡ with_server t row → u ≡ some_servers (k + 1)
server_added t u row k is e added = added ∙ servers_grow t row k is e ∙ (let next : suc k ≡ k + 1 = omega arith in ap some_servers next)

nats_grow : (t : TopologyState) (row : NatNode) (k : ℕ) → t ≡ some_nats k → row ≡ generated_nat k → with_nat t row ≡ some_nats (suc k)
unfolding firsts
nats_grow t row k is e = ap (λ (x : TopologyState). with_nat x row) is ∙ ap (with_nat (some_nats k)) e

pub nat_fits : (t : TopologyState) (row : NatNode) (k : ℕ) → k < 4 → t ≡ some_nats k → row ≡ generated_nat k → IsTopology (with_nat t row)
nat_fits t row k few is e = fits (some_nats (suc k)) (with_nat t row) (nats_grow t row k is e) (nats_keep k few)

pub nat_added : (t u : TopologyState) (row : NatNode) (k : ℕ) → t ≡ some_nats k → row ≡ generated_nat k → u ≡ with_nat t row → u ≡ some_nats (k + 1)
nat_added t u row k is e added = added ∙ nats_grow t row k is e ∙ (let next : suc k ≡ k + 1 = omega arith in ap some_nats next)

clients_grow : (t : TopologyState) (row : ClientNode) (k : ℕ) → t ≡ some_clients k → row ≡ generated_client k → with_client t row ≡ some_clients (suc k)
unfolding firsts
clients_grow t row k is e = ap (λ (x : TopologyState). with_client x row) is ∙ ap (with_client (some_clients k)) e

pub client_fits : (t : TopologyState) (row : ClientNode) (k : ℕ) → k < 8 → t ≡ some_clients k → row ≡ generated_client k → IsTopology (with_client t row)
client_fits t row k few is e = fits (some_clients (suc k)) (with_client t row) (clients_grow t row k is e) (clients_keep k few)

pub client_added : (t u : TopologyState) (row : ClientNode) (k : ℕ) → t ≡ some_clients k → row ≡ generated_client k → u ≡ with_client t row → u ≡ some_clients (k + 1)
client_added t u row k is e added = added ∙ clients_grow t row k is e ∙ (let next : suc k ≡ k + 1 = omega arith in ap some_clients next)

natives_grow : (t : TopologyState) (row : NativeNode) (k : ℕ) → t ≡ some_natives k → row ≡ generated_native k → with_native t row ≡ some_natives (suc k)
unfolding firsts
natives_grow t row k is e = ap (λ (x : TopologyState). with_native x row) is ∙ ap (with_native (some_natives k)) e

pub native_fits : (t : TopologyState) (row : NativeNode) (k : ℕ) → k < 2 → t ≡ some_natives k → row ≡ generated_native k → IsTopology (with_native t row)
native_fits t row k few is e = fits (some_natives (suc k)) (with_native t row) (natives_grow t row k is e) (natives_keep k few)

pub native_added : (t u : TopologyState) (row : NativeNode) (k : ℕ) → t ≡ some_natives k → row ≡ generated_native k → u ≡ with_native t row → u ≡ some_natives (k + 1)
native_added t u row k is e added = added ∙ natives_grow t row k is e ∙ (let next : suc k ≡ k + 1 = omega arith in ap some_natives next)

relay_grows : (t : TopologyState) (row : RelayNode) (k : ℕ) → t ≡ some_clients k → k ≡ 8 → row ≡ generated_relay → with_relay t row ≡ some_natives 0
unfolding firsts
relay_grows t row k is end e =
    ap (λ (x : TopologyState). with_relay x row) (is ∙ ap some_clients end) ∙ ap (with_relay (some_clients 8)) e

pub relay_fits : (t : TopologyState) (row : RelayNode) (k : ℕ) → t ≡ some_clients k → k ≡ 8 → row ≡ generated_relay → IsTopology (with_relay t row)
relay_fits t row k is end e = fits (some_natives 0) (with_relay t row) (relay_grows t row k is end e) relay_keeps

-- ---- from one kind to the next

pub servers_begin : some_servers 0 ≡ no_nodes
unfolding firsts
servers_begin = refl

pub nats_begin : (t : TopologyState) (k : ℕ) → t ≡ some_servers k → k ≡ 2 → t ≡ some_nats 0
unfolding firsts
nats_begin t k is end = is ∙ ap some_servers end

pub clients_begin : (t : TopologyState) (k : ℕ) → t ≡ some_nats k → k ≡ 4 → t ≡ some_clients 0
unfolding firsts
clients_begin t k is end = is ∙ ap some_nats end

pub natives_begin : (t u : TopologyState) (row : RelayNode) (k : ℕ) → t ≡ some_clients k → k ≡ 8 → row ≡ generated_relay → u ≡ with_relay t row → u ≡ some_natives 0
natives_begin t u row k is end e added = added ∙ relay_grows t row k is end e

pub all_made : (t : TopologyState) (k : ℕ) → t ≡ some_natives k → k ≡ 2 → t ≡ generated_nodes
unfolding generated_nodes
all_made t k is end = is ∙ ap some_natives end
