-- What the definitions give keeps the rules of a topology.
use Rattle.scenario.proofs.Words.{Bool, CodeScenario, Data, EVENTS_MAX, Err, Event, HasNoneBehind, HasNoneFrom, IfOk, IsReadAs, IsTopology, Items, List, Members, NodeKind, None, Ok, Option, Place, Result, Scenario, ScenarioFault, Some, TEXT_MAX, TopologyState, [], arith, as_array, as_table, bind_ok, client_of_table, codes, document_of, events_of, false, get_member, if◌then◌else◌, item, item_count, leb-true, length, length-append, list_key, most_rows, nat_le, nat_lt, nat_of_table, native_of_table, natural, no_items, no_nodes, nodes_of, ok_or, only_keys, refl, relay_of_table, row_count, row_keys, row_path, scenario_in, scenario_keys, scenario_of, server_of_table, subst, told, true, typed, whole_number_at, with_client, with_few, with_list, with_nat, with_native, with_nodes, with_relay, with_row, with_server, with_value, with_values, written, ℕ, ◌+◌, ◌<◌, ◌∷◌, ◌≡◌, ◌≤◌}
use Rattle.scenario.specs.declared.node_kind.NodeKind.TheVariants as kind
use Rattle.scenario.specs.declared.place.Place.TheVariants as place
use Rattle.scenario.specs.declared.scenario_fault.ScenarioFault.TheVariants as fault
use Rattle.scenario.proofs.Steps.{ok_same, passed}
use Rattle.scenario.proofs.Grown.{grown_server, grown_nat, grown_client, grown_relay, grown_native}
use Rattle.scenario.proofs.FreshRows.{server_of_table-fresh, nat_of_table-fresh, client_of_table-fresh, relay_of_table-fresh, native_of_table-fresh}
use Rattle.scenario.proofs.EventsSoFar.{length-events_of}

-- ---- one node

-- it keeps the rules, has no nodes behind this kind, and one more of this kind than t
record KeepsWithOne (kind : NodeKind) (t more : TopologyState) : Type 0 where
  rules : IsTopology more
  order : HasNoneBehind kind more
  one : row_count kind more ≡ row_count kind t + 1

with_row-keeps : (kind : NodeKind) (t more : TopologyState) (place : Place) (table : Members)
    → with_row kind t place table ≡ Ok more → IsTopology t → HasNoneBehind kind t → row_count kind t < most_rows kind → KeepsWithOne kind t more
unfolding with_row
with_row-keeps kind.Server t more place table e is h few =
    let row = bind_ok (server_of_table t place table) _ more e in
    let grown : KeepsWithOne kind.Server t (with_server t row.0) =
    record {
      rules = grown_server t row.0 is (server_of_table-fresh t place table row.0 row.1) few h;
      order = h;
      one = omega (arith, length-append t.servers (row.0 ∷ []));
    } in
    subst (KeepsWithOne kind.Server t) (ok_same _ _ row.2) grown
with_row-keeps kind.Nat t more place table e is h few =
    let row = bind_ok (nat_of_table t place table) _ more e in
    let grown : KeepsWithOne kind.Nat t (with_nat t row.0) = record { rules = grown_nat t row.0 is (nat_of_table-fresh t place table row.0 row.1) few h; order = h; one = omega (arith, length-append t.nats (row.0 ∷ [])) } in
    subst (KeepsWithOne kind.Nat t) (ok_same _ _ row.2) grown
with_row-keeps kind.Client t more place table e is h few =
    let row = bind_ok (client_of_table t place table) _ more e in
    let grown : KeepsWithOne kind.Client t (with_client t row.0) =
    record {
      rules = grown_client t row.0 is (client_of_table-fresh t place table row.0 row.1) few h;
      order = h;
      one = omega (arith, length-append t.clients (row.0 ∷ []));
    } in
    subst (KeepsWithOne kind.Client t) (ok_same _ _ row.2) grown
with_row-keeps kind.Relay t more place table e is h few =
    let row = bind_ok (relay_of_table t place table) _ more e in
    let grown : KeepsWithOne kind.Relay t (with_relay t row.0) = record { rules = grown_relay t row.0 is (relay_of_table-fresh t place table row.0 row.1) few h; order = h; one = omega (arith, length-append t.relays (row.0 ∷ [])) } in
    subst (KeepsWithOne kind.Relay t) (ok_same _ _ row.2) grown
with_row-keeps kind.Native t more place table e is h few =
    let row = bind_ok (native_of_table t place table) _ more e in
    let grown : KeepsWithOne kind.Native t (with_native t row.0) = record { rules = grown_native t row.0 is (native_of_table-fresh t place table row.0 row.1) few; order = h; one = omega (arith, length-append t.natives (row.0 ∷ [])) } in
    subst (KeepsWithOne kind.Native t) (ok_same _ _ row.2) grown

with_value-keeps : (kind : NodeKind) (index : ℕ) (t more : TopologyState) (value : Data)
    → with_value kind index t value ≡ Ok more → IsTopology t → HasNoneBehind kind t → row_count kind t < most_rows kind → KeepsWithOne kind t more
unfolding with_value
with_value-keeps kind index t more value e is h few =
    let table = bind_ok (ok_or (as_table value) (fault.Kind (row_path kind index))) _ more e in
    let only = bind_ok (only_keys (row_keys kind) (place.Row kind index) table.0) _ more table.2 in
    with_row-keeps kind t more (place.Row kind index) table.0 only.2 is h few

-- ---- a list

-- it keeps the rules, and has no nodes behind this kind
record KeepsRules (kind : NodeKind) (t : TopologyState) : Type 0 where
  rules : IsTopology t
  order : HasNoneBehind kind t

with_values-keeps : (kind : NodeKind) (index : ℕ) (t more : TopologyState) (values : Items)
    → with_values kind index t values ≡ Ok more → KeepsRules kind t → row_count kind t + item_count values ≤ most_rows kind → KeepsRules kind more
with_values-keeps kind index t more no_items e h few = subst (KeepsRules kind) (ok_same _ _ e) h
with_values-keeps kind index t more (item value values) e h few =
    let next = bind_ok (with_value kind index t value) _ more e in
    let one = with_value-keeps kind index t next.0 value next.1 h.rules h.order (omega (arith, few)) in
    with_values-keeps kind (index + 1) next.0 more values next.2 (record { rules = one.rules; order = one.order }) (omega (arith, few, one.one))

with_list-keeps : (kind : NodeKind) (t more : TopologyState) (value : Option Data) → with_list kind t value ≡ Ok more → IsTopology t → HasNoneFrom kind t → KeepsRules kind more
with_list-keeps kind t more None e is h = subst (KeepsRules kind) (ok_same _ _ e) (record { rules = is; order = h.1 })
with_list-keeps kind t more (Some value) e is h =
    let values = bind_ok (typed place.Text (list_key kind) (as_array value)) (with_few kind t) more e in
    let few = passed (nat_le (item_count values.0) (most_rows kind)) (with_values kind 0 t values.0) _ more values.2 in
    with_values-keeps kind 0 t more values.0 few.1 (record { rules = is; order = h.1 }) (omega (arith, leb-true _ _ few.0, h.0))

-- ---- the five lists

none_keeps : IsTopology no_nodes
none_keeps = record {
  servers = omega arith;
  nats = omega arith;
  clients = omega arith;
  relays = omega arith;
  natives = omega arith;
  names = tt;
  spelled = tt;
  addresses = tt;
  global = tt;
  idle = tt;
  each_client = tt;
  inside = tt;
  ports = tt;
  outside = tt;
  sixes = tt;
  through = tt;
  made = record { addresses = tt; sixes = tt; inside = tt; at = tt };
}

no_rows : {A : Type 0} (xs : List A) → xs ≡ [] → length xs ≡ 0
no_rows [] e = refl
no_rows (x ∷ xs) e = absurd cc

nodes_of-keeps : (table : Members) (t : TopologyState) → nodes_of table ≡ Ok t → IsTopology t
unfolding nodes_of
nodes_of-keeps table t e =
    let a = bind_ok (with_nodes kind.Server no_nodes table) _ t e in
    let b = bind_ok (with_nodes kind.Nat a.0 table) _ t a.2 in
    let c = bind_ok (with_nodes kind.Client b.0 table) _ t b.2 in
    let d = bind_ok (with_nodes kind.Relay c.0 table) _ t c.2 in
    let servers = with_list-keeps kind.Server no_nodes a.0 (get_member (list_key kind.Server) table) a.1 none_keeps (refl, (refl, refl, refl, refl)) in
    let nats = with_list-keeps kind.Nat a.0 b.0 (get_member (list_key kind.Nat) table) b.1 servers.rules (no_rows a.0.nats servers.order.0, (servers.order.1, servers.order.2, servers.order.3)) in
    let clients = with_list-keeps kind.Client b.0 c.0 (get_member (list_key kind.Client) table) c.1 nats.rules (no_rows b.0.clients nats.order.0, (nats.order.1, nats.order.2)) in
    let relays = with_list-keeps kind.Relay c.0 d.0 (get_member (list_key kind.Relay) table) d.1 clients.rules (no_rows c.0.relays clients.order.0, clients.order.1) in
    (with_list-keeps kind.Native d.0 t (get_member (list_key kind.Native) table) d.2 relays.rules (no_rows d.0.natives relays.order, tt)).rules

-- ---- a text

-- what stands at the keys of a text that is a scenario
record StandsThere (s : Scenario) : Type 0 where
  table : Members
  nodes : nodes_of table ≡ Ok s.topology
  events : events_of s.topology table ≡ Ok s.events

abbrev made : ℕ → TopologyState → List Event → Scenario
made seed topology events = record { seed = seed; topology = topology; events = events }

not_refused : {A E : Type 0} (b : Bool) (r : Result A E) (fault : E) (x : A) → (if b then Err fault else r) ≡ Ok x → r ≡ Ok x
not_refused true r fault x e = absurd cc
not_refused false r fault x e = e

there : (text : List ℕ) (s : Scenario) → written text ≡ Ok s → StandsThere s
unfolding scenario_in
there text s e =
    let table = bind_ok (ok_or (document_of text) fault.NotToml) scenario_in s e in
    let only = bind_ok (only_keys scenario_keys place.Text table.0) _ s table.2 in
    let seed = bind_ok (whole_number_at place.Text (codes "seed") natural table.0) _ s only.2 in
    let topology = bind_ok (nodes_of table.0) _ s seed.2 in
    let events = bind_ok (events_of topology.0 table.0) _ s topology.2 in
    let found : StandsThere (made seed.0 topology.0 events.0) = record { table = table.0; nodes = topology.1; events = events.1 } in
    subst StandsThere (ok_same _ _ events.2) found

pub scenario_of-rules : (text : List ℕ) (s : Scenario) → scenario_of text ≡ Ok s → IsTopology s.topology
unfolding scenario_of
scenario_of-rules text s e = let found = there text s (not_refused (nat_lt TEXT_MAX (length text)) (written text) fault.TooLong s e) in nodes_of-keeps found.table s.topology found.nodes

-- a scenario that was read has few events
pub few_read : (text : List ℕ) (r : Result CodeScenario ScenarioFault) → IsReadAs told r (written text) → IfOk r (λ s. length s.events ≤ EVENTS_MAX)
few_read text (Ok s) h = let found = there text (told s) h in length-events_of s.topology found.table s.events found.events
few_read text (Err e) h = tt
