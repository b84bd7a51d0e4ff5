-- Each event of the generated scenario is one that its nodes can be asked for.
use Rattle.std.proofs.Common.{◌≡◌, ◌<◌, ◌≤◌, ◌+◌, ◌%◌, ◌==◌, ℕ, zero, suc, nat_lt, lit<, lit≤, true, false, Bool, List, [], ◌∷◌, length, refl, sym, subst, arith}
use Rattle.std.specs.Prelude.{if◌then◌else◌}
use Rattle.std.specs.List.{AllByRecursion}
use Rattle.td_base.specs.Bytes.{IsBytes}
use Rattle.td_base.proofs.BytesLemmas.{IsBytes-big_bytes}
use Rattle.topology.specs.Named.{has_host, is_nat, is_client_of}
use Rattle.topology.specs.Rows.{TopologyState}
use Rattle.topology.specs.Topology.{nodes, node_at}
use Rattle.topology.proofs.Lists.{all_joined}
use Rattle.events.specs.declared.event.Event.{Event}
use Rattle.events.specs.declared.event.Event.TheVariants as event
use Rattle.events.specs.Events.{IsEvent}
use Rattle.generator.specs.GeneratedNodes.{firsts, lettered_name, generated_server, generated_nat, generated_client, generated_relay, generated_native, nat_number, client_number, native_number, generated_nodes}
use Rattle.generator.specs.GeneratedEvent.{host_event, copy_event, upset_event, sent_event, generated_event}
use Rattle.generator.specs.Generated.{event_numbered, generated_events}

abbrev Is : Event → Type 0
Is e = IsEvent generated_nodes e

-- ---- the nodes that events name

has_host_client : (k : ℕ) → k < 8 → has_host (node_at generated_nodes (6 + k)) ≡ true
unfolding generated_nodes firsts lettered_name generated_server generated_nat generated_client generated_relay generated_native
has_host_client zero e = refl
has_host_client (suc zero) e = refl
has_host_client (suc (suc zero)) e = refl
has_host_client (suc (suc (suc zero))) e = refl
has_host_client (suc (suc (suc (suc zero)))) e = refl
has_host_client (suc (suc (suc (suc (suc zero))))) e = refl
has_host_client (suc (suc (suc (suc (suc (suc zero)))))) e = refl
has_host_client (suc (suc (suc (suc (suc (suc (suc zero))))))) e = refl
has_host_client (suc (suc (suc (suc (suc (suc (suc (suc k)))))))) e = absurd (omega (arith, e))

has_host_native : (k : ℕ) → k < 2 → has_host (node_at generated_nodes (15 + k)) ≡ true
unfolding generated_nodes firsts lettered_name generated_server generated_nat generated_client generated_relay generated_native
has_host_native zero e = refl
has_host_native (suc zero) e = refl
has_host_native (suc (suc k)) e = absurd (omega (arith, e))

record IsBehind (n who : ℕ) : Type 0 where
  by : is_nat (node_at generated_nodes n) ≡ true
  behind : is_client_of n (node_at generated_nodes who) ≡ true

-- client k is behind NAT k, of the first four
behind_own : (k : ℕ) → k < 4 → IsBehind (2 + k) (6 + k)
unfolding generated_nodes firsts lettered_name generated_server generated_nat generated_client generated_relay generated_native
behind_own zero e = record { by = refl; behind = refl }
behind_own (suc zero) e = record { by = refl; behind = refl }
behind_own (suc (suc zero)) e = record { by = refl; behind = refl }
behind_own (suc (suc (suc zero))) e = record { by = refl; behind = refl }
behind_own (suc (suc (suc (suc k)))) e = absurd (omega (arith, e))

nodes_count : length (nodes generated_nodes) ≡ 17
unfolding generated_nodes firsts lettered_name generated_server generated_nat generated_client generated_relay generated_native
nodes_count = refl

-- ---- endpoints

made_address : (a b c d : ℕ) → a < 256 → b < 256 → c < 256 → d < 256 → IsBytes (a ∷ b ∷ c ∷ d ∷ [])
made_address a b c d pa pb pc pd zero = pa
made_address a b c d pa pb pc pd (suc zero) = pb
made_address a b c d pa pb pc pd (suc (suc zero)) = pc
made_address a b c d pa pb pc pd (suc (suc (suc zero))) = pd
made_address a b c d pa pb pc pd (suc (suc (suc (suc i)))) = lit< tt

-- ---- events

host_is : (from to word : ℕ) → has_host (node_at generated_nodes from) ≡ true → has_host (node_at generated_nodes to) ≡ true → Is (host_event from to word)
host_is from to word a b = record { from = a; target = b; short = lit≤ tt; made = IsBytes-big_bytes 4 word }

client_is : (word : ℕ) → has_host (node_at generated_nodes (client_number word)) ≡ true
client_is word = has_host_client (word % 8) (omega arith)

native_is : (word : ℕ) → has_host (node_at generated_nodes (native_number word)) ≡ true
native_is word = has_host_native (word % 2) (omega arith)

sent_is : (kind b c : ℕ) → Is (sent_event kind b c)
sent_is kind b c = by_test (nat_lt kind 13) (kind == 13) where
  by_test : (x y : Bool) → Is (if x then host_event (client_number b) (client_number c) c else (if y then host_event (client_number b) (native_number c) c else host_event (native_number b) (client_number c) c))
  by_test true y = host_is (client_number b) (client_number c) c (client_is b) (client_is c)
  by_test false true = host_is (client_number b) (native_number c) c (client_is b) (native_is c)
  by_test false false = host_is (native_number b) (client_number c) c (native_is b) (client_is c)

-- an endpoint of the copies
copy_is : (number k : ℕ) → number < 50000 → k < 4 → Is (copy_event number k)
copy_is number k few small =
    let from : IsBytes (203 ∷ 0 ∷ 113 ∷ 5 ∷ []) = made_address 203 0 113 5 (lit< tt) (lit< tt) (lit< tt) (lit< tt) in
    let to : IsBytes (198 ∷ 51 ∷ 100 ∷ (k + 1) ∷ []) = made_address 198 51 100 (k + 1) (lit< tt) (lit< tt) (lit< tt) (omega (arith, small)) in
    record { most = omega (arith, few); from = ((refl, from), lit< tt); to = ((refl, to), lit< tt) }

forgotten_is : (c : ℕ) → Is (event.Forget (nat_number c) (client_number (c % 4)))
forgotten_is c =
    let low : c % 4 < 4 = omega arith in
    let same : c % 4 % 8 ≡ c % 4 = omega arith in
    let is = behind_own (c % 4) low in
    subst (λ (n : ℕ). Is (event.Forget (nat_number c) (6 + n))) (sym same) (record { by = is.by; behind = is.behind })

restarted_is : (n : ℕ) → n < 17 → Is (event.Restart n)
restarted_is n e = omega (arith, e, nodes_count)

upset_is : (i b c : ℕ) → i < 50000 → Is (upset_event i b c)
upset_is i b c few = by_test (b % 4 == 0) (b % 4 == 1) (b % 4 == 2) where
  by_test : (x y z : Bool) → Is (if x then event.Restart (client_number c) else (if y then event.Restart (nat_number c) else (if z then event.Forget (nat_number c) (client_number (c % 4)) else copy_event (c % (i + 1)) (c % 4))))
  by_test true y z = restarted_is (client_number c) (omega arith)
  by_test false true z = restarted_is (nat_number c) (omega arith)
  by_test false false true = forgotten_is c
  by_test false false false = copy_is (c % (i + 1)) (c % 4) (let small : c % (i + 1) < i + 1 = omega arith in omega (arith, small, few)) (omega arith)

event_is : (i a b c : ℕ) → i < 50000 → Is (generated_event i a b c)
unfolding generated_event
event_is i a b c few = by_test (nat_lt (a % 16) 6) (nat_lt (a % 16) 8) (nat_lt (a % 16) 11) (nat_lt (a % 16) 15) where
  by_test : (w x y z : Bool) → Is (if w then event.Next else (if x then event.Deliver (b % (i + 1)) else (if y then event.Advance (b % 5000) else (if z then sent_event (a % 16) b c else upset_event i b c))))
  by_test true x y z = tt
  by_test false true y z = let small : b % (i + 1) < i + 1 = omega arith in omega (arith, small, few)
  by_test false false true z = omega arith
  by_test false false false true = sent_is (a % 16) b c
  by_test false false false false = upset_is i b c few

-- ---- all of them

events_are : (seed count : ℕ) → count ≤ 50000 → AllByRecursion (λ (e : Event). Is e) (firsts (event_numbered seed) count)
unfolding firsts
events_are seed zero few = tt
events_are seed (suc n) few = all_joined (λ (e : Event). Is e) (firsts (event_numbered seed) n) (event_numbered seed n ∷ []) (events_are seed n (omega (arith, few))) (event_is n _ _ _ (omega (arith, few)), tt)

pub made_events_are : (t : TopologyState) (es : List Event) (seed count : ℕ) → t ≡ generated_nodes → es ≡ generated_events seed count → count ≤ 50000 → AllByRecursion (IsEvent t) es
unfolding generated_events
made_events_are t es seed count is made few =
    let P : TopologyState → Type 0 = λ x. AllByRecursion (IsEvent x) es in
    subst P (sym is) (subst (AllByRecursion (IsEvent generated_nodes)) (sym made) (events_are seed count few))
