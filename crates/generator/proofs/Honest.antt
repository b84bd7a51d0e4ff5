-- Each event of the generated scenario is honest: its copies come from an address that no node has.
use Rattle.std.proofs.Common.{◌≡◌, ◌+◌, ◌%◌, ◌==◌, ◌++◌, ◌∷◌, [], ℕ, zero, suc, nat_lt, true, false, Bool, List, refl}
use Rattle.std.specs.Prelude.{if◌then◌else◌}
use Rattle.std.specs.List.{list_all}
use Rattle.std.proofs.lemmas.Bool.{and_from, and_parts}
use Rattle.td_base.specs.Ip4.{same_ip}
use Rattle.events.specs.declared.event.Event.{Event}
use Rattle.events.specs.declared.event.Event.TheVariants as event
use Rattle.topology.specs.NodeRules.{is_taken}
use Rattle.generator.specs.GeneratedNodes.{firsts, generated_server, generated_nat, generated_client, generated_relay, generated_native, lettered_name, nat_number, client_number, native_number, ip4, generated_nodes}
use Rattle.generator.specs.GeneratedEvent.{host_event, copy_event, upset_event, sent_event, generated_event}
use Rattle.legal.specs.Honest.{is_honest_event}
use Rattle.generator.specs.Generated.{event_numbered, generated_events, EachGeneratedIsHonest}

abbrev IsHonest : Event → Type 0
IsHonest e = is_honest_event generated_nodes e ≡ true

-- the address of the copies
free : is_taken generated_nodes (ip4 203 0 113 5) ≡ false
unfolding generated_nodes firsts lettered_name generated_server generated_nat generated_client generated_relay generated_native same_ip
free = refl

copy_is : (number k : ℕ) → IsHonest (copy_event number k)
copy_is number k = rw free refl

upset_is : (i b c : ℕ) → IsHonest (upset_event i b c)
upset_is i b c = by_test (b % 4 == 0) (b % 4 == 1) (b % 4 == 2) where
  by_test : (x y z : Bool) → IsHonest (if x then event.Restart (client_number c) else (if y then event.Restart (nat_number c) else (if z then event.Forget (nat_number c) (client_number (c % 4)) else copy_event (c % (i + 1)) (c % 4))))
  by_test true y z = refl
  by_test false true z = refl
  by_test false false true = refl
  by_test false false false = copy_is (c % (i + 1)) (c % 4)

sent_is : (kind b c : ℕ) → IsHonest (sent_event kind b c)
sent_is kind b c = by_test (nat_lt kind 13) (kind == 13) where
  by_test : (x y : Bool) → IsHonest (if x then host_event (client_number b) (client_number c) c else (if y then host_event (client_number b) (native_number c) c else host_event (native_number b) (client_number c) c))
  by_test true y = refl
  by_test false true = refl
  by_test false false = refl

event_is : (i a b c : ℕ) → IsHonest (generated_event i a b c)
unfolding generated_event
event_is i a b c = by_test (nat_lt (a % 16) 6) (nat_lt (a % 16) 8) (nat_lt (a % 16) 11) (nat_lt (a % 16) 15) where
  by_test : (w x y z : Bool) → IsHonest (if w then event.Next else (if x then event.Deliver (b % (i + 1)) else (if y then event.Advance (b % 5000) else (if z then sent_event (a % 16) b c else upset_event i b c))))
  by_test true x y z = refl
  by_test false true y z = refl
  by_test false false true z = refl
  by_test false false false true = sent_is (a % 16) b c
  by_test false false false false = upset_is i b c

-- one more
with_last : (test : Event → Bool) (xs : List Event) (x : Event) → list_all test xs ≡ true → test x ≡ true → list_all test (xs ++ x ∷ []) ≡ true
with_last test [] x all is = and_from _ _ is refl
with_last test (y ∷ ys) x all is = let both = and_parts (test y) (list_all test ys) all in and_from (test y) (list_all test (ys ++ x ∷ [])) both.0 (with_last test ys x both.1 is)

events_are : (seed count : ℕ) → list_all (is_honest_event generated_nodes) (firsts (event_numbered seed) count) ≡ true
unfolding firsts
events_are seed zero = refl
events_are seed (suc n) = with_last (is_honest_event generated_nodes) (firsts (event_numbered seed) n) (event_numbered seed n) (events_are seed n) (event_is n _ _ _)

pub each : EachGeneratedIsHonest
unfolding generated_events
each seed count = events_are seed count
