-- What comes from the server itself draws nothing, and a datagram draws one output at most.
use Rattle.server_core.proofs.Words.{Advert, Answer, Bool, Drop, Dropped, EndsThere, Ep, Err, Fate, Forward, ForwardOrigin, IsSilent, List, Ok, PayloadFault, Primary, Result, Rule, Secondary, ServerSettings, Side, Six, Value, arith, by_payload, endpoint, false, first_line, is_own, last_line, or_right, outputs, payload_at, refl, rule_of, same_ip, same_ip-self, server_destination_lines, server_packet_lines, server_row, server_seen, step_of, subst, sym, take, true, ℕ, ◌++◌, ◌||◌, ◌∷◌, ◌≡◌, ◌≤◌}
use Rattle.teredo_node.specs.declared.fate.Fate.TheVariants as fate
use Rattle.server_core.specs.declared.reply.Answer.TheVariants as answers
use Rattle.server_core.specs.declared.reply.Answer.TheVariants.{Send}

-- the rule drops
abbrev pub IsDropped : Rule → Type 0
IsDropped r = (fate : Fate) × (r ≡ Dropped fate)

-- the first lines, where the sixth holds
own_drops : (keyed big other ill source own : Bool) (rest : List (Bool × Rule)) → own ≡ true
    → IsDropped (first_line ((keyed, Dropped fate.Keyed) ∷ (big, Dropped fate.Big) ∷ (other, Dropped fate.Kind) ∷ (ill, Dropped fate.Icmp) ∷ (source, Dropped fate.Source) ∷ (own, Dropped fate.Loop) ∷ rest) last_line)
own_drops true big other ill source own rest e = (fate.Keyed, refl)
own_drops false true other ill source own rest e = (fate.Big, refl)
own_drops false false true ill source own rest e = (fate.Kind, refl)
own_drops false false false true source own rest e = (fate.Icmp, refl)
own_drops false false false false true own rest e = (fate.Source, refl)
own_drops false false false false false true rest e = (fate.Loop, refl)
own_drops false false false false false false rest e = absurd cc

own_is_dropped : (s : ServerSettings) (from : Ep) (v : Value) → is_own s from.ip ≡ true → IsDropped (rule_of s from v)
unfolding rule_of
own_is_dropped s from v own =
    let a = server_seen s from v in
    own_drops a.keyed a.big a.other_kind a.ill_formed a.unusable_source a.from_server (server_packet_lines a ++ server_destination_lines a) own

pub dropped_is_silent : (s : ServerSettings) (side : Side) (from : Ep) (x : List ℕ) (v : Value) (r : Rule) → IsDropped r → IsSilent (step_of s side from x v r)
dropped_is_silent s side from x v r dropped =
    subst (λ (k : Rule). IsSilent (step_of s side from x v k)) (sym dropped.1) (refl, refl)

silent_payload : (s : ServerSettings) (side : Side) (from : Ep) (x : List ℕ) (r : Result Value PayloadFault) → is_own s from.ip ≡ true → IsSilent (by_payload s side from x r)
silent_payload s side from x (Ok v) own = dropped_is_silent s side from x v (rule_of s from v) (own_is_dropped s from v own)
silent_payload s side from x (Err fault) own = (refl, refl)

-- a datagram from one of the server's addresses draws nothing
pub own_draws_nothing : (s : ServerSettings) (side : Side) (from : Ep) (x : List ℕ) → is_own s from.ip ≡ true → IsSilent (server_row s side from x)
unfolding server_row
own_draws_nothing s side from x own = silent_payload s side from x (payload_at x) own

pub endpoint_is_own : (s : ServerSettings) (side : Side) → is_own s (endpoint s side).ip ≡ true
unfolding is_own
endpoint_is_own s Primary = subst (λ (b : Bool). (b || same_ip s.primary s.secondary) ≡ true) (sym (same_ip-self s.primary)) refl
endpoint_is_own s Secondary = or_right _ _ (same_ip-self s.secondary)

one_of_rule : (s : ServerSettings) (side : Side) (from : Ep) (x : List ℕ) (v : Value) (r : Rule) → outputs (step_of s side from x v r) ≤ 1
one_of_rule s side from x v (Dropped fate) = omega arith
one_of_rule s side from x v Advert = omega arith
one_of_rule s side from x v ForwardOrigin = omega arith
one_of_rule s side from x v Forward = omega arith
one_of_rule s side from x v Six = omega arith

one_of_payload : (s : ServerSettings) (side : Side) (from : Ep) (x : List ℕ) (r : Result Value PayloadFault) → outputs (by_payload s side from x r) ≤ 1
one_of_payload s side from x (Ok v) = one_of_rule s side from x v (rule_of s from v)
one_of_payload s side from x (Err fault) = omega arith

pub one_output : (s : ServerSettings) (side : Side) (from : Ep) (x : List ℕ) → outputs (server_row s side from x) ≤ 1
unfolding server_row
one_output s side from x = one_of_payload s side from x (payload_at x)

-- what is sent draws nothing where it comes back
pub ends_there : (s : ServerSettings) (answer : Answer) (out : List ℕ) → EndsThere s answer out
ends_there s (Drop fate) out = tt
ends_there s (Send fate side to len) out = λ at. own_draws_nothing s at (endpoint s side) (take len out) (endpoint_is_own s side)
ends_there s (answers.Six span) out = tt
