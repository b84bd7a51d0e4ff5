-- What the one NAT of a client let out of its sends, send by send.
use Rattle.std.proofs.Common.{◌≡◌, ℕ, ◌+◌, Bool, true, false, List, [], ◌∷◌, ◌++◌, reverse, Option, Some, None, Result, Ok, Err, refl, sym, ap, ◌∙◌}
use Rattle.std.specs.Prelude.{filter_map}
use Rattle.std.proofs.lemmas.Grind.{reverse_onto}
use Rattle.std.proofs.lemmas.List.{append_assoc, append-nil, reverse-reverse}
use Rattle.td_base.specs.declared.endpoint.Ep.{Ep}
use Rattle.nat_kinds.specs.declared.refusal.NatRefusal.{NatRefusal}
use Rattle.nat_kinds.specs.Answer.{nat_answer}
use Rattle.teredo_node.specs.Step.{Send}
use Rattle.topology.specs.Chains.{Passing, passing, nat_set_up, after_passing}
use Rattle.history.specs.Full.{udp, six, Made, sent, lost, Full}
use Rattle.history.specs.Records.{marks_of}
use Rattle.legal.specs.Lab.{Lab}
use Rattle.legal.specs.Past.{nat_pasts}
use Rattle.legal.specs.Emit.{is_at_place, by_way}
use Rattle.states.specs.Marked.{passing_marked}

-- the same of what became of a send
abbrev pub passing_made : ℕ → ℕ → Ep → Made → Option Passing
passing_made k m inside (sent (udp src dst bytes)) = Some (passing k m inside dst src.port)
passing_made k m inside (sent (six relay bytes)) = None
passing_made k m inside (lost why dst bytes) = None

-- the marks tell it
pub marks_tell : (k m : ℕ) (inside : Ep) (number : ℕ) (made : List Made)
    → filter_map (passing_marked k m inside) (marks_of number made) ≡ filter_map (passing_made k m inside) made
marks_tell k m inside number [] = refl
marks_tell k m inside number (sent (udp src dst bytes) ∷ made) = ap (λ (ps : List Passing). passing k m inside dst src.port ∷ ps) (marks_tell k m inside (number + 1) made)
marks_tell k m inside number (sent (six relay bytes) ∷ made) = marks_tell k m inside (number + 1) made
marks_tell k m inside number (lost why dst bytes ∷ made) = marks_tell k m inside number made

one_more : (p : Passing) (ps passed : List Passing) → reverse ps ++ (p ∷ passed) ≡ reverse (p ∷ ps) ++ passed
one_more p ps passed = sym (append_assoc (reverse ps) (p ∷ []) passed) ∙ ap (λ (xs : List Passing). xs ++ passed) (sym (reverse_onto ps p []))

module _ (lab : Lab) (H : List Full) (m k : ℕ) (inside : Ep) (fails : Option ℕ) where
  abbrev Sent : ℕ → List Passing → List Send → Type 0
  Sent i passed xs = (by_way lab H m (k ∷ []) inside fails i passed xs).passed
      ≡ reverse (filter_map (passing_made k m inside) (by_way lab H m (k ∷ []) inside fails i passed xs).made) ++ passed

  -- one send more: it fails
  after_fault : (i : ℕ) (passed : List Passing) (x : Send) (xs : List Send) → ((later : List Passing) → Sent (i + 1) later xs)
      → is_at_place i fails ≡ true → Sent i passed (x ∷ xs)
  after_fault i passed x xs rest fault = rw fault (rest passed)

  -- or the NAT lets it out, or doesn't
  after_answer : (i : ℕ) (passed : List Passing) (x : Send) (xs : List Send) → ((later : List Passing) → Sent (i + 1) later xs)
      → is_at_place i fails ≡ false
      → (a : Result ℕ NatRefusal) → nat_answer (nat_set_up lab.topology k) (after_passing passed (nat_pasts lab H) k) m inside x.to ≡ a
      → Sent i passed (x ∷ xs)
  after_answer i passed x xs rest passes (Ok port) answer = rw (passes, answer) (rest (passing k m inside x.to port ∷ passed)
      ∙ one_more (passing k m inside x.to port) (filter_map (passing_made k m inside) (by_way lab H m (k ∷ []) inside fails (i + 1) (passing k m inside x.to port ∷ passed) xs).made) passed)
  after_answer i passed x xs rest passes (Err why) answer = rw (passes, answer) (rest passed)

  sent_by_way : (xs : List Send) (i : ℕ) (passed : List Passing) → Sent i passed xs
  sent_by_way [] i passed = refl
  sent_by_way (x ∷ xs) i passed = by (sent_by_way xs (i + 1)) (is_at_place i fails) refl where
    by : ((later : List Passing) → Sent (i + 1) later xs) → (b : Bool) → is_at_place i fails ≡ b → Sent i passed (x ∷ xs)
    by rest true fault = after_fault i passed x xs rest fault
    by rest false passes = after_answer i passed x xs rest passes
        (nat_answer (nat_set_up lab.topology k) (after_passing passed (nat_pasts lab H) k) m inside x.to) refl

  -- from the first send on
  pub passed_is_made : (xs : List Send) → reverse (by_way lab H m (k ∷ []) inside fails 0 [] xs).passed
      ≡ filter_map (passing_made k m inside) (by_way lab H m (k ∷ []) inside fails 0 [] xs).made
  passed_is_made xs = ap reverse (sent_by_way xs 0 [] ∙ append-nil (reverse (filter_map (passing_made k m inside) (by_way lab H m (k ∷ []) inside fails 0 [] xs).made)))
      ∙ reverse-reverse (filter_map (passing_made k m inside) (by_way lab H m (k ∷ []) inside fails 0 [] xs).made)
