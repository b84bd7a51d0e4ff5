-- What the events of texts keep.
use Rattle.events.proofs.Words.{ADVANCE_MAX_MS, BODY_MAX, Bool, DATAGRAM_MAX, ENTRY_NUMBER_MAX, Err, Event, EventFault, FAULT_MAX, FromHexError, IfOk, Ip6, IsEvent, IsTarget, List, Node, None, Ok, Option, ReadsAs, Result, SEQUENCE_MAX, Some, Target, TextWords, TopologyState, Verb, [], a_word, and_parts, any_kind, ap, arith, bind_ok, bind_some, bytes_spelled, codes, cond, decode_of, decode_of-ok, ep_of, ep_of-sound, event_behind, event_of, false, few_bytes, get_or, has_host, hex_of, ip6_of, ip6_of-sound, is_client_of, is_named, is_nat, kept_some, leb-true, length, named, nat_le, no_more, no_word, node_at, nodes, number_of, number_of-sound, option_map, option_or, position, position-Some, refl, result_ok, said, same_Some, same_text, slice_get, slice_get-get_or, subst, target_of, text_words, true, verb_of, word, ℕ, ◌&&◌, ◌<◌, ◌∙◌, ◌∷◌, ◌≡◌, ◌≤◌}
use Rattle.td_base.specs.Bytes.{IsBytes}
use Rattle.events.specs.declared.event.Event.TheVariants as event
use Rattle.events.specs.declared.verb.Verb.TheVariants as verb
use Rattle.events.specs.declared.target.Target.TheVariants as target

-- ---- steps

said_ok : {A : Type 0} (place : ℕ) (more : TextWords) (o : Option A) (y : A × TextWords) → said place more o ≡ Ok y → o ≡ Some y.0
said_ok place more None y e = absurd cc
said_ok place more (Some x) y e = let same : (x, more) ≡ y = cc in ap (λ p. Some p.0) same

pub word_ok : {A : Type 0} (rule : List ℕ → Option A) (ws : TextWords) (y : A × TextWords) → word rule ws ≡ Ok y → (text : List ℕ) × (rule text ≡ Some y.0)
word_ok rule (no_word place) y e = absurd cc
word_ok rule (a_word place text more) y e = (text, said_ok place more (rule text) y e)

no_more_ok : (e f : Event) (ws : TextWords) → no_more e ws ≡ Ok f → e ≡ f
no_more_ok e f (no_word place) h = cc
no_more_ok e f (a_word place text more) h = absurd cc

-- ---- words

-- at most so many bytes
pub record AreFew (most : ℕ) (bytes : List ℕ) : Type 0 where
  pub short : length bytes ≤ most
  pub made : IsBytes bytes

decoded : (text bytes : List ℕ) (r : Result (List ℕ) FromHexError) → decode_of text ≡ r → result_ok r ≡ Some bytes → IsBytes bytes
decoded text bytes (Ok x) e h = (decode_of-ok text bytes (e ∙ ap Ok (same_Some x bytes h))).3
decoded text bytes (Err fault) e h = absurd cc

few_or_none : (b : Bool) (most : ℕ) (text bytes : List ℕ) → cond b (Some []) (hex_of most text) ≡ Some bytes → AreFew most bytes
few_or_none true most text bytes e = subst (AreFew most) (same_Some [] bytes e) (record { short = omega arith; made = λ i. omega arith })
few_or_none false most text bytes e =
    let b = bind_some (result_ok (decode_of text)) (few_bytes most) bytes e in
    let kept = kept_some (nat_le 1 (length b.0) && nat_le (length b.0) most) (Some b.0) bytes b.2 in
    let both = and_parts (nat_le 1 (length b.0)) (nat_le (length b.0) most) kept.0 in
    let read = decoded text b.0 (decode_of text) refl b.1 in
    subst (AreFew most) (same_Some _ _ kept.1) (record { short = leb-true (length b.0) most both.1; made = read })

pub bytes_of-few : (most : ℕ) (text bytes : List ℕ) → bytes_spelled most text ≡ Some bytes → AreFew most bytes
unfolding bytes_spelled
bytes_of-few most text bytes e = few_or_none (same_text text (codes "-")) most text bytes e

placed_in : (p : Node → Bool) (xs : List Node) (i : ℕ) → position p xs ≡ Some i → (x : Node) × (slice_get xs i ≡ Some x) × (p x ≡ true) × (i < length xs)
placed_in p [] i e = absurd cc
placed_in p (x ∷ xs) i e =
    let h = position-Some p (x ∷ xs) i x e in
    (get_or (x ∷ xs) i x, slice_get-get_or (x ∷ xs) i x h.0, h.1, h.0)

pub named-kind : (kind : Option Node → Bool) (t : TopologyState) (text : List ℕ) (n : ℕ) → named kind t text ≡ Some n → (kind (node_at t n) ≡ true) × (n < length (nodes t))
unfolding named
named-kind kind t text n e =
    let h = placed_in (λ node. kind (Some node) && is_named text node) (nodes t) n e in
    let both = and_parts (kind (Some h.0)) (is_named text h.0) h.2 in
    (rw h.1 both.0, h.3)

target_at : (t : TopologyState) (text : List ℕ) (to : Target) (a : Option ℕ) (b : Option Ip6) → named has_host t text ≡ a → ip6_of text ≡ b → option_or (option_map target.Node a) (option_map target.At b) ≡ Some to → IsTarget t to
target_at t text to (Some n) b at is e =
    let P : Target → Type 0 = λ x. IsTarget t x in
    subst P (same_Some _ _ e) (named-kind has_host t text n at).0
target_at t text to None (Some ip) at is e =
    let P : Target → Type 0 = λ x. IsTarget t x in
    subst P (same_Some _ _ e) (ip6_of-sound ip text is).0
target_at t text to None None at is e = absurd cc

target_of-sound : (t : TopologyState) (text : List ℕ) (to : Target) → target_of t text ≡ Some to → IsTarget t to
target_of-sound t text to e = target_at t text to (named has_host t text) (ip6_of text) refl refl e

pub legal_behind : (t : TopologyState) (v : Verb) (ws : TextWords) (e : Event) → event_behind t v ws ≡ Ok e → IsEvent t e
unfolding event_behind
legal_behind t verb.Advance ws e h =
    let ms = bind_ok (word (number_of ADVANCE_MAX_MS) ws) _ e h in
    let w = word_ok (number_of ADVANCE_MAX_MS) ws ms.0 ms.1 in
    let P : Event → Type 0 = λ x. IsEvent t x in
    subst P (no_more_ok _ e _ ms.2) (number_of-sound ADVANCE_MAX_MS ms.0.0 w.0 w.1).0
legal_behind t verb.Deliver ws e h =
    let number = bind_ok (word (number_of ENTRY_NUMBER_MAX) ws) _ e h in
    let w = word_ok (number_of ENTRY_NUMBER_MAX) ws number.0 number.1 in
    let P : Event → Type 0 = λ x. IsEvent t x in
    subst P (no_more_ok _ e _ number.2) (number_of-sound ENTRY_NUMBER_MAX number.0.0 w.0 w.1).0
legal_behind t verb.Next ws e h =
    let P : Event → Type 0 = λ x. IsEvent t x in
    subst P (no_more_ok event.Next e ws h) tt
legal_behind t verb.Host ws e h =
    let node = bind_ok (word (named has_host t) ws) _ e h in
    let to = bind_ok (word (target_of t) node.0.1) _ e node.2 in
    let body = bind_ok (word (bytes_spelled BODY_MAX) to.0.1) _ e to.2 in
    let a = word_ok (named has_host t) ws node.0 node.1 in
    let b = word_ok (target_of t) node.0.1 to.0 to.1 in
    let c = word_ok (bytes_spelled BODY_MAX) to.0.1 body.0 body.1 in
    let P : Event → Type 0 = λ x. IsEvent t x in
    subst P (no_more_ok _ e _ body.2) (record {
      from = (named-kind has_host t a.0 node.0.0 a.1).0;
      target = target_of-sound t b.0 to.0.0 b.1;
      short = (bytes_of-few BODY_MAX c.0 body.0.0 c.1).short;
      made = (bytes_of-few BODY_MAX c.0 body.0.0 c.1).made;
    })
legal_behind t verb.Echo ws e h =
    let node = bind_ok (word (named has_host t) ws) _ e h in
    let to = bind_ok (word (target_of t) node.0.1) _ e node.2 in
    let seq = bind_ok (word (number_of SEQUENCE_MAX) to.0.1) _ e to.2 in
    let a = word_ok (named has_host t) ws node.0 node.1 in
    let b = word_ok (target_of t) node.0.1 to.0 to.1 in
    let c = word_ok (number_of SEQUENCE_MAX) to.0.1 seq.0 seq.1 in
    let P : Event → Type 0 = λ x. IsEvent t x in
    subst P (no_more_ok _ e _ seq.2) (record { from = (named-kind has_host t a.0 node.0.0 a.1).0; target = target_of-sound t b.0 to.0.0 b.1; most = (number_of-sound SEQUENCE_MAX seq.0.0 c.0 c.1).0 })
legal_behind t verb.Raw ws e h =
    let node = bind_ok (word (named has_host t) ws) _ e h in
    let bytes = bind_ok (word (bytes_spelled DATAGRAM_MAX) node.0.1) _ e node.2 in
    let a = word_ok (named has_host t) ws node.0 node.1 in
    let b = word_ok (bytes_spelled DATAGRAM_MAX) node.0.1 bytes.0 bytes.1 in
    let P : Event → Type 0 = λ x. IsEvent t x in
    subst P (no_more_ok _ e _ bytes.2) (record { from = (named-kind has_host t a.0 node.0.0 a.1).0; short = (bytes_of-few DATAGRAM_MAX b.0 bytes.0.0 b.1).short; made = (bytes_of-few DATAGRAM_MAX b.0 bytes.0.0 b.1).made })
legal_behind t verb.Stranger ws e h =
    let src = bind_ok (word ep_of ws) _ e h in
    let dst = bind_ok (word ep_of src.0.1) _ e src.2 in
    let bytes = bind_ok (word (bytes_spelled DATAGRAM_MAX) dst.0.1) _ e dst.2 in
    let from = word_ok ep_of ws src.0 src.1 in
    let to = word_ok ep_of src.0.1 dst.0 dst.1 in
    let b = word_ok (bytes_spelled DATAGRAM_MAX) dst.0.1 bytes.0 bytes.1 in
    let few = bytes_of-few DATAGRAM_MAX b.0 bytes.0.0 b.1 in
    let P : Event → Type 0 = λ x. IsEvent t x in
    subst P (no_more_ok _ e _ bytes.2) (record { from = (ep_of-sound src.0.0 from.0 from.1).0; to = (ep_of-sound dst.0.0 to.0 to.1).0; short = few.short; made = few.made })
legal_behind t verb.Copy ws e h =
    let number = bind_ok (word (number_of ENTRY_NUMBER_MAX) ws) _ e h in
    let src = bind_ok (word ep_of number.0.1) _ e number.2 in
    let dst = bind_ok (word ep_of src.0.1) _ e src.2 in
    let w = word_ok (number_of ENTRY_NUMBER_MAX) ws number.0 number.1 in
    let from = word_ok ep_of number.0.1 src.0 src.1 in
    let to = word_ok ep_of src.0.1 dst.0 dst.1 in
    let P : Event → Type 0 = λ x. IsEvent t x in
    subst P (no_more_ok _ e _ dst.2) (record { most = (number_of-sound ENTRY_NUMBER_MAX number.0.0 w.0 w.1).0; from = (ep_of-sound src.0.0 from.0 from.1).0; to = (ep_of-sound dst.0.0 to.0 to.1).0 })
legal_behind t verb.Restart ws e h =
    let node = bind_ok (word (named any_kind t) ws) _ e h in
    let a = word_ok (named any_kind t) ws node.0 node.1 in
    let P : Event → Type 0 = λ x. IsEvent t x in
    subst P (no_more_ok _ e _ node.2) (named-kind any_kind t a.0 node.0.0 a.1).1
legal_behind t verb.Forget ws e h =
    let nat = bind_ok (word (named is_nat t) ws) _ e h in
    let client = bind_ok (word (named (is_client_of nat.0.0) t) nat.0.1) _ e nat.2 in
    let a = word_ok (named is_nat t) ws nat.0 nat.1 in
    let b = word_ok (named (is_client_of nat.0.0) t) nat.0.1 client.0 client.1 in
    let P : Event → Type 0 = λ x. IsEvent t x in
    subst P (no_more_ok _ e _ client.2) (record { by = (named-kind is_nat t a.0 nat.0.0 a.1).0; behind = (named-kind (is_client_of nat.0.0) t b.0 client.0.0 b.1).0 })
legal_behind t verb.Fault ws e h =
    let send = bind_ok (word (number_of FAULT_MAX) ws) _ e h in
    let w = word_ok (number_of FAULT_MAX) ws send.0 send.1 in
    let P : Event → Type 0 = λ x. IsEvent t x in
    subst P (no_more_ok _ e _ send.2) (number_of-sound FAULT_MAX send.0.0 w.0 w.1).0
legal_behind t verb.Settle ws e h =
    let P : Event → Type 0 = λ x. IsEvent t x in
    subst P (no_more_ok event.Settle e ws h) tt

-- the event of a text is one that a scenario with these nodes may ask for
pub event_of-legal : (t : TopologyState) (text : List ℕ) (e : Event) → event_of t text ≡ Ok e → IsEvent t e
unfolding event_of
event_of-legal t text e h =
    let v = bind_ok (word verb_of (text_words text)) _ e h in
    legal_behind t v.0.0 v.0.1 e v.2

pub answers_legal : (t : TopologyState) (text : List ℕ) (r : Result Event EventFault) → ReadsAs (λ e. e) r (event_of t text) → IfOk r (λ e. IsEvent t e)
answers_legal t text (Ok e) h = event_of-legal t text e h
answers_legal t text (Err fault) h = tt
