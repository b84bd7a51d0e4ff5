-- The text of an event reads back as the event.
use Rattle.events.proofs.Words.{ADVANCE_MAX_MS, AllByRecursion, AreDistinct, BODY_MAX, Bool, DATAGRAM_MAX, ENTRY_NUMBER_MAX, Ep, Err, Event, FAULT_MAX, Global, HasPlainNames, IfOk, IsEp, IsEvent, IsMadeTarget, IsTarget, IsTopology, List, NAME_LEN, Name, Node, None, Ok, Option, Result, SEQUENCE_MAX, Some, Target, TextWords, TopologyState, Vec, Verb, [], a_word, and-false, and_from, and_parts, any_kind, ap, append_assoc, arith, begins_with_letter, cond, decimal, ep_of-text, eqb_tells, event_behind, event_of, event_text, event_words, false, false≢true, has_host, hex_word, inl, inr, ip6_of-spelled, ip6_text, is_client_of, is_name, is_name_byte, is_named, is_nat, is_plain_text, join_with_byte, length, list_all, list_any, map, name_of, name_text, name_word, named, names_of, nat_le, no_word, node_at, nodes, not, number_back, option_map, or_parts, placed, position, position_from, position_from-zero, printed_is_spelled, refl, same_name, same_text, same_text-self, same_text-true, slice_get, slice_split, space, suc, sym, target_of, target_word, true, verb_of, verb_word, word, word_of_name, zero, ℕ, ◌&&◌, ◌++◌, ◌+◌, ◌<◌, ◌==◌, ◌∙◌, ◌∷◌, ◌≡◌, ◌≢◌, ◌≤◌, ◌⊎◌}
use Rattle.hex.specs.Hex.{IsBytes}
use Rattle.td_base.specs.Results.{◌>>=◌}
use Rattle.events.specs.declared.event.Event.TheVariants as event
use Rattle.events.specs.declared.verb.Verb.TheVariants as verb
use Rattle.events.specs.declared.target.Target.TheVariants as target
use Rattle.events.proofs.SpellingWords.{is_word, split_join, is_word-verb, verb_back, is_word-decimal, is_word-ep, is_word-plain, is_word-bytes, is_word-ip6, bytes_back, colon_ip6}

-- ---- names

abbrev finds : (Option Node → Bool) → List ℕ → Node → Bool
finds kind text node = kind (Some node) && is_named text node

other_name : (a : Name) (xs : List Node) (i : ℕ) (x : Node) → list_any (same_name a) (map name_of xs) ≡ false → slice_get xs i ≡ Some x → same_name a (name_of x) ≡ false
other_name a [] i x none e = absurd cc
other_name a (y ∷ ys) zero x none e =
    let both = or_parts (same_name a (name_of y)) (list_any (same_name a) (map name_of ys)) none in
    let same : y ≡ x = cc in
    ap (λ n. same_name a (name_of n)) (sym same) ∙ both.0
other_name a (y ∷ ys) (suc i) x none e =
    let both = or_parts (same_name a (name_of y)) (list_any (same_name a) (map name_of ys)) none in
    other_name a ys i x both.1 e

passed : (b c : Bool) (j : ℕ) (o : Option ℕ) → c ≡ false → cond (b && c) (Some j) o ≡ o
passed b c j o e = ap (λ d. cond (b && d) (Some j) o) e ∙ ap (λ d. cond d (Some j) o) (and-false b)

found_at : (kind : Option Node → Bool) (xs : List Node) (j i : ℕ) (x : Node) → AreDistinct same_name (map name_of xs) → slice_get xs i ≡ Some x → kind (Some x) ≡ true → position_from (finds kind (name_text (name_of x))) j xs ≡ Some (j + i)
unfolding same_name
found_at kind [] j i x distinct e is = absurd cc
found_at kind (y ∷ ys) j zero x distinct e is =
    let same : y ≡ x = cc in
    let text = name_text (name_of x) in
    let named : finds kind text x ≡ true = and_from (kind (Some x)) (is_named text x) is (same_text-self text text refl) in
    ap (λ n. cond (finds kind text n) (Some j) (position_from (finds kind text) (j + 1) ys)) same
    ∙ ap (λ b. cond b (Some j) (position_from (finds kind text) (j + 1) ys)) named
    ∙ ap Some (omega arith)
found_at kind (y ∷ ys) j (suc i) x distinct e is =
    let text = name_text (name_of x) in
    let other : is_named text y ≡ false = other_name (name_of y) ys i x distinct.0 e in
    passed (kind (Some y)) (is_named text y) j (position_from (finds kind text) (j + 1) ys) other
    ∙ found_at kind ys (j + 1) i x distinct.1 e is
    ∙ ap Some (omega arith)

pub name_back : (kind : Option Node → Bool) (t : TopologyState) (n : ℕ) (x : Node) → AreDistinct same_name (names_of t) → node_at t n ≡ Some x → kind (Some x) ≡ true → named kind t (name_word t n) ≡ Some n
unfolding named
name_back kind t n x distinct at is =
    let text : name_word t n ≡ name_text (name_of x) = ap (λ o. word_of_name (option_map name_of o)) at in
    ap (λ l. position (finds kind l) (nodes t)) text
    ∙ position_from-zero (finds kind (name_text (name_of x))) (nodes t)
    ∙ found_at kind (nodes t) 0 n x distinct at is
    ∙ ap Some (omega arith)

there : (kind : Option Node → Bool) (o : Option Node) → kind None ≡ false → kind o ≡ true → (x : Node) × (o ≡ Some x)
there kind None none is = absurd cc
there kind (Some x) none is = (x, refl)

pub kind_back : (kind : Option Node → Bool) (t : TopologyState) (n : ℕ) → AreDistinct same_name (names_of t) → kind None ≡ false → kind (node_at t n) ≡ true → named kind t (name_word t n) ≡ Some n
kind_back kind t n distinct none is =
    let x = there kind (node_at t n) none is in
    name_back kind t n x.0 distinct x.1 (ap kind (sym x.1) ∙ is)

within : (xs : List Node) (n : ℕ) → n < length xs → (x : Node) × (slice_get xs n ≡ Some x)
within [] n lt = absurd (omega (arith, lt))
within (x ∷ xs) zero lt = (x, refl)
within (x ∷ xs) (suc n) lt = within xs n (omega (arith, lt))

plain_of : (xs : List Node) (n : ℕ) → AllByRecursion (λ name. is_plain_text (name_text name) ≡ true) (map name_of xs) → is_plain_text (word_of_name (option_map name_of (slice_get xs n))) ≡ true
plain_of [] n h = refl
plain_of (x ∷ xs) zero h = h.0
plain_of (x ∷ xs) (suc n) h = plain_of xs n h.1

is_word-name : (t : TopologyState) (n : ℕ) → HasPlainNames t → is_word (name_word t n) ≡ true
is_word-name t n plain = is_word-plain (name_word t n) (plain_of (nodes t) n plain)

-- ---- targets

differs : (b : Bool) (x y : List ℕ) → same_text x y ≡ b → is_plain_text x ≡ true → is_plain_text y ≡ false → same_text x y ≡ false
differs true x y e p q = let same = same_text-true x y e in absurd cc
differs false x y e p q = e

unnamed : (kind : Option Node → Bool) (xs : List Node) (j : ℕ) (text : List ℕ) → AllByRecursion (λ name. is_plain_text (name_text name) ≡ true) (map name_of xs) → is_plain_text text ≡ false → position_from (finds kind text) j xs ≡ None
unnamed kind [] j text h other = refl
unnamed kind (x ∷ xs) j text h other =
    passed (kind (Some x)) (is_named text x) j (position_from (finds kind text) (j + 1) xs) (differs (is_named text x) (name_text (name_of x)) text refl h.0 other)
    ∙ unnamed kind xs (j + 1) text h.1 other

no_name : (kind : Option Node → Bool) (t : TopologyState) (text : List ℕ) → HasPlainNames t → is_plain_text text ≡ false → named kind t text ≡ None
unfolding named
no_name kind t text plain other = position_from-zero (finds kind text) (nodes t) ∙ unnamed kind (nodes t) 0 text plain other

pub target_back : (t : TopologyState) (to : Target) → AreDistinct same_name (names_of t) → HasPlainNames t → IsTarget t to → IsMadeTarget to → target_of t (target_word t to) ≡ Some to
target_back t (target.Node number) distinct plain is made = rw (kind_back has_host t number distinct refl is) refl
target_back t (target.At ip) distinct plain is made = rw (no_name has_host t (ip6_text ip) plain (colon_ip6 ip made), ip6_of-spelled ip (ip6_text ip) made (printed_is_spelled ip made)) refl

is_word-target : (t : TopologyState) (to : Target) → HasPlainNames t → IsMadeTarget to → is_word (target_word t to) ≡ true
is_word-target t (target.Node number) plain made = is_word-name t number plain
is_word-target t (target.At ip) plain made = is_word-ip6 ip made

-- ---- names are plain

name_byte_is_plain : (byte : ℕ) → is_name_byte byte ≡ true → (not (byte == 32) && not (byte == 58)) ≡ true
name_byte_is_plain byte e = by (eqb_tells byte 32) (eqb_tells byte 58) where
  by : ((byte == 32) ≡ true) × (byte ≡ 32) ⊎ ((byte == 32) ≡ false) × (byte ≢ 32) → ((byte == 58) ≡ true) × (byte ≡ 58) ⊎ ((byte == 58) ≡ false) × (byte ≢ 58) → (not (byte == 32) && not (byte == 58)) ≡ true
  by (inl a) b = absurd (false≢true (ap is_name_byte (sym a.1) ∙ e))
  by (inr a) (inl b) = absurd (false≢true (ap is_name_byte (sym b.1) ∙ e))
  by (inr a) (inr b) = rw (a.0, b.0) refl

name_bytes_are_plain : (text : List ℕ) → list_all is_name_byte text ≡ true → is_plain_text text ≡ true
name_bytes_are_plain [] e = refl
name_bytes_are_plain (x ∷ xs) e =
    let both = and_parts (is_name_byte x) (list_all is_name_byte xs) e in
    rw (name_byte_is_plain x both.0) (name_bytes_are_plain xs both.1)

name_is_plain : (text : List ℕ) → is_name text ≡ true → is_plain_text text ≡ true
unfolding is_name
name_is_plain text e =
    let front = and_parts (begins_with_letter text && list_all is_name_byte text) (nat_le (length text) NAME_LEN) e in
    name_bytes_are_plain text (and_parts (begins_with_letter text) (list_all is_name_byte text) front.0).1

each_is_plain : (names : List Name) → AllByRecursion (λ (a : Name). is_name (name_text a) ≡ true) names → AllByRecursion (λ (a : Name). is_plain_text (name_text a) ≡ true) names
each_is_plain [] h = tt
each_is_plain (a ∷ names) h = (name_is_plain (name_text a) h.0, each_is_plain names h.1)

plain_names : (t : TopologyState) → IsTopology t → HasPlainNames t
plain_names t is = each_is_plain (names_of t) is.spelled

-- ---- events

abbrev behind_first : TextWords → TextWords
behind_first (no_word place) = no_word place
behind_first (a_word place text more) = more

verb_first : (t : TopologyState) (v : Verb) (more : List (List ℕ)) → (word verb_of (placed 0 (verb_word v ∷ more)) >>= (λ x. event_behind t x.0 x.1)) ≡ event_behind t v (behind_first (placed 0 (verb_word v ∷ more)))
verb_first t v [] = rw (verb_back v) refl
verb_first t v (x ∷ more) = rw (verb_back v) refl

read_back : (t : TopologyState) (e : Event) (v : Verb) (more : List (List ℕ)) → event_words t e ≡ verb_word v ∷ more
    → AllByRecursion (λ x. is_word x ≡ true) more → event_of t (event_text t e) ≡ event_behind t v (behind_first (placed 0 (verb_word v ∷ more)))
unfolding event_of event_text
read_back t e v more are plain =
    ap (λ l. word verb_of (placed 0 (slice_split (λ byte. byte == space) (join_with_byte space l))) >>= (λ x. event_behind t x.0 x.1)) are
    ∙ ap (λ l. word verb_of (placed 0 l) >>= (λ x. event_behind t x.0 x.1)) (split_join (verb_word v ∷ more) (omega arith) (is_word-verb v, plain))
    ∙ verb_first t v more

pub again_advance : (t : TopologyState) (ms : ℕ) → ms ≤ ADVANCE_MAX_MS → event_of t (event_text t (event.Advance ms)) ≡ Ok (event.Advance ms)
unfolding event_behind
again_advance t ms le =
    read_back t (event.Advance ms) verb.Advance (decimal ms ∷ []) refl (is_word-decimal ms (omega (arith, le)), tt)
    ∙ rw (number_back ADVANCE_MAX_MS ms (omega arith) le) refl

pub again_deliver : (t : TopologyState) (number : ℕ) → number ≤ ENTRY_NUMBER_MAX → event_of t (event_text t (event.Deliver number)) ≡ Ok (event.Deliver number)
unfolding event_behind
again_deliver t number le =
    read_back t (event.Deliver number) verb.Deliver (decimal number ∷ []) refl (is_word-decimal number (omega (arith, le)), tt)
    ∙ rw (number_back ENTRY_NUMBER_MAX number (omega arith) le) refl

pub again_next : (t : TopologyState) → event_of t (event_text t event.Next) ≡ Ok event.Next
unfolding event_behind
again_next t = read_back t event.Next verb.Next [] refl tt

pub next_read : {E : Type 0} (t : TopologyState) (r : Result (Vec ℕ Global) E) → IfOk r (λ text. text.items ≡ verb_word verb.Next) → IfOk r (λ text. event_of t text.items ≡ Ok event.Next)
unfolding event_text
next_read t (Ok text) h = ap (event_of t) h ∙ again_next t
next_read t (Err e) h = tt

pub again_host : (t : TopologyState) (node : ℕ) (to : Target) (body : List ℕ) → IsTopology t → IsEvent t (event.Host node to body)
    → IsMadeTarget to → IsBytes body → event_of t (event_text t (event.Host node to body)) ≡ Ok (event.Host node to body)
unfolding event_behind
again_host t node to body is legal made bytes =
    read_back t (event.Host node to body) verb.Host (name_word t node ∷ target_word t to ∷ hex_word body ∷ []) refl (is_word-name t node (plain_names t is), (is_word-target t to (plain_names t is) made, (is_word-bytes body bytes, tt)))
    ∙ rw (kind_back has_host t node is.names refl legal.from, target_back t to is.names (plain_names t is) legal.target made, bytes_back BODY_MAX body legal.short bytes) refl

pub again_echo : (t : TopologyState) (node : ℕ) (to : Target) (seq : ℕ) → IsTopology t → IsEvent t (event.Echo node to seq)
    → IsMadeTarget to → seq ≤ SEQUENCE_MAX → event_of t (event_text t (event.Echo node to seq)) ≡ Ok (event.Echo node to seq)
unfolding event_behind
again_echo t node to seq is legal made le =
    read_back t (event.Echo node to seq) verb.Echo (name_word t node ∷ target_word t to ∷ decimal seq
    ∷ []) refl (is_word-name t node (plain_names t is), (is_word-target t to (plain_names t is) made, (is_word-decimal seq (omega (arith, le)), tt)))
    ∙ rw (kind_back has_host t node is.names refl legal.from, target_back t to is.names (plain_names t is) legal.target made, number_back SEQUENCE_MAX seq (omega arith) le) refl

pub again_raw : (t : TopologyState) (node : ℕ) (bytes : List ℕ) → IsTopology t → IsEvent t (event.Raw node bytes) → IsBytes bytes → event_of t (event_text t (event.Raw node bytes)) ≡ Ok (event.Raw node bytes)
unfolding event_behind
again_raw t node bytes is legal are =
    read_back t (event.Raw node bytes) verb.Raw (name_word t node ∷ hex_word bytes ∷ []) refl (is_word-name t node (plain_names t is), (is_word-bytes bytes are, tt))
    ∙ rw (kind_back has_host t node is.names refl legal.from, bytes_back DATAGRAM_MAX bytes legal.short are) refl

pub again_stranger : (t : TopologyState) (src dst : Ep) (bytes : List ℕ) → length bytes ≤ DATAGRAM_MAX → IsEp src → IsEp dst → IsBytes bytes → event_of t (event_text t (event.Stranger src dst bytes)) ≡ Ok (event.Stranger src dst bytes)
unfolding event_behind
again_stranger t src dst bytes le from to are =
    read_back t (event.Stranger src dst bytes) verb.Stranger (_ ∷ _ ∷ hex_word bytes ∷ []) refl (is_word-ep src from, (is_word-ep dst to, (is_word-bytes bytes are, tt)))
    ∙ rw (ep_of-text src from, ep_of-text dst to, bytes_back DATAGRAM_MAX bytes le are) refl

pub again_copy : (t : TopologyState) (number : ℕ) (src dst : Ep) → number ≤ ENTRY_NUMBER_MAX → IsEp src → IsEp dst → event_of t (event_text t (event.Copy number src dst)) ≡ Ok (event.Copy number src dst)
unfolding event_behind
again_copy t number src dst le from to =
    read_back t (event.Copy number src dst) verb.Copy (decimal number ∷ _ ∷ _ ∷ []) refl (is_word-decimal number (omega (arith, le)), (is_word-ep src from, (is_word-ep dst to, tt)))
    ∙ rw (number_back ENTRY_NUMBER_MAX number (omega arith) le, ep_of-text src from, ep_of-text dst to) refl

pub again_restart : (t : TopologyState) (node : ℕ) → IsTopology t → node < length (nodes t) → event_of t (event_text t (event.Restart node)) ≡ Ok (event.Restart node)
unfolding event_behind
again_restart t node is lt =
    let x = within (nodes t) node lt in
    read_back t (event.Restart node) verb.Restart (name_word t node ∷ []) refl (is_word-name t node (plain_names t is), tt)
    ∙ rw (name_back any_kind t node x.0 is.names x.1 refl) refl

pub again_forget : (t : TopologyState) (n who : ℕ) → IsTopology t → IsEvent t (event.Forget n who) → event_of t (event_text t (event.Forget n who)) ≡ Ok (event.Forget n who)
unfolding event_behind
again_forget t n who is legal =
    read_back t (event.Forget n who) verb.Forget (name_word t n ∷ name_word t who ∷ []) refl (is_word-name t n (plain_names t is), (is_word-name t who (plain_names t is), tt))
    ∙ rw (kind_back is_nat t n is.names refl legal.by, kind_back (is_client_of n) t who is.names refl legal.behind) refl

pub again_fault : (t : TopologyState) (send : ℕ) → send ≤ FAULT_MAX → event_of t (event_text t (event.Fault send)) ≡ Ok (event.Fault send)
unfolding event_behind
again_fault t send le =
    read_back t (event.Fault send) verb.Fault (decimal send ∷ []) refl (is_word-decimal send (omega (arith, le)), tt)
    ∙ rw (number_back FAULT_MAX send (omega arith) le) refl

pub again_settle : (t : TopologyState) → event_of t (event_text t event.Settle) ≡ Ok event.Settle
unfolding event_behind
again_settle t = read_back t event.Settle verb.Settle [] refl tt

pub settle_read : {E : Type 0} (t : TopologyState) (r : Result (Vec ℕ Global) E) → IfOk r (λ text. text.items ≡ verb_word verb.Settle) → IfOk r (λ text. event_of t text.items ≡ Ok event.Settle)
unfolding event_text
settle_read t (Ok text) h = ap (event_of t) h ∙ again_settle t
settle_read t (Err e) h = tt

-- ---- how the words are joined

pub joined_three : (a b c : List ℕ) → (a ++ 32 ∷ b) ++ 32 ∷ c ≡ join_with_byte 32 (a ∷ b ∷ c ∷ [])
joined_three a b c = append_assoc a (32 ∷ b) (32 ∷ c)

pub joined_four : (a b c d : List ℕ) → ((a ++ 32 ∷ b) ++ 32 ∷ c) ++ 32 ∷ d ≡ join_with_byte 32 (a ∷ b ∷ c ∷ d ∷ [])
joined_four a b c d = append_assoc (a ++ 32 ∷ b) (32 ∷ c) (32 ∷ d) ∙ append_assoc a (32 ∷ b) (32 ∷ (c ++ 32 ∷ d))
