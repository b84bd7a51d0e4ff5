-- A client's address, and the packets that were queued under it.
use Rattle.client_rules.proofs.Words.{All-contains_itself, AllByRecursion, AreEntries, Bool, ClientFollows, Cone, Contains, Entry, Ep, IfSome, Ip6, IsOwnTo, Journal, List, Mention, None, NoneQueued, OffLine, Option, Phase, Qualification, Qualified, QualifiedHasAddress, QualifiedStays, QueuedIsOwn, QueuesOwn, Restricted, Secondary, Settings, Some, Symmetric, Turn, WaitingIsOwn, WaitingWasHandedIn, WasHandedIn, WasQueued, [], address_after, ap, asks_cone, asks_restricted, asks_secondary, begins, changes_turn, cond, differs, ends, epoch, false, false≢true, first_phase, flags_of, flags_word, fresh, goes_on, has_cone, is_about, is_answered, is_qualified, is_same, is_some, journal_since, kept, leaves, map, mention, mentions, option_map, origin_given, own_address, peer_is, qualification, qualifies, recursion_from_All, refl, refreshes, renews, says_nothing, subst, sym, teredo_ip, tidings, true, true≢false, turn_of, turned, turns, turns_at_start, unspecified, unwrap_or, waiting_is_kept, ℕ, ◌∙◌, ◌∷◌, ◌≡◌}
use Rattle.teredo_node.specs.declared.fate.Fate.TheVariants as fate
use Rattle.teredo_node.specs.Journal.{given, is_changed}
use Rattle.client_rules.proofs.Bearings.{queued_by, changes, changes_alike}
use Rattle.client_rules.proofs.Entered.{sets, IsQueuedAt, IsEffect, of_entry}

-- OPTIONS

some_map : {A B : Type 0} → (f : A → B) (o : Option A) → is_some o ≡ true → is_some (option_map f o) ≡ true
some_map f None h = absurd (false≢true h)
some_map f (Some x) h = refl

none_is : (o : Option Ip6) → is_some o ≡ false → o ≡ None
none_is None h = refl
none_is (Some x) h = absurd (true≢false h)

pub own_is : (o : Option Ip6) → is_some o ≡ true → o ≡ Some (unwrap_or o unspecified)
own_is None h = absurd (false≢true h)
own_is (Some p) h = refl

-- THE ADDRESS AFTER A TURN

to_qualified : (phase : Phase) (cone : Bool) → leaves phase (qualifies cone) ≡ true
to_qualified Cone cone = refl
to_qualified Restricted cone = refl
to_qualified Secondary cone = refl
to_qualified Qualified cone = refl
to_qualified Symmetric cone = refl
to_qualified OffLine cone = refl

-- while qualified
qualified_after : (s : Settings) (phase : Phase) (t : Turn) (w : Option ℕ) (o : Option Ep) (a : Ip6) → leaves phase t ≡ false → (sets t ≡ true → is_some o ≡ true) → is_some (address_after s t w o (Some a)) ≡ true
qualified_after s phase (qualifies cone) w o a l h = absurd (true≢false (sym (to_qualified phase cone) ∙ l))
qualified_after s phase changes_turn w o a l h = some_map (teredo_ip s.primary (flags_of (has_cone a) w)) o (h refl)
qualified_after s phase _ w o a l h = refl

-- it is the same, unless it changes
same_after : (s : Settings) (phase : Phase) (t : Turn) (w : Option ℕ) (o : Option Ep) (a : Option Ip6) → leaves phase t ≡ false → changes t ≡ false → address_after s t w o a ≡ a
same_after s phase (qualifies cone) w o a l h = absurd (true≢false (sym (to_qualified phase cone) ∙ l))
same_after s phase changes_turn w o a l h = absurd (true≢false h)
same_after s phase _ w o a l h = refl

-- of one that leaves a phase without an address
left_after : (s : Settings) (phase : Phase) (t : Turn) (w : Option ℕ) (o : Option Ep) → is_qualified phase ≡ false → (sets t ≡ true → is_some o ≡ true) → is_some (address_after s t w o None) ≡ is_qualified (unwrap_or (begins t) phase)
left_after s phase asks_cone w o q h = sym q
left_after s phase asks_restricted w o q h = refl
left_after s phase asks_secondary w o q h = sym q
left_after s phase ends w o q h = refl
left_after s phase refreshes w o q h = sym q
left_after s phase (qualifies cone) w o q h = some_map (teredo_ip s.primary (flags_of cone w)) o (h refl)
left_after s phase is_answered w o q h = refl
left_after s phase differs w o q h = refl
left_after s phase is_same w o q h = sym q
left_after s phase changes_turn w o q h = sym q
left_after s phase renews w o q h = sym q
left_after s phase says_nothing w o q h = sym q

-- of one that stays in it
unleft_after : (s : Settings) (phase : Phase) (t : Turn) (w : Option ℕ) (o : Option Ep) → is_qualified phase ≡ false → leaves phase t ≡ false → is_some (address_after s t w o None) ≡ is_qualified phase
unleft_after s phase (qualifies cone) w o q l = absurd (true≢false (sym (to_qualified phase cone) ∙ l))
unleft_after s phase _ w o q l = sym q

-- ONE FURTHER ENTRY

abbrev IsOwn : Option Ip6 → Entry → Type 0
IsOwn own e = e.step.fate ≡ fate.Queued → QueuesOwn own e

abbrev IsUnqueued : Entry → Type 0
IsUnqueued e = e.step.fate ≡ fate.Queued → ⊥

-- what a journal says of its address and of the entries since the last change of it
record HoldsOwn (q : Qualification) (es : List Entry) : Type 0 where
  addressed : is_some q.address ≡ is_qualified q.phase
  queued : AllByRecursion (IsOwn q.address) es

no_own : (e : Entry) → QueuesOwn None e → ⊥
no_own e h = no_packet e.packet e.peer h.there h.packet where
  no_packet : (o : Option (List ℕ)) (to : Option Ip6) → is_some o ≡ true → IfSome o (λ x. IsOwnTo None to x) → ⊥
  no_packet None to t p = false≢true t
  no_packet (Some x) to t p = false≢true (ap is_some p.source)

none_queued : (es : List Entry) → AllByRecursion (IsOwn None) es → AllByRecursion IsUnqueued es
none_queued [] a = tt
none_queued (e ∷ es) a = ((λ k. no_own e (a.0 k)), none_queued es a.1)

any_own : (own : Option Ip6) (es : List Entry) → AllByRecursion IsUnqueued es → AllByRecursion (IsOwn own) es
any_own own [] a = tt
any_own own (e ∷ es) a = ((λ k. absurd (a.0 k)), any_own own es a.1)

own_of : (q : Qualification) (e : Entry) → q.address ≡ Some (own_address q) → IsQueuedAt q e → QueuesOwn q.address e
own_of q e is h = record { there = h.there; packet = subst (λ o. IfSome e.packet (λ x. IsOwnTo o e.peer x)) (sym is) h.packet }

-- after any turn in a phase with an address
next_qualified : (s : Settings) (q : Qualification) (e : Entry) (es : List Entry) → IsEffect q e → HoldsOwn q es → is_qualified q.phase ≡ true
    → HoldsOwn (goes_on s (tidings s e) q) (cond (is_changed e.step.fate) [] (e ∷ es))
unfolding own_address
next_qualified s q e es f h qual = record {
  addressed = subst (λ a. is_some (address_after s (turn_of e) (flags_word s e.words) (origin_given e.input) a) ≡ is_qualified q.phase)
      (sym own) (qualified_after s q.phase (turn_of e) (flags_word s e.words) (origin_given e.input) (unwrap_or q.address unspecified)
      (f.still qual) f.told ∙ sym qual);
  queued = by_change (is_changed e.step.fate) refl;
} where
  own : q.address ≡ Some (unwrap_or q.address unspecified)
  own = own_is q.address (h.addressed ∙ qual)

  by_change : (b : Bool) → is_changed e.step.fate ≡ b → AllByRecursion (IsOwn (address_after s (turn_of e) (flags_word s e.words) (origin_given e.input) q.address)) (cond b [] (e ∷ es))
  by_change true c = tt
  by_change false c =
      let same = same_after s q.phase (turn_of e) (flags_word s e.words) (origin_given e.input) q.address (f.still qual) (changes_alike e.step.fate ∙ c) in
      subst (λ a. AllByRecursion (IsOwn a) (e ∷ es)) (sym same) ((λ k. own_of q e own (f.queued k)), h.queued)

-- and in one without
next_unqualified : (s : Settings) (q : Qualification) (e : Entry) (es : List Entry) → IsEffect q e → HoldsOwn q es → is_qualified q.phase ≡ false
    → HoldsOwn (turned s (tidings s e) q) (cond (is_changed e.step.fate) [] (e ∷ es))
next_unqualified s q e es f h unqual = record {
  addressed = by_left (leaves q.phase (turn_of e)) refl;
  queued = by_change (turned s (tidings s e) q).address (is_changed e.step.fate);
} where
  none : q.address ≡ None
  none = none_is q.address (h.addressed ∙ unqual)

  nobody : AllByRecursion IsUnqueued (e ∷ es)
  nobody = ((λ k. false≢true (sym unqual ∙ (f.queued k).qualified)), none_queued es (subst (λ a. AllByRecursion (IsOwn a) es) none h.queued))

  by_left : (b : Bool) → leaves q.phase (turn_of e) ≡ b
      → is_some (goes_on s (tidings s e) (cond b (fresh (unwrap_or (begins (turn_of e)) q.phase) e.moment) q)).address ≡ is_qualified (cond b (fresh (unwrap_or (begins (turn_of e)) q.phase) e.moment) q).phase
  by_left true l = left_after s q.phase (turn_of e) (flags_word s e.words) (origin_given e.input) unqual f.told
  by_left false l = subst (λ a. is_some (address_after s (turn_of e) (flags_word s e.words) (origin_given e.input) a)
      ≡ is_qualified q.phase) (sym none) (unleft_after s q.phase (turn_of e) (flags_word s e.words) (origin_given e.input) unqual l)

  by_change : (own : Option Ip6) (b : Bool) → AllByRecursion (IsOwn own) (cond b [] (e ∷ es))
  by_change own true = tt
  by_change own false = any_own own (e ∷ es) nobody

stays_in : (s : Settings) (q : Qualification) (e : Entry) → leaves q.phase (turn_of e) ≡ false → turned s (tidings s e) q ≡ goes_on s (tidings s e) q
stays_in s q e l = ap (λ b. goes_on s (tidings s e) (cond b (fresh (unwrap_or (begins (turn_of e)) q.phase) e.moment) q)) l

next : (s : Settings) (q : Qualification) (e : Entry) (es : List Entry) → IsEffect q e → HoldsOwn q es → HoldsOwn (turned s (tidings s e) q) (cond (is_changed e.step.fate) [] (e ∷ es))
next s q e es f h = by_phase (is_qualified q.phase) refl where
  by_phase : (b : Bool) → is_qualified q.phase ≡ b → HoldsOwn (turned s (tidings s e) q) (cond (is_changed e.step.fate) [] (e ∷ es))
  by_phase true k = subst (λ x. HoldsOwn x (cond (is_changed e.step.fate) [] (e ∷ es))) (sym (stays_in s q e (f.still k))) (next_qualified s q e es f h k)
  by_phase false k = next_unqualified s q e es f h k

-- JOURNALS

effect : (s : Settings) (j : Journal) (e : Entry) → ClientFollows s j e → IsEffect (qualification s j) e
effect s j e f = subst (λ x. IsEffect (qualification s j) x) (sym f.is) (of_entry s j e.moment e.input f.words)

first_unqualified : (cone_try : Bool) → false ≡ is_qualified (cond cone_try Cone Restricted)
first_unqualified true = refl
first_unqualified false = refl

at_start : (s : Settings) (start : ℕ) → HoldsOwn (fresh (first_phase s) start) []
unfolding first_phase
at_start s start = record { addressed = first_unqualified s.cone_try; queued = tt }

held : (s : Settings) (start : ℕ) (j : List Entry) → AreEntries s start j → HoldsOwn (qualification s (journal_since start j)) (epoch j)
held s start [] a = subst (λ q. HoldsOwn q []) (sym (turns_at_start s start)) (at_start s start)
held s start (e ∷ j) a =
    subst (λ q. HoldsOwn q (epoch (e ∷ j))) (sym (turns s (journal_since start j) e))
    (next s (qualification s (journal_since start j)) e (epoch j) (effect s (journal_since start j) e a.0) (held s start j a.1))

pub qualified_has_address : QualifiedHasAddress
qualified_has_address s j a = (held s j.start j.entries a).addressed

pub qualified_stays : QualifiedStays
qualified_stays s j e a qual =
    let is = turns s j e ∙ stays_in s (qualification s j) e ((effect s j e a.0).still qual) in
    ap (λ (q : Qualification). is_qualified q.phase) is ∙ qual

pub queued_is_own : QueuedIsOwn
queued_is_own s j a = (held s j.start j.entries a).queued

pub none_is_queued : NoneQueued
none_is_queued s j a unqual =
    let h = held s j.start j.entries a in
    none_queued (epoch j.entries) (subst (λ o. AllByRecursion (IsOwn o) (epoch j.entries)) (none_is (qualification s j).address (h.addressed ∙ unqual)) h.queued)

-- WHAT WAITS

own_mentions : (own : Option Ip6) (p : Ip6) (es : List Entry) → AllByRecursion (IsOwn own) es
    → AllByRecursion (λ (m : Mention). is_about p m ≡ true → IfSome m.bearing.queues (IsOwnTo own (Some p))) (map mention es)
own_mentions own p [] a = tt
own_mentions own p (e ∷ es) a =
    ((λ about. queued_by e.step.fate e (IsOwnTo own (Some p)) (λ k. subst (λ to. IfSome e.packet (IsOwnTo own to)) (peer_is p e.peer about) (a.0 k).packet)), own_mentions own p es a.1)

pub waiting_is_own : WaitingIsOwn
unfolding mentions
waiting_is_own s j n p a =
    let own = (qualification s j).address in
    kept (λ x. AllByRecursion (IsOwnTo own (Some p)) x.waiting) (λ m. IfSome m.bearing.queues (IsOwnTo own (Some p))) (waiting_is_kept (IsOwnTo own (Some p))) p (map mention (epoch j.entries))
    (own_mentions own p (epoch j.entries) (held s j.start j.entries a).queued) n

-- WHOSE IT IS

given_packet : (e : Entry) (o : Option (List ℕ)) → e.packet ≡ o → e.step.fate ≡ fate.Queued → IfSome o (λ x. e.input ≡ given x) → IfSome o (λ x. WasQueued e.peer x e)
given_packet e None is k h = tt
given_packet e (Some x) is k h = record { given = h; peer = refl; queued = k }

-- each queued entry has the packet that was handed in
abbrev HasGiven : Entry → Type 0
HasGiven e = e.step.fate ≡ fate.Queued → IfSome e.packet (λ x. WasQueued e.peer x e)

all_given : (s : Settings) (start : ℕ) (es : List Entry) → AreEntries s start es → AllByRecursion HasGiven es
all_given s start [] a = tt
all_given s start (e ∷ es) a = ((λ k. given_packet e e.packet refl k ((effect s (journal_since start es) e a.0).queued k).given), all_given s start es a.1)

in_epoch : (P : Entry → Type 0) (es : List Entry) → AllByRecursion P es → AllByRecursion P (epoch es)
in_epoch P [] a = tt
in_epoch P (e ∷ es) a = by (is_changed e.step.fate) (in_epoch P es a.1) where
  by : (b : Bool) → AllByRecursion P (epoch es) → AllByRecursion P (cond b [] (e ∷ epoch es))
  by true rest = tt
  by false rest = (a.0, rest)

-- a mention of a packet is of an entry of these
module _ (all : List Entry) (p : Ip6) where
  one_given : (e : Entry) (o : Option (List ℕ)) → Contains all e → e.peer ≡ Some p → IfSome o (λ x. WasQueued e.peer x e) → IfSome o (WasHandedIn all (Some p))
  one_given e None at is h = tt
  one_given e (Some x) at is h = (e, at, subst (λ o. WasQueued o x e) is h)

  given_mentions : (es : List Entry) → AllByRecursion (Contains all) es → AllByRecursion HasGiven es
      → AllByRecursion (λ (m : Mention). is_about p m ≡ true → IfSome m.bearing.queues (WasHandedIn all (Some p))) (map mention es)
  given_mentions [] at a = tt
  given_mentions (e ∷ es) at a =
      ((λ about. queued_by e.step.fate e (WasHandedIn all (Some p)) (λ k. one_given e e.packet at.0 (peer_is p e.peer about) (a.0 k))), given_mentions es at.1 a.1)

pub each_within : (xs : List Entry) → AllByRecursion (Contains xs) xs
each_within xs = recursion_from_All (Contains xs) xs (All-contains_itself xs)

pub waiting_was_handed_in : WaitingWasHandedIn
unfolding mentions
waiting_was_handed_in s j n p a =
    let es = epoch j.entries in
    kept (λ x. AllByRecursion (WasHandedIn es (Some p)) x.waiting) (λ m. IfSome m.bearing.queues (WasHandedIn es (Some p))) (waiting_is_kept (WasHandedIn es (Some p))) p (map mention es)
    (given_mentions es p es (each_within es) (in_epoch HasGiven j.entries (all_given s j.start j.entries a))) n
