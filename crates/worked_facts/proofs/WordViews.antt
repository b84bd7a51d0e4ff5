-- What is seen of the packet after a word on two hosts and of the schedule behind it; and that this is such a packet, and a fresh schedule.
use Rattle.worked_facts.proofs.Words.{AreFresh, Bool, DeliversFresh, Entry, Fate, Full, GoesBetween, HasNoFault, Input, Ip6, IsComplete, IsNoReply, IsSentNext, Lab, List, Node, None, Option, Reach, Some, [], address_at, and_parts, ap, arith, drop, false, false≢true, given, is_fault, is_some, length, list_any, map, nat_le, nat_tests, node_at, not, option_map, reach_of, refl, slice_get, subst, suc, sym, take, true, unwrap_or, was_delivered, wire, ℕ, ◌&&◌, ◌-◌, ◌∙◌, ◌∷◌, ◌≡◌, ◌≤◌}
use Rattle.worked_facts.proofs.FirstPacketViews.{left_from, complete_if}
use Rattle.worked_facts.proofs.NativeViews.{was_given}

-- A RECORD

-- the record behind the latest ones, so many, and what is seen of it
pub record SeenAt {A : Type 0} (f : Full → A) (H : List Full) (i : ℕ) (v : A) : Type 0 where
  pub q : Full
  pub at : slice_get H i ≡ Some q
  pub is : f q ≡ v

pub seen_at : {A : Type 0} (f : Full → A) (H : List Full) (i : ℕ) (v : A) → option_map f (slice_get H i) ≡ Some v → SeenAt f H i v
seen_at {A} f H i v seen = by (slice_get H i) refl seen where
  by : (o : Option Full) → slice_get H i ≡ o → option_map f o ≡ Some v → SeenAt f H i v
  by None at none = absurd (false≢true (ap (λ (p : Option A). is_some p) none))
  by (Some q) at some = record { q = q; at = at; is = ap (λ (p : Option A). unwrap_or p v) some }

-- A SCHEDULE

-- the entry that is delivered is new, and delivered for the first time
abbrev is_new : Full → List Full → Option ℕ → Bool
is_new r later None = false
is_new r later (Some k) = nat_le r.first k && not (was_delivered k later)

abbrev pub are_fresh : Full → List Full → Bool
are_fresh r [] = not (list_any is_fault r.made)
are_fresh r (q ∷ later) = is_new r later q.delivered && (not (list_any is_fault q.made) && are_fresh r later)

sound : (b : Bool) → not b ≡ true → b ≡ false
sound false e = refl
sound true e = absurd (false≢true e)

pub fresh_if : (r : Full) (later : List Full) → are_fresh r later ≡ true → AreFresh r later
fresh_if r [] e = sound (list_any is_fault r.made) e
fresh_if r (q ∷ later) e =
    let all = and_parts (is_new r later q.delivered) (not (list_any is_fault q.made) && are_fresh r later) e in
    let parts = and_parts (not (list_any is_fault q.made)) (are_fresh r later) all.1 in
    (delivers q.delivered refl all.0 (sound (list_any is_fault q.made) parts.0), fresh_if r later parts.1) where
      delivers : (o : Option ℕ) → q.delivered ≡ o → is_new r later o ≡ true → HasNoFault q → DeliversFresh r later q
      delivers None told new no_fault = absurd (false≢true new)
      delivers (Some k) told new no_fault =
          let both = and_parts (nat_le r.first k) (not (was_delivered k later)) new in
          let low : r.first ≤ k = grind (arith, nat_tests, both) in
          record { number = k; delivered = told; new = low; once = sound (was_delivered k later) both.1; sound = no_fault }

-- A PACKET BY ITS WORD

-- before the packet: the word on node n and node m, and their addresses; its record; and the schedule: whether it is fresh, what of the
-- wire is left, its fates, the latest first
pub record NextSeen : Type 0 where
  pub said : Option Reach
  pub own : Ip6
  pub other : Ip6
  pub node : Option ℕ
  pub input : Option Input
  pub fresh : Bool
  pub left : List ℕ
  pub fates : List Fate

abbrev pub next_of : Lab → (n m : ℕ) → (before H later : List Full) → Full → NextSeen
next_of lab n m before H later q = record {
  said = reach_of lab before n m;
  own = address_at lab before n;
  other = address_at lab before m;
  node = q.node;
  input = option_map (λ (e : Entry). e.input) q.entry;
  fresh = are_fresh q later;
  left = left_from later q.first (length (wire H) - q.first);
  fates = map (λ (z : Full). z.fate) later;
}

-- of the record behind the latest ones, so many
abbrev pub next_seen : Lab → (n m i : ℕ) → List Full → Option NextSeen
next_seen lab n m i H = option_map (next_of lab n m (drop (suc i) H) H (take i H)) (slice_get H i)

-- the word on two hosts is this one; then the host of the one hands in x for the other, and all that is drawn by that is delivered, each
-- datagram once
pub record IsNextByWord (lab : Lab) (H : List Full) (i n m : ℕ) (a b : Node) (x : List ℕ) (said : Reach) : Type 0 where
  pub q : Full
  pub at : slice_get H i ≡ Some q
  pub sender : node_at lab.topology n ≡ Some a
  pub receiver : node_at lab.topology m ≡ Some b
  pub word : reach_of lab (drop (suc i) H) n m ≡ Some said
  pub sent : IsSentNext lab (drop (suc i) H) q n m a x
  pub fresh : AreFresh q (take i H)
  pub whole : IsComplete (drop (suc i) H) q (take i H)

-- what is wanted of what is seen
pub record IsByWord (n : ℕ) (x : List ℕ) (said : Reach) (s : NextSeen) : Type 0 where
  pub word : s.said ≡ Some said
  pub node : s.node ≡ Some n
  pub input : s.input ≡ Some (given x)
  pub packet : GoesBetween s.own s.other x
  pub fresh : s.fresh ≡ true
  pub nothing : s.left ≡ []

pub next_by_word : {s : NextSeen} (lab : Lab) (n m : ℕ) (a b : Node) → node_at lab.topology n ≡ Some a → node_at lab.topology m ≡ Some b
    → (x : List ℕ) → IsNoReply a x → (said : Reach) (i : ℕ) (H : List Full) → next_seen lab n m i H ≡ Some s
    → IsByWord n x said s → IsNextByWord lab H i n m a b x said
next_by_word {s} lab n m a b sender receiver x no_reply said i H seen by_word =
    let it = seen_at (next_of lab n m (drop (suc i) H) H (take i H)) H i s seen in
    let input = was_given it.q.entry (given x) (ap (λ (z : NextSeen). z.input) it.is ∙ by_word.input) in
    record {
      q = it.q;
      at = it.at;
      sender = sender;
      receiver = receiver;
      word = ap (λ (z : NextSeen). z.said) it.is ∙ by_word.word;
      sent = record {
        handed = record {
          node = ap (λ (z : NextSeen). z.node) it.is ∙ by_word.node;
          entry = input.entry;
          did = input.is;
          packet_in = input.input_is;
          packet = subst (λ (z : NextSeen). GoesBetween z.own z.other x) (sym it.is) by_word.packet;
        };
        no_reply = no_reply;
      };
      fresh = fresh_if it.q (take i H) (ap (λ (z : NextSeen). z.fresh) it.is ∙ by_word.fresh);
      whole = complete_if i H it.q it.at (ap (λ (z : NextSeen). z.left) it.is ∙ by_word.nothing);
    }
