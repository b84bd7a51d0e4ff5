-- The stages of a first packet from a client to a native host: which entry is on its way, and what it finds. At any moment at most
-- one is.
use Rattle.theory_first_natives.proofs.Words.{At, Bool, Full, GoesBetween, HasAnswered, IsBytes, Journal, List, None, ReachesNative, Some, [], asks_at, bubble_bytes, cond, embedded, false, fields_in, forwarded, has_cone, has_room, is_answered, is_barred, is_big, is_fresh, is_listed, is_trusted_at, journal, known, length, mentions, native_in, now, server_ep, server_in, suc, true, wire, ℕ, ◌∷◌, ◌≡◌}
use Rattle.theory_first_natives.proofs.from_native.Trio.{Trio, IsTrio}
use Rattle.theory_first_natives.proofs.from_native.TrioAfter.{TrioRecord, IsRecord}
use Rattle.theory_first_natives.proofs.from_native.TrioStages.{OnSix, test_of, reply_of, RelayAsks, RelayKeeps, TrustsClient, IsOpen, SendsAtOnce, Ground}
use Rattle.theory_first_natives.proofs.tables.ToRelay.{RelayIdle}

-- THE ENQUIRY

-- a client, a native host and its relay, whose packet is the native's reply to the client's test; the nonce of the test, and the
-- packet of the client's host that waits for the reply
pub record Enquiry : Type 0 where
  pub trio : Trio
  pub nonce : ℕ
  pub packet : List ℕ
  pub asks : Bool  -- the relay must hear from the client before it sends the reply on

-- what holds of it throughout
pub record IsEnquiry (p : Enquiry) : Type 0 where
  pub trio : IsTrio p.trio
  pub reply : p.trio.x ≡ reply_of p.trio p.nonce
  pub packet : GoesBetween p.trio.a.own p.trio.h.six p.packet
  pub small : is_big (fields_in p.packet) ≡ false
  pub bytes : IsBytes p.packet

-- WHAT THE CLIENT KNOWS

-- the packet waits at the client until the test is answered
pub record WaitsAt (p : Enquiry) (j : Journal) (n : ℕ) : Type 0 where
  pub listed : is_listed p.trio.h.six n (mentions j.entries) ≡ true
  pub waiting : (known (mentions j.entries) n p.trio.h.six).waiting ≡ p.packet ∷ []
  pub tested : (known (mentions j.entries) n p.trio.h.six).nonce ≡ Some p.nonce
  pub stale : is_fresh n (known (mentions j.entries) n p.trio.h.six) ≡ false

-- the client may answer a bubble of the relay, for which it has room
pub record MayListAt (p : Enquiry) (j : Journal) (n : ℕ) : Type 0 where
  pub unbarred : is_barred n (known (mentions j.entries) n p.trio.r.six) ≡ false
  pub room : has_room (mentions j.entries) n p.trio.r.six ≡ true

-- it trusts the native at the relay, and nothing waits for it
pub record BelievesAt (p : Enquiry) (j : Journal) (n : ℕ) : Type 0 where
  pub waiting : (known (mentions j.entries) n p.trio.h.six).waiting ≡ []
  pub trusted : is_trusted_at p.trio.r.at (known (mentions j.entries) n p.trio.h.six) ≡ true

-- after a history
abbrev pub Waits : Enquiry → List Full → Type 0
Waits p H = WaitsAt p (journal p.trio.a.n H) (now H)

abbrev pub MayList : Enquiry → List Full → Type 0
MayList p H = MayListAt p (journal p.trio.a.n H) (now H)

abbrev pub Believes : Enquiry → List Full → Type 0
Believes p H = BelievesAt p (journal p.trio.a.n H) (now H)

-- THE STAGES

-- what the relay will do with the reply: it keeps it, and asks the client; or it sends it on at once
pub data Onward (p : Enquiry) (H : List Full) : Bool → Type 0 where
  asks_first : has_cone p.trio.a.own ≡ false → RelayAsks p.trio H → MayList p H → Onward p H true
  at_once : SendsAtOnce p.trio H → RelayIdle p.trio H → Onward p H false

-- to ask takes three deliveries more: the relay's bubble and its answer
abbrev pub extra : Bool → ℕ
extra b = cond b 3 0

abbrev pub all_steps : Bool → ℕ
all_steps b = suc (suc (suc (suc (suc (suc (extra b))))))

-- so many deliveries are left until the packet has come. The last entry is the test to the server, the test to the native, its reply
-- to the relay, the relay's bubble to the server and from there to the client, the client's bubble, the reply to the client, the
-- packet to the relay, the packet to the native
pub data ToStage (p : Enquiry) (H : List Full) (last : ℕ) : ℕ → Type 0 where
  asks : At H last (embedded p.trio.a.own) (asks_at p.trio.lab p.trio.a.c) (test_of p.trio p.nonce) → Waits p H → Onward p H p.asks
      → ToStage p H last (all_steps p.asks)
  crosses : OnSix H last None (test_of p.trio p.nonce) → Waits p H → Onward p H p.asks → ToStage p H last (suc (suc (suc (suc (suc (extra p.asks))))))
  echoes : OnSix H last (Some p.trio.k) p.trio.x → Waits p H → Onward p H p.asks → ToStage p H last (suc (suc (suc (suc (extra p.asks)))))
  bubbles : At H last p.trio.r.at (server_ep (server_in p.trio.a.own)) (bubble_bytes p.trio.r.six p.trio.a.own) → RelayKeeps p.trio H → Waits p H
      → MayList p H → ToStage p H last 6
  tells : At H last (asks_at p.trio.lab p.trio.a.c) (embedded p.trio.a.own) (forwarded (Some p.trio.r.at) (bubble_bytes p.trio.r.six p.trio.a.own))
      → RelayKeeps p.trio H → Waits p H → MayList p H → ToStage p H last 5
  answers : At H last (embedded p.trio.a.own) p.trio.r.at (bubble_bytes p.trio.a.own p.trio.r.six) → RelayKeeps p.trio H → Waits p H → IsOpen p.trio H
      → ToStage p H last 4
  replies : At H last p.trio.r.at (embedded p.trio.a.own) p.trio.x → TrustsClient p.trio H → RelayIdle p.trio H → Waits p H → IsOpen p.trio H
      → ToStage p H last 3
  goes : At H last (embedded p.trio.a.own) p.trio.r.at p.packet → TrustsClient p.trio H → RelayIdle p.trio H → Believes p H → IsOpen p.trio H
      → ToStage p H last 2
  comes : OnSix H last None p.packet → TrustsClient p.trio H → Believes p H → IsOpen p.trio H → ToStage p H last 1

-- what a delivery of the last entry leaves. The native keeps the packet, or answers it
pub data ToNext (p : Enquiry) (H : List Full) (q : Full) (last : ℕ) : ℕ → Type 0 where
  goes_on : (k : ℕ) → Ground p.trio (q ∷ H) → length (wire (q ∷ H)) ≡ suc (suc last) → ToStage p (q ∷ H) (suc last) (suc k)
      → ToNext p H q last (suc (suc k))
  is_kept : Ground p.trio (q ∷ H) → ReachesNative p.trio.m p.packet q → (native_in p.packet).packet ≡ None → length (wire (q ∷ H)) ≡ suc last
      → ToNext p H q last 1
  is_answered_by : Ground p.trio (q ∷ H) → ReachesNative p.trio.m p.packet q → (y : List ℕ) → (native_in p.packet).packet ≡ Some y
      → length (wire (q ∷ H)) ≡ suc (suc last) → OnSix (q ∷ H) (suc last) (Some p.trio.k) y → TrustsClient p.trio (q ∷ H) → Believes p (q ∷ H)
      → IsOpen p.trio (q ∷ H) → ToNext p H q last 1

-- THE ANSWER

abbrev pub answer_steps : Enquiry → ℕ
answer_steps p = cond (is_answered p.packet) 2 0

-- so many deliveries are left. The last entry is the answer for the relay, or from there to the client. Or it was handed over, or there
-- is none
pub data Answering (p : Enquiry) (H : List Full) (last : ℕ) (later : List Full) : ℕ → Type 0 where
  returns : (y : List ℕ) → (native_in p.packet).packet ≡ Some y → OnSix H last (Some p.trio.k) y → TrustsClient p.trio H → Believes p H → IsOpen p.trio H
      → Answering p H last later 2
  comes_back : (y : List ℕ) → (native_in p.packet).packet ≡ Some y → At H last p.trio.r.at (embedded p.trio.a.own) y → Believes p H → IsOpen p.trio H
      → Answering p H last later 1
  is_over : ((y : List ℕ) → (native_in p.packet).packet ≡ Some y → HasAnswered p.trio.a.n y later) → Answering p H last later 0

-- what a delivery of it leaves
pub data AnswerNext (p : Enquiry) (H : List Full) (q : Full) (last : ℕ) (later : List Full) : ℕ → Type 0 where
  goes_back : Ground p.trio (q ∷ H) → length (wire (q ∷ H)) ≡ suc (suc last) → Answering p (q ∷ H) (suc last) (q ∷ later) 1 → AnswerNext p H q last later 2
  ends : Ground p.trio (q ∷ H) → length (wire (q ∷ H)) ≡ suc last → Answering p (q ∷ H) last (q ∷ later) 0 → AnswerNext p H q last later 1

-- A RECORD

-- of these, while the packet waits for the reply
pub record EnquiryRecord : Type 0 where
  pub p : Enquiry
  pub asked : IsEnquiry p
  pub H : List Full
  pub q : Full
  pub r : IsRecord p.trio H q

abbrev pub in_trio : EnquiryRecord → TrioRecord
in_trio the = record { p = the.p.trio; H = the.H; q = the.q; r = the.r }
