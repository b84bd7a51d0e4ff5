-- What a client does at late calls, at refreshes, and with the words of a stream, computed from the definitions.
use Rattle.worked_scenarios.proofs.Words.{Fate, Input, Ip6, Journal, List, None, Send, ServerSettings, Settings, Some, Strict, Words, [], advert_bytes, arrived, block_word, bubble_bytes, client_due, client_entry, column_round, data_packet, diagonal_round, digits, double_rounds, false, given, hex, hex_groups_text, just, key_of, length, link_local, nonce_from, number_at, packet_bytes, quarter_round, refl, replicate, ticked, true, u32_at, with_entry, word_at, ℕ, ◌+◌, ◌∷◌, ◌≡◌}
use Rattle.teredo_node.specs.declared.fate.Fate.TheVariants as fate
use Rattle.worked_scenarios.proofs.Scenes.{ip, ip6, ep}
use Rattle.worked_scenarios.proofs.Playing.{playing}

-- THE CLIENT

abbrev set_up : ℕ → ℕ → Settings
set_up low high = record { inside = ep (ip 10 0 0 2) 4000; primary = ip 192 0 2 1; secondary = ip 192 0 2 2; policy = Strict; low = low; high = high; random = false; cone_try = true }

-- an advertisement that told the origin 198.51.100.7:40000
abbrev answer : List ℕ
answer = 0 ∷ 1 ∷ 0 ∷ 0 ∷ 1 ∷ 2 ∷ 3 ∷ 4 ∷ 5 ∷ 6 ∷ 7 ∷ 8 ∷ 0 ∷ 0 ∷ 0 ∷ 99 ∷ 191 ∷ 57 ∷ 204 ∷ 155 ∷ 248 ∷ 96 ∷ 0 ∷ 0 ∷ 0 ∷ 0 ∷ 56 ∷ 58 ∷ 255
    ∷ 254 ∷ 128 ∷ 0 ∷ 0 ∷ 0 ∷ 0 ∷ 0 ∷ 0 ∷ 128 ∷ 0 ∷ 242 ∷ 39 ∷ 63 ∷ 255 ∷ 253 ∷ 254 ∷ 254 ∷ 128 ∷ 0 ∷ 0 ∷ 0 ∷ 0 ∷ 0 ∷ 0 ∷ 0 ∷ 0 ∷ 99 ∷ 191
    ∷ 57 ∷ 204 ∷ 155 ∷ 248 ∷ 134 ∷ 0 ∷ 99 ∷ 152 ∷ 0 ∷ 0 ∷ 0 ∷ 0 ∷ 0 ∷ 0 ∷ 0 ∷ 0 ∷ 0 ∷ 0 ∷ 0 ∷ 0 ∷ 3 ∷ 4 ∷ 64 ∷ 64 ∷ 255 ∷ 255 ∷ 255 ∷ 255
    ∷ 255 ∷ 255 ∷ 255 ∷ 255 ∷ 0 ∷ 0 ∷ 0 ∷ 0 ∷ 32 ∷ 1 ∷ 0 ∷ 0 ∷ 192 ∷ 0 ∷ 2 ∷ 1 ∷ 0 ∷ 0 ∷ 0 ∷ 0 ∷ 0 ∷ 0 ∷ 0 ∷ 0 ∷ 5 ∷ 1 ∷ 0 ∷ 0 ∷ 0 ∷ 0 ∷ 5 ∷ 0 ∷ []

-- it qualified at 0, by a word
abbrev qualified : ℕ → Journal
qualified word = record { start = 0; entries = record { moment = 0; input = arrived (ep (ip 192 0 2 2) 3544) answer; packet = None; peer = None; words = word ∷ []; step = just fate.QualifiedRestricted } ∷ [] }

-- 2001:0:c000:201:0:63bf:39cc:9bf8
abbrev own : Ip6
own = ip6 (32 ∷ 1 ∷ 0 ∷ 0 ∷ 192 ∷ 0 ∷ 2 ∷ 1 ∷ 0 ∷ 0 ∷ 99 ∷ 191 ∷ 57 ∷ 204 ∷ 155 ∷ 248 ∷ [])

-- a peer of the same server, at 198.51.100.9:1024
abbrev peer : Ip6
peer = ip6 (32 ∷ 1 ∷ 0 ∷ 0 ∷ 192 ∷ 0 ∷ 2 ∷ 1 ∷ 0 ∷ 0 ∷ 251 ∷ 255 ∷ 57 ∷ 204 ∷ 155 ∷ 246 ∷ [])

abbrev packet : Input
packet = given (packet_bytes (data_packet own peer (1 ∷ [])))

-- a bubble from the peer
abbrev bubble : Input
bubble = arrived (ep (ip 198 51 100 9) 1024) (bubble_bytes peer own)

-- words from k on
abbrev words_from : ℕ → Words
words_from k = λ i. k + i

-- a client that hardly refreshes
abbrev calm : Settings
calm = set_up 1000000 1000000

abbrev after : Settings → Journal → ℕ → Input → Words → Journal
after s j n input w = with_entry j (client_entry s j n input w)

abbrev fate_at : Settings → Journal → ℕ → Input → Words → Fate
fate_at s j n input w = (client_entry s j n input w).step.fate

abbrev sends_at : Settings → Journal → ℕ → Input → Words → ℕ
sends_at s j n input w = length (client_entry s j n input w).step.sends

abbrev w : Words
w = words_from 0

-- A TICK AFTER THE TRY EXPIRED: queued at 0 with a try, and at 1,999 without one

abbrev queued_twice : Journal
queued_twice = after calm (after calm (qualified 0) 0 packet w) 1999 packet w

-- the first one is a try
pub late-first-try : sends_at calm (qualified 0) 0 packet w ≡ 2
unfolding playing hex_groups_text hex digits
late-first-try = refl

-- the second one is none
pub late-no-try : sends_at calm (after calm (qualified 0) 0 packet w) 1999 packet w ≡ 0
unfolding playing hex_groups_text hex digits
late-no-try = refl

-- the peer is still listed, and its try is old
pub late-bubbles : fate_at calm queued_twice 301500 ticked w ≡ fate.Bubbles
unfolding playing hex_groups_text hex digits
late-bubbles = refl

-- it is no longer listed, so nothing waits
pub late-idle : fate_at calm queued_twice 301999 ticked w ≡ fate.Idle
unfolding playing hex_groups_text hex digits
late-idle = refl

-- FOUR TRIES

abbrev tried : ℕ → Journal → Journal
tried n j = after calm j n ticked w

abbrev four_tries : Journal
four_tries = tried 6000 (tried 4000 (tried 2000 (after calm (qualified 0) 0 packet w)))

abbrev given_up : Journal
given_up = tried 8000 four_tries

-- then its packets are dropped
pub four-give-up : fate_at calm four_tries 8000 ticked w ≡ fate.GiveUp
unfolding playing hex_groups_text hex digits
four-give-up = refl

-- it is barred as long as the first try is young
pub four-barred : fate_at calm given_up 299999 packet w ≡ fate.Barred
unfolding playing hex_groups_text hex digits
four-barred = refl

-- and queued again from then on
pub four-again : fate_at calm given_up 300000 packet w ≡ fate.Queued
unfolding playing hex_groups_text hex digits
four-again = refl

-- with a try
pub four-tried-again : sends_at calm given_up 300000 packet w ≡ 2
unfolding playing hex_groups_text hex digits
four-tried-again = refl

-- TRUST

abbrev heard_once : Journal
heard_once = after calm (qualified 0) 0 bubble w

-- a direct bubble
pub trust-begins : fate_at calm (qualified 0) 0 bubble w ≡ fate.Rule3Bubble
unfolding playing hex_groups_text hex digits
trust-begins = refl

-- the last moment of the listing
pub trust-lasts : fate_at calm heard_once 299999 bubble w ≡ fate.Rule1Bubble
unfolding playing hex_groups_text hex digits
trust-lasts = refl

-- one later
pub trust-ends : fate_at calm heard_once 300000 bubble w ≡ fate.Rule3Bubble
unfolding playing hex_groups_text hex digits
trust-ends = refl

-- a reception keeps the listing
pub trust-kept : fate_at calm (after calm heard_once 299999 bubble w) 599998 bubble w ≡ fate.Rule1Bubble
unfolding playing hex_groups_text hex digits
trust-kept = refl

-- A PHASE THAT IS CALLED 100 s LATE

abbrev new : Journal
new = record { start = 0; entries = [] }

abbrev asked : ℕ → Journal → Journal
asked n j = after calm j n ticked w

-- its second solicitation
pub phase-again : fate_at calm (asked 0 new) 100000 ticked w ≡ fate.RsCone
unfolding playing hex_groups_text hex digits
phase-again = refl

-- the third is due 4,000 ms after it
pub phase-due : client_due calm (asked 100000 (asked 0 new)) 100000 ≡ Some 104000
unfolding playing hex_groups_text hex digits
phase-due = refl

-- and 4,000 ms after the third the next phase asks
pub phase-next : fate_at calm (asked 104000 (asked 100000 (asked 0 new))) 108000 ticked w ≡ fate.RsRestricted
unfolding playing hex_groups_text hex digits
phase-next = refl

-- REFRESHES

abbrev quick : Settings
quick = set_up 22500 30000

abbrev server : ServerSettings
server = record { primary = ip 192 0 2 1; secondary = ip 192 0 2 2; policy = Strict }

-- an advertisement with a nonce
abbrev advert : ℕ → Input
advert nonce = arrived (ep (ip 192 0 2 1) 3544) (advert_bytes server (ep (ip 198 51 100 7) 40000) (Some nonce) (link_local false (ep (ip 10 0 0 2) 4000)))

abbrev refreshed : Journal
refreshed = after quick (qualified 12345) 27344 ticked (words_from 7)

abbrev refreshed_twice : Journal
refreshed_twice = after quick refreshed 49853 ticked (words_from 100)

-- 12,345 mod 7,501 is 4,844
pub refresh-due : client_due quick (qualified 12345) 0 ≡ Some 27344
unfolding playing hex_groups_text hex digits
refresh-due = refl

-- the words of the nonce come before that of the interval
pub refresh-drawn : client_due quick refreshed 27344 ≡ Some 49853
unfolding playing hex_groups_text hex digits
refresh-drawn = refl

-- the nonce of an older refresh
pub refresh-older : fate_at quick refreshed_twice 50000 (advert (nonce_from (words_from 7))) w ≡ fate.Nonce
unfolding playing hex_groups_text hex digits
refresh-older = refl

-- that of the latest
pub refresh-latest : fate_at quick refreshed_twice 50000 (advert (nonce_from (words_from 100))) w ≡ fate.Same
unfolding playing hex_groups_text hex digits
refresh-latest = refl

-- once
pub refresh-used : fate_at quick (after quick refreshed_twice 50000 (advert (nonce_from (words_from 100))) w) 50001 (advert (nonce_from (words_from 100))) w ≡ fate.Nonce
unfolding playing hex_groups_text hex digits
refresh-used = refl

-- THE WORDS OF A STREAM: its key is 32 zero bytes

abbrev stream : Words
stream k = word_at 10 (key_of (replicate 32 0)) 0 k

abbrev first_sent : List Send → List ℕ
first_sent [] = []
first_sent (x ∷ xs) = x.bytes

-- the nonce of the first solicitation
pub stream-nonce : number_at 4 8 (first_sent (client_entry calm new 0 ticked stream).step.sends) ≡ 0xade0b876903df1a0
unfolding playing hex_groups_text hex digits block_word double_rounds diagonal_round quarter_round column_round u32_at
stream-nonce = refl
