-- What a client makes of an answer to an open question: no line of its table refuses it.
use Rattle.theory_answers.proofs.Words.{ADVERT_LEN, Bool, Cone, EachAnswerIsTaken, Ep, Fate, HEADER, Heard, Ip6, IsAnswerTo, List, MayBeAnswered, Message, OffLine, Opt, Option, PACKET_MAX, Phase, Qualification, Qualified, ReadsAdvert, Restricted, Secondary, Seen, ServerSettings, Settings, Some, Standing, Symmetric, Value, [], advert_bytes, advert_lines, advert_options, advert_packet, advert_reads_back, advert_row, ap, arith, expected, expected_in, false, filter_map, first_line, heard, is_advert, is_big, is_cone, is_confirmed, is_from_server, is_keyed, is_one_of, is_own_prefix, is_same_origin, is_usable_origin, length, length-append, list_any, message_in, nat_lt, origin_before, origin_in, phase_line, prefix_of, prefixes_in, reception_fate, reception_row, refl, replicate, same_ep, same_ep-self, same_ip-self, seen, served_prefix, server_ep, true, value_in, value_written, ℕ, ◌++◌, ◌+◌, ◌==◌, ◌||◌, ◌∙◌, ◌∷◌, ◌≡◌}

-- THE TABLES

-- an advertisement of the server, which no line before its own refuses
pub record IsHeard (a : Seen) : Type 0 where
  pub payload : a.payload ≡ true
  pub unkeyed : a.keyed ≡ false
  pub unconfirmed : a.confirmed ≡ false
  pub short : a.big ≡ false
  pub server : a.from_server ≡ true
  pub well_formed : a.ill_formed ≡ false
  pub advert : a.advert ≡ true

row_by : (a : Seen) (f : Fate) → IsHeard a → reception_row a f ≡ f
row_by a f i = rw (i.payload, i.unkeyed, i.unconfirmed, i.short, i.server, i.well_formed, i.advert) refl

-- and no line on advertisements does
pub record IsUnrefused (h : Heard) : Type 0 where
  pub open_nonce : h.open_nonce ≡ true
  pub from_expected : h.from_expected ≡ true
  pub usable_origin : h.usable_origin ≡ true
  pub one_prefix : h.one_prefix ≡ true
  pub own_prefix : h.own_prefix ≡ true

lines_by : (h : Heard) (last : Fate) → IsUnrefused h → first_line (advert_lines h) last ≡ last
lines_by h last i = rw (i.open_nonce, i.from_expected, i.usable_origin, i.one_prefix, i.own_prefix) refl

-- THE SERVER

-- its two endpoints
from_first : (s : Settings) → is_from_server s (server_ep s.primary) ≡ true
unfolding is_from_server
from_first s = ap (λ (b : Bool). b || same_ep (server_ep s.primary) (server_ep s.secondary)) (same_ep-self (server_ep s.primary))

from_second : (s : Settings) → is_from_server s (server_ep s.secondary) ≡ true
unfolding is_from_server
from_second s = by (same_ep (server_ep s.secondary) (server_ep s.primary)) where
  by : (b : Bool) → (b || same_ep (server_ep s.secondary) (server_ep s.secondary)) ≡ true
  by true = refl
  by false = same_ep-self (server_ep s.secondary)

-- an answer is expected from one of them
of_server : (s : Settings) (ph : Phase) (cone : Bool) → is_from_server s (expected_in s ph cone) ≡ true
of_server s Cone cone = from_second s
of_server s Restricted cone = from_first s
of_server s Secondary cone = from_second s
of_server s Qualified true = from_second s
of_server s Qualified false = from_first s
of_server s Symmetric cone = from_first s
of_server s OffLine cone = from_first s

of_expected : (s : Settings) (q : Qualification) → is_from_server s (expected s q) ≡ true
unfolding expected
of_expected s q = of_server s q.phase (is_cone q)

-- THE ADVERTISEMENT

-- a server's answer that a client may be given
pub record OpenAnswer : Type 0 where
  pub s : Settings
  pub a : Standing
  pub server : ServerSettings
  pub from : Ep
  pub origin : Ep
  pub nonce : ℕ
  pub to : Ip6
  pub may : MayBeAnswered server origin (Some nonce) to
  pub answer : IsAnswerTo s a.qualification server from origin nonce

module _ (open_answer : OpenAnswer) where
  open open_answer use {s, a, server, from, origin, nonce, to, may, answer}

  abbrev x : List ℕ
  x = advert_bytes server origin (Some nonce) to

  abbrev v : Value
  v = value_in x

  abbrev q : Qualification
  q = a.qualification

  reads : ReadsAdvert server origin (Some nonce) to x
  reads = advert_reads_back server origin (Some nonce) to may

  abbrev w : Value
  w = value_written (Some nonce) (Some origin) (advert_packet server to)

  same : v ≡ w
  same = reads.payload.value

  unkeyed : is_keyed w.lead ≡ false
  unfolding is_keyed
  unkeyed = refl

  unconfirmed : is_confirmed w.lead ≡ false
  unfolding is_confirmed
  unconfirmed = refl

  options_long : length (advert_options server.primary) ≡ 40
  options_long =
      let four : length server.primary.0 ≡ 4 = may.primary.0 in
      let tail : length (server.primary.0 ++ replicate 8 0) ≡ 12 = omega (arith, length-append server.primary.0 (replicate 8 0), four) in
      let whole = length-append (server.primary.0 ++ replicate 8 0) (5 ∷ 1 ∷ 0 ∷ 0 ∷ 0 ∷ 0 ∷ 5 ∷ 0 ∷ []) in
      omega (arith, tail, whole)

  short : is_big v.packet ≡ false
  unfolding is_big
  short = ap (λ (k : ℕ). nat_lt PACKET_MAX (HEADER + k)) (reads.carries.long ∙ ap (λ (k : ℕ). ADVERT_LEN + k) options_long)

  prefixes : prefixes_in (message_in v.packet) ≡ (64, served_prefix server.primary) ∷ []
  unfolding prefixes_in
  prefixes = rw reads.carries.message (ap (λ (os : List Opt). filter_map prefix_of os) reads.options.read)

  own_prefix : list_any (is_own_prefix s) (prefixes_in (message_in v.packet)) ≡ true
  own_prefix = ap (λ (ps : List (ℕ × Ip6)). list_any (is_own_prefix s) ps) prefixes
      ∙ rw (reads.options.teredo, reads.options.server, answer.asked, same_ip-self s.primary) refl

  heard_it : IsHeard (seen s a from x)
  unfolding seen
  heard_it = record {
    payload = reads.payload.is_one;
    unkeyed = ap (λ (z : Value). is_keyed z.lead) same ∙ unkeyed;
    unconfirmed = ap (λ (z : Value). is_confirmed z.lead) same ∙ unconfirmed;
    short = short;
    server = ap (is_from_server s) answer.source ∙ of_expected s q;
    well_formed = reads.carries.well_formed;
    advert = ap (λ (m : Option Message). is_advert m) reads.carries.message;
  }

  unrefused : IsUnrefused (heard s q from v)
  unrefused = record {
    open_nonce = ap (is_one_of q.open_nonces) reads.same_nonce ∙ answer.open_nonce;
    from_expected = ap (λ (e : Ep). same_ep e (expected s q)) answer.source ∙ same_ep-self (expected s q);
    usable_origin = ap (is_usable_origin s.policy) reads.same_origin ∙ answer.usable;
    one_prefix = ap (λ (ps : List (ℕ × Ip6)). length ps == 1) prefixes;
    own_prefix = own_prefix;
  }

  pub is_taken : reception_fate s a from x ≡ phase_line q.phase (is_same_origin (Some origin) (origin_before q q.phase))
  unfolding reception_fate advert_row
  is_taken =
      row_by (seen s a from x) (advert_row s q from v) heard_it
      ∙ lines_by (heard s q from v) (phase_line q.phase (is_same_origin (origin_in v.lead) (origin_before q q.phase))) unrefused
      ∙ ap (λ (o : Option Ep). phase_line q.phase (is_same_origin o (origin_before q q.phase))) reads.same_origin

pub each_answer_is_taken : EachAnswerIsTaken
each_answer_is_taken s a server from origin nonce to may answer = is_taken (record { s = s; a = a; server = server; from = from; origin = origin; nonce = nonce; to = to; may = may; answer = answer })
