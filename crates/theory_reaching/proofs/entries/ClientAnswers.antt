-- What a client does with a bubble through its server: it answers with a bubble to the origin that the server names, or does nothing.
use Rattle.theory_reaching.proofs.Words.{AllByRecursion, Bearing, Bool, Entry, Ep, Fate, Ip6, Journal, List, Mention, None, Option, ReadsPayload, Seen, Send, Settings, Some, Step, Value, Words, [], advert_row, and_right, ap, arrived, bearing_of, bubble_bytes, client_in, cond, direct_bubble, entry, entry_here, false, has_room, inl, inr, is_advert, is_changed, is_from_server, known, map, mention, mentions, message_in, next_mentions, option_to_list, origin_in, own_address, packet_in, qualification, reception_row, reception_step, refl, same_ip6, same_ip6-true, send, standing_at, subst, sym, true, ℕ, ◌&&◌, ◌∙◌, ◌∷◌, ◌≡◌, ◌⊎◌}
use Rattle.teredo_node.specs.declared.fate.Fate.TheVariants as fate
use Rattle.theory_first_packets.proofs.tables.Received.{seen_here}
use Rattle.theory_reaching.proofs.entries.KnownAfter.{others_known}
use Rattle.theory_reaching.proofs.entries.IdleFates.{IsIdleIn, IsAnswered, of_reception}
use Rattle.theory_reaching.proofs.Tests.{never}

-- THE TABLE

-- a fate that comes alone, or the answer to a bubble that is for the client, which has room for the peer
record IsAnswer (z : Seen) (f : Fate) : Type 0 where
  changes : is_changed f ≡ false
  step : (IsIdleIn f) ⊎ ((f ≡ fate.Indirect) × IsAnswered z)

-- so whatever line holds
answer : (z : Seen) (advert : Fate) → z.from_server ≡ true → z.advert ≡ false → IsAnswer z (reception_row z advert)
answer z advert server no_advert = of_reception (IsAnswer z) z advert (λ f idle. record { changes = idle.changes; step = inl idle })
    (λ e. never (z.from_server && z.advert) e (and_right z.from_server z.advert no_advert))
    (λ answered. record { changes = refl; step = inr (refl, answered) }) (λ none. never z.from_server server none)

-- THE ENTRY

-- what is sent is a bubble from the client's address to the peer, at this endpoint. Nothing is handed over, and of others the same is known.
-- The peer is listed, or nothing is sent and nobody is
pub record AnswersOnly (j : Journal) (n : ℕ) (own peer : Ip6) (at : Ep) (e : Entry) : Type 0 where
  pub sends : AllByRecursion (λ (u : Send). u ≡ send at (bubble_bytes own peer)) e.step.sends
  pub handed : e.step.handed ≡ None
  pub late : e.step.late ≡ []
  pub others : (p : Ip6) → same_ip6 p peer ≡ false → known (mentions (e ∷ j.entries)) n p ≡ known (mentions j.entries) n p
  pub then : mentions (e ∷ j.entries) ≡ mention e ∷ mentions j.entries
  pub moment : e.moment ≡ n
  pub about : e.peer ≡ Some peer
  pub lists : ((e.step.sends ≡ []) × ((mention e).bearing.touches ≡ false))
      ⊎ ((has_room (mentions j.entries) n peer ≡ true) × ((mention e).bearing.touches ≡ true))

-- what a client reads from its server, with an origin
pub record WithOrigin : Type 0 where
  pub s : Settings
  pub j : Journal
  pub n : ℕ
  pub from : Ep
  pub x : List ℕ
  pub v : Value
  pub reads : ReadsPayload v x
  pub server : is_from_server s from ≡ true
  pub no_advert : is_advert (message_in v.packet) ≡ false
  pub at : Ep
  pub origin : origin_in v.lead ≡ Some at

-- of a datagram of its server that reads as v, no advertisement, of this origin
module _ (with_origin : WithOrigin) where
  open with_origin use {s, j, n, from, x, v, reads, server, no_advert, at, origin}

  abbrev peer : Ip6
  peer = v.packet.src

  abbrev row : Fate
  row = reception_row (seen_here s j n from x v reads) (advert_row s (standing_at s j n peer).qualification from v)

  is_answer : IsAnswer (seen_here s j n from x v reads) row
  is_answer = answer (seen_here s j n from x v reads) (advert_row s (standing_at s j n peer).qualification from v) server no_advert

  abbrev its : Words → Entry
  its w = entry n (arrived from x) (packet_in x) (Some peer) w (reception_step s (standing_at s j n peer) from x v w row)

  abbrev Bubbles : List Send → Type 0
  Bubbles us = AllByRecursion (λ (u : Send). u ≡ send at (bubble_bytes v.packet.dst peer)) us

  -- what of a step is so
  record IsSuch (z : Step) : Type 0 where
    sends : Bubbles z.sends
    handed : z.handed ≡ None
    late : z.late ≡ []
    fate : z.fate ≡ row

  such : (w : Words) → IsSuch (reception_step s (standing_at s j n peer) from x v w row)
  unfolding standing_at
  such w = by is_answer.step where
    by : (IsIdleIn row) ⊎ ((row ≡ fate.Indirect) × IsAnswered (seen_here s j n from x v reads))
        → IsSuch (reception_step s (standing_at s j n peer) from x v w row)
    by (inl alone) = subst IsSuch (sym (alone.step s (standing_at s j n peer) from x v w)) (record { sends = tt; handed = refl; late = refl; fate = refl })
    by (inr is) =
        let own : v.packet.dst ≡ own_address (qualification s j) = same_ip6-true v.packet.dst (own_address (qualification s j)) is.1.mine in
        subst (λ (f : Fate). IsSuch (reception_step s (standing_at s j n peer) from x v w f)) (sym is.0) (record {
          sends = subst (λ (o : Option Ep). Bubbles (map (direct_bubble (own_address (qualification s j)) peer) (option_to_list o))) (sym origin)
              (ap (λ (z : Ip6). send at (bubble_bytes z peer)) (sym own), tt);
          handed = refl;
          late = refl;
          fate = sym is.0;
        })

  its_fate : (w : Words) → (its w).step.fate ≡ row
  its_fate w = (such w).fate

  then_mentions : (w : Words) → mentions (its w ∷ j.entries) ≡ mention (its w) ∷ mentions j.entries
  then_mentions w = next_mentions (its w) j.entries
      ∙ ap (λ (f : Fate). cond (is_changed f) [] (mention (its w) ∷ mentions j.entries)) (its_fate w)
      ∙ ap (λ (b : Bool). cond b [] (mention (its w) ∷ mentions j.entries)) is_answer.changes

  its_lists : (w : Words) → (((its w).step.sends ≡ []) × ((mention (its w)).bearing.touches ≡ false))
      ⊎ ((has_room (mentions j.entries) n peer ≡ true) × ((mention (its w)).bearing.touches ≡ true))
  unfolding standing_at
  its_lists w = by is_answer.step where
    by : (IsIdleIn row) ⊎ ((row ≡ fate.Indirect) × IsAnswered (seen_here s j n from x v reads))
        → (((its w).step.sends ≡ []) × ((mention (its w)).bearing.touches ≡ false))
        ⊎ ((has_room (mentions j.entries) n peer ≡ true) × ((mention (its w)).bearing.touches ≡ true))
    by (inl alone) = inl (
      ap (λ (z : Step). z.sends) (alone.step s (standing_at s j n peer) from x v w),
      ap (λ (f : Fate). (bearing_of f (its w)).touches) (its_fate w) ∙ ap (λ (b : Bearing). b.touches) (alone.bearing (its w)),
    )
    by (inr is) = inr (is.1.room, ap (λ (f : Fate). (bearing_of f (its w)).touches) (its_fate w ∙ is.0))

  answers_so : (w : Words) → AnswersOnly j n v.packet.dst peer at (its w)
  answers_so w = record {
    sends = (such w).sends;
    handed = (such w).handed;
    late = (such w).late;
    others = λ p apart. ap (λ (ms : List Mention). known ms n p) (then_mentions w)
        ∙ others_known (mention (its w)) (mentions j.entries) n p refl apart;
    then = then_mentions w;
    moment = refl;
    about = refl;
    lists = its_lists w;
  }

  pub answers : (w : Words) → AnswersOnly j n v.packet.dst peer at (client_in s j n from x w)
  answers w = subst (AnswersOnly j n v.packet.dst peer at) (sym (entry_here s j n from x v reads w {f = row} refl)) (answers_so w)
