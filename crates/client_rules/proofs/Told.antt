-- What sets a client's address.
use Rattle.client_rules.proofs.Words.{Auth, Bool, ClientFollows, EachAddressIsTold, Entry, Ep, Fate, Heard, IfSome, Input, Ip6, IsAdvert, IsEp, IsMadeClient, IsMadeInput, IsToldAddress, Journal, List, None, Option, Qualification, ReceivedOnlyIf, Seen, Settings, Some, Standing, Turn, Value, Words, [], address_after, address_told, ap, arrived, begins, client_entry, client_in, cond, embedded, expected, false, false≢true, flags_of, flags_tell, flags_word, fresh, from_six, goes_on, has_cone, heard, is_one_of, is_some, leaves, option_map, origin_given, qualification, qualifies, reception, reception_fate, reception_step, refl, same_ep-true, seen, sets_address, source_in, standing_at, standing_of, subst, sym, teredo_tells, ticked, tidings, true, turn, turn_of, turns, unwrap_or, value_in, with_entry, ℕ, ◌∙◌, ◌≡◌}
use Rattle.teredo_node.specs.declared.fate.Fate.TheVariants as fate
use Rattle.teredo_node.specs.Journal.{given}
use Rattle.qualify.specs.Turns.{is_changed as changes}
use Rattle.client_rules.proofs.Entered.{sets, IsEffect, of_entry}
use Rattle.client_rules.proofs.Fates.{fate_of_reception}
use Rattle.client_rules.proofs.MadeWaiting.{origin_made}
use Rattle.client_rules.proofs.Received.{reception_is_warranted}

-- WHAT THE ADDRESS EMBEDS

-- an address embeds this origin
abbrev Embeds : Option Ep → Option Ip6 → Type 0
Embeds o a = IfSome a (λ p. o ≡ Some (embedded p))

made_of : (s : Settings) (cone : Bool) (w : Option ℕ) (o : Option Ep) → IsMadeClient s → IfSome o IsEp → Embeds o (address_told s cone w o)
made_of s cone w None made h = tt
made_of s cone w (Some ep) made h = ap (λ (e : Ep). Some e) (sym (teredo_tells s.primary (flags_of cone w) ep made.primary (flags_tell cone w).sixteen h).mapped_is)

embeds_after : (s : Settings) (t : Turn) (w : Option ℕ) (o : Option Ep) (a : Option Ip6) → IsMadeClient s → IfSome o IsEp → sets_address t ≡ true → Embeds o (address_after s t w o a)
embeds_after s (qualifies cone) w o a made h set = made_of s cone w o made h
embeds_after s changes w o None made h set = tt
embeds_after s changes w o (Some p) made h set = made_of s (has_cone p) w o made h
embeds_after s _ w o a made h set = absurd (false≢true set)

embeds : (s : Settings) (j : Journal) (e : Entry) → IsMadeClient s → IsMadeInput e.input → sets_address (turn_of e) ≡ true → Embeds (origin_given e.input) (qualification s (with_entry j e)).address
embeds s j e made h set =
    subst (λ (q : Qualification). Embeds (origin_given e.input) q.address) (sym (turns s j e)) (by (leaves (qualification s j).phase (turn_of e)))
  where
    by : (b : Bool) → Embeds (origin_given e.input) (goes_on s (tidings s e) (cond b (fresh (unwrap_or (begins (turn_of e)) (qualification s j).phase) e.moment) (qualification s j))).address
    by true = embeds_after s (turn_of e) (flags_word s e.words) (origin_given e.input) None made (origin_made e.input h) set
    by false = embeds_after s (turn_of e) (flags_word s e.words) (origin_given e.input) (qualification s j).address made (origin_made e.input h) set

-- WHAT CAME

-- only an advertisement sets the address
advert_of : (f : Fate) (a : Seen) (h : Heard) → ReceivedOnlyIf f a h → sets_address (turn f) ≡ true → IsAdvert f a h
advert_of fate.QualifiedCone a h only set = only
advert_of fate.QualifiedRestricted a h only set = only
advert_of fate.Changed a h only set = only
advert_of _ a h only set = absurd (false≢true set)

-- and nothing is sent for it
sends_none : (s : Settings) (a : Standing) (from : Ep) (x : List ℕ) (v : Value) (w : Words) (f : Fate) → sets_address (turn f) ≡ true → (reception_step s a from x v w f).sends ≡ []
sends_none s a from x v w fate.QualifiedCone set = refl
sends_none s a from x v w fate.QualifiedRestricted set = refl
sends_none s a from x v w fate.Changed set = refl
sends_none s a from x v w _ set = absurd (false≢true set)

pub has_auth : (ns : List ℕ) (o : Option Auth) → is_one_of ns (option_map (λ (a : Auth). a.nonce) o) ≡ true → is_some o ≡ true
has_auth ns None h = absurd (false≢true h)
has_auth ns (Some a) h = refl

-- what is known of the datagram
record IsHeardAdvert (s : Settings) (q : Qualification) (from : Ep) (x : List ℕ) (e : Entry) : Type 0 where
  source : from ≡ expected s q
  auth : is_some (value_in x).lead.auth ≡ true
  quiet : e.step.sends ≡ []

heard_as : (s : Settings) (j : Journal) (n : ℕ) (from : Ep) (x : List ℕ) (w : Words) → sets_address (turn_of (client_in s j n from x w)) ≡ true → IsHeardAdvert s (qualification s j) from x (client_in s j n from x w)
unfolding client_in reception standing_at
heard_as s j n from x w set =
    let a : Standing = standing_of s j n (source_in x) in
    let f : Fate = reception_fate s a from x in
    let sets_f : sets_address (turn f) ≡ true = ap (λ (g : Fate). sets_address (turn g)) (sym (fate_of_reception s a from x w)) ∙ set in
    let advert : IsAdvert f (seen s a from x) (heard s a.qualification from (value_in x)) = advert_of f (seen s a from x) (heard s a.qualification from (value_in x)) (reception_is_warranted s a from x) sets_f in
    record {
      source = same_ep-true from (expected s (qualification s j)) advert.from_expected;
      auth = has_auth (qualification s j).open_nonces (value_in x).lead.auth advert.open_nonce;
      quiet = sends_none s a from x (value_in x) w f sets_f;
    }

-- THE ENTRY

alike : (t : Turn) → sets_address t ≡ true → sets t ≡ true
alike (qualifies cone) h = refl
alike changes h = refl
alike _ h = absurd (false≢true h)

told_of : (s : Settings) (j : Journal) (n : ℕ) (input : Input) (w : Words) (own : Ip6) → sets_address (turn_of (client_entry s j n input w)) ≡ true → is_some (origin_given input) ≡ true → origin_given input ≡ Some (embedded own)
    → (client_entry s j n input w).input ≡ input → IsToldAddress s j (client_entry s j n input w) own
told_of s j n (arrived from x) w own set some embeds_it same =
    let one = heard_as s j n from x w set in
    record { from = from; bytes = x; came = same; source = one.source; auth = one.auth; told = embeds_it; quiet = one.quiet }
told_of s j n (given x) w own set some embeds_it same = absurd (false≢true some)
told_of s j n (from_six x) w own set some embeds_it same = absurd (false≢true some)
told_of s j n ticked w own set some embeds_it same = absurd (false≢true some)

pub each_address_is_told : EachAddressIsTold
each_address_is_told s j e own is made h set address =
    let f : ClientFollows s j e = is.0 in
    let whole : e ≡ client_entry s j e.moment e.input f.words = f.is in
    let set_it : sets_address (turn_of (client_entry s j e.moment e.input f.words)) ≡ true = subst (λ (z : Entry). sets_address (turn_of z) ≡ true) whole set in
    let effect : IsEffect (qualification s j) (client_entry s j e.moment e.input f.words) = of_entry s j e.moment e.input f.words in
    let same : (client_entry s j e.moment e.input f.words).input ≡ e.input = ap (λ (z : Entry). z.input) (sym whole) in
    let some : is_some (origin_given e.input) ≡ true = ap (λ (i : Input). is_some (origin_given i)) (sym same) ∙ effect.told (alike (turn_of (client_entry s j e.moment e.input f.words)) set_it) in
    let told = subst (λ (o : Option Ip6). IfSome o (λ p. origin_given e.input ≡ Some (embedded p))) address (embeds s j e made h set) in
    subst (λ (z : Entry). IsToldAddress s j z own) (sym whole) (told_of s j e.moment e.input f.words own set_it some told same)
