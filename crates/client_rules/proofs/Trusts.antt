-- Where a client trusts another.
use Rattle.client_rules.proofs.Words.{AllByRecursion, AreEntries, Bool, Entry, Ep, IfSome, Input, Ip6, IsEmbedded, IsTested, Journal, List, Mention, ReceivedOnlyIf, Settings, Standing, TrustedIsEmbedded, Words, [], and_parts, ap, arrived, client_entry, client_in, client_out, client_tick, cond, embedded, entry, epoch, false, false≢true, from_six, heard, is_about, is_payload, is_teredo, journal_since, kept, known, map, mention, mentions, packet_in, peer_is_if, reception, same_ep, same_ep-true, seen, source_in, standing_of, subst, sym, ticked, true, trust_is_kept, value_in, ℕ, ◌∙◌, ◌∷◌, ◌≡◌}
use Rattle.teredo_node.specs.Journal.{given, is_changed}
use Rattle.client_rules.proofs.Fates.{fate_of_reception}
use Rattle.client_rules.proofs.Received.{reception_is_warranted}
use Rattle.client_rules.proofs.Bearings.{trusted_by}

abbrev IsThere : Ip6 → Ep → Type 0
IsThere p at = at ≡ embedded p

-- an entry about p trusts it, if at all, there
abbrev TrustsThere : Ip6 → Entry → Type 0
TrustsThere p e = is_about p (mention e) ≡ true → IfSome (mention e).bearing.trusts (IsThere p)

-- rule 2 is for natives
never_tested : (s : Settings) (a : Standing) (from : Ep) (x : List ℕ) (p : Ip6) → is_teredo p ≡ true → p ≡ (value_in x).packet.src → IsTested (seen s a from x) → ⊥
unfolding seen
never_tested s a from x p teredo is t = false≢true (sym t.native ∙ ap is_teredo (sym is) ∙ teredo)

-- and rule 3 for those who send from there
sent_there : (s : Settings) (a : Standing) (from : Ep) (x : List ℕ) (p : Ip6) (bubble : Bool) → p ≡ (value_in x).packet.src → IsEmbedded bubble (seen s a from x) → IsThere p from
unfolding seen
sent_there s a from x p bubble is t =
    sym (same_ep-true (embedded (value_in x).packet.src) from ((and_parts (is_teredo (value_in x).packet.src) (same_ep (embedded (value_in x).packet.src) from) t.embedded).1)) ∙ ap embedded (sym is)

of_datagram : (s : Settings) (a : Standing) (n : ℕ) (from : Ep) (x : List ℕ) (w : Words) (p : Ip6) → is_teredo p ≡ true → TrustsThere p (entry n (arrived from x) (packet_in x) (source_in x) w (reception s a from x w))
unfolding source_in
of_datagram s a n from x w p teredo about =
    let is : p ≡ (value_in x).packet.src = peer_is_if (is_payload x) p (value_in x).packet.src about in
    let fate_is = sym (fate_of_reception s a from x w) in
    let seen_so = reception_is_warranted s a from x in
    let h = heard s a.qualification from (value_in x) in
    trusted_by (reception s a from x w).fate (entry n (arrived from x) (packet_in x) (source_in x) w (reception s a from x w)) (IsThere p)
    (λ k. absurd (never_tested s a from x p teredo is (subst (λ f. ReceivedOnlyIf f (seen s a from x) h) (fate_is ∙ k) seen_so)))
    (λ k. sent_there s a from x p false is (subst (λ f. ReceivedOnlyIf f (seen s a from x) h) (fate_is ∙ k) seen_so))
    (λ k. sent_there s a from x p true is (subst (λ f. ReceivedOnlyIf f (seen s a from x) h) (fate_is ∙ k) seen_so))

of_entry : (s : Settings) (j : Journal) (n : ℕ) (input : Input) (w : Words) (p : Ip6) → is_teredo p ≡ true → TrustsThere p (client_entry s j n input w)
unfolding client_in client_out client_tick
of_entry s j n (arrived from x) w p teredo = of_datagram s (standing_of s j n (source_in x)) n from x w p teredo
of_entry s j n (given x) w p teredo = λ about. trusted_by (client_entry s j n (given x) w).step.fate (client_entry s j n (given x) w) (IsThere p) (λ _. tt) (λ _. tt) (λ _. tt)
of_entry s j n ticked w p teredo = λ about. trusted_by (client_entry s j n ticked w).step.fate (client_entry s j n ticked w) (IsThere p) (λ _. tt) (λ _. tt) (λ _. tt)
of_entry s j n (from_six x) w p teredo = λ about. trusted_by (client_entry s j n (from_six x) w).step.fate (client_entry s j n (from_six x) w) (IsThere p) (λ _. tt) (λ _. tt) (λ _. tt)

all_there : (s : Settings) (start : ℕ) (j : List Entry) (p : Ip6) → AreEntries s start j → is_teredo p ≡ true → AllByRecursion (λ (m : Mention). is_about p m ≡ true → IfSome m.bearing.trusts (IsThere p)) (mentions j)
unfolding mentions
all_there s start [] p a teredo = tt
all_there s start (e ∷ j) p a teredo =
    let rest : AllByRecursion (λ (m : Mention). is_about p m ≡ true → IfSome m.bearing.trusts (IsThere p)) (map mention (epoch j)) = all_there s start j p a.1 teredo in
    let own : TrustsThere p e = subst (λ x. TrustsThere p x) (sym a.0.is) (of_entry s (journal_since start j) e.moment e.input a.0.words p teredo) in
    elim (is_changed e.step.fate) as (λ b. AllByRecursion (λ (m : Mention). is_about p m ≡ true → IfSome m.bearing.trusts (IsThere p)) (map mention (cond b [] (e ∷ epoch j)))) [ true ↦ tt | false ↦ (own, rest) ]

pub trusted_is_embedded : TrustedIsEmbedded
trusted_is_embedded s j n p at a teredo is =
    let there : IfSome (known (mentions j.entries) n p).trusted (IsThere p) =
    kept (λ x. IfSome x.trusted (IsThere p)) (λ m. IfSome m.bearing.trusts (IsThere p)) (trust_is_kept (IsThere p)) p (mentions j.entries) (all_there s j.start j.entries p a teredo) n in
    subst (λ o. IfSome o (IsThere p)) is there
