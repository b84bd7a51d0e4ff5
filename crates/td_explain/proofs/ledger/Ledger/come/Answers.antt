use Rattle.td_explain.proofs.Words.{BTreeMap, Changes, HasKey, List, None, Option, Seen, Some, Vec, ap, arith, came_at, changed_at, datagram, entry_value, key_bytes, ledger_licensing, map_with_value, once_under, place_listed, places_listed, rules, seen_under, subst, unwrap_or, ℕ, ◌∙◌, ◌≡◌}
use Rattle.td_explain.proofs.KnownLaws.{entry_came, entry_drawn, stays_elsewhere, comes}
use Rattle.td_explain.proofs.ledger.Ledger.come.Goals as goal

pub returns-clause-licensing : goal.returns-clause-licensing
returns-clause-licensing c =
    let d = datagram c.args.src c.args.dst c.args.body.now in
    let l = c.args.self.now in
    let now = c.or_insert-seen.result.now in
    let at : entry_value c.in_ok-self.field-0 ≡ seen_under l (key_bytes d) = c.in_ok-self.ensures.value ∙ ap (seen_under l) c.in_ok-key.ensures in
    let is = subst (λ (o : Option Seen). now ≡ unwrap_or o c.from_once.result) at c.or_insert-seen.ensures.value in
    let once : c.remove-once.result ≡ once_under l (key_bytes d) =
    c.remove-once.ensures.value ∙ ap (once_under l) (c.as_slice.ensures.value ∙ c.in_ok-key.ensures) in
    let came = entry_came (seen_under l (key_bytes d)) c.from_once.result now c.from_once.ensures.came is in
    let drawn = entry_drawn (seen_under l (key_bytes d)) (once_under l (key_bytes d)) c.from_once.result now
    (c.from_once.ensures.drawn ∙ ap place_listed once) is in
    c.licensing-licensing.ensures ∙ ap (λ (n : ℕ). ledger_licensing n (places_listed now.drawn)) came ∙ ap (ledger_licensing (came_at l d)) drawn

pub returns-clause-known : goal.returns-clause-known
returns-clause-known c =
    let d = datagram c.args.src c.args.dst c.args.body.now in
    let d_fits : HasKey d = record { src_ip = omega arith; src_port = omega arith; dst_ip = omega arith; dst_port = omega arith } in
    let items : Vec ℕ → List ℕ = λ k. k.items in
    let l = c.args.self.now in
    let now = c.or_insert-seen.result.now in
    let at : entry_value c.in_ok-self.field-0 ≡ seen_under l (key_bytes d) = c.in_ok-self.ensures.value ∙ ap (seen_under l) c.in_ok-key.ensures in
    let is = subst (λ (o : Option Seen). now ≡ unwrap_or o c.from_once.result) at c.or_insert-seen.ensures.value in
    let once : c.remove-once.result ≡ once_under l (key_bytes d) =
    c.remove-once.ensures.value ∙ ap (once_under l) (c.as_slice.ensures.value ∙ c.in_ok-key.ensures) in
    let came = entry_came (seen_under l (key_bytes d)) c.from_once.result now c.from_once.ensures.came is in
    let drawn = entry_drawn (seen_under l (key_bytes d)) (once_under l (key_bytes d)) c.from_once.result now
    (c.from_once.ensures.drawn ∙ ap place_listed once) is in
    let seen : Seen = record { came = c.saturating_add-seen.result; drawn = now.drawn } in
    let n = map_with_value c.in_ok-self.field-0 seen in
    let same : n ≡ c.self-3-1.given.0 = search rules in
    let changes = subst (λ (k : List ℕ). Changes items l.seen n k (Some seen)) c.in_ok-key.ensures (c.in_ok-self.ensures.update.0 seen) in
    let new = subst (λ (x : BTreeMap (Vec ℕ) Seen). Changes items l.seen x (key_bytes d) (Some seen)) same changes in
    let left = c.remove-once.new.self in
    let gone : Changes items l.once left (key_bytes d) None =
    subst (λ (k : List ℕ). Changes items l.once left k None) (c.as_slice.ensures.value ∙ c.in_ok-key.ensures) c.remove-once.ensures.updates in
    λ room. comes l (record { alloc = l.alloc; once = left; seen = c.self-3-1.given.0 }) d seen
    (c.saturating_add-seen.ensures ∙ omega (arith, room, came)) drawn
    (record {
      seen_is = λ e e_fits. changed_at items l.seen c.self-3-1.given.0 d e (Some seen) e_fits d_fits new;
      once_stays = λ e e_fits. stays_elsewhere l.once left d e None e_fits d_fits gone;
    })
