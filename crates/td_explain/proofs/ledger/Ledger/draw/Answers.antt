use Rattle.td_explain.proofs.Words.{BTreeMap, Changes, DrawnOnceMore, HasKey, List, None, Option, Seen, Some, Vec, [], ap, arith, bytes_eq-Decides, changed_at, datagram, drawn_at, entry_key, entry_value, is_at, is_eq, is_eq-slice_cmp, key_bytes, lookup, map_with_value, map_without_entry, nat_cmp, on_ok_weaker, once_under, places_known, places_listed, refl, rules, seen_under, slice_cmp, subst, sym, times_seen, true, ℕ, ◌++◌, ◌∙◌, ◌∷◌, ◌≡◌}
use Rattle.td_explain.proofs.KnownLaws.{stays_elsewhere, draws, draws_first}
use Rattle.td_explain.proofs.ledger.Ledger.draw.Goals as goal

pub returns-in-Some-clause-known : goal.returns-in-Some-clause-known
returns-in-Some-clause-known c =
    let d = datagram c.args.src c.args.dst c.args.body.now in
    let d_fits : HasKey d = record { src_ip = omega arith; src_port = omega arith; dst_ip = omega arith; dst_port = omega arith } in
    let items : Vec ℕ → List ℕ = λ k. k.items in
    let l = c.args.self.now in
    let place = c.in_ok-place.place in
    let key_is = c.as_slice.ensures.value ∙ c.in_ok-key.ensures in
    let was : Some c.in-Some.seen.now ≡ seen_under l (key_bytes d) = c.in-Some.ensures.value ∙ ap (seen_under l) key_is in
    let seen : Seen = record { came = c.in-Some.seen.now.came; drawn = c.push.new.self } in
    let m = c.get_mut.follows.lender seen in
    let changes : Changes items l.seen m (key_bytes d) (Some seen) =
    subst (λ (k : List ℕ). Changes items l.seen m k (Some seen)) key_is ((c.get_mut.follows.holds seen).3 (search rules)) in
    on_ok_weaker c.push.result
    (λ (pushed : places_listed c.push.new.self ≡ places_listed c.in-Some.seen.now.drawn ++ place ∷ []).
    subst (DrawnOnceMore l (record { alloc = l.alloc; once = l.once; seen = m }) d) c.in_ok-place.ensures
    (draws l (record { alloc = l.alloc; once = l.once; seen = m }) d place seen d_fits (ap times_seen was)
    (pushed ∙ ap (λ (o : Option Seen). places_known o (once_under l (key_bytes d)) ++ place ∷ []) was)
    (record {
      seen_is = λ e e_fits. changed_at items l.seen m d e (Some seen) e_fits d_fits changes;
      once_stays = λ e e_fits differ. refl;
    })))
    c.push.ensures

pub returns-in-Vacant-clause-known : goal.returns-in-Vacant-clause-known
returns-in-Vacant-clause-known c =
    let d = datagram c.args.src c.args.dst c.args.body.now in
    let d_fits : HasKey d = record { src_ip = omega arith; src_port = omega arith; dst_ip = omega arith; dst_port = omega arith } in
    let items : Vec ℕ → List ℕ = λ k. k.items in
    let l = c.args.self.now in
    let place = c.args.place in
    let put = c.self-in-Vacant-2-1.given.0 in
    let entry = c.in_ok-entry.field-0 in
    let same : map_with_value entry place ≡ put = search rules in
    let written : Changes items l.once (map_with_value entry place) (key_bytes d) (Some place) =
    subst (λ (k : List ℕ). Changes items l.once (map_with_value entry place) k (Some place)) c.in_ok-key.ensures (c.in_ok-entry.ensures.update.0 place) in
    let changes = subst (λ (m : BTreeMap (Vec ℕ) ℕ). Changes items l.once m (key_bytes d) (Some place)) same written in
    let absent : once_under l c.in_ok-key.key.items ≡ None = search rules in
    draws_first l (record { alloc = l.alloc; once = put; seen = c.get_mut.follows.lender-at-none }) d place d_fits
    (record {
      seen_stays = c.get_mut.follows.holds-at-none;
      nothing_seen = sym (c.in_default.ensures.value ∙ ap (seen_under l) (c.as_slice.ensures.value ∙ c.in_ok-key.ensures));
      nothing_once = sym (ap (once_under l) c.in_ok-key.ensures) ∙ absent;
      once_is = λ e e_fits. changed_at items l.once put d e (Some place) e_fits d_fits changes;
    })

pub returns-in_ok-insert-in-Occupied-clause-known : goal.returns-in_ok-insert-in-Occupied-clause-known
returns-in_ok-insert-in-Occupied-clause-known c =
    let d = datagram c.args.src c.args.dst c.args.body.now in
    let d_fits : HasKey d = record { src_ip = omega arith; src_port = omega arith; dst_ip = omega arith; dst_port = omega arith } in
    let items : Vec ℕ → List ℕ = λ k. k.items in
    let l = c.args.self.now in
    let place = c.in_ok-place.place in
    let entry = c.in_ok-entry.field-0 in
    let first = c.remove_entry-key.result.1 in
    let stored = c.remove_entry-key.result.0.items in
    let seen : Seen = record { came = c.from_once-seen.result.came; drawn = c.push-in-Occupied.new.self } in
    let stored_key : entry_key entry ≡ c.remove_entry-key.result.0 = search rules in
    let key : List ℕ = c.in_ok-key.key.items in
    let at : is_eq (slice_cmp nat_cmp key (entry_key entry).items) ≡ true = ap is_eq c.in_ok-entry.ensures.same_key in
    let stored_is : stored ≡ key_bytes d = sym (ap items stored_key)
    ∙ sym ((bytes_eq-Decides key (entry_key entry).items).0 (sym (is_eq-slice_cmp key (entry_key entry).items) ∙ at)) ∙ c.in_ok-key.ensures in
    let none : None ≡ seen_under l (key_bytes d) =
    c.in_default.ensures.value ∙ ap (seen_under l) (c.as_slice.ensures.value ∙ c.in_ok-key.ensures) in
    let held : Some first ≡ entry_value entry = search rules in
    let once : Some first ≡ once_under l (key_bytes d) = held ∙ c.in_ok-entry.ensures.value ∙ ap (once_under l) c.in_ok-key.ensures in
    let before : first ∷ [] ≡ drawn_at l d =
    ap (places_known None) once ∙ ap (λ (o : Option Seen). places_known o (once_under l (key_bytes d))) none in
    let left = c.self-in-Occupied-1.given.0 in
    let same : left.entries ≡ (map_without_entry entry).entries = search rules in
    let takes : Changes items l.once (map_without_entry entry) (key_bytes d) None =
    subst (λ (k : List ℕ). Changes items l.once (map_without_entry entry) k None) c.in_ok-key.ensures c.in_ok-entry.ensures.removal.0 in
    let now = c.insert-in-Occupied.new.self in
    let at_none : Changes items c.get_mut.follows.lender-at-none now (key_bytes d) (Some seen) =
    subst (λ (k : List ℕ). Changes items c.get_mut.follows.lender-at-none now k (Some seen)) stored_is c.in_ok-insert-in-Occupied.ensures.updates in
    let changes : Changes items l.seen now (key_bytes d) (Some seen) =
    subst (λ (m : BTreeMap (Vec ℕ) Seen). Changes items m now (key_bytes d) (Some seen)) c.get_mut.follows.holds-at-none at_none in
    subst (DrawnOnceMore l (record { alloc = l.alloc; once = left; seen = now }) d) c.in_ok-place.ensures
    (draws l (record { alloc = l.alloc; once = left; seen = now }) d place seen d_fits (c.from_once-seen.ensures.came ∙ ap times_seen none)
    (c.in_ok-push-in-Occupied.ensures ∙ ap (λ (ps : List ℕ). ps ++ place ∷ []) (c.from_once-seen.ensures.drawn ∙ before))
    (record {
      seen_is = λ e e_fits. changed_at items l.seen now d e (Some seen) e_fits d_fits changes;
      once_stays = λ e e_fits differ.
          ap (λ (es : List (Vec ℕ × ℕ)). lookup (is_at (λ k. slice_cmp nat_cmp (key_bytes e) k.items)) es) same
          ∙ stays_elsewhere l.once (map_without_entry entry) d e None e_fits d_fits takes differ;
    }))
