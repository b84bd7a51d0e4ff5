use Rattle.td_explain.proofs.Words.{BTreeMap, Changes, Ends, HasKey, List, None, Queues, Some, Vec, Waits, ap, arith, changed_at, datagram, ends_under, ends_waiting, entry_value, first_and_last, key_bytes, map_with_value, refl, rules, subst, sym, ℕ, ◌∙◌, ◌≡◌}
use Rattle.td_explain.proofs.waits.Waits.draw.Goals as goal

pub returns-in-Vacant-clause-drawn : goal.returns-in-Vacant-clause-drawn
returns-in-Vacant-clause-drawn c =
    let d = datagram c.args.src c.args.dst c.args.body.now in
    let d_fits : HasKey d = record { src_ip = omega arith; src_port = omega arith; dst_ip = omega arith; dst_port = omega arith } in
    let items : Vec ℕ → List ℕ = λ k. k.items in
    let w = c.args.self.now in
    let entry = c.in_ok-entry.field-0 in
    let first : Ends = first_and_last c.in_ok-place.place c.in_ok-place.place in
    let put = c.self-in-Vacant-2-1.given.0 in
    let same : map_with_value entry first ≡ put = search rules in
    let written : Changes items w.ends (map_with_value entry first) (key_bytes d) (Some first) =
    subst (λ (k : List ℕ). Changes items w.ends (map_with_value entry first) k (Some first)) c.in_ok-key.ensures (c.in_ok-entry.ensures.update.0 first) in
    let changes = subst (λ (m : BTreeMap (Vec ℕ) Ends). Changes items w.ends m (key_bytes d) (Some first)) same written in
    let absent : ends_under w c.in_ok-key.key.items ≡ None = search rules in
    let new : Waits = record { alloc = w.alloc; ends = put; links = w.links } in
    let queues : Queues w new d c.in_ok-place.place = record {
      had = None;
      had_is = sym (ap (ends_under w) c.in_ok-key.ensures) ∙ absent;
      linked = refl;
      ends_are = λ e fits. changed_at items w.ends put d e (Some first) fits d_fits changes;
    } in
    subst (Queues w new d) c.in_ok-place.ensures queues

pub returns-in_ok-put-in-Occupied-clause-drawn : goal.returns-in_ok-put-in-Occupied-clause-drawn
returns-in_ok-put-in-Occupied-clause-drawn c =
    let d = datagram c.args.src c.args.dst c.args.body.now in
    let d_fits : HasKey d = record { src_ip = omega arith; src_port = omega arith; dst_ip = omega arith; dst_port = omega arith } in
    let items : Vec ℕ → List ℕ = λ k. k.items in
    let w = c.args.self.now in
    let entry = c.in_ok-entry.field-0 in
    let ends : Ends = c.into_mut-ends.result.now in
    let held : Some ends ≡ entry_value entry = search rules in
    let had : ends_waiting w d ≡ Some ends = sym (held ∙ c.in_ok-entry.ensures.value ∙ ap (ends_under w) c.in_ok-key.ensures) in
    let more : Ends = first_and_last ends.first c.in_ok-place.place in
    let put = c.self-in-Occupied-2-1.given.0 in
    let same : map_with_value entry more ≡ put = search rules in
    let written : Changes items w.ends (map_with_value entry more) (key_bytes d) (Some more) =
    subst (λ (k : List ℕ). Changes items w.ends (map_with_value entry more) k (Some more)) c.in_ok-key.ensures (c.in_ok-entry.ensures.update.0 more) in
    let changes = subst (λ (m : BTreeMap (Vec ℕ) Ends). Changes items w.ends m (key_bytes d) (Some more)) same written in
    let new : Waits = record { alloc = w.alloc; ends = put; links = c.put.new.self } in
    let queues : Queues w new d c.in_ok-place.place = record {
      had = Some ends;
      had_is = had;
      linked = (c.in_ok-put-in-Occupied.ensures.here, c.in_ok-put-in-Occupied.ensures.others);
      ends_are = λ e fits. changed_at items w.ends put d e (Some more) fits d_fits changes;
    } in
    subst (Queues w new d) c.in_ok-place.ensures queues
