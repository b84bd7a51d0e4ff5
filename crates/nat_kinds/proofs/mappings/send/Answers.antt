use Rattle.nat_kinds.proofs.Words.{IsFront, List, Option, Outward, ap, length, place_at, subst, sym, ℕ, ◌∙◌, ◌≡◌}
use Rattle.nat_kinds.proofs.FrontLemmas.{PutsGiven, front_same, front_put, written_back}
use Rattle.nat_kinds.proofs.mappings.send.Goals as goal

pub answer-requires-clause-front : goal.answer-requires-clause-front
answer-requires-clause-front c = subst (λ (places : List (Option Outward)). IsFront places c.args.front.now) (sym c.deref.ensures.value) c.requires.front

pub returns-in_err-port-clause-front : goal.returns-in_err-port-clause-front
returns-in_err-port-clause-front c = subst (λ (places : List (Option Outward)). IsFront places c.answer.new.front) c.deref.ensures.value c.answer.ensures.front

pub returns-in_err-room-clause-front : goal.returns-in_err-room-clause-front
returns-in_err-room-clause-front c = front_same _ _ c.answer.new.front c.room.ensures.same (subst (λ (places : List (Option Outward)). IsFront places c.answer.new.front) c.deref.ensures.value c.answer.ensures.front)

pub returns-clause-front : goal.returns-clause-front
returns-clause-front c =
    let front = c.answer.new.front in
    let sent : Outward = record { moment = c.args.departure.moment; inside = c.args.departure.inside; dst = c.args.departure.dst; port = c.in_ok-port.port } in
    let same : (p : ℕ) → place_at c.deref_mut.result.now p ≡ place_at c.deref.result.now p = λ p.
    ap (λ (places : List (Option Outward)). place_at places p) c.deref_mut.ensures.value ∙ c.room.ensures.same p ∙ ap (λ (places : List (Option Outward)). place_at places p) (sym c.deref.ensures.value) in
    let puts : PutsGiven c.args.settings.now.kind sent front c.deref_mut.result.now c.put.new.places = record {
      searched = c.deref.result.now;
      same = same;
      key = c.in_ok-port.ensures.key;
      past = c.answer.ensures.past;
      put = c.put.ensures.put;
    } in
    let size = c.put.auto.places ∙ ap (λ (places : List (Option Outward)). length places) c.deref_mut.ensures.value in
    let back = written_back c.room.new.places.items c.put.new.places c.room.new.places.len c.room.new.places.ok.0 size in
    subst (λ (places : List (Option Outward)). IsFront places front) (sym back) (front_put _ _ _ _ _ puts c.answer.ensures.front)
