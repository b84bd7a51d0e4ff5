use Rattle.td_chain.proofs.Words.{Ep, IfSome, LeavesFromPort, List, Millis, NatEntry, NatSettings, NatState, Ok, Option, Out, Outward, Some, ap, length, lets_in, nat_answer, nat_set_up, out_of, refl, slice_get, slice_get_read, slice_get_within, subst, sym, ℕ, ◌++◌, ◌<◌, ◌∙◌, ◌∷◌, ◌≡◌, ◌≤◌}
use Rattle.td_chain.proofs.PassLemmas.{is_there}
use Rattle.td_chain.proofs.once.let_in_with.Goals as goal

pub returns-in_default-sent : goal.returns-in_default-sent
returns-in_default-sent c = λ t h stand answered.
    let items = c.args.nats.now in
    let k = c.args.number in
    let there = is_there items k c.requires.there in
    let within : c.from.result < length items = rw (c.from.ensures) (slice_get_within items k (Some there.0) there.1) in
    let here : slice_get items k ≡ Some (Some c.in-Some.nat) = ap (slice_get items) (sym c.from.ensures) ∙ slice_get_read items (length items) c.from.result c.index-nats-from.result refl within c.index-nats-from.is
    ∙ ap (λ (o : Option NatState). Some o) c.in-Some.is in
    subst (λ (o : Option Outward). c.inward.result ≡ lets_in (nat_set_up t k) (out_of o ++ h k) c.args.now.0 c.args.src c.args.port) (sym c.in_default-sent.is)
    (c.inward.ensures.answer (h k) (stand.stands k c.in-Some.nat here) ∙ ap (λ (s : NatSettings). lets_in s (h k) c.args.now.0 c.args.src c.args.port) (stand.set_up k c.in-Some.nat here))

pub lets_in_once-requires-clause-clock : goal.lets_in_once-requires-clause-clock
lets_in_once-requires-clause-clock c =
    let items = c.args.nats.now in
    let k = c.args.number in
    let there = is_there items k c.requires.there in
    let within : c.from.result < length items = rw (c.from.ensures) (slice_get_within items k (Some there.0) there.1) in
    let here : slice_get items k ≡ Some (Some c.in-Some.nat) = ap (slice_get items) (sym c.from.ensures) ∙ slice_get_read items (length items) c.from.result c.index-nats-from.result refl within c.index-nats-from.is
    ∙ ap (λ (o : Option NatState). Some o) c.in-Some.is in
    let moment : c.in-Some-sent.sent.moment ≡ c.args.now = subst (λ (o : Option Outward). IfSome o (λ e. e.moment ≡ c.args.now)) c.in-Some-sent.is c.requires.moment in
    subst (λ (n : Millis). c.in-Some.nat.moment ≤ n.0) (sym moment) (c.requires.ready k c.in-Some.nat here)

pub returns : goal.returns
returns c = λ t h stand answered.
    let items = c.args.nats.now in
    let k = c.args.number in
    let e = c.in-Some-sent.sent in
    let nat = c.in-Some.nat in
    let there = is_there items k c.requires.there in
    let within : c.from.result < length items = rw (c.from.ensures) (slice_get_within items k (Some there.0) there.1) in
    let here : slice_get items k ≡ Some (Some nat) = ap (slice_get items) (sym c.from.ensures) ∙ slice_get_read items (length items) c.from.result c.index-nats-from.result refl within c.index-nats-from.is
    ∙ ap (λ (o : Option NatState). Some o) c.in-Some.is in
    let its : LeavesFromPort t h c.args.now.0 k e = subst (λ (o : Option Outward). IfSome o (LeavesFromPort t h c.args.now.0 k)) c.in-Some-sent.is answered in
    let leaves : nat_answer nat.settings (h k) e.moment.0 e.inside e.dst ≡ Ok e.port =
    subst (λ (s : NatSettings). nat_answer s (h k) e.moment.0 e.inside e.dst ≡ Ok e.port) (sym (stand.set_up k nat here))
    (subst (λ (n : ℕ). nat_answer (nat_set_up t k) (h k) n e.inside e.dst ≡ Ok e.port) (sym its.0) its.1) in
    subst (λ (o : Option Outward). c.lets_in_once.result ≡ lets_in (nat_set_up t k) (out_of o ++ h k) c.args.now.0 c.args.src c.args.port) (sym c.in-Some-sent.is)
    (c.lets_in_once.ensures.answer (h k) (stand.stands k nat here) leaves
    ∙ ap (λ (s : NatSettings). lets_in s (Out e ∷ h k) c.args.now.0 c.args.src c.args.port) (stand.set_up k nat here))
