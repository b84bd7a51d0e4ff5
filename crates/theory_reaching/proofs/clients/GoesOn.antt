-- A fresh schedule after a client's packet that isn't complete goes on: one more delivery may follow.
use Rattle.theory_reaching.proofs.Words.{Act, Delivers, Event, Full, IsAskedFor, Lab, List, None, Option, Some, Verb, ap, arms, false, false≢true, first_undelivered, has_more, inl, inr, is_some, others, refl, subst, sym, true, unwrap_or, ℕ, ◌∙◌, ◌≡◌}
use Rattle.legal.specs.Kinds.{Hands}
use Rattle.events.specs.declared.event.Event.TheVariants as event
use Rattle.history.specs.declared.act.Act.TheVariants as act
use Rattle.legal.specs.Laws.{delivers}

-- WHICH EVENT A DELIVERY IS OF

-- the record of a delivery is of an event that asks for the entry
pub record IsDelivery (H : List Full) (q : Full) (k : ℕ) : Type 0 where
  pub asked : Delivers H q.asked k
  pub act : q.act ≡ act.Deliver k

pub is_delivery : (H : List Full) (q : Full) (k : ℕ) → IsAskedFor H q → q.delivered ≡ Some k → IsDelivery H q k
is_delivery H q k (others other none) told = absurd (false≢true (ap (λ (o : Option ℕ). is_some o) (sym none ∙ told)))
is_delivery H q k (delivers i is asks (inr absent)) told = absurd (false≢true (ap (λ (o : Option ℕ). is_some o) (sym absent.1 ∙ told)))
is_delivery H q k (delivers i is asks (inl at)) told =
    let same : i ≡ k = ap (λ (o : Option ℕ). unwrap_or o i) (sym at ∙ told) in
    record { asked = subst (Delivers H q.asked) same asks; act = is ∙ ap (λ (z : ℕ). act.Deliver z) same }

-- no event that delivers arms anything
pub arms_none : (H : List Full) (e : Event) (k : ℕ) → Delivers H e k → arms e ≡ None
arms_none H (event.Fault send) k d = absurd d
arms_none H _ k d = refl

-- one that has more deliveries is `settle`
pub is_settle : (H : List Full) (e : Event) (k : ℕ) → Delivers H e k → has_more e (act.Deliver k) ≡ true
    → (e ≡ event.Settle) × (first_undelivered H ≡ Some k)
is_settle H event.Settle k d more = (refl, d)
is_settle H (event.Advance ms) k d more = absurd d
is_settle H (event.Deliver i) k d more = absurd (false≢true more)
is_settle H event.Next k d more = absurd (false≢true more)
is_settle H (event.Host node to body) k d more = absurd d
is_settle H (event.Echo node to seq) k d more = absurd d
is_settle H (event.Raw node bytes) k d more = absurd d
is_settle H (event.Stranger src dst bytes) k d more = absurd d
is_settle H (event.Copy i src dst) k d more = absurd d
is_settle H (event.Restart node) k d more = absurd d
is_settle H (event.Forget n who) k d more = absurd d
is_settle H (event.Fault send) k d more = absurd d

-- what a host hands in is the whole of its event
pub hands_once : (lab : Lab) (H : List Full) (e : Event) (v : Verb) (n : ℕ) (x : List ℕ) → Hands lab H e v n x → (w : Act) → has_more e w ≡ false
hands_once lab H (event.Advance ms) v n x hands w = absurd hands
hands_once lab H event.Settle v n x hands w = absurd hands
hands_once lab H _ v n x hands w = refl
