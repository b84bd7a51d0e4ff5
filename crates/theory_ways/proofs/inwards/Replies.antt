-- Why a reply is let in along a client's way, or shut out at a NAT of it.
use Rattle.theory_ways.proofs.Words.{AllByRecursion, Bool, ClientNode, Cone, EachReplyIsLetIn, EntersPast, Entry, Ep, Full, Grown, IsActOf, IsLetIn, IsShutAlong, Item, Lab, LetsReplyIn, List, Made, OfNode, Phase, SendsAndWaits, Some, [], acts, ap, client, client_is_there, earlier, false, false≢true, has_sent, inl, inr, is_all_cone, nats_of, now, of_node, or_left, outer_in, outer_nats_of, outermost, rests, sent, server_ep, subst, sym, true, two_addresses, udp, was_answered, ℕ, ◌++◌, ◌||◌, ◌∙◌, ◌∷◌, ◌≡◌}
use Rattle.theory_ways.proofs.chains.Rises.{its_climb}
use Rattle.theory_ways.proofs.inwards.Enters.{few_of, last_external, enters_first, is_let_in}
use Rattle.theory_ways.proofs.phases.OneMore.{Walker, Asker, IsThere, stands}
use Rattle.theory_ways.proofs.outwards.Asks.{server_of, Latest}
use Rattle.theory_ways.proofs.phases.Sound.{settings_of, standing_of, IsSoundAlong, IsSoundNow}
use Rattle.theory_ways.proofs.phases.Concerns.{AsksCount}
use Rattle.theory_ways.proofs.phases.Undisturbed.{fine}
use Rattle.theory_ways.proofs.phases.KeptOpen.{firm}
use Rattle.theory_ways.proofs.outwards.Held.{Held}
use Rattle.theory_ways.proofs.outwards.Lasting.{IsLasting, Waits, waits_first, asked_first, waits_on, still_asked}
use Rattle.theory_ways.proofs.inwards.LetIn.{asked_enters, any_enters}
use Rattle.theory_ways.proofs.inwards.Shut.{ShutSide, IsShutBy, shut_out}

-- WHO SENT IT

abbrev some_made : List Made → Bool
some_made [] = false
some_made (x ∷ more) = true

-- a record of a client that put something onto the wire says what the client did
pub record IsOwnAct (lab : Lab) (H : List Full) (r : Full) (n : ℕ) (c : ClientNode) : Type 0 where
  pub entry : Entry
  pub act : IsActOf lab H r n (client c) entry

own_act : {lab : Lab} {n : ℕ} {c : ClientNode} → IsThere lab n c → (H : List Full) {r : Full} → Grown lab (r ∷ H)
    → r.node ≡ Some n → (x : Item) → r.made ≡ sent x ∷ [] → IsOwnAct lab H r n c
own_act {lab} {n} {c} there H {r} g node x is = by (of_node lab H r n (client c) g.0 node (stands lab n c there)) where
  by : OfNode lab H r n (client c) → IsOwnAct lab H r n c
  by (rests idle) = absurd (false≢true (ap some_made (sym idle.made ∙ is)))
  by (acts e act) = record { entry = e; act = act }

-- WHAT COMES BACK

-- records after a question of the client
pub record RepliesTo : Type 0 where
  pub the : Walker
  pub H : List Full
  pub waits : List Full
  pub r : Full
  pub g : Grown the.lab (waits ++ r ∷ H)

module _ (replies_to : RepliesTo) where
  open replies_to use {the, H, waits, r, g}
  open the use {lab, n, c, there}

  abbrev K : List Full
  K = waits ++ r ∷ H

  abbrev v : Asker
  v = record { lab = lab; past = K; number = n; row = c }

  abbrev way : List ℕ
  way = nats_of lab c

  abbrev HeldHere : (left to : Ep) → Type 0
  HeldHere left to = Held v to way c.inside left

  let_in_from : (src left : Ep) → EntersPast lab K (now K) src way c.inside left → IsLetIn lab K (now K) src left c
  let_in_from src left e = is_let_in lab K (now K) src left n c there.is there.chained there.listed e

  apart : (settings_of v).primary ≡ (settings_of v).secondary → ⊥
  apart =
      let node = stands lab n c there in
      two_addresses lab c there.is (client_is_there.server_of lab.topology n c there.is node)

  -- the server's other address, in phase Cone
  abbrev AllLatest : Type 0
  AllLatest = AllByRecursion (Latest v) way

  shut_from : {left to : Ep} → HeldHere left to → AllLatest → AsksCount v → IsSoundNow v → (standing_of v).phase ≡ Cone → is_all_cone lab c ≡ false
      → IsShutAlong lab K (server_ep (settings_of v).secondary) left c
  shut_from {left} {to} h latest asks sound cone some =
      let is : IsSoundAlong v Cone (standing_of v).kept (standing_of v).address =
      subst (λ (p : Phase). IsSoundAlong v p (standing_of v).kept (standing_of v).address) cone sound in
      let asked = asks latest in
      let side : ShutSide = record { v = v; g = g; there = there; apart = apart } in
      let out : IsShutBy side way (outermost lab c) left = shut_out side c.nat (outer_nats_of lab c) (its_climb lab c there.chained) h (is.1 asked.0 asked.1) some (few_of lab.chain lab.chain (outer_in lab.chain c.nat)) in
      record {
        inner = out.inner;
        nat = out.nat;
        outer = out.outer;
        on_way = out.on_way;
        kind = out.kind;
        beyond = out.beyond;
        shut = enters_first K (now K) (server_ep (settings_of v).secondary) left n there.is there.chained there.listed
            (last_external lab K (now K) to c.nat (outer_nats_of lab c) left (asked_enters v g to way c.inside left h)) out.goes;
      }

  -- what the client sent, and what is known of the client
  replies : {left to : Ep} → HeldHere left to → (to ≡ server_of v → AllLatest) → AsksCount v → IsSoundNow v → LetsReplyIn lab K n c left to
  replies {left} {to} h latest asks sound = record {
    from_asked = let_in_from to left (asked_enters v g to way c.inside left h);
    from_any = λ cones src. let_in_from src left (any_enters v g to src way c.inside left cones h);
    from_other = λ its cone some. shut_from h (latest its) asks sound cone some;
  }

  pub of_waiting : {has_begun : List Full → Bool} → ((T : List Full) → has_sent lab T n c ≡ true → has_begun T ≡ true)
      → IsLasting lab has_begun K n c → AsksCount v → IsSoundNow v → {left to : Ep} → SendsAndWaits r waits n left to → LetsReplyIn lab K n c left to
  of_waiting {has_begun} begins lasting asks sound {left} {to} s =
      let then_ : Grown lab (r ∷ H) = earlier lab waits (r ∷ H) g in
      let own = own_act there H then_ s.node (udp left to s.bytes) s.made in
      let first = waits_first the H r then_ own.entry own.act s.made in
      let w : Waits the (r ∷ H) K to left = waits_on the has_begun begins (r ∷ H) first waits g s.idle lasting in
      replies w.held (λ its. still_asked the (r ∷ H) K w.all_out way
      (asked_first the H r then_ own.entry own.act s.made its)) asks sound

pub each_reply_is_let_in : EachReplyIsLetIn
each_reply_is_let_in lab H waits r n c left to is chained g honest listed (inl calm) s =
    let the : Walker = record { lab = lab; n = n; c = c; there = record { is = is; chained = chained; listed = listed } } in
    let f = fine the (waits ++ r ∷ H) g honest calm in
    of_waiting (record { the = the; H = H; waits = waits; r = r; g = g }) {has_begun = (λ (T : List Full). has_sent lab T n c)} (λ T h. h)
    (record { lasts = calm.lasts; server_open = calm.server_open }) f.asks f.sound s
each_reply_is_let_in lab H waits r n c left to is chained g honest listed (inr both) s =
    let the : Walker = record { lab = lab; n = n; c = c; there = record { is = is; chained = chained; listed = listed } } in
    let f = firm the both.0 (waits ++ r ∷ H) g honest both.1 in
    of_waiting (record { the = the; H = H; waits = waits; r = r; g = g }) {has_begun = (λ (T : List Full). has_sent lab T n c || was_answered T n)}
    (λ T h. or_left (has_sent lab T n c) (was_answered T n) h)
    (record { lasts = both.1.lasts; server_open = both.1.server_open }) f.asks f.sound s
