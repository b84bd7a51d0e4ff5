-- A client's NATs while it waits: what it sent in one record is held through records of others.
use Rattle.theory_ways.proofs.Words.{AllByRecursion, Bool, ClientNode, Entry, Ep, Full, Grown, Has, IsActOf, IsKeptAlong, Lab, List, Out, Outward, Passing, [], ap, arith, armed, client, cond, false, find, has_sent, is_node, is_open_along, is_open_through, is_out_of, is_restart, let_out_of, list_any, nat_entries, nat_tests, nats_of, none_has, open_of, or_left, or_right, outer_nats_of, outs_at, refl, same_ep, same_ep-self, sent, starts, subst, sym, true, udp, was_shut_along, went_to, ℕ, ◌&&◌, ◌++◌, ◌==◌, ◌||◌, ◌∙◌, ◌∷◌, ◌≡◌}
use Rattle.theory_ways.proofs.chains.Rises.{whole_part}
use Rattle.theory_ways.proofs.phases.OneMore.{Walker, Asker, OneMore, own_did}
use Rattle.theory_ways.proofs.outwards.Latest.{found_new}
use Rattle.theory_ways.proofs.outwards.Asks.{server_of, Latest, left_at}
use Rattle.theory_ways.proofs.outwards.Fresh.{entries_are}
use Rattle.theory_ways.proofs.outwards.LetOut.{same_out, more_out}
use Rattle.theory_ways.proofs.outwards.OpenNats.{all_of}
use Rattle.theory_ways.proofs.phases.Histories.{not_started, one_more_of, off_parts, lost_parts, open_parts, kept_before}
use Rattle.theory_ways.proofs.outwards.WentOut.{WentOut, sent_out}
use Rattle.theory_ways.proofs.outwards.Held.{Held, held_after, held_on}

-- a client's NATs were kept, and open to its server since it had begun
pub record IsLasting (lab : Lab) (has_begun : List Full → Bool) (H : List Full) (n : ℕ) (c : ClientNode) : Type 0 where
  pub lasts : IsKeptAlong lab H n c
  pub server_open : was_shut_along has_begun lab H n c ≡ false

-- something that passes a test is there
some_has : {A : Type 0} (p : A → Bool) (xs : List A) (x : A) → Has xs x → p x ≡ true → list_any p xs ≡ true
some_has p xs x h e = by (list_any p xs) refl where
  by : (b : Bool) → list_any p xs ≡ b → list_any p xs ≡ true
  by true f = f
  by false f = absurd (none_has p xs x f h e)

module _ (the : Walker) where
  open the use {lab, n, c, there}

  abbrev pub client_after : List Full → Asker
  client_after H = record { lab = lab; past = H; number = n; row = c }

  -- what the client sent leaves its way at `left`; what NATs let out of it is from some record
  pub record Waits (K H : List Full) (to left : Ep) : Type 0 where
    pub held : Held (client_after H) to (nats_of lab c) c.inside left
    pub sent_some : has_sent lab H n c ≡ true
    pub all_out : (k : ℕ) → let_out_of n k H ≡ let_out_of n k K

  -- THE RECORD IN WHICH IT IS SENT

  module _ (H : List Full) (r : Full) (g : Grown lab (r ∷ H)) (e : Entry) (act : IsActOf lab H r n (client c) e) {left to : Ep} {bytes : List ℕ}
      (made : r.made ≡ sent (udp left to bytes) ∷ []) where
    abbrev x : OneMore
    x = one_more_of lab n c there H r g

    out : WentOut lab r.passed to (nats_of lab c) c.inside left
    out = subst (λ (ps : List Passing). WentOut lab ps to (nats_of lab c) c.inside left) (sym act.passed)
        (sent_out (record { lab = lab; H = H; m = r.moment; way = nats_of lab c; inside = c.inside; left = left; to = to; bytes = bytes }) (armed H) e.step.sends (sym act.made ∙ made))

    off : starts n r ≡ false
    off = not_started n r act.still

    itself : is_node n r.node ≡ true
    itself = ap (is_node n) act.node ∙ same n where
      same : (k : ℕ) → (k == k) ≡ true
      same k = grind (arith, nat_tests)

    sends_some : has_sent lab (r ∷ H) n c ≡ true
    sends_some =
        let d : Outward = out.0 in
        let added : list_any (is_out_of c.inside) (nat_entries lab c.nat r) ≡ true =
        ap (list_any (is_out_of c.inside)) (entries_are x (own_did x e act) c.nat d out.1.there)
        ∙ some_has (is_out_of c.inside) (outs_at c.nat r.passed) (Out d) out.1.there
        (ap (λ (z : Ep). same_ep z c.inside) out.1.inside ∙ same_ep-self c.inside) in
        ap (λ (b : Bool). cond b false (list_any (is_out_of c.inside) (nat_entries lab c.nat r) || has_sent lab H n c)) off
        ∙ or_left (list_any (is_out_of c.inside) (nat_entries lab c.nat r)) (has_sent lab H n c) added

    pub waits_first : Waits (r ∷ H) (r ∷ H) to left
    waits_first = record { held = held_after x (own_did x e act) to (nats_of lab c) c.inside left out; sent_some = sends_some; all_out = λ k. refl }

    -- where it went to the client's server, this was asked at each NAT
    asked_at : (way : List ℕ) (from : Ep) → to ≡ server_of (client_after (r ∷ H)) → WentOut lab r.passed to way from left
        → AllByRecursion (Latest (client_after (r ∷ H))) way
    asked_at [] from its w = tt
    asked_at (k ∷ way) from its w =
        let P : Ep = server_of (client_after (r ∷ H)) in
        let f = found_new P (outs_at k r.passed) (let_out_of n k H) w.0 w.1.there (ap (λ (z : Ep). same_ep z P) (w.1.goes ∙ its) ∙ same_ep-self P) in
        ((f.0, ap (find (went_to P)) (more_out x k itself off) ∙ f.1), asked_at way (left_at lab k w.0) its w.2)

    pub asked_first : to ≡ server_of (client_after (r ∷ H)) → AllByRecursion (Latest (client_after (r ∷ H))) (nats_of lab c)
    asked_first its = asked_at (nats_of lab c) c.inside its out

  -- RECORDS OF OTHERS

  module _ (has_begun : List Full → Bool) (begins : (T : List Full) → has_sent lab T n c ≡ true → has_begun T ≡ true) where
    abbrev Lasting : List Full → Type 0
    Lasting H = IsLasting lab has_begun H n c

    -- one that starts the client not anew
    module _ {H : List Full} {r : Full} (off : starts n r ≡ false) (l : Lasting (r ∷ H)) where
      pub lasting_before : Lasting H
      lasting_before = record { lasts = kept_before lab n c H r off l.lasts; server_open = (open_parts lab n c H r has_begun off l.server_open).1 }

      waits_next : (g : Grown lab (r ∷ H)) (K : List Full) {to left : Ep} → is_node n r.node ≡ false → Waits K H to left → Waits K (r ∷ H) to left
      waits_next g K {to} {left} idle w =
          let x : OneMore = one_more_of lab n c there H r g in
          let open_ = open_of (has_begun H) (is_open_along lab H r.moment n c) (begins H w.sent_some)
          (open_parts lab n c H r has_begun off l.server_open).0 in
          let young = all_of (is_open_through lab H r.moment n c) (nats_of lab c) open_ in
          record {
            held = held_on x (same_out x idle) (outer_nats_of lab c) left (whole_part lab c there.chained) w.held young
                (lost_parts lab n c H r off l.lasts.next).0 (off_parts H r n off (outer_nats_of lab c) l.lasts.outer).0;
            sent_some = ap (λ (b : Bool). cond b false (list_any (is_out_of c.inside) (nat_entries lab c.nat r) || has_sent lab H n c)) off
                ∙ or_right (list_any (is_out_of c.inside) (nat_entries lab c.nat r)) (has_sent lab H n c) w.sent_some;
            all_out = λ k. same_out x idle k ∙ w.all_out k;
          }

    pub waits_on : (K : List Full) {to left : Ep} → Waits K K to left → (waits : List Full) → Grown lab (waits ++ K)
        → AllByRecursion (λ (r : Full). is_node n r.node ≡ false) waits → Lasting (waits ++ K) → Waits K (waits ++ K) to left
    waits_on K w [] g idle l = w
    waits_on K {to} {left} w (r ∷ waits) g idle l =
        let off : starts n r ≡ false = ap (λ (b : Bool). b && is_restart r.act) idle.0 in
        waits_next off l g K idle.0
        (waits_on K w waits g.1 idle.1 (lasting_before off l))

  -- what was asked first is asked still
  pub still_asked : (K H : List Full) → ((k : ℕ) → let_out_of n k H ≡ let_out_of n k K) → (way : List ℕ)
      → AllByRecursion (Latest (client_after K)) way → AllByRecursion (Latest (client_after H)) way
  still_asked K H same [] a = tt
  still_asked K H same (k ∷ way) a =
      ((a.0.0, ap (find (went_to (server_of (client_after H)))) (same k) ∙ a.0.1), still_asked K H same way a.1)
