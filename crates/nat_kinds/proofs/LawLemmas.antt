-- What holds of every history of a NAT.
use Rattle.nat_kinds.proofs.Words.{All-contains, All-contains_itself, All-from_recursion, Asked, Bool, Cone, Contains, Ep, FIRST_PORT, Forget, IsAnswer, IsHistory, IsPast, List, MAPPINGS_MAX, NatEntry, NatKind, NatSettings, None, Ok, Option, Out, Outward, Port, Restart, Restricted, SameKey, Some, Sound, Symmetric, WasAsked, Way, [], and_from, and_parts, ap, cond, counting, eq-eqb, eqb-true, false, false≢true, find, has_key, inside_in, is_way_in, is_young, kept, key_way, latest, latest_moment, lets_in, live_after, live_port, port_in, reaches, recursion_from_All, refl, same_ep, same_ep-self, same_ep-true, same_ip, same_ip-self, same_ip-true, subst, sym, true, young, ℕ, ◌+◌, ◌<◌, ◌==◌, ◌∙◌, ◌∷◌, ◌≡◌, ◌≤◌}
use Rattle.nat_kinds.proofs.IndexLemmas.{key_is}
use Rattle.nat_kinds.proofs.ListLemmas.{filter_swap, all_found, found_passes, none_found}
use Rattle.nat_kinds.proofs.PortLemmas.{has_itself, Sound-filter, AgreesWith-found, key_symm}
use Rattle.nat_kinds.proofs.ChoiceLemmas.{live_is, joins_given}
use Rattle.nat_kinds.proofs.AnswerLemmas.{answer-is}
use Rattle.nat_kinds.proofs.EnteringLemmas.{inside_of-is}
use Rattle.nat_kinds.proofs.OrderLemmas.{young-again}

-- WHAT COUNTS IS SOUND

pub sound_counting : (s : NatSettings) (h : List NatEntry) (n : ℕ) → IsHistory s h → latest_moment h ≤ n → Sound s.kind (counting s.idle n h)
sound_counting s [] n i l = record { agree = tt; in_range = tt }
sound_counting s (Out e ∷ h) n i l =
    let before : Sound s.kind (counting s.idle e.moment.0 h) = sound_counting s h e.moment.0 i.2 i.0 in
    let answer : IsAnswer s (live_after s h e.moment.0) e.inside e.dst (Ok e.port) = subst (IsAnswer s (live_after s h e.moment.0) e.inside e.dst) i.1 (answer-is s (live_after s h e.moment.0) e.inside e.dst) in
    let joined : Sound s.kind (e ∷ counting s.idle e.moment.0 h) = joins_given s.kind e.inside e.dst (counting s.idle e.moment.0 h) e.port before answer.1 e refl refl refl in
    let again : young s.idle n (e ∷ counting s.idle e.moment.0 h) ≡ counting s.idle n (Out e ∷ h) = ap (λ xs. cond (is_young s.idle n e) (e ∷ xs) xs) (young-again s.idle e.moment.0 n (kept h) l) in
    subst (Sound s.kind) again (Sound-filter s.kind (is_young s.idle n) _ joined)
sound_counting s (Forget who ∷ h) n i l = rw (filter_swap (is_young s.idle n) _ (kept h)) (Sound-filter s.kind _ _ (sound_counting s h n i l))
sound_counting s (Restart ∷ h) n i l = record { agree = tt; in_range = tt }

pub sound_past : (s : NatSettings) (h : List NatEntry) (n : ℕ) → IsPast s h n → Sound s.kind (counting s.idle n h)
sound_past s h n p = sound_counting s h n p.history p.moments

-- WHAT A SEARCH FINDS

found_is_in : (q : Outward → Bool) (outs : List Outward) (f : Outward) → find q outs ≡ Some f → Contains outs f
found_is_in q outs f h = all_found (Contains outs) q outs f (recursion_from_All _ outs (All-contains_itself outs)) h

-- what is there and passes is found, or another that passes
found_at : (q : Outward → Bool) (outs : List Outward) (e : Outward) → Contains outs e → q e ≡ true → (f : Outward) × (find q outs ≡ Some f)
found_at q outs e m t = by_found (find q outs) refl
  where
    by_found : (r : Option Outward) → find q outs ≡ r → (f : Outward) × (find q outs ≡ Some f)
    by_found (Some f) h = (f, h)
    by_found None h = absurd (false≢true (sym (All-contains (λ x. q x ≡ false) outs e (All-from_recursion (λ x. q x ≡ false) outs (none_found q outs h)) m) ∙ t))

holds_found : (o : Option Outward) (port : ℕ) → port_in o ≡ Some port → (f : Outward) × (o ≡ Some f) × (f.port ≡ port)
holds_found None port h = absurd (let g : Some port ≡ None = sym h in cc)
holds_found (Some f) port h = let g : f.port ≡ port = cc in (f, refl, g)

leads_found : (o : Option Outward) (inside : Ep) → inside_in o ≡ Some inside → (f : Outward) × (o ≡ Some f) × (f.inside ≡ inside)
leads_found None inside h = absurd (let g : Some inside ≡ None = sym h in cc)
leads_found (Some f) inside h = let g : f.inside ≡ inside = cc in (f, refl, g)

-- a datagram from inside to dst has the key that holds a port, where these count
pub record Holder (kind : NatKind) (outs : List Outward) (port : ℕ) : Type 0 where
  pub inside : Ep
  pub dst : Ep
  pub live : live_port kind inside dst (latest kind outs) ≡ Some port

-- the datagram behind a live port
held_by : (kind : NatKind) (outs : List Outward) (port : ℕ) (a : Holder kind outs port) → (f : Outward) × (find (has_key kind a.inside a.dst) outs ≡ Some f) × (f.port ≡ port)
held_by kind outs port a = holds_found (find (has_key kind a.inside a.dst) outs) port (sym (live_is kind a.inside a.dst outs) ∙ a.live)

-- KEYS

pub key_inside : (kind : NatKind) (inside dst : Ep) (e : Outward) → has_key kind inside dst e ≡ true → e.inside ≡ inside
key_inside Cone inside dst e h = same_ep-true e.inside inside h
key_inside Restricted inside dst e h = same_ep-true e.inside inside h
key_inside Port inside dst e h = same_ep-true e.inside inside h
key_inside Symmetric inside dst e h = same_ep-true e.inside inside (and_parts _ _ h).0

same_key : (kind : NatKind) (a b c d : Ep) → key_way kind a b ≡ key_way kind c d → SameKey kind a b c d
same_key Cone a b c d e = ap (λ (w : Way). w.inside) e
same_key Restricted a b c d e = ap (λ (w : Way). w.inside) e
same_key Port a b c d e = ap (λ (w : Way). w.inside) e
same_key Symmetric a b c d e = (ap (λ (w : Way). w.inside) e, ap (λ (w : Way). w.other) e)

-- what a search found agrees with each
agrees_at : (s : NatSettings) (outs : List Outward) (q : Outward → Bool) (f e : Outward) → Sound s.kind outs → find q outs ≡ Some f → Contains outs e → has_key s.kind f.inside f.dst e ≡ (f.port == e.port)
agrees_at s outs q f e sound h m =
    let agrees : Outward → Type 0 = λ o. has_key s.kind f.inside f.dst o ≡ (f.port == o.port) in
    All-contains agrees outs e (All-from_recursion agrees outs (AgreesWith-found s.kind q outs f sound.agree h)) m

-- PORTS

pub one_key : (s : NatSettings) (h : List NatEntry) (n : ℕ) → IsPast s h n → (port : ℕ) (a b : Holder s.kind (counting s.idle n h) port) → SameKey s.kind a.inside a.dst b.inside b.dst
one_key s h n past port a b =
    let outs : List Outward = counting s.idle n h in
    let f = held_by s.kind outs port a in
    let g = held_by s.kind outs port b in
    let has_g : has_key s.kind f.0.inside f.0.dst g.0 ≡ true = agrees_at s outs _ f.0 g.0 (sound_past s h n past) f.1 (found_is_in _ outs g.0 g.1) ∙ eq-eqb f.0.port g.0.port (f.2 ∙ sym g.2) in
    same_key s.kind a.inside a.dst b.inside b.dst (key_is s.kind a.inside a.dst f.0 (found_passes _ outs f.0 f.1) ∙ key_is s.kind f.0.inside f.0.dst g.0 has_g ∙ sym (key_is s.kind b.inside b.dst g.0 (found_passes _ outs g.0 g.1)))

pub ports_in_range : (s : NatSettings) (h : List NatEntry) (n : ℕ) → IsPast s h n → (port : ℕ) → Holder s.kind (counting s.idle n h) port → (FIRST_PORT ≤ port) × (port < FIRST_PORT + MAPPINGS_MAX)
ports_in_range s h n past port a =
    let outs : List Outward = counting s.idle n h in
    let f = held_by s.kind outs port a in
    subst (λ (p : ℕ). (FIRST_PORT ≤ p) × (p < FIRST_PORT + MAPPINGS_MAX)) f.2 (all_found _ _ outs f.0 (sound_past s h n past).in_range f.1)

-- LETTING IN

reaches-asked : (kind : NatKind) (src : Ep) (e : Outward) → reaches kind src e ≡ true → Asked kind src e
reaches-asked Cone src e h = tt
reaches-asked Restricted src e h = same_ip-true _ _ h
reaches-asked Port src e h = same_ep-true _ _ h
reaches-asked Symmetric src e h = same_ep-true _ _ h

asked-reaches : (kind : NatKind) (src : Ep) (e : Outward) → Asked kind src e → reaches kind src e ≡ true
asked-reaches Cone src e a = refl
asked-reaches Restricted src e a = ap (λ i. same_ip i src.ip) a ∙ same_ip-self src.ip
asked-reaches Port src e a = ap (λ i. same_ep i src) a ∙ same_ep-self src
asked-reaches Symmetric src e a = ap (λ i. same_ep i src) a ∙ same_ep-self src

let_in_is : (s : NatSettings) (h : List NatEntry) (n : ℕ) → IsPast s h n → (src : Ep) (port : ℕ) → lets_in s h n src port ≡ inside_in (find (is_way_in s.kind src port) (counting s.idle n h))
let_in_is s h n past src port = inside_of-is s.kind (counting s.idle n h) src port (sound_past s h n past).agree

pub asked_where_let_in : (s : NatSettings) (h : List NatEntry) (n : ℕ) → IsPast s h n → (src : Ep) (port : ℕ) (inside : Ep) → lets_in s h n src port ≡ Some inside → WasAsked s h n src port inside
asked_where_let_in s h n past src port inside l =
    let outs : List Outward = counting s.idle n h in
    let f = leads_found (find (is_way_in s.kind src port) outs) inside (sym (let_in_is s h n past src port) ∙ l) in
    let way = and_parts _ _ (found_passes (is_way_in s.kind src port) outs f.0 f.1) in
    record { datagram = f.0; counts = found_is_in _ outs f.0 f.1; left = f.2; by_port = sym (eqb-true port f.0.port way.0); asked = reaches-asked s.kind src f.0 way.1 }

pub let_in_where_asked : (s : NatSettings) (h : List NatEntry) (n : ℕ) → IsPast s h n → (src : Ep) (port : ℕ) (inside : Ep) → WasAsked s h n src port inside → lets_in s h n src port ≡ Some inside
let_in_where_asked s h n past src port inside w =
    let outs : List Outward = counting s.idle n h in
    let f = found_at (is_way_in s.kind src port) outs w.datagram w.counts (and_from _ _ (eq-eqb port w.datagram.port (sym w.by_port)) (asked-reaches s.kind src w.datagram w.asked)) in
    let port_is : port ≡ f.0.port = eqb-true port f.0.port (and_parts _ _ (found_passes (is_way_in s.kind src port) outs f.0 f.1)).0 in
    let key : has_key s.kind f.0.inside f.0.dst w.datagram ≡ true = agrees_at s outs _ f.0 w.datagram (sound_past s h n past) f.1 w.counts ∙ eq-eqb f.0.port w.datagram.port (sym port_is ∙ sym w.by_port) in
    let same : w.datagram.inside ≡ f.0.inside = key_inside s.kind f.0.inside f.0.dst w.datagram key in
    let_in_is s h n past src port ∙ ap inside_in f.1 ∙ ap (λ i. Some i) (sym same ∙ w.left)

-- an entry asked the endpoint that it was sent to
asks_its_own : (kind : NatKind) (e : Outward) → Asked kind e.dst e
asks_its_own Cone e = tt
asks_its_own Restricted e = refl
asks_its_own Port e = refl
asks_its_own Symmetric e = refl

-- what counts has its port live
pub live_where_counts : (s : NatSettings) (h : List NatEntry) (n : ℕ) → IsPast s h n → (e : Outward) → Contains (counting s.idle n h) e → live_port s.kind e.inside e.dst (live_after s h n) ≡ Some e.port
live_where_counts s h n past e m =
    let outs : List Outward = counting s.idle n h in
    let f = found_at (has_key s.kind e.inside e.dst) outs e m (has_itself s.kind e) in
    let same : f.0.port ≡ e.port = eqb-true f.0.port e.port (sym (agrees_at s outs _ f.0 e (sound_past s h n past) f.1 m) ∙ key_symm s.kind f.0 e ∙ found_passes _ outs f.0 f.1) in
    live_is s.kind e.inside e.dst outs ∙ ap port_in f.1 ∙ ap (λ p. Some p) same

pub owner : (s : NatSettings) (h : List NatEntry) (n : ℕ) → IsPast s h n → (src : Ep) (port : ℕ) (inside : Ep) → lets_in s h n src port ≡ Some inside → (dst : Ep) × (live_port s.kind inside dst (live_after s h n) ≡ Some port)
owner s h n past src port inside l =
    let w = asked_where_let_in s h n past src port inside l in
    (w.datagram.dst, subst (λ (i : Ep). live_port s.kind i w.datagram.dst (live_after s h n) ≡ Some port) w.left (live_where_counts s h n past w.datagram w.counts ∙ ap (λ p. Some p) w.by_port))

pub reply : (s : NatSettings) (h : List NatEntry) (n : ℕ) → IsPast s h n → (e : Outward) → Contains (counting s.idle n h) e → lets_in s h n e.dst e.port ≡ Some e.inside
reply s h n past e m = let_in_where_asked s h n past e.dst e.port e.inside (record { datagram = e; counts = m; left = refl; by_port = refl; asked = asks_its_own s.kind e })

pub cone : (s : NatSettings) (h : List NatEntry) (n : ℕ) → IsPast s h n → s.kind ≡ Cone → (port : ℕ) (a : Holder s.kind (counting s.idle n h) port) (src : Ep) → lets_in s h n src port ≡ Some a.inside
cone s h n past k port a src =
    let outs : List Outward = counting s.idle n h in
    let f = held_by s.kind outs port a in
    let_in_where_asked s h n past src port a.inside (record {
      datagram = f.0;
      counts = found_is_in _ outs f.0 f.1;
      left = key_inside s.kind a.inside a.dst f.0 (found_passes _ outs f.0 f.1);
      by_port = f.2;
      asked = subst (λ (kind : NatKind). Asked kind src f.0) (sym k) tt;
    })
