-- `off` and `away`: the packet is dropped at once.
use Rattle.theory_reaching.proofs.Words.{AreFresh, Bool, ClientNode, Full, Grown, Handing, Ip6, IsDroppedAtOnce, IsSentNext, KeepsItsPromise, Lab, List, NativeNode, Node, None, Option, Reach, Relayed, Some, TwoClients, address_at, address_of, ap, between_clients_lines, between_clients_row, client, client_journals, client_settings, false, false≢true, fields_in, from_native_lines, from_native_row, host_hands, is_global6, is_qualified, is_some, journal, native, node_at, not, now, own_address, qualified_has_address, refl, relayed, standing, subst, sym, to_native_lines, to_native_row, true, two_clients, unspecified, unwrap_or, words, ℕ, ◌++◌, ◌∙◌, ◌∷◌, ◌≡◌}
use Rattle.theory_settled.proofs.Earlier.{earlier}
use Rattle.theory_reaching.specs.declared.word.Reach.TheVariants as word
use Rattle.theory_reaching.proofs.Tests.{failed}
use Rattle.theory_reaching.proofs.Lines.{which_held, that_one}
use Rattle.theory_reaching.proofs.Pairs.{SaidBy, between_clients, to_native, from_native, said_by}
use Rattle.theory_reaching.proofs.no_address.DroppedAtOnce.{off_entry, nowhere_entry, client_drops, native_drops}

-- which table, and which line, says `off` or `away`
abbrev is_off : Reach → Bool
is_off word.Off = true
is_off _ = false

abbrev pub is_away : Reach → Bool
is_away word.Away = true
is_away _ = false

-- between clients

off_between : (a : TwoClients) → is_off (between_clients_row a) ≡ true → a.on ≡ false
off_between a e = failed a.on (that_one (not a.on) (which_held is_off (between_clients_lines a) word.Within5 refl e))

pub away_between : (a : TwoClients) → is_away (between_clients_row a) ≡ true → a.there ≡ false
away_between a e = failed a.there (that_one (not a.there) (which_held is_away (between_clients_lines a) word.Within5 refl e))

-- to a native

off_to : (a : Relayed) → is_off (to_native_row a) ≡ true → a.on ≡ false
off_to a e = failed a.on (that_one (not a.on) (which_held is_off (to_native_lines a) word.Within6 refl e))

pub away_to : (a : Relayed) → is_away (to_native_row a) ≡ true → ⊥
away_to a e = which_held is_away (to_native_lines a) word.Within6 refl e

-- from a native

off_from : (a : Relayed) → is_off (from_native_row a) ≡ true → ⊥
off_from a e = which_held is_off (from_native_lines a) word.Within6 refl e

pub away_from : (a : Relayed) → is_away (from_native_row a) ≡ true → a.on ≡ false
away_from a e = failed a.on (that_one (not a.on) (which_held is_away (from_native_lines a) word.Within6 refl e))

-- WHAT BECOMES OF THE PACKET

-- a fresh schedule after a host handed in a packet
pub record FreshAfter : Type 0 where
  pub lab : Lab
  pub H : List Full
  pub q : Full
  pub later : List Full
  pub n : ℕ
  pub m : ℕ
  pub x : List ℕ
  pub g : Grown lab (later ++ q ∷ H)
  pub fresh : AreFresh q later

module _ (fresh_after : FreshAfter) where
  open fresh_after use {lab, H, q, later, n, m, x, g, fresh}

  abbrev there : Grown lab (q ∷ H)
  there = earlier lab later (q ∷ H) g

  taken : (a : Node) → node_at lab.topology n ≡ Some a → IsSentNext lab H q n m a x → Handing lab H q n a x
  taken a at sent = host_hands H at there.0 sent.handed

  -- of a client that isn't qualified
  off_drops : (c : ClientNode) → Handing lab H q n (client c) x → is_qualified (standing lab H n c).phase ≡ false → IsDroppedAtOnce q later
  off_drops c is e = client_drops lab H q n x c is
      (off_entry (client_settings lab.topology c) (journal n H) (now H) x (words lab n H) e) later g there fresh

  -- for a client that isn't qualified
  away_drops : (a : Node) → Handing lab H q n a x → is_global6 (fields_in x).dst ≡ false → ((c : ClientNode) → a ≡ client c → IsDroppedAtOnce q later)
      × ((h : NativeNode) → a ≡ native h → IsDroppedAtOnce q later)
  away_drops a is e = (
    (λ c same. client_drops lab H q n x c (subst (λ (z : Node). Handing lab H q n z x) same is)
        (nowhere_entry (client_settings lab.topology c) (journal n H) (now H) x (words lab n H) e) later g there fresh),
    (λ h same. native_drops lab H q n x h (subst (λ (z : Node). Handing lab H q n z x) same is) e later g there fresh),
  )

pub off_is_kept : KeepsItsPromise word.Off
unfolding two_clients relayed
off_is_kept lab H is chained q later n m a b x g at to said sent fresh = by (said_by (record { lab = lab; H = H; n = n; m = m; said = word.Off }) a b at to said) where
  of_client : (c : ClientNode) → a ≡ client c → is_qualified (standing lab H n c).phase ≡ false → IsDroppedAtOnce q later
  of_client c same e = off_drops (record { lab = lab; H = H; q = q; later = later; n = n; m = m; x = x; g = g; fresh = fresh }) c
      (subst (λ (z : Node). Handing lab H q n z x) same (taken (record { lab = lab; H = H; q = q; later = later; n = n; m = m; x = x; g = g; fresh = fresh }) a at sent)) e

  by : SaidBy lab H n m a b word.Off → IsDroppedAtOnce q later
  by (between_clients c d same other e) = of_client c same (off_between (two_clients lab H n m c d) (ap is_off e))
  by (to_native c h r same other through e) = of_client c same (off_to (relayed lab H n c h r) (ap is_off e))
  by (from_native h c r same other through e) = absurd (off_from (relayed lab H m c h r) (ap is_off e))

-- a client that isn't qualified has no address
no_address : (o : Option Ip6) → is_some o ≡ false → unwrap_or o unspecified ≡ unspecified
no_address None e = refl
no_address (Some ip) e = absurd (false≢true (sym e))

not_global : is_global6 unspecified ≡ false
unfolding is_global6
not_global = refl

pub away_is_kept : KeepsItsPromise word.Away
unfolding two_clients relayed own_address
away_is_kept lab H is chained q later n m a b x g at to said sent fresh = by (said_by (record { lab = lab; H = H; n = n; m = m; said = word.Away }) a b at to said) where
  before : Grown lab H
  before = (earlier lab later (q ∷ H) g).1

  nowhere : (d : ClientNode) → b ≡ client d → is_qualified (standing lab H m d).phase ≡ false → is_global6 (fields_in x).dst ≡ false
  nowhere d same e =
      let there : node_at lab.topology m ≡ Some (client d) = to ∙ ap (λ (z : Node). Some z) same in
      let none : is_some (standing lab H m d).address ≡ false =
      qualified_has_address (client_settings lab.topology d) (journal m H) (client_journals lab H m d before there).journal ∙ e in
      let address : address_at lab H m ≡ unspecified = ap (address_of lab H m) there ∙ no_address (standing lab H m d).address none in
      ap is_global6 (sent.handed.packet.destination ∙ address) ∙ not_global

  drops : is_global6 (fields_in x).dst ≡ false → ((c : ClientNode) → a ≡ client c → IsDroppedAtOnce q later)
      × ((h : NativeNode) → a ≡ native h → IsDroppedAtOnce q later)
  drops = away_drops (record { lab = lab; H = H; q = q; later = later; n = n; m = m; x = x; g = g; fresh = fresh }) a (taken (record { lab = lab; H = H; q = q; later = later; n = n; m = m; x = x; g = g; fresh = fresh }) a at sent)

  by : SaidBy lab H n m a b word.Away → IsDroppedAtOnce q later
  by (between_clients c d same other e) = (drops (nowhere d other (away_between (two_clients lab H n m c d) (ap is_away e)))).0 c same
  by (to_native c h r same other through e) = absurd (away_to (relayed lab H n c h r) (ap is_away e))
  by (from_native h c r same other through e) = (drops (nowhere c other (away_from (relayed lab H m c h r) (ap is_away e)))).1 h same
