-- What each call does to what is known of its peer (RFC 4380, sections 5.2 and 5.2.6).
use Rattle.std.specs.Prelude.{◌≡◌, ◌≤◌, ◌<◌, ℕ, Bool, true, false, List, [], ◌∷◌, ◌++◌, take, Option, Some, None, if◌then◌else◌}
use Rattle.std.specs.Option.{option_or}
use Rattle.td_base.specs.Ip6.{same_ip6}
use Rattle.td_base.specs.declared.ipv6.Ip6.{Ip6}
use Rattle.td_base.specs.declared.endpoint.Ep.{Ep}
use Rattle.td_base.specs.declared.millis.TheConstants.{CLOCK_END_MS}
use Rattle.peer_list.specs.declared.limits.TheConstants.{TRIES_MAX}
use Rattle.peer_list.specs.declared.change.Change.{Change}
use Rattle.peer_list.specs.declared.change.Change.TheVariants.{Touch, Trust, Hear, TrustAndHear, Try, GiveUp}
use Rattle.peer_list.specs.Peers.{Peer}
use Rattle.peer_list.specs.Table.{Table, while_listed, peer_in, known_to}

-- A PEER AFTER A CALL AT m

-- `touch`, `list`: it stays listed, or is listed from then on
abbrev pub touched_at : ℕ → Peer → Peer
touched_at m p = record p { touched = Some m }

-- `trust`
abbrev pub trusted_at : ℕ → Ep → Peer → Peer
trusted_at m at p = record p { touched = Some m; trusted = Some at; tries = []; nonce = None }

-- `hear`: tries end, and nothing waits or is held any more
abbrev pub heard_at : ℕ → Peer → Peer
heard_at m p = record p { touched = Some m; heard = Some m; tries = []; waiting = []; held = [] }

-- `tried`: a nonce that is given replaces the one that is kept
abbrev pub tried_at : ℕ → Option ℕ → Peer → Peer
tried_at m nonce p = record p { touched = Some m; tries = take TRIES_MAX (m ∷ p.tries); nonce = option_or nonce p.nonce }

-- `wait`
abbrev pub queued_at : ℕ → List ℕ → Peer → Peer
queued_at m packet p = record p { touched = Some m; waiting = p.waiting ++ packet ∷ [] }

-- a packet that came from an endpoint is held
abbrev pub holding : Ep → List ℕ → Peer → Peer
holding from packet p = record p { held = p.held ++ record { from = from; packet = packet } ∷ [] }

-- `hold`: it is listed from then on, or stays listed as long as before
abbrev pub held_at : ℕ → Ep → List ℕ → Peer → Peer
held_at m from packet p = record (holding from packet p) { touched = option_or p.touched (Some m) }

-- `give_up`: nothing waits any more
abbrev pub emptied : Peer → Peer
emptied p = record p { waiting = [] }

-- each change of a listed peer
abbrev pub changed_at : ℕ → Change → Peer → Peer
changed_at m Touch p = touched_at m p
changed_at m (Trust at) p = trusted_at m at p
changed_at m Hear p = heard_at m p
changed_at m (TrustAndHear at) p = heard_at m (trusted_at m at p)
changed_at m (Try test) p = tried_at m test p
changed_at m GiveUp p = emptied p

-- a try is noted while a clock runs
abbrev pub IsInTime : ℕ → Change → Type 0
IsInTime m (Try test) = m < CLOCK_END_MS
IsInTime m _ = Unit {0}

-- THE TABLE AFTER A CALL

-- from m on this is known of `who`, as long as it is listed, and of all others what was known before
pub record KnowsThen (old new : Table) (m : ℕ) (who : Ip6) (peer : Peer) : Type 0 where
  pub moment : new.moment ≡ m
  pub view : (n : ℕ) (p : Ip6) → m ≤ n → peer_in new n p ≡ (if same_ip6 p who then while_listed n peer else peer_in old n p)

-- from m on the same is known of each address
pub record KnowsStill (old new : Table) (m : ℕ) : Type 0 where
  pub moment : new.moment ≡ m
  pub view : (n : ℕ) (p : Ip6) → m ≤ n → peer_in new n p ≡ peer_in old n p

-- the same as in `KnowsThen`, and `who` is whom the latest call changed
pub record Updates (old new : Table) (m : ℕ) (who : Ip6) (peer : Peer) : Type 0 where
  pub moment : new.moment ≡ m
  pub view : (n : ℕ) (p : Ip6) → m ≤ n → peer_in new n p ≡ (if same_ip6 p who then while_listed n peer else peer_in old n p)
  pub latest : new.latest ≡ Some who

-- the same as in `KnowsStill`, and the latest call that changed a peer is the one of before
pub record Keeps (old new : Table) (m : ℕ) : Type 0 where
  pub moment : new.moment ≡ m
  pub view : (n : ℕ) (p : Ip6) → m ≤ n → peer_in new n p ≡ peer_in old n p
  pub latest : new.latest ≡ old.latest

-- a peer was tried with the nonce of a test, unless it is barred
abbrev pub TriesUnless : (barred : Bool) → Table → ℕ → Ip6 → Option ℕ → Table → Type 0
TriesUnless true old n who test new = new ≡ old
TriesUnless false old n who test new = Updates old new n who (tried_at n test (known_to old n who))
