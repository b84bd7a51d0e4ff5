-- One turn of a session, in its two parts.
use Rattle.td_live.proofs.Words.{Advances, AnswersArrival, AsBefore, Bool, Broke, Came, Carries, Client, Datagram, Does, Ep, Err, Failed, Idle, IsAt, IsAwaiting, Journal, LeavesAll, LiveClient, LiveTotals, NoMemory, Nothing, Ok, OnErr, OnOk, Over, Phase, PumpFault, Pumped, Pumps, Receive, Received, Result, Settings, Step, TakesTurn, Told, Took, WantsPlace, [], after_came, after_due, ap, arrived, false, is_err, phase_after, qualification, receives, refl, settings_of, subst, sym, true, ℕ, ◌∙◌, ◌∷◌, ◌≡◌}
use Rattle.td_live.proofs.Attempts.{Counts}
use Rattle.td_live.proofs.Entries.{Point, Goes, ClientCall, goes_on, goes_nowhere, goes_both}
use Rattle.td_live.proofs.Unlisted.{wants_none}

-- What a turn of a client did, by its answer.
abbrev pub PumpsClient : Client → ℕ → Client → Told → Told → Step → Result Pumped PumpFault → Type 0
PumpsClient own n new link link' step result = Pumps (λ side from x step new. Does own n (arrived from x) step new) (λ side from x. WantsPlace own n from x) new link link' step result

-- One `pump` of a client that stands at a point: what it did, by its answer.
pub record Pump (p : Point) : Type 0 where
  pub now : ℕ
  pub client : Client
  pub told : Told
  pub before : Step
  pub step : Step
  pub answer : Result Pumped PumpFault
  pub turn : PumpsClient p.client now client p.told told step answer
  pub left : LeavesAll AsBefore p.client client before step answer

-- it took a datagram
pub record Takes (p : Point) (r : Pump p) : Type 0 where
  pub from : Ep
  pub len : ℕ
  pub failed : ℕ
  pub is : r.answer ≡ Ok (Took from len failed)

pub took : (p : Point) (r : Pump p) (t : Takes p r)
    → AnswersArrival (λ side from x step new. Does p.client r.now (arrived from x) step new) r.client p.told r.told r.step t.from t.len t.failed
took p r t = subst (λ (a : Result Pumped PumpFault). PumpsClient p.client r.now r.client p.told r.told r.step a) t.is r.turn

-- what is left of it
abbrev pub ended : (p : Point) → Pump p → LiveTotals → Point
ended p r totals = record p { client = r.client; told = r.told; totals = totals }

-- from a point to another, by what came
abbrev pub GoesBy : LiveClient → ℕ → Point → Point → Came → Type 0
GoesBy c n p q came = Advances c p.journal (after_came c p.journal n came) q.client p.told q.told (came ∷ []) p.totals q.totals

pub took_goes : (c : LiveClient) (p : Point) (r : Pump p) (t : Takes p r) (totals : LiveTotals) → IsAt c p.client p.journal
    → Counts p.totals totals r.step.sends t.failed → (came : Came) × GoesBy c r.now p (ended p r totals) came
took_goes c p r t totals at counts =
    let a = took p r t in
    let came = Datagram a.side t.from a.bytes in
    let call : ClientCall c p (came ∷ []) = record {
      now = r.now;
      input = arrived t.from a.bytes;
      step = r.step;
      client = r.client;
      told = r.told;
      totals = totals;
      failed = t.failed;
      answers = a.answers;
      at = at;
      does = a.answered;
      each = a.each;
      carried = a.told;
      bits = a.bits;
      counts = counts;
    } in
    (came, goes_on c p (came ∷ []) call)

pub idle_goes : (c : LiveClient) (p : Point) (r : Pump p) → r.answer ≡ Ok Idle → IsAt c p.client p.journal
    → (came : Came) × GoesBy c r.now p (ended p r p.totals) came
idle_goes c p r is at =
    let carried : Carries p.told r.told (Nothing ∷ []) [] = subst (λ (a : Result Pumped PumpFault). PumpsClient p.client r.now r.client p.told r.told r.step a)
    is r.turn in
    let same : r.client ≡ p.client = (subst (λ (a : Result Pumped PumpFault). LeavesAll AsBefore p.client r.client r.before r.step a) is r.left).0 in (
      Nothing,
      subst (λ (s : Client). Advances c p.journal p.journal s p.told r.told (Nothing ∷ []) p.totals p.totals) (sym same)
          (goes_nowhere c p r.told (Nothing ∷ []) at carried),
    )

pub broke_goes : (c : LiveClient) (p : Point) (r : Pump p) → r.answer ≡ Err Receive → IsAt c p.client p.journal → Goes c p (ended p r p.totals) []
broke_goes c p r is at =
    let carried : Carries p.told r.told [] [] = subst (λ (a : Result Pumped PumpFault). PumpsClient p.client r.now r.client p.told r.told r.step a) is r.turn in
    let same : r.client ≡ p.client = (subst (λ (a : Result Pumped PumpFault). LeavesAll AsBefore p.client r.client r.before r.step a) is r.left).0 in
    subst (λ (s : Client). Advances c p.journal p.journal s p.told r.told [] p.totals p.totals) (sym same) (goes_nowhere c p r.told [] at carried)

pub starves_never : (p : Point) (r : Pump p) → r.answer ≡ Err NoMemory → IsAwaiting p.client → ⊥
starves_never p r is waits =
    let starved = subst (λ (a : Result Pumped PumpFault). PumpsClient p.client r.now r.client p.told r.told r.step a) is r.turn in
    wants_none p.client waits r.now starved.from starved.bytes starved.starved

-- ---- a turn

-- the phase, as a client tells it
pub phase_told : (c : LiveClient) (own : Client) (j : Journal) (phase : Phase) (b : Bool) → IsAt c own j → phase ≡ (qualification (settings_of own) j).phase → b ≡ receives phase → receives (phase_after c j) ≡ b
phase_told c own j phase b at told is = sym (is ∙ ap receives told ∙ ap (λ (s : Settings). receives (qualification s j).phase) at.settings)

-- from a point to the end of what is due
abbrev pub DoesDue : LiveClient → ℕ → Point → Point → Type 0
DoesDue c n p q = Advances c p.journal (after_due c p.journal n) q.client p.told q.told [] p.totals q.totals

pub turn_over : (c : LiveClient) (n : ℕ) (p q : Point) → DoesDue c n p q → receives (phase_after c (after_due c p.journal n)) ≡ false
    → TakesTurn c p.journal n q.client p.told q.told p.totals q.totals false
turn_over c n p q goes over = record { turn = Over n; moment = refl; kind = over; fault = refl; goes = goes }

-- a client that waits for its server's answer after what was due
pub record StillWaits (c : LiveClient) (n : ℕ) (p : Point) : Type 0 where
  pub client : Client
  pub told : Told
  pub totals : LiveTotals
  pub due : Advances c p.journal (after_due c p.journal n) client p.told told [] p.totals totals
  pub asking : receives (phase_after c (after_due c p.journal n)) ≡ true

abbrev pub point_due : (c : LiveClient) (n : ℕ) (p : Point) → StillWaits c n p → Point
point_due c n p w = record { client = w.client; journal = after_due c p.journal n; told = w.told; totals = w.totals }

pub turn_whole : (c : LiveClient) (n : ℕ) (p q : Point) (w : StillWaits c n p) (result : Result (Unit {0}) Failed)
    → OnOk result ((came : Came) × GoesBy c n (point_due c n p w) q came)
    → OnErr result (Advances c (after_due c p.journal n) (after_due c p.journal n) q.client w.told q.told [] w.totals q.totals)
    → TakesTurn c p.journal n q.client p.told q.told p.totals q.totals (is_err result)
turn_whole c n p q w (Ok x) goes broke = record {
  turn = Received n goes.0;
  moment = refl;
  kind = w.asking;
  fault = refl;
  goes = goes_both c p (point_due c n p w) (record q { journal = after_came c (after_due c p.journal n) n goes.0 }) [] (goes.0 ∷ []) w.due goes.1;
}
turn_whole c n p q w (Err f) goes broke = record {
  turn = Broke n;
  moment = refl;
  kind = w.asking;
  fault = refl;
  goes = goes_both c p (point_due c n p w) (record q { journal = after_due c p.journal n }) [] [] w.due broke;
}
