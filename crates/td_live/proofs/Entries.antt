-- A client's journal, one entry further.
use Rattle.td_live.proofs.Words.{Advances, Attempt, Bool, Came, Carries, ChaCha, Client, ClientStandsFor, Does, Entry, Input, IsAt, Journal, List, LiveClient, LiveTotals, Send, Step, Told, [], after_after, after_due, after_words, ap, append-nil, append_assoc, arith, attempts_append, attempts_of, carries_on, client_due, client_entry, drawn_in, failed_bits, false, if◌then◌else◌, is_due, length, length-append, live_entry, next_entry, refl, sends_in, subst, sym, ticked, true, with_attempts, with_entry, words_of, ℕ, ◌++◌, ◌+◌, ◌∙◌, ◌≡◌}
use Rattle.td_live.proofs.Attempts.{Counts, counted, uncounted, counted_twice}

pub none_drawn : (g : ChaCha) → after_words 0 g ≡ g
unfolding after_words
none_drawn g = refl

next_same : (c : LiveClient) (own : Client) (j : Journal) (n : ℕ) (input : Input) → IsAt c own j → next_entry own j n input ≡ live_entry c j n input
next_same c own j n input at = λ k. client_entry (at.settings k) j n input (ap words_of at.place k)

-- Where a session stands: its client with a journal, what its link tells, and the totals.
pub record Point : Type 0 where
  pub client : Client
  pub journal : Journal
  pub told : Told
  pub totals : LiveTotals

-- from one point to another
abbrev pub Goes : LiveClient → Point → Point → List Came → Type 0
Goes c p q came = Advances c p.journal q.journal q.client p.told q.told came p.totals q.totals

-- nothing was done
pub goes_nowhere : (c : LiveClient) (p : Point) (told : Told) (came : List Came) → IsAt c p.client p.journal → Carries p.told told came []
    → Goes c p (record p { told = told }) came
goes_nowhere c p told came at carried = record {
  at = at;
  sends = [];
  answers = [];
  made = sym (append-nil (sends_in p.journal.entries));
  each = refl;
  told = carried;
  sums = uncounted p.totals;
}

-- One call of a client: it gave a step, each of whose sends was attempted and counted.
pub record ClientCall (c : LiveClient) (p : Point) (came : List Came) : Type 0 where
  pub now : ℕ
  pub input : Input
  pub step : Step
  pub client : Client
  pub told : Told
  pub totals : LiveTotals
  pub failed : ℕ
  pub answers : List Bool
  pub at : IsAt c p.client p.journal
  pub does : Does p.client now input step client
  pub each : length answers ≡ length step.sends
  pub carried : Carries p.told told came (attempts_of step.sends answers)
  pub bits : failed ≡ failed_bits answers
  pub counts : Counts p.totals totals step.sends failed

-- where it ends: the journal has one more entry
abbrev pub point_after : (c : LiveClient) (p : Point) (came : List Came) → ClientCall c p came → Point
point_after c p came call = record {
  client = call.client;
  journal = with_entry p.journal (live_entry c p.journal call.now call.input);
  told = call.told;
  totals = call.totals;
}

did_so : (c : LiveClient) (p : Point) (came : List Came) (call : ClientCall c p came) → call.step ≡ (live_entry c p.journal call.now call.input).step
did_so c p came call = call.does.did p.journal call.at.stands ∙ ap (λ (e : Entry). e.step) (next_same c p.client p.journal call.now call.input call.at)

entered : (c : LiveClient) (p : Point) (came : List Came) (call : ClientCall c p came) → IsAt c call.client (point_after c p came call).journal
entered c p came call =
    let j = p.journal in
    let drawn = call.step.drawn in
    let same = next_same c p.client j call.now call.input call.at in
    let drew : drawn ≡ (live_entry c j call.now call.input).step.drawn = ap (λ (s : Step). s.drawn) (did_so c p came call) in
    record {
      stands = subst (λ (e : Entry). ClientStandsFor call.client (with_entry j e)) same (call.does.stands j call.at.stands);
      settings = call.does.settings ∙ call.at.settings;
      place = call.does.place ∙ ap (after_words drawn) call.at.place ∙ after_after c.generator (drawn_in j.entries) drawn
          ∙ ap (λ (k : ℕ). after_words (drawn_in j.entries + k) c.generator) drew;
    }

pub goes_on : (c : LiveClient) (p : Point) (came : List Came) (call : ClientCall c p came) → Goes c p (point_after c p came call) came
goes_on c p came call =
    let made = (live_entry c p.journal call.now call.input).step.sends in
    let same : call.step.sends ≡ made = ap (λ (s : Step). s.sends) (did_so c p came call) in
    record {
      at = entered c p came call;
      sends = made;
      answers = call.answers;
      made = refl;
      each = call.each ∙ ap (λ (l : List Send). length l) same;
      told = subst (λ (l : List Send). Carries p.told call.told came (attempts_of l call.answers)) same call.carried;
      sums = counted p.totals call.totals call.step.sends call.failed call.answers call.each call.bits call.counts;
    }

due_or_not : (c : LiveClient) (j : Journal) (n : ℕ) (b : Bool) → b ≡ is_due n (client_due c.settings j n) → after_due c j n ≡ (if b then with_entry j (live_entry c j n ticked) else j)
due_or_not c j n b is = ap (λ (d : Bool). if d then with_entry j (live_entry c j n ticked) else j) (sym is)

pub not_due : (c : LiveClient) (j : Journal) (n : ℕ) (b : Bool) → b ≡ false → b ≡ is_due n (client_due c.settings j n) → j ≡ after_due c j n
not_due c j n b quiet is = sym (due_or_not c j n b is ∙ ap (λ (d : Bool). if d then with_entry j (live_entry c j n ticked) else j) quiet)

pub due_now : (c : LiveClient) (j : Journal) (n : ℕ) (b : Bool) → b ≡ true → b ≡ is_due n (client_due c.settings j n) → with_entry j (live_entry c j n ticked) ≡ after_due c j n
due_now c j n b owed is = sym (due_or_not c j n b is ∙ ap (λ (d : Bool). if d then with_entry j (live_entry c j n ticked) else j) owed)

-- one after the other
pub goes_both : (c : LiveClient) (p q r : Point) (came came' : List Came) → Goes c p q came → Goes c q r came' → Goes c p r (came ++ came')
goes_both c p q r came came' a b = record {
  at = b.at;
  sends = a.sends ++ b.sends;
  answers = a.answers ++ b.answers;
  made = b.made ∙ ap (λ (xs : List Send). xs ++ b.sends) a.made ∙ append_assoc (sends_in p.journal.entries) a.sends b.sends;
  each = omega (arith, length-append a.answers b.answers, length-append a.sends b.sends, a.each, b.each);
  told = subst (λ (made : List Attempt). Carries p.told r.told (came ++ came') made) (sym (attempts_append a.sends b.sends a.answers b.answers a.each))
      (carries_on p.told q.told r.told came came' (attempts_of a.sends a.answers) (attempts_of b.sends b.answers) a.told b.told);
  sums = b.sums ∙ ap (λ (t : LiveTotals). with_attempts t b.answers) a.sums ∙ counted_twice p.totals a.answers b.answers;
}
