use Rattle.client_core.proofs.Words.{Enters, Some, Step, after_words, ap, entry, given, known_to, queued_at, queues, refl, settings_of, standing_in, subst, sym, touch_goes_on, words_ahead, ◌∙◌, ◌≡◌}
use Rattle.client_core.proofs.TickActs.{queued}
use Rattle.client_core.proofs.client.Client.queue.Goals as goal

pub try_unless-requires-clause-listed : goal.try_unless-requires-clause-listed
try_unless-requires-clause-listed c =
    (touch_goes_on c.args.self.now.peers c.wait.new.self c.args.now.0 c.args.who
    (queued_at c.args.now.0 c.args.bytes.now (known_to c.args.self.now.peers c.args.now.0 c.args.who)) refl c.in_ok-wait.ensures.queued).listed

pub returns-clause-entered : goal.returns-clause-entered
returns-clause-entered c =
    let old = c.args.self.now in
    let n = c.args.now.0 in
    let a = standing_in old n c.args.who in
    let barred = c.is_barred-barred.result in
    let step : c.try_unless.new.step ≡ queues barred (settings_of old) a c.args.who (words_ahead old) = c.try_unless.ensures.step a refl in
    subst (λ (s : Step). Enters old (entry n (given c.args.bytes.now) (Some c.args.bytes.now) (Some c.args.who) (words_ahead old) s) c.try_unless.new.self) (sym step)
    (queued old c.try_unless.new.self n c.args.who c.args.bytes.now barred (record {
      clock = c.requires.callable.clock;
      mid = c.wait.new.self;
      waits = c.in_ok-wait.ensures.queued;
      tries = c.try_unless.ensures.peers;
      qualifier = c.try_unless.ensures.qualifier;
      standing = a;
      place = c.try_unless.ensures.place ∙ ap (λ (s : Step). after_words s.drawn old.rng) step;
    }))
