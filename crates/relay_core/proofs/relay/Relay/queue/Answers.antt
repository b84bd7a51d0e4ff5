use Rattle.relay_core.proofs.Words.{RelayEnters, Some, Step, from_six, known_to, queued_at, refl, subst, sym, touch_goes_on, wordless_entry}
use Rattle.relay_core.proofs.Transmitted.{queued}
use Rattle.relay_core.proofs.relay.Relay.queue.Goals as goal

pub try_unless-requires-clause-listed : goal.try_unless-requires-clause-listed
try_unless-requires-clause-listed c =
    (touch_goes_on c.args.self.now.peers c.wait.new.self c.args.now.0 c.args.who
    (queued_at c.args.now.0 c.args.bytes.now (known_to c.args.self.now.peers c.args.now.0 c.args.who)) refl c.in_ok-wait.ensures.queued).listed

pub returns-clause-entered : goal.returns-clause-entered
returns-clause-entered c =
    let old = c.args.self.now in
    let n = c.args.now.0 in
    subst (λ (s : Step). RelayEnters old (wordless_entry n (from_six c.args.bytes.now) (Some c.args.bytes.now) (Some c.args.who) s) c.try_unless.new.self) (sym c.try_unless.ensures.step)
    (queued old c.try_unless.new.self n c.args.who c.args.bytes.now c.is_barred-barred.result (record {
      clock = c.requires.callable.clock;
      plain = c.requires.plain;
      mid = c.wait.new.self;
      waits = c.in_ok-wait.ensures.queued;
      tries = c.try_unless.ensures.peers;
      settings = c.try_unless.ensures.settings;
    }))
