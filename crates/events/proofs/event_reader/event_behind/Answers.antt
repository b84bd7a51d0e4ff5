use Rattle.events.proofs.event_reader.event_behind.Goals as goal

pub returns-in-Advance : goal.returns-in-Advance
returns-in-Advance c = rw c.in-Advance.is (c.advance.ensures c.args.t.now)

pub returns-in-Deliver : goal.returns-in-Deliver
returns-in-Deliver c = rw c.in-Deliver.is (c.deliver.ensures c.args.t.now)

pub returns-in-Stranger : goal.returns-in-Stranger
returns-in-Stranger c = rw c.in-Stranger.is (c.stranger.ensures c.args.t.now)

pub returns-in-Copy : goal.returns-in-Copy
returns-in-Copy c = rw c.in-Copy.is (c.copy.ensures c.args.t.now)

pub returns-in-Fault : goal.returns-in-Fault
returns-in-Fault c = rw c.in-Fault.is (c.fault.ensures c.args.t.now)
