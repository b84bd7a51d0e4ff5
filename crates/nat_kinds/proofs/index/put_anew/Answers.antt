use Rattle.nat_kinds.proofs.Words.{◌∙◌}
use Rattle.nat_kinds.proofs.IndexLemmas.{Puts, puts_goes, anew_puts}
use Rattle.nat_kinds.proofs.index.put_anew.Goals as goal

pub returns : goal.returns
returns c =
    let puts : Puts c.args.kind c.args.sent (record { places = c.args.places.now; index = c.args.index.now.entries }) (record { places = c.set.new.places; index = c.add.new.index.entries }) = anew_puts _ _ _ _ (record {
      goes = c.requires.indexed;
      key = c.key_of-key.result;
      key_is = c.key_of-key.ensures;
      cleared = c.clear_key.new.places;
      clears = c.clear_key.ensures.cleared;
      stood = c.at-old.result;
      stood_is = c.at-old.ensures;
      left = c.take_out.new.index.entries;
      leaves = c.take_out.ensures.taken;
      set = c.set.ensures.set;
      added = c.add.ensures.added;
      len = c.set.ensures.len ∙ c.clear_key.ensures.len;
    }) in
    record { indexed = puts_goes _ _ _ _ puts; put = puts.places }
