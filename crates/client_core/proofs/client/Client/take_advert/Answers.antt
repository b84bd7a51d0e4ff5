use Rattle.client_core.proofs.Words.{Client, Fate, Settings, Step, Table, TakesPayload, advert_row, advert_words, ap, arith, payload_view, refl, settings_of, subst, sym, ◌∙◌, ◌≡◌}
use Rattle.teredo_node.specs.declared.fate.Fate.TheVariants as fate
use Rattle.client_core.proofs.Adverts.{Took, told, moved, advert_kept, advert_changed}
use Rattle.client_core.proofs.client.Client.take_advert.Goals as goal

pub returns-in_default : goal.returns-in_default
returns-in_default c =
    let old = c.args.self.now in
    let v = payload_view c.args.payload.now in
    let f = c.on_advert-fate.result in
    let new : Client = record { qualifier = c.on_advert-fate.new.self; peers = old.peers; rng = c.on_advert-fate.new.rng } in
    let drawn : c.words_of_advert.result ≡ advert_words (settings_of old) f = c.words_of_advert.ensures ∙ ap (λ (s : Settings). advert_words s f) (c.settings.ensures.value ∙ c.on_advert-fate.ensures.settings) in
    let step : c.set_drawn.new.self ≡ told (settings_of old) f = c.set_drawn.ensures ∙ (λ i. record (c.reset.ensures i) { drawn = drawn i }) in
    record {
      done = subst (λ (s : Step). TakesPayload old c.args.now.0 c.args.from v (advert_row (settings_of old) old.qualifier.now c.args.from v) s new) (sym step)
          (advert_kept old new c.args.now.0 c.args.from v f (record {
            took = record {
              clock = c.requires.callable.clock;
              row = c.on_advert-fate.ensures.fate;
              stands = c.on_advert-fate.ensures.stands;
              place = c.on_advert-fate.ensures.place;
              settings = c.on_advert-fate.ensures.settings;
            };
            other = c.in_default.not-Changed;
            peers = refl;
          }));
    }

pub returns-in-Changed : goal.returns-in-Changed
returns-in-Changed c =
    let old = c.args.self.now in
    let n = c.args.now.0 in
    let v = payload_view c.args.payload.now in
    let new : Client = record { qualifier = c.on_advert-fate.new.self; peers = c.clear.new.self; rng = c.on_advert-fate.new.rng } in
    let is = c.in-Changed.is in
    let drawn : c.words_of_advert.result ≡ advert_words (settings_of old) c.on_advert-fate.result = c.words_of_advert.ensures
    ∙ ap (λ (s : Settings). advert_words s c.on_advert-fate.result) (c.settings.ensures.value ∙ c.on_advert-fate.ensures.settings) in
    let begun : c.set_drawn.new.self ≡ told (settings_of old) fate.Changed = c.set_drawn.ensures ∙ (λ i. record (c.reset.ensures i) { drawn = drawn i }) ∙ ap (λ (f : Fate). told (settings_of old) f) is in
    let step : c.set_gone.new.self ≡ moved old n = c.set_gone.ensures ∙ (λ i. record (begun i) { gone = c.waiting.ensures i }) in
    let took : Took old n c.args.from v c.on_advert-fate.result new = record {
      clock = c.requires.callable.clock;
      row = c.on_advert-fate.ensures.fate;
      stands = c.on_advert-fate.ensures.stands;
      place = c.on_advert-fate.ensures.place;
      settings = c.on_advert-fate.ensures.settings;
    } in
    record {
      done = subst (λ (s : Step). TakesPayload old n c.args.from v (advert_row (settings_of old) old.qualifier.now c.args.from v) s new) (sym step)
          (advert_changed old new n c.args.from v (record {
            took = subst (λ (f : Fate). Took old n c.args.from v f new) is took;
            none = c.clear.ensures.stands;
            clock = omega (arith, ap (λ (t : Table). t.moment) c.clear.ensures.empty);
          }));
    }
