use Rattle.lab_nodes.proofs.Words.{ChaCha, ap, of_seed, stream_key, words_of, ◌∙◌, ◌≡◌}
use Rattle.lab_nodes.proofs.Streams.{first_words}
use Rattle.lab_nodes.proofs.first_node.first_client.Goals as goal

pub returns-clause-kept : goal.returns-clause-kept
returns-clause-kept c =
    let seeded : c.from_seed-rng.result ≡ of_seed (stream_key c.args.seed c.args.number) = c.from_seed-rng.ensures ∙ ap (λ b. of_seed b) c.stream_seed.ensures in
    record {
      settings = c.new.ensures.settings ∙ c.settings_of.ensures;
      stands = c.new.ensures.stands;
      words = ap (λ (g : ChaCha). words_of g) (c.new.ensures.words ∙ seeded) ∙ first_words c.args.seed c.args.number;
    }
