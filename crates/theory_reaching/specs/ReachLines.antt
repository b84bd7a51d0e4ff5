-- The lines on all pairs of hosts, and their sums.
use Rattle.std.specs.Prelude.{ℕ, Bool, List, [], ◌∷◌, ◌++◌, length, flat_map, filter_map, map, count_by, codes, decimal, option_map, Some}
use Rattle.std.specs.List.{range_with_len}
use Rattle.topology.specs.Rows.{TopologyState}
use Rattle.topology.specs.Topology.{nodes}
use Rattle.report.specs.Lines.{node_text}
use Rattle.history.specs.Full.{Full}
use Rattle.legal.specs.Lab.{Lab}
use Rattle.theory_reaching.specs.declared.word.Reach.{Reach}
use Rattle.theory_reaching.specs.Words.{reach_word, reach_class, is_class_within, is_class_shut, is_class_unsaid}
use Rattle.theory_reaching.specs.Reach.{reach_of}

-- two nodes, and the word on them
pub record Said : Type 0 where
  pub from : ℕ
  pub to : ℕ
  pub said : Reach

-- node n with each other node, in their order, where there is a word on the two
abbrev pub said_from : Lab → List Full → List ℕ → ℕ → List Said
said_from lab H numbers n = filter_map (λ (m : ℕ). option_map (λ (w : Reach). record { from = n; to = m; said = w }) (reach_of lab H n m)) numbers

-- each node with each other one
abbrev pub said_of_each : Lab → List Full → List ℕ → List Said
said_of_each lab H numbers = flat_map (said_from lab H numbers) numbers

-- the word on each pair of hosts
abbrev pub said_of_all : Lab → List Full → List Said
said_of_all lab H = said_of_each lab H (range_with_len 0 (length (nodes lab.topology)))

-- THE LINES

-- A B WORD
abbrev pub said_line : TopologyState → Said → List ℕ
said_line t p = node_text t (Some p.from) ++ (codes " " ++ (node_text t (Some p.to) ++ (codes " " ++ (reach_word p.said ++ codes "\n"))))

-- does the word say that the packet comes?
abbrev pub says_within : Said → Bool
says_within p = is_class_within (reach_class p.said)

-- does the word say that the packet doesn't come?
abbrev pub says_shut : Said → Bool
says_shut p = is_class_shut (reach_class p.said)

-- does the word promise nothing?
abbrev pub says_nothing : Said → Bool
says_nothing p = is_class_unsaid (reach_class p.said)

-- total pairs P within W shut S unsaid U
abbrev pub said_total : List Said → List ℕ
said_total ps = codes "total pairs " ++ (decimal (length ps)
    ++ (codes " within " ++ (decimal (count_by says_within ps)
    ++ (codes " shut " ++ (decimal (count_by says_shut ps)
    ++ (codes " unsaid " ++ (decimal (count_by says_nothing ps) ++ codes "\n")))))))

-- a line for each pair of hosts, and the line of the sums
abbrev pub lines_of_said : TopologyState → List Said → List (List ℕ)
lines_of_said t ps = map (said_line t) ps ++ said_total ps ∷ []

-- all lines of a history
abbrev pub reach_lines : Lab → List Full → List (List ℕ)
reach_lines lab H = lines_of_said lab.topology (said_of_all lab H)
