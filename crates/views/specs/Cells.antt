-- What rows and findings tell, as texts for people and as fields for programs.
use Rattle.std.specs.Prelude.{ℕ, ◌+◌, ◌-◌, List, [], ◌∷◌, ◌++◌, map, flat_map, Option, decimal, codes, if◌then◌else◌}
use Rattle.std.specs.Option.{option_map, option_map_or, is_some}
use Rattle.rows.specs.declared.tasks.Numbers.{Numbers}
use Rattle.rows.specs.Found.{Found}
use Rattle.brackets.specs.Counting.{gap}
use Rattle.task_tables.specs.Tasks.{four_fields}
use Rattle.bounds.specs.Families.{family_name, has_accuracies, supplied_plain}
use Rattle.leaves.specs.declared.entries.Heading.{Heading}
use Rattle.grids.specs.declared.cells.Cell.{Cell}
use Rattle.grids.specs.declared.cells.Cell.TheVariants.{Nothing, Truth, Number}
use Rattle.grids.specs.Shown.{dash, shown_text}

-- the cell of a number, where there is one
abbrev pub number_or_nothing : Option ℕ → Cell
number_or_nothing number = option_map_or (λ n. Number n) number Nothing

-- a number as a person reads it, where there is one, and a dash where there is none
abbrev pub number_text : Option ℕ → List ℕ
number_text number = option_map_or decimal number dash

-- the first rest as a person reads it, and the word that the row misses where there is none
abbrev pub rest_text : Option ℕ → List ℕ
rest_text rest = option_map_or decimal rest (codes "misses")

-- a number as a program reads it, where there is one, and nothing where there is none
abbrev pub number_field : Option ℕ → List ℕ
number_field number = option_map_or decimal number []

-- the response of a row that meets: the first rest plus the jitter
abbrev pub response_of : Numbers → Found → Option ℕ
response_of n f = option_map (λ rest. rest + n.jitter) f.rest

-- what is left of a deadline behind a response, where there is one
abbrev pub slack_left : ℕ → Option ℕ → Option ℕ
slack_left deadline response = option_map (λ t. deadline - t) response

-- the slack of a row that meets: the deadline less the response
abbrev pub slack_of : Numbers → Found → Option ℕ
slack_of n f = slack_left n.deadline (response_of n f)

-- the four numbers of a row, as cells
abbrev pub number_cells : Numbers → List Cell
number_cells n = Number n.work ∷ Number n.deadline ∷ Number n.period ∷ Number n.jitter ∷ []

-- a row of a leaf as a person reads it: its rank and numbers, the first rest, the response and the points tested
abbrev pub leaf_texts : ℕ → Numbers → Found → List (List ℕ)
leaf_texts rank n f =
    decimal rank ∷ (four_fields n ++ rest_text f.rest ∷ number_text (response_of n f) ∷ decimal f.points ∷ [])

-- what a bound found beside exact steps: the first rest by it, and how much later that is
abbrev pub bounded_texts : Found → Found → List (List ℕ)
bounded_texts exact bounded = rest_text bounded.rest ∷ number_text (gap exact.rest bounded.rest) ∷ []

-- a row that was counted in exact steps and by bounds as a person reads it: its rank, name and numbers, the first rest
-- in exact steps, the response and the slack, for each bound the first rest and how much later it is, and the points
-- tested by each count
abbrev pub counted_texts : ℕ → List ℕ → Numbers → Found → List Found → List (List ℕ)
counted_texts rank name n exact bounded =
    decimal rank ∷ shown_text name ∷ (four_fields n
    ++ (rest_text exact.rest ∷ number_text (response_of n exact) ∷ number_text (slack_of n exact)
    ∷ (flat_map (bounded_texts exact) bounded ++ decimal exact.points ∷ map (λ f. decimal f.points) bounded)))

-- what a program is told of a heading: the name of the leaf, no refusal, what bounds of its kind are called, the
-- accuracy where there is one bound of the kind for each, and the frame
abbrev pub heading_record_fields : List ℕ → Heading → List (List ℕ)
heading_record_fields name h =
    name ∷ [] ∷ [] ∷ [] ∷ []
    ∷ family_name (supplied_plain h.bound).0
    ∷ (if has_accuracies (supplied_plain h.bound).0 then decimal (supplied_plain h.bound).1 else [])
    ∷ decimal h.frame.ticks ∷ []

-- what a program is told of a row below its heading: its rank and numbers, whether it meets, the first rest, the
-- response and the points tested
abbrev pub row_record_fields : ℕ → Numbers → Found → List (List ℕ)
row_record_fields rank n f =
    decimal rank ∷ (four_fields n
    ++ (if is_some f.rest then codes "true" else codes "false")
    ∷ number_field f.rest ∷ number_field (response_of n f) ∷ decimal f.points ∷ [])

-- what a program is told of a row below its heading, as cells
abbrev pub row_cells : ℕ → Numbers → Found → List Cell
row_cells rank n f =
    Number rank ∷ (number_cells n
    ++ Truth (is_some f.rest) ∷ number_or_nothing f.rest ∷ number_or_nothing (response_of n f) ∷ Number f.points ∷ [])

-- the record of a row: what is told of the heading, and then of the row
abbrev pub record_fields : List ℕ → Heading → ℕ → Numbers → Found → List (List ℕ)
record_fields name h rank n f = heading_record_fields name h ++ row_record_fields rank n f

-- the record of a damaged leaf: its name, the refusal by number and words, its place, and the bytes around the place
abbrev pub damage_fields : List ℕ → ℕ → List ℕ → ℕ → List ℕ → List (List ℕ)
damage_fields name number words at around = name ∷ decimal number ∷ words ∷ decimal at ∷ around ∷ []
