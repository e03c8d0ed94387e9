-- Headings, and the plain numbers that are one.
use Rattle.std.specs.Prelude.{ℕ, List, ◌++◌, map}
use Rattle.std.specs.Option.{option_map}
use Rattle.rows.specs.Answers.{Check}
use Rattle.rows.specs.Frames.{frame_checks}
use Rattle.bounds.specs.Families.{bound_numbers, named_checks}
use Rattle.leaves.specs.declared.entries.Heading.{Heading}
use Rattle.leaves.specs.declared.entries.HeadingNumbers.{HeadingNumbers}

-- the numbers of a heading
abbrev pub heading_plain : Heading → HeadingNumbers
heading_plain h = record { frame = h.frame; bound = (bound_numbers h.bound).0; accuracy = (bound_numbers h.bound).1 }

-- the same checks, each telling another position
abbrev pub told_at : ℕ → List Check → List Check
told_at at cs = map (λ c. record { refusal = c.refusal; at = option_map (λ _. at) c.at }) cs

-- what is checked of the bound that numbers name, in order: unknown bound, bad accuracy
abbrev pub bound_checks : HeadingNumbers → ℕ → List Check
bound_checks n at = told_at at (named_checks n.bound n.accuracy)

-- what is checked of the numbers of a heading: the frame, and then the bound
abbrev pub heading_checks : HeadingNumbers → ℕ → List Check
heading_checks n at = told_at at (frame_checks n.frame) ++ bound_checks n at
