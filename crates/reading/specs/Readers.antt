-- Where a reader is.
use Rattle.std.specs.Prelude.{List}
use Rattle.rows.specs.Answers.{Check}
use Rattle.reading.specs.declared.readers.Reader.{Reader}
use Rattle.reading.specs.Checks.{next_checks}
use Rattle.reading.specs.Phases.{place_of}
use Rattle.reading.specs.Stepping.{Reading, reading}

-- the phase of a reader, and the bytes that are left
abbrev pub reading_of : Reader → Reading
reading_of r = reading r.phase r.left.now

-- all that is checked of the bytes that are left, at the place of the next entry
abbrev pub checks_here : Reading → List Check
checks_here r = next_checks r.phase (place_of r.phase) r.left
