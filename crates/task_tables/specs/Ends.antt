-- Where the bytes of a text stand, as its records are read.
use Rattle.csv.specs.declared.parser.State.{State}
use Rattle.csv.specs.declared.parser.State.TheVariants as st
use Rattle.task_tables.specs.declared.ends.Stand.{Stand}
use Rattle.task_tables.specs.declared.ends.Stand.TheVariants.{Before, Comment, Field, Plain, Quotes, Quote}

-- the state in which the records are read there
abbrev pub state_of : Stand → State
state_of Before = st.StartRecord
state_of Comment = st.InComment
state_of Field = st.StartField
state_of Plain = st.InField
state_of Quotes = st.InQuoted
state_of Quote = st.AfterQuote
