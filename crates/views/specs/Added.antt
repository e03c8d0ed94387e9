-- What a leaf adds to those that are shown.
use Rattle.std.specs.Prelude.{◌≡◌, ℕ, Bool, true, false, List, [], ◌∷◌, ◌++◌, map, Option, codes}
use Rattle.csv.specs.Reading.{AreRecords, default_config}
use Rattle.csv.specs.Writing.{read_back}
use Rattle.csv.specs.declared.parser.State.TheVariants as st
use Rattle.rows.specs.Answers.{gives, refuses}
use Rattle.rows.specs.Refusals.{number, words}
use Rattle.rows.specs.declared.refusals.Refusal.{Refusal}
use Rattle.leaves.specs.Contents.{Contents}
use Rattle.reading.specs.Whole.{Fits}
use Rattle.streams.specs.Held.{MayHold}
use Rattle.grids.specs.Cells.{Headings, Rows}
use Rattle.grids.specs.CsvFields.{headings_of, records_of}
use Rattle.grids.specs.JsonReads.{IsTextOf}
use Rattle.views.specs.declared.layouts.Layout.{Layout}
use Rattle.views.specs.declared.layouts.Layout.TheVariants.{Aligned, Csv, Json}
use Rattle.views.specs.declared.showing.Show.{Show}
use Rattle.views.specs.Cells.{damage_fields}
use Rattle.views.specs.Ranked.{field_rows, leaf_records}
use Rattle.views.specs.Texts.{IsLeafText, damage_text, parted}

-- the layout in which leaves are shown
abbrev pub layout_of : Show → Layout
layout_of s = s.layout

-- the text that is shown to people
abbrev pub text_added : Show → List ℕ
text_added s = s.text.items

-- the records that are shown, as programs read them
abbrev pub shown_records : Show → List (List (List ℕ))
shown_records s = field_rows s.records.rows.items

-- their headings
abbrev pub shown_headings : Show → List (List ℕ)
shown_headings s = headings_of s.records.headings.items

-- the names of the fields of a record, in order
abbrev pub field_names : List (List ℕ)
field_names =
    codes "leaf" ∷ codes "refused_number" ∷ codes "refused_words" ∷ codes "refused_at_byte" ∷ codes "bytes_around_hex"
    ∷ codes "bound" ∷ codes "accuracy" ∷ codes "frame_ticks"
    ∷ codes "rank" ∷ codes "work_ticks" ∷ codes "deadline_ticks" ∷ codes "period_ticks" ∷ codes "jitter_ticks"
    ∷ codes "meets" ∷ codes "first_rest_ticks" ∷ codes "response_ticks" ∷ codes "points_tested" ∷ []

-- the layout and the headings stay
pub record KeepsSetup (old new : Show) : Type 0 where
  pub layout : layout_of new ≡ layout_of old
  pub headings : new.records.headings ≡ old.records.headings

-- the text for people grows by another, with an empty line between them, and the records stay
pub record GrowsText (IsText : List ℕ → Type 0) (old new : Show) : Type 0 where
  pub bytes : List ℕ
  pub is_text : IsText bytes
  pub text : text_added new ≡ parted (text_added old) ++ bytes
  pub records : shown_records new ≡ shown_records old

-- the records for programs grow by more, and the text stays
pub record GrowsRecords (more : List (List (List ℕ))) (old new : Show) : Type 0 where
  pub records : shown_records new ≡ shown_records old ++ more
  pub text : text_added new ≡ text_added old

-- what is shown grows in the layout that it has
abbrev pub GrowBy : Layout → (List ℕ → Type 0) → List (List (List ℕ)) → Show → Show → Type 0
GrowBy Aligned IsText more old new = GrowsText IsText old new
GrowBy Csv IsText more old new = GrowsRecords more old new
GrowBy Json IsText more old new = GrowsRecords more old new

-- a text is the line that tells a damaged leaf
abbrev pub IsDamageLine : List ℕ → Refusal → ℕ → List ℕ → List ℕ → Type 0
IsDamageLine name refusal at around text = text ≡ damage_text name refusal at around ++ codes "\n"

-- bytes that are a leaf add what it holds, as a text or as records; others add the refusal that fits, its place and
-- bytes around it
abbrev pub Adds : Bool → List ℕ → List ℕ → Show → Show → Type 0
Adds true name bytes old new =
    (c : Contents) × Fits bytes (gives c) × GrowBy (layout_of old) (IsLeafText name c) (leaf_records name c) old new
Adds false name bytes old new =
    (refusal : Refusal) × (at : ℕ) × (around : List ℕ) × Fits bytes (refuses refusal at)
    × GrowBy (layout_of old) (IsDamageLine name refusal at around)
    (damage_fields name (number refusal) (words refusal) at around ∷ []) old new

-- a leaf, or the damage of one, is added for all that a reader held
pub record AddsHeld (is_leaf : Bool) (name : List ℕ) (held : Option (List ℕ)) (old new : Show) : Type 0 where
  pub bytes : List ℕ
  pub all : MayHold held bytes
  pub adds : Adds is_leaf name bytes old new

-- a text reads back as the headings and the records
abbrev pub IsCsvOf : Headings → Rows → List ℕ → Type 0
IsCsvOf headings rows text = AreRecords default_config st.StartRecord text (map read_back (records_of headings rows))

-- bytes are what is shown: in the layout for people the text, as CSV and as JSON the records
abbrev pub IsShown : Layout → Show → List ℕ → Type 0
IsShown Aligned show bytes = bytes ≡ text_added show
IsShown Csv show bytes = IsCsvOf show.records.headings.items show.records.rows.items bytes
IsShown Json show bytes = IsTextOf bytes show.records.headings.items show.records.rows.items
