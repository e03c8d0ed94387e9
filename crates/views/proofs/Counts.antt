-- A table that was counted, and what is told of a place of it.
use Rattle.std.proofs.Common.{◌≡◌, ℕ, zero, suc, ◌+◌, ◌<◌, List, [], ◌∷◌, ◌++◌, length, map, Some, None, Option}
use Rattle.std.proofs.Common.{refl, subst, sym, ap, ap₂, ◌∙◌, arith, slice_index_or, take}
use Rattle.std.specs.Prelude.{Vec, codes, decimal, flat_map, slice_get}
use Rattle.std.specs.declared.alloc.Global.{Global}
use Rattle.std.specs.Borrow.{Bor}
use Rattle.std.specs.Option.{option_map}
use Rattle.std.specs.Slice.{IsItemAt}
use Rattle.std.proofs.lemmas.Bool.{ltb-false, ltb-true}
use Rattle.std.proofs.lemmas.List.{append_assoc, length-map, map-append}
use Rattle.std.proofs.lemmas.Option.{slice_get-get_or, slice_get-map, slice_get_past}
use Rattle.rows.specs.declared.tasks.Numbers.{Numbers}
use Rattle.rows.specs.declared.tasks.Row.{Row}
use Rattle.rows.specs.declared.frames.FrameNumbers.{FrameNumbers}
use Rattle.rows.specs.Answers.{Passes}
use Rattle.rows.specs.Books.{Book, book}
use Rattle.rows.specs.Judging.{plain, rows_of}
use Rattle.bounds.specs.declared.families.Family.{Family}
use Rattle.bounds.specs.declared.families.Family.TheVariants.{ExactSteps as exact_kind}
use Rattle.bounds.specs.Families.{family_meaning}
use Rattle.rows.specs.declared.verdicts.Finding.{Finding}
use Rattle.rows.specs.Found.{Found, tells}
use Rattle.findings.proofs.Tables.{length_findings_below}
use Rattle.filings.specs.Checks.{filing_checks, frame_for}
use Rattle.filings.specs.Filings.{Filed, filed, filed_findings}
use Rattle.task_tables.specs.declared.tables.TaskTable.{TaskTable}
use Rattle.task_tables.specs.Tables.{table_names, table_numbers}
use Rattle.grids.specs.Shown.{shown_of}
use Rattle.grids.specs.Cells.{Rows}
use Rattle.grids.specs.declared.cells.Cell.{Cell}
use Rattle.views.specs.Cells.{counted_texts}
use Rattle.views.specs.Counted.{CountedTable, IsCountOf, by_bounds, counted_table, in_exact_steps}
use Rattle.views.specs.Printed.{bound_part, first_told, found_at, counts_told_at, counts_told, head_text}
use Rattle.views.specs.Ranked.{shown_rows}

-- a table that was read is counted, where it was judged from its numbers, which rows tell
pub counted_is : (h : Option FrameNumbers) (bs : List (Family × ℕ)) (table : TaskTable) (ns : List Numbers)
    (judged : Book) (c : CountedTable) → ns ≡ table_numbers table → Passes (filing_checks h bs ns)
    → judged ≡ book (frame_for h ns) (rows_of ns) → map plain (rows_of ns) ≡ ns
    → c ≡ counted_table table judged.frame judged.rows bs → IsCountOf h bs c
counted_is h bs table ns judged c same passes made told is =
    subst (IsCountOf h bs) (sym is) (record {
      passed = subst (λ xs. Passes (filing_checks h bs xs)) same passes;
      framed = ap (λ b. b.frame) made ∙ ap (frame_for h) same;
      rows = ap (λ b. b.rows) made ∙ ap rows_of same;
      named = refl;
      tasks = ap (λ b. map plain b.rows) made ∙ told ∙ same;
    })

-- the bounds of counts by bounds are these
pub named_back : (h : FrameNumbers) (rows : List Row) (bs : List (Family × ℕ))
    → map (λ f. f.bound) (map (λ b. filed h b rows) bs) ≡ bs
named_back h rows [] = refl
named_back h rows (b ∷ bs) = ap (λ xs. b ∷ xs) (named_back h rows bs)

-- and so are their kinds
pub kinds_back : (h : FrameNumbers) (rows : List Row) (bs : List (Family × ℕ))
    → map (λ f. f.bound.0) (map (λ b. filed h b rows) bs) ≡ map (λ b. b.0) bs
kinds_back h rows [] = refl
kinds_back h rows (b ∷ bs) = ap (λ xs. b.0 ∷ xs) (kinds_back h rows bs)

-- counts of one table are told by the frame and the rows of the one in exact steps
pub counts_kept : (exact : Filed) (h : FrameNumbers) (rows : List Row) (bs : List (Family × ℕ)) (counts : List Filed)
    → exact ≡ filed h (exact_kind, 0) rows → counts ≡ map (λ b. filed h b rows) bs
    → (exact ≡ filed exact.frame (exact_kind, 0) exact.rows)
    × (counts ≡ map (λ b. filed exact.frame b exact.rows) (map (λ f. f.bound) counts))
counts_kept exact h rows bs counts is are = (
  is ∙ sym (ap (λ f. filed f.frame (exact_kind, 0) f.rows) is),
  are ∙ sym (ap₂ (λ f cs. map (λ b. filed f.frame b f.rows) (map (λ f. f.bound) cs)) is are
      ∙ ap (map (λ b. filed h b rows)) (named_back h rows bs)),
)

-- and so is the table that was counted
pub counts_told_back : (table : TaskTable) (exact : Filed) (h : FrameNumbers) (rows : List Row) (bs : List (Family × ℕ))
    (counts : List Filed) → exact ≡ filed h (exact_kind, 0) rows → counts ≡ map (λ b. filed h b rows) bs
    → counted_table table exact.frame exact.rows (map (λ f. f.bound) counts) ≡ counted_table table h rows bs
counts_told_back table exact h rows bs counts is are =
    ap₂ (λ f cs. counted_table table f.frame f.rows (map (λ f. f.bound) cs)) is are
    ∙ ap (counted_table table h rows) (named_back h rows bs)

-- of a table that was counted there are as many findings as rows
pub findings_even : (f : Filed) (found : List Finding) → map tells found ≡ filed_findings f
    → length found ≡ length f.rows
findings_even f found is =
    sym (length-map found tells) ∙ ap length is
    ∙ length_findings_below (family_meaning f.bound.0 f.bound.1) f.frame [] f.rows

-- what stands at a place is read there
pub at_place : {X Y : Type 0} (f : X → Y) (xs : List X) (i : ℕ) (d : X) → i < length xs
    → slice_get (map f xs) i ≡ Some (f (slice_index_or xs i d))
at_place f [] i d within = absurd (omega (arith, within))
at_place f (x ∷ xs) zero d within = refl
at_place f (x ∷ xs) (suc i) d within = at_place f xs i d (omega (arith, within))

-- what is got at a place is read there
pub get_gives : {X Y : Type 0} (f : X → Y) (xs : List X) (i : ℕ) (got : Option (Bor X)) (x : Bor X) → IsItemAt xs i got
    → got ≡ Some x → slice_get (map f xs) i ≡ Some (f x.now)
get_gives f xs i got x item is =
    let here = subst (IsItemAt xs i) is item in
    slice_get-map f xs i ∙ ap (option_map f) (slice_get-get_or xs i x.now (ltb-true i (length xs) (sym here.0)))
    ∙ ap (λ y. Some (f y)) (sym here.1)

-- where nothing is got, nothing is read
pub get_none : {X Y : Type 0} (f : X → Y) (xs : List X) (i : ℕ) (got : Option (Bor X)) → IsItemAt xs i got
    → got ≡ None → slice_get (map f xs) i ≡ None
get_none f xs i got item is =
    let here = subst (IsItemAt xs i) is item in
    slice_get-map f xs i ∙ ap (option_map f) (slice_get_past xs i (ltb-false i (length xs) (sym here.0)))

-- the first elements of a list with the next one behind them
pub take_one : {X : Type 0} (xs : List X) (i : ℕ) (d : X) → i < length xs
    → take (suc i) xs ≡ take i xs ++ slice_index_or xs i d ∷ []
take_one [] i d within = absurd (omega (arith, within))
take_one (x ∷ xs) zero d within = refl
take_one (x ∷ xs) (suc i) d within = ap (λ ys. x ∷ ys) (take_one xs i d (omega (arith, within)))

-- what is told of a row and of what all counts found is told of its place
pub told_is : (i : ℕ) (c : CountedTable) (name : List ℕ) (n : Numbers) (exact : Found) (bounded : List Found)
    → name ≡ slice_index_or (table_names c.table) i [] → slice_get (map plain c.rows) i ≡ Some n
    → slice_get (filed_findings (in_exact_steps c)) i ≡ Some exact → bounded ≡ found_at i (by_bounds c)
    → counted_texts (i + 1) name n exact bounded ≡ counts_told_at i c
told_is i c name n exact bounded named row one others =
    ap₂ (λ x found. counts_told (i + 1) x (Some n) (Some exact) found) named others
    ∙ sym (ap₂ (λ o p. counts_told (i + 1) (slice_index_or (table_names c.table) i []) o p (found_at i (by_bounds c)))
    row one)

-- the line above the columns tells the frame and the bounds, where they were put behind one another
pub head_is : (c : CountedTable) (frame : ℕ) (bounds : List (Family × ℕ)) (start between all : List ℕ)
    → frame ≡ c.frame.ticks → bounds ≡ c.bounds → start ≡ codes "frame " ++ decimal frame
    → between ≡ start ++ flat_map bound_part bounds → all ≡ between ++ codes "\n" → all ≡ head_text c
head_is c frame bounds start between all framed are begun put ended =
    ended ∙ ap (λ t. t ++ codes "\n") (put ∙ ap₂ (λ s bs. s ++ flat_map bound_part bs) begun are)
    ∙ append_assoc (codes "frame " ++ decimal frame) (flat_map bound_part c.bounds) (codes "\n")
    ∙ append_assoc (codes "frame ") (decimal frame) (flat_map bound_part c.bounds ++ codes "\n")
    ∙ ap (λ n. codes "frame " ++ (decimal n ++ (flat_map bound_part c.bounds ++ codes "\n"))) framed

-- one row more is told behind those before
pub told_next : (i : ℕ) (c : CountedTable) (rows new : Rows) (cells : Vec Cell Global)
    → shown_rows rows ≡ first_told i c → map shown_of cells.items ≡ counts_told_at i c → new ≡ rows ++ cells ∷ []
    → shown_rows new ≡ first_told (i + 1) c
told_next i c rows new cells before told grown =
    let up : i + 1 ≡ suc i = omega arith in
    ap shown_rows grown
    ∙ map-append (λ row. map shown_of row.items) rows (cells ∷ [])
    ∙ ap₂ (λ xs x. xs ++ x ∷ []) before told
    ∙ ap (λ m. first_told m c) (sym up)
