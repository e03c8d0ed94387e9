use Rattle.std.proofs.Common.{◌≡◌, Bor, List, ℕ, Some, [], length, map, take, drop}
use Rattle.task_tables.specs.Columns.{AreDistinct, column_named}
use Rattle.task_tables.specs.Told.{headings_told}
use Rattle.task_tables.proofs.headings.read_headings.Given as goal

abbrev pub invariant-loop-index : goal.invariant-loop-index
invariant-loop-index l =
    record {
      named : map column_named (map (λ (h : Bor (List ℕ)). h.now) (take l.index l.headings))
          ≡ map (λ c. Some c) l.columns.items;
      once : AreDistinct l.columns.items;
      count : length l.columns.items ≡ l.index;
      told : headings_told l.line [] (map (λ (h : Bor (List ℕ)). h.now) l.headings)
          ≡ headings_told l.line l.columns.items (map (λ (h : Bor (List ℕ)). h.now) (drop l.index l.headings));
    }
