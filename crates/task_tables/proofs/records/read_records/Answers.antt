use Rattle.std.proofs.Common.{Bor, List, ℕ, ◌≡◌, ◌∙◌, sym, refl, rules, inl, inr, true, map, Some, ◌∷◌, []}
use Rattle.std.specs.Result.{is_ok}
use Rattle.std.proofs.lemmas.List.{map-append}
use Rattle.csv.specs.Reading.{Reached, strip_bom}
use Rattle.csv.specs.Records.{fields_of}
use Rattle.csv.specs.declared.parser.State.TheVariants as st
use Rattle.csv.proofs.ReadFacts.{rows-end, rows-more}
use Rattle.task_tables.specs.Forms.{config_of}
use Rattle.task_tables.proofs.records.read_records.Goals as goal

pub loop-row-init : goal.loop-row-init
unfolding Reached
loop-row-init c =
    let fr = c.from_reader-reader.ensures in
    let start = c.into_iter-row-iterator.ensures.into_iter_gives ∙ refl in
    let rdr = c.into_byte_records-row-items.ensures.rdr in
    let left = c.into_byte_records-row-items.ensures.left in
    let plain = rw
    (c.flexible.ensures, c.has_headers.ensures, c.comment.ensures, c.delimiter.ensures, c.new.ensures.trim) at
    fr.trim in
    let config = rw (
      c.flexible.ensures,
      c.has_headers.ensures,
      c.comment.ensures,
      c.delimiter.ensures,
      c.new.ensures.config,
      c.delimiter-delimiter.ensures,
    ) at fr.config in
    let headers = rw (c.flexible.ensures, c.has_headers.ensures) at fr.has_headers in
    rw (start, rdr, c.new-rows.ensures.items) (record {
      plain = plain;
      ready = inr (inr (headers, fr.headers));
      turns = left;
      config = config;
      reached = (strip_bom c.args.text.now, fr.source, (sym fr.state, refl));
    })

pub loop-row-preserved : goal.loop-row-preserved
loop-row-preserved c =
    let inv = c.loop-row.invariant in
    let (y, at_y, reached) = inv.reached in
    let s = rw (c.in-Some.is, c.in_ok-row.was) at ((c.next.ensures.steps inv.turns inv.plain).0 inv.ready) in
    let good : is_ok c.push.result ≡ true = search rules in
    let items = rw good at c.push.ensures.items in
    let (z, at_z, more) =
    rows-more (λ (s : Bor (List ℕ)). Some s.now) c.loop-row.row-iterator.rdr c.next.new.self.rdr
    (fields_of c.in_ok-row.field-0) (config_of c.args.form) st.StartRecord (strip_bom c.args.text.now) y
    (map fields_of c.loop-row.rows.items) inv.config at_y reached s.0 in
    record {
      plain = s.0.3 ∙ inv.plain;
      ready = inl s.1;
      turns = s.2;
      config = s.0.2 ∙ inv.config;
      reached = (z, at_z, rw (items, map-append fields_of c.loop-row.rows.items (c.in_ok-row.field-0 ∷ [])) more);
    }

pub returns-clause-records : goal.returns-clause-records
returns-clause-records c =
    let inv = c.loop-row.invariant in
    let (y, at_y, reached) = inv.reached in
    let s = rw c.in-None.is at ((c.next.ensures.steps inv.turns inv.plain).0 inv.ready) in (
      c.loop-row.row-iterator.rdr.state,
      y,
      reached,
      rows-end (λ (s : Bor (List ℕ)). Some s.now) c.loop-row.row-iterator.rdr c.next.new.self.rdr []
          (config_of c.args.form) y inv.config at_y s,
    )
