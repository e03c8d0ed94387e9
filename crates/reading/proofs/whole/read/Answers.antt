use Rattle.std.proofs.Common.{sym, refl, subst, arith}
use Rattle.std.proofs.lemmas.Result.{err_from_is_err_and}
use Rattle.rows.specs.Answers.{gives, refuses}
use Rattle.reading.proofs.Once.{fits_once, said_of_each}
use Rattle.reading.proofs.Parts.{IsRead, is_read, hold_contents, stand_in}
use Rattle.reading.specs.Readers.{reading_of}
use Rattle.reading.proofs.Walks.{HasRead, read_none, read_more, read_refused, read_ended}
use Rattle.reading.proofs.whole.read.Goals as goal
use Rattle.reading.proofs.whole.read.Goals.{In-Closed}

pub loop-init : goal.loop-init
loop-init c = subst (HasRead c.args.bytes.now) (sym c.new-reader.ensures) (read_none c.args.bytes.now)

pub loop-preserved : goal.loop-preserved
loop-preserved c =
    read_more c.args.bytes.now (reading_of c.loop.reader) (reading_of c.next_entry.new.self) c.loop.invariant _
    (sym c.if-is_some.ensures) c.in_ok-next_entry.ensures.taken

pub returns-in_err-next_entry : goal.returns-in_err-next_entry
returns-in_err-next_entry c =
    let bytes = c.args.bytes.now in
    let fault = c.in_err-next_entry.field-0.0 in
    let p = err_from_is_err_and c.from_residual.result c.from_residual.ensures.1 in
    let refused =
    read_refused bytes
    (reading_of c.loop.reader) c.loop.invariant fault.refusal fault.at c.in_err-next_entry.ensures.answered in
    rw (p.1, p.2) (record {
      fits = (refuses fault.refusal fault.at, refused, (refl, refl));
      only = said_of_each _ bytes (refuses fault.refusal fault.at) refused (refl, refl);
      once = fits_once;
      parts = tt;
    })

-- the leaf that was read
the_leaf : (c : In-Closed) → IsRead c.args.bytes.now c.in-Closed.heading c.in-Closed.rows
the_leaf c =
    is_read c.args.bytes.now c.in-Closed.heading c.in-Closed.rows
    (reading_of c.next_entry.new.self).phase c.in-Closed.ensures
    (read_ended c.args.bytes.now (reading_of c.loop.reader) (reading_of c.next_entry.new.self) c.loop.invariant _
    (sym c.if-is_some.ensures) c.in_ok-next_entry.ensures.taken)

pub slice_bounds-result-end : goal.slice_bounds-result-end
slice_bounds-result-end c = let leaf = the_leaf (goal.at.slice_bounds-result-end c).In-Closed in
    omega (arith, leaf.parts.size, c.place_after-findings_from.ensures)

pub slice_bounds-result-end-2 : goal.slice_bounds-result-end-2
slice_bounds-result-end-2 c = let leaf = the_leaf (goal.at.slice_bounds-result-end-2 c).In-Closed in
    omega (arith, leaf.parts.size, c.place_after-findings_to.ensures)

pub invariant_of-result : goal.invariant_of-result
invariant_of-result c =
    let leaf = the_leaf (goal.at.invariant_of-result c).In-Closed in
    let parts = hold_contents leaf c.place_after-rows_from.ensures c.place_after-findings_from.ensures
    c.place_after-findings_to.ensures in
    record { held = ∣ (leaf.contents, parts) ∣₁ }

pub returns : goal.returns
returns c =
    let leaf = the_leaf (goal.at.returns c).In-Closed in
    let parts = hold_contents leaf c.place_after-rows_from.ensures c.place_after-findings_from.ensures
    c.place_after-findings_to.ensures in
    record {
      fits = (gives leaf.contents, leaf.fits, parts);
      only = said_of_each _ c.args.bytes.now (gives leaf.contents) leaf.fits parts;
      once = fits_once;
      parts = stand_in leaf parts;
    }
