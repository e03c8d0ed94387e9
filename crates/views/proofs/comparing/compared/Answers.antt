use Rattle.std.proofs.Common.{◌≡◌, ◌++◌, ap, ◌∙◌, append_assoc, rules}
use Rattle.grids.specs.Aligned.{aligned_text}
use Rattle.views.specs.Compared.{compared_head}
use Rattle.views.proofs.comparing.compared.Goals as goal

pub returns : goal.returns
returns c = λ x d holds other.
    let foot = c.as_bytes.result.now in
    let page = aligned_text c.in_ok-table.table.headings.items c.in_ok-table.table.rows.items in
    let above = compared_head c.args.first_name.now c.args.second_name.now x d in
    let told = c.in_ok-heads.ensures x d holds other in
    let head : c.into_bytes-text.result.items ≡ above = search (rules, told) in
    let middle : c.extend_from_slice.new.self.items ≡ c.into_bytes-text.result.items ++ page = search rules in
    let last : c.extend_from_slice-2.new.self.items ≡ c.extend_from_slice.new.self.items ++ foot = search rules in
    record {
      headings = c.in_ok-table.table.headings.items;
      rows = c.in_ok-table.table.rows.items;
      foot = foot;
      columns = c.in_ok-table.ensures.columns;
      told = c.in_ok-table.ensures.rows x d holds other;
      parts = last ∙ ap (λ xs. xs ++ foot) (middle ∙ ap (λ ys. ys ++ page) head) ∙ append_assoc above page foot;
    }
