use Rattle.std.proofs.Common.{◌++◌, ◌∷◌, ap, map, ◌∙◌, codes, flat_map}
use Rattle.std.proofs.lemmas.List.{map_push}
use Rattle.grids.specs.CsvFields.{headings_of}
use Rattle.views.specs.Printed.{points_column, rest_columns}
use Rattle.views.proofs.Growing.{columns_are}
use Rattle.views.proofs.printing.headings.Goals as goal

pub returns : goal.returns
returns c =
    let kinds = map (λ f. f.bound.0) c.args.counts.now in
    columns_are (headings_of c.in_ok-headings.headings.items) (flat_map rest_columns kinds) (codes "exact points")
    (map points_column kinds) _ _ _ c.in_ok-push_rest_headings.ensures
    (ap headings_of c.in_ok-push.ensures.items ∙ map_push (λ h. h.now) c.push_rest_headings.new.headings.items _)
    c.in_ok-push_points_headings.ensures
    ∙ ap (λ xs. headings_of xs ++ (flat_map rest_columns kinds ++ codes "exact points" ∷ map points_column kinds))
    c.in_ok-headings.ensures.items
