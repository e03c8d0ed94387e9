use Rattle.std.proofs.Common.{◌+◌, ap, ◌∙◌}
use Rattle.std.specs.Option.{option_map}
use Rattle.brackets.proofs.Responses.{climbed}
use Rattle.brackets.proofs.responding.respond.Goals as goal

pub returns : goal.returns
returns c =
    let row = c.args.row.now in
    c.from_release.ensures ∙ ap (option_map (λ t. t + row.jitter)) c.climb.ensures ∙ climbed row c.args.above.now
