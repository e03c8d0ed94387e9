use Rattle.grids.proofs.JsonReading.{numbers_taken}
use Rattle.grids.proofs.json_text.to_json.Goals as goal

pub returns-clause-numbers : goal.returns-clause-numbers
returns-clause-numbers c = numbers_taken
