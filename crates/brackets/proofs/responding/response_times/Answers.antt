use Rattle.brackets.proofs.Responses.{table_responds}
use Rattle.brackets.proofs.responding.response_times.Goals as goal

pub returns-clause-says : goal.returns-clause-says
returns-clause-says c = table_responds _
