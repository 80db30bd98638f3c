use Rattle.std.proofs.Common.{refl}
use Rattle.report_json.specs.Hits.{hits_json}
use Rattle.report_json.proofs.hits.json_of_hits.Goals as goal

pub returns : goal.returns
unfolding hits_json
returns c = c.list_text.ensures (λ hit. refl)
