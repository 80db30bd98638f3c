use Rattle.budget.proofs.Products.{nearly_multiplicative}
use Rattle.budget.proofs.table.table_is_nearly_multiplicative.Goals as goal

pub returns : goal.returns
returns c = nearly_multiplicative
