use Rattle.std.proofs.Common.{subst}
use Rattle.cell_grid.specs.Rows.{IsCarried}
use Rattle.cell_grid.proofs.layout.versions_of.Goals as goal

pub returns : goal.returns
returns c control =
    let plan = c.args.cell.now in
    record {
      first = subst (λ n. IsCarried plan n c.carried_of.result) c.modulo.ensures (c.carried_of.ensures control);
      second = subst (λ n. IsCarried plan n c.carried_of-2.result) c.modulo-2.ensures (c.carried_of-2.ensures control);
      third = subst (λ n. IsCarried plan n c.carried_of-3.result) c.modulo-3.ensures (c.carried_of-3.ensures control);
      fourth = subst (λ n. IsCarried plan n c.carried_of-4.result) c.modulo-4.ensures (c.carried_of-4.ensures control);
    }
