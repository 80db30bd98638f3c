use Rattle.std.proofs.Common.{◌≡◌, true, sym, subst}
use Rattle.cell_tx.specs.declared.source.Source.{Source}
use Rattle.cell_grid.specs.Ports.{has_control}
use Rattle.cell_grid.specs.Rows.{IsLayout, AreVersions}
use Rattle.cell_tx.specs.Mixing.{carrier_by}
use Rattle.cell_tx.proofs.emitter.FrameMaker.new.Goals as goal

pub invariant_of-result : goal.invariant_of-result
invariant_of-result c =
    let same = sym c.again.ensures in
    record {
      port_is = subst (λ (s : Source). c.first-port.result.carrier ≡ carrier_by s.ports) same c.first-port.ensures;
      layout_is = subst (λ (s : Source). IsLayout c.first-port.result s.cell.now c.layout_of-layout.result) same c.layout_of-layout.ensures;
      versions_are = subst (λ (s : Source). has_control c.first-port.result ≡ true → AreVersions s.cell.now c.versions_of-versions.result) same c.versions_of-versions.ensures;
    }
