use Rattle.std.proofs.Common.{ℕ, List, sym, subst}
use Rattle.lte_types.specs.Carrier.{prefix_of}
use Rattle.cs_num.specs.declared.Sample.{Sample}
use Rattle.cs_num.specs.Complex.{sample_of}
use Rattle.cell_tx.specs.declared.frame_symbols.Symbols.{Symbols}
use Rattle.cell_tx.specs.declared.source.Ports.{Ports}
use Rattle.cell_tx.specs.declared.source.Source.{Source}
use Rattle.cell_grid.specs.Ports.{port_prefix}
use Rattle.cell_tx.specs.Mixing.{carrier_by, mixed_by}
use Rattle.cell_tx.specs.Emitting.{is_made_anew, AreChanged, AreSilent}
use Rattle.cell_tx.proofs.Mixing.{heard, room_alone, alone_made}
use Rattle.cell_tx.proofs.emitter.FrameMaker.add_all.Goals as goal

-- the symbols are silent for the ports' transmission scheme
abbrev AreSilentBy : Symbols → List Sample → Ports → Type 0
AreSilentBy symbols samples ports = AreSilent (is_made_anew (prefix_of (carrier_by ports)) symbols) samples

-- the symbols hold the sum for the ports' transmission scheme
abbrev AreMadeBy : Source → ℕ → Symbols → List Sample → List Sample → Ports → Type 0
AreMadeBy s n symbols old new ports = AreChanged (is_made_anew (prefix_of (carrier_by ports)) symbols) (λ i before. sample_of (mixed_by ports (λ port. heard s n port i) s.gains)) old new

pub add-requires-clause-small : goal.add-requires-clause-small
add-requires-clause-small c =
    let port = c.in-Alone.port in
    room_alone c.args.self.now.source c.args.sfn (is_made_anew (port_prefix port) c.args.symbols.now) port c.args.frame.now
    (subst (AreSilentBy c.args.symbols.now c.args.frame.now) c.in-Alone.is c.requires.silent)

pub add_ports-requires-clause-silent : goal.add_ports-requires-clause-silent
add_ports-requires-clause-silent c = subst (AreSilentBy c.args.symbols.now c.args.frame.now) c.in-All.is c.requires.silent

pub returns-in-Alone : goal.returns-in-Alone
returns-in-Alone c =
    let s = c.args.self.now.source in
    let port = c.in-Alone.port in
    subst (AreMadeBy s c.args.sfn c.args.symbols.now c.args.frame.now c.add.new.frame) (sym c.in-Alone.is)
    (alone_made s c.args.sfn (is_made_anew (port_prefix port) c.args.symbols.now) port c.args.frame.now c.add.new.frame
    (subst (AreSilentBy c.args.symbols.now c.args.frame.now) c.in-Alone.is c.requires.silent) c.add.ensures)

-- the symbols hold the sum for the source's own ports
abbrev AreMadeAs : Source → ℕ → Symbols → List Sample → List Sample → Ports → Type 0
AreMadeAs s n symbols old new ports = AreChanged (is_made_anew (prefix_of (carrier_by ports)) symbols) (λ i before. sample_of (mixed_by s.ports (λ port. heard s n port i) s.gains)) old new

pub returns-in-All : goal.returns-in-All
returns-in-All c =
    subst (AreMadeAs c.args.self.now.source c.args.sfn c.args.symbols.now c.args.frame.now c.add_ports.new.frame) (sym c.in-All.is) c.add_ports.ensures
