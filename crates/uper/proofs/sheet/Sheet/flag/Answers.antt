use Rattle.uper.proofs.Putting.{flag_puts}
use Rattle.uper.proofs.sheet.Sheet.flag.Goals as goal

pub returns : goal.returns
returns c = flag_puts c.args.bit c.args.self.now c.put.new.self c.put.ensures.puts
