use Rattle.cell_tx.proofs.Bounds.{amplified}
use Rattle.cell_tx.proofs.frame_symbols.sum_of.Goals as goal

pub mul-product-requires : goal.mul-product-requires
mul-product-requires c = (amplified c.args.gain.now c.args.value c.requires.gain c.requires.value).fits
