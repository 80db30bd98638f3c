use Rattle.turbo_convergence.proofs.Iterates.{iteration_conveys}
use Rattle.turbo_convergence.proofs.decoders.iterations_convey.Goals as goal

pub returns : goal.returns
returns c = λ row word sent sums is_row size decoded n. iteration_conveys row word sent sums is_row size decoded n
