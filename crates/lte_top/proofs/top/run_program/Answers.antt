use Rattle.lte_top.proofs.Complete.{answered, complete, has_room}
use Rattle.lte_top.proofs.top.run_program.Goals as goal

pub returns : goal.returns
returns g c = record {
  outcome = c.run_words.ensures.outcome;
  answered = answered _ _ _ _ _ c.run_words.ensures.outcome;
  complete = complete _ _ _ _ _ c.run_words.ensures.outcome;
  has_room = has_room _ _ _ _ _ c.run_words.ensures.outcome;
  read_faults_stay = c.run_words.ensures.reads;
  write_faults_stay = c.run_words.ensures.writes;
}
