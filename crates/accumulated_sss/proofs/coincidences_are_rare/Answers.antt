use Rattle.accumulated_sss.proofs.Coincidences.{patterns_are_all, coincidences_are_counted, coincidences_are_few, coincidences_are_rare}
use Rattle.accumulated_sss.proofs.coincidences_are_rare.Goals as goal

pub returns-clause-all : goal.returns-clause-all
returns-clause-all c = patterns_are_all

pub returns-clause-counted : goal.returns-clause-counted
returns-clause-counted c = coincidences_are_counted

pub returns-clause-few : goal.returns-clause-few
returns-clause-few c = coincidences_are_few

pub returns-clause-rare : goal.returns-clause-rare
returns-clause-rare c = coincidences_are_rare
