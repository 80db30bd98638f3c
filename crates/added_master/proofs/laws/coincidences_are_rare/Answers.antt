use Rattle.added_master.proofs.Patterns.{coincidences_are_counted, coincidences_are_few, coincidences_are_rare}
use Rattle.added_master.proofs.laws.coincidences_are_rare.Goals as goal

pub returns-clause-counted : goal.returns-clause-counted
returns-clause-counted c = coincidences_are_counted

pub returns-clause-few : goal.returns-clause-few
returns-clause-few c = coincidences_are_few

pub returns-clause-rare : goal.returns-clause-rare
returns-clause-rare c = coincidences_are_rare
