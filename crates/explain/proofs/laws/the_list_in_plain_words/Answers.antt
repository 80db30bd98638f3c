use Rattle.explain.proofs.Listed.{is_one_list, is_sound, is_complete, is_apart, is_never_long}
use Rattle.explain.proofs.laws.the_list_in_plain_words.Goals as goal

pub returns-clause-one : goal.returns-clause-one
returns-clause-one c = is_one_list

pub returns-clause-sound : goal.returns-clause-sound
returns-clause-sound c = is_sound

pub returns-clause-complete : goal.returns-clause-complete
returns-clause-complete c = is_complete

pub returns-clause-apart : goal.returns-clause-apart
returns-clause-apart c = is_apart

pub returns-clause-never_long : goal.returns-clause-never_long
returns-clause-never_long c = is_never_long
