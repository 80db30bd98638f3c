use Rattle.clean_air.proofs.SpokenWords.{four_speak_together, descrambling_keeps, sums_speak_by_reading, sums_speak_from, sums_speak, spoken_word_is_only}
use Rattle.clean_air.proofs.words.spoken_word_is_the_least.Goals as goal

pub returns-clause-together : goal.returns-clause-together
returns-clause-together c = four_speak_together

pub returns-clause-descrambled : goal.returns-clause-descrambled
returns-clause-descrambled c = descrambling_keeps

pub returns-clause-reading : goal.returns-clause-reading
returns-clause-reading c = sums_speak_by_reading

pub returns-clause-from : goal.returns-clause-from
returns-clause-from c = sums_speak_from

pub returns-clause-sums : goal.returns-clause-sums
returns-clause-sums c = sums_speak

pub returns-clause-only : goal.returns-clause-only
returns-clause-only c = spoken_word_is_only
