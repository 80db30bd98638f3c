use Rattle.clean_air.proofs.Masters.{spoken_word_is_decoded, sent_word_is_decoded, heard_slot_decodes}
use Rattle.clean_air.proofs.broadcast.sent_master_is_decoded.Goals as goal

pub returns-clause-spoken : goal.returns-clause-spoken
returns-clause-spoken c = spoken_word_is_decoded

pub returns-clause-decoded : goal.returns-clause-decoded
returns-clause-decoded c = sent_word_is_decoded

pub returns-clause-slot : goal.returns-clause-slot
returns-clause-slot c = heard_slot_decodes
