use Rattle.successive_cancel.proofs.CleanCells.{clean_next, clean_first, loaded_first}
use Rattle.successive_cancel.proofs.laws.clean_cell_is_taken_first.Goals as goal

pub returns-clause-clean : goal.returns-clause-clean
returns-clause-clean c =
    clean_first c.one_plan.ensures c.sent_entry_has_plan.ensures c.some_answer.ensures c.answer_leaves_errors.ensures.clean c.open_places_are_silent.ensures.carry

pub returns-clause-loaded : goal.returns-clause-loaded
returns-clause-loaded c = loaded_first c.one_plan.ensures c.sent_entry_has_plan.ensures c.some_answer.ensures c.answer_leaves_errors.ensures.loaded

pub returns-clause-later : goal.returns-clause-later
returns-clause-later c =
    clean_next c.one_plan.ensures c.sent_entry_has_plan.ensures c.some_answer.ensures c.answer_leaves_errors.ensures.clean c.open_places_are_silent.ensures.carry
