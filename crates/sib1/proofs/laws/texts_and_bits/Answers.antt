use Rattle.std.proofs.Common.{◌++◌, Ok}
use Rattle.uper.proofs.Fronts.{no_front}
use Rattle.sib1.specs.Layout.{sib1}
use Rattle.sib1.proofs.Messages.{one_answer, whatever_follows, written_is_read}
use Rattle.sib1.proofs.Exists.{some_answer}
use Rattle.sib1.proofs.Once.{once_sib1}
use Rattle.sib1.proofs.Valid.{sib1_holds}
use Rattle.sib1.proofs.Texts.{text_of_is, is_text_of}
use Rattle.sib1.proofs.laws.texts_and_bits.Goals as goal

pub returns-clause-one_answer : goal.returns-clause-one_answer
returns-clause-one_answer c = one_answer

pub returns-clause-some_answer : goal.returns-clause-some_answer
returns-clause-some_answer c = some_answer

pub returns-clause-whatever_follows : goal.returns-clause-whatever_follows
returns-clause-whatever_follows c = whatever_follows

pub returns-clause-no_other : goal.returns-clause-no_other
returns-clause-no_other c = λ text more fields answer s t. one_answer (text ++ more) answer (Ok fields) t (whatever_follows text more fields s)

pub returns-clause-one_text : goal.returns-clause-one_text
returns-clause-one_text c = λ a b fields s r. (once_sib1 a b fields s r).1

pub returns-clause-no_front : goal.returns-clause-no_front
returns-clause-no_front c = no_front sib1

pub returns-clause-text_is : goal.returns-clause-text_is
returns-clause-text_is c = λ text fields. (is_text_of text fields, text_of_is text fields)

pub returns-clause-valid : goal.returns-clause-valid
returns-clause-valid c = λ text fields s. sib1_holds text fields s

pub returns-clause-written_is_read : goal.returns-clause-written_is_read
returns-clause-written_is_read c = written_is_read
