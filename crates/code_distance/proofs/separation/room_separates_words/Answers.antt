use Rattle.code_distance.proofs.Rooms.{is_one_room, room_separates_words, positive_room_outweighs}
use Rattle.code_distance.proofs.separation.room_separates_words.Goals as goal

pub returns-clause-one : goal.returns-clause-one
returns-clause-one c = is_one_room

pub returns-clause-separates : goal.returns-clause-separates
returns-clause-separates c = room_separates_words

pub returns-clause-outweighs : goal.returns-clause-outweighs
returns-clause-outweighs c = positive_room_outweighs
