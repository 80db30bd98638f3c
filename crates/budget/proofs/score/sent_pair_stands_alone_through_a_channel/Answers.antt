use Rattle.budget.proofs.Scores.{sent_pair_stands_alone, sent_pair_is_identified_through, one_gain_leaves_terms_room, one_gain_is_seen_through}
use Rattle.budget.proofs.score.sent_pair_stands_alone_through_a_channel.Goals as goal

pub returns-clause-alone : goal.returns-clause-alone
returns-clause-alone c = sent_pair_stands_alone

pub returns-clause-recording : goal.returns-clause-recording
returns-clause-recording c = sent_pair_is_identified_through

pub returns-clause-room : goal.returns-clause-room
returns-clause-room c = one_gain_leaves_terms_room

pub returns-clause-one_gain : goal.returns-clause-one_gain
returns-clause-one_gain c = one_gain_is_seen_through
