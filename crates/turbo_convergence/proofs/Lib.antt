-- The argument. The encoder is linear: any other word is the sent word plus a word d, and its coded bits differ from
-- the sent ones exactly where those of d are 1. If no value has a wrong sign, each such bit costs the magnitude of its
-- value: score sent = score (sent + d) + loss d. So the sent word has the maximum score, and the extrinsic value of bit
-- k has the sign of the sent bit; its magnitude is the minimum loss of a d with a 1 at k, without the loss at k itself.
-- It is 0 exactly if some d with a 1 at k has no other value that is not 0, which means that the bit is not found.

-- Values with a bit's sign, or 0: sums and the decoder's operations preserve this.
pub mod Conveying
-- The loss of a word's score against the sent word.
pub mod Losses
-- The extrinsic value is the minimum loss at the other bits.
pub mod Found
-- Sums with the coded bits' signs give both decoders values with the signs of their bits.
pub mod BothDecoders
-- By induction on the iterations all extrinsic values have the sent bits' signs, and so does the decoded word.
pub mod Iterates
-- Sums of received values have the signs of the sent coded bits.
pub mod ReceivedSums
