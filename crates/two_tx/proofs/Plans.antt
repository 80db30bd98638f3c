-- Every plan can be sent with two antenna ports.
use Rattle.std.proofs.Common.{ℕ}
use Rattle.lte_types.specs.declared.carrier.Carrier.TheVariants.{TwoPorts}
use Rattle.capture_make.specs.Recipe.{plan}
use Rattle.capture_make.proofs.Plans.{is_sendable_by}
use Rattle.two_tx.specs.Plan.{IsSendableOfTwo}

pub sendable_of_two : (n : ℕ) → IsSendableOfTwo (plan n)
sendable_of_two n = is_sendable_by TwoPorts n
