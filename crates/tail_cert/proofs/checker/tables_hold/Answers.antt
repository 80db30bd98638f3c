use Rattle.std.proofs.Common.{ℕ, ◌<◌, ◌≡◌, get_or, sym}
use Rattle.std.specs.Prelude.{replicate}
use Rattle.std.proofs.lemmas.List.{get_or-replicate}
use Rattle.tail_cert.specs.Certificate.{from_any}
use Rattle.tail_cert.proofs.Tables.{steps_from}
use Rattle.tail_cert.proofs.checker.tables_hold.Goals as goal

zeros : (x : ℕ) → x < 64 → get_or (replicate 64 0) x 0 ≡ from_any x
zeros x below = get_or-replicate 64 x 0 0 below

pub returns-then-steps_hold : goal.returns-then-steps_hold
returns-then-steps_hold c = (
  (λ t. (steps_from c.args.values.now _ from_any _ zeros (c.steps_hold.ensures.0 c.if-steps_hold.true), c.starts_hold.ensures.0 t)),
  λ h. c.starts_hold.ensures.1 h.1,
)

pub returns-else-steps_hold : goal.returns-else-steps_hold
returns-else-steps_hold c = (
  (λ t. let f = c.if-steps_hold.false in cc),
  λ h. c.steps_hold.ensures.1 (steps_from c.args.values.now from_any _ _ (λ x below. sym (zeros x below)) h.0),
)
