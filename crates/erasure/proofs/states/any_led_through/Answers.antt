use Rattle.std.proofs.Common.{◌∙◌, refl, sym, ap₂}
use Rattle.finite.specs.Tests.{any_below}
use Rattle.std.specs.Prelude.{◌||◌}
use Rattle.finite.proofs.Tests.{any_below_more}
use Rattle.erasure.specs.Sets.{leads_through}
use Rattle.erasure.proofs.states.any_led_through.Goals as goal

pub loop-x-init : goal.loop-x-init
unfolding any_below
loop-x-init c = refl

pub loop-x-preserved : goal.loop-x-preserved
loop-x-preserved c =
    ap₂ ◌||◌ c.loop-x.invariant c.is_led_through-any.ensures
    ∙ sym (any_below_more c.loop-x.x (leads_through c.args.parity c.args.before.now c.args.after.now))
