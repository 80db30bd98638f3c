use Rattle.std.proofs.Common.{◌≡◌, ◌+◌, ◌-◌, false}
use Rattle.finite.specs.Tests.{any_below}
use Rattle.pss_search.specs.Tests.{rules_out}
use Rattle.pss_search.proofs.choose.is_ruled_out_at.Given as goal

abbrev pub invariant-loop-d : goal.invariant-loop-d
invariant-loop-d l = any_below l.d (λ d. rules_out l.recent.recording l.root.n2 l.t (l.t - 9 + d)) ≡ false
