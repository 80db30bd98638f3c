use Rattle.std.proofs.Common.{◌≡◌, drop}
use Rattle.serde_json.specs.View.{members_view}
use Rattle.report_json.specs.Values.{put_each}
use Rattle.report_json.proofs.named.put_numbers.Given as goal

abbrev pub invariant-loop-number : goal.invariant-loop-number
invariant-loop-number l = put_each (drop l.number-index l.numbers) (members_view l.members.entries) ≡ put_each l.numbers (members_view l.fn.members.entries)
