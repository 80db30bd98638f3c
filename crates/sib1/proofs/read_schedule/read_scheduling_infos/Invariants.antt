use Rattle.std.proofs.Common.{◌≡◌, ◌-◌, length}
use Rattle.uper.specs.Reading.{reading}
use Rattle.uper.specs.Grammar.{times}
use Rattle.sib1.specs.Layout.{scheduling_info}
use Rattle.uper.proofs.Steps.{with_front}
use Rattle.sib1.proofs.read_schedule.read_scheduling_infos.Given as goal

abbrev pub invariant-loop : goal.invariant-loop
invariant-loop l = record {
  so_far : with_front l.list (reading (times (l.count - l.counter) scheduling_info) l.reader) ≡ reading (times l.count scheduling_info) l.fn.reader;
  size : length l.list ≡ l.counter;
}
