use Rattle.std.proofs.Common.{◌≡◌, ◌+◌, ◌-◌, length}
use Rattle.uper.specs.Reading.{reading}
use Rattle.uper.specs.Grammar.{times}
use Rattle.sib1.specs.Layout.{plmn_identity_info, plmn_identity_list}
use Rattle.uper.proofs.Steps.{with_front}
use Rattle.sib1.proofs.read_plmns.read_plmn_identity_list.Given as goal

abbrev pub invariant-loop : goal.invariant-loop
invariant-loop l = record {
  so_far : with_front l.list (reading (times (l.further - l.counter) (plmn_identity_info 0)) l.reader) ≡ reading plmn_identity_list l.fn.reader;
  size : length l.list ≡ l.counter + 1;
}
