use Rattle.std.proofs.Common.{◌≤◌, ◌-◌, length, vec_len}
use Rattle.std.specs.Prelude.{All}
use Rattle.std.specs.Vec.{vec_capacity}
use Rattle.tail_cert.specs.Certificate.{IsTable}
use Rattle.tail_cert.proofs.certificate.make_tables.Given as goal

abbrev pub invariant-loop-tables : goal.invariant-loop-tables
invariant-loop-tables l = record {
  each : All IsTable l.tables.items;
  most : length l.tables.items ≤ 64;
  room : 64 ≤ vec_capacity l.tables;
}

abbrev pub decreases-loop-tables : goal.decreases-loop-tables
decreases-loop-tables l = l.end - vec_len l.tables
