use Rattle.std.proofs.Common.{◌≡◌, ◌+◌, ◌∷◌, [], length, replicate, ap, ◌∙◌, arith}
use Rattle.std.proofs.lemmas.List.{length-append}
use Rattle.std.proofs.lemmas.List.Elements.{All-push}
use Rattle.tail_cert.specs.Certificate.{IsTable}
use Rattle.tail_cert.proofs.Shown.{stored_to}
use Rattle.tail_cert.proofs.Zeros.{zero_table}
use Rattle.tail_cert.proofs.certificate.make_tables.Goals as goal

pub loop-tables-preserved : goal.loop-tables-preserved
loop-tables-preserved c =
    let known = c.loop-tables.invariant in
    let more : length c.add_table.new.tables.items ≡ length c.loop-tables.tables.items + 1 =
    ap length c.add_table.ensures.tables ∙ length-append c.loop-tables.tables.items (replicate 40 (replicate 64 0) ∷ []) in
    record {
      each = rw c.add_table.ensures.tables (All-push IsTable c.loop-tables.tables.items (replicate 40 (replicate 64 0)) known.each zero_table);
      most = omega arith;
      room = omega (arith, known.room, c.add_table.ensures.room);
    }

pub returns-clause-tables : goal.returns-clause-tables
returns-clause-tables c =
    let known = c.loop-tables.invariant in
    stored_to _ _ _ c.end_of-end.ensures.past known.each known.most (omega arith)
