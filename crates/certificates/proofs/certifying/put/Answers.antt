use Rattle.std.proofs.Common.{arith}
use Rattle.certificates.proofs.Certified.{tables_most}
use Rattle.certificates.proofs.certifying.put.Goals as goal

pub unreachable-requires : goal.unreachable-requires
unreachable-requires c =
    omega (arith, c.in-Err.ensures.full, tables_most c.args.certificate.now.tables, c.length.ensures.count, c.requires)
