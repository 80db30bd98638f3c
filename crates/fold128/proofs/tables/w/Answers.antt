use Rattle.std.proofs.Common.{rules, w64, FitsSigned, ◌%◌}
use Rattle.std.proofs.lemmas.Int.{to_z-of_z}
use Rattle.fold128.proofs.Entries.{w_period, w_from}
use Rattle.fold128.proofs.tables.w.Goals as goal

pub returns : goal.returns
returns c =
    let a : FitsSigned w64 c.cosine_of.result = search rules in
    let b : FitsSigned w64 c.cosine_of-2.result = search rules in
    let ea = c.cosine_of.ensures in
    let eb = c.cosine_of-2.ensures in
    let p = w_from (c.args.m % 128) in
    let q = w_period c.args.m in
    simp to_z-of_z (cc)
