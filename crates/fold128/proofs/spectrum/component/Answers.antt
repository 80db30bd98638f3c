use Rattle.std.proofs.Common.{rules, w64, FitsSigned}
use Rattle.std.proofs.lemmas.Int.{to_z-of_z}
use Rattle.fold128.proofs.FoldSizes.{component-fits}
use Rattle.fold128.proofs.spectrum.component.Goals as goal

pub overflow_mul-result : goal.overflow_mul-result
overflow_mul-result c =
    let p = component-fits c.args.real c.args.cosine c.args.imaginary c.args.sine c.requires.real c.requires.cosine c.requires.imaginary c.requires.sine in
    let a : FitsSigned w64 c.args.real = search rules in
    let b : FitsSigned w64 c.args.cosine = search rules in
    simp to_z-of_z p.first

pub overflow_mul-result-2 : goal.overflow_mul-result-2
overflow_mul-result-2 c =
    let p = component-fits c.args.real c.args.cosine c.args.imaginary c.args.sine c.requires.real c.requires.cosine c.requires.imaginary c.requires.sine in
    let a : FitsSigned w64 c.args.imaginary = search rules in
    let b : FitsSigned w64 c.args.sine = search rules in
    simp to_z-of_z p.second

pub overflow_add-result : goal.overflow_add-result
overflow_add-result c =
    let p = component-fits c.args.real c.args.cosine c.args.imaginary c.args.sine c.requires.real c.requires.cosine c.requires.imaginary c.requires.sine in
    let a : FitsSigned w64 c.args.real = search rules in
    let b : FitsSigned w64 c.args.cosine = search rules in
    let a' : FitsSigned w64 c.args.imaginary = search rules in
    let b' : FitsSigned w64 c.args.sine = search rules in
    let first = p.first in
    let second = p.second in
    simp to_z-of_z p.total

pub returns : goal.returns
returns c =
    let p = component-fits c.args.real c.args.cosine c.args.imaginary c.args.sine c.requires.real c.requires.cosine c.requires.imaginary c.requires.sine in
    let a : FitsSigned w64 c.args.real = search rules in
    let b : FitsSigned w64 c.args.cosine = search rules in
    let a' : FitsSigned w64 c.args.imaginary = search rules in
    let b' : FitsSigned w64 c.args.sine = search rules in
    let first = p.first in
    let second = p.second in
    let total = p.total in
    simp to_z-of_z
