use Rattle.std.proofs.Common.{refl, pos, slice_index_or}
use Rattle.fold128.specs.Tables.{z_real, z_imaginary}
use Rattle.fold128.proofs.Entries.{z_real_small, z_imaginary_small, widened}
use Rattle.fold128.proofs.tables.z_half_of.Goals as goal

pub returns : goal.returns
unfolding z_real z_imaginary
returns c =
    let r = z_real_small c.args.m c.requires in
    let i = z_imaginary_small c.args.m c.requires in
    let er = widened (slice_index_or z_real c.args.m (pos 0)) r in
    let ei = widened (slice_index_or z_imaginary c.args.m (pos 0)) i in
    rw (er, ei) (record { value = refl; small = record { re = r; im = i } })
