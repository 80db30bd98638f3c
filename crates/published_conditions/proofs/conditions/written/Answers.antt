use Rattle.std.proofs.Common.{◌≡◌, ◌≤◌, ℕ, Some, slice_get, Bool, true, false, nat_eq, if◌then◌else◌, arith}
use Rattle.std.proofs.lemmas.Option.{slice_get_within}
use Rattle.dci.specs.Sizes.{column_2, column_3}
use Rattle.published_conditions.specs.Numbers.{sizes_of_two, sizes_of_three}
use Rattle.published_conditions.proofs.conditions.written.Goals as goal

-- an MCS index with a size in either column is at most 26
is_small : (mcs size : ℕ) (two : Bool) → slice_get (if two then sizes_of_two else sizes_of_three) mcs ≡ Some size → mcs ≤ 26
unfolding sizes_of_two sizes_of_three
is_small mcs size true found = let l = slice_get_within sizes_of_two mcs size found in omega (arith, l)
is_small mcs size false found = let l = slice_get_within sizes_of_three mcs size found in omega (arith, l)

pub write-requires : goal.write-requires
unfolding sizes_of_two sizes_of_three column_2 column_3
write-requires c =
    let grant = c.args.grant.now in
    record {
      blocks = record { some = c.requires.some; inside = c.requires.inside };
      mcs_valid = is_small grant.mcs grant.size (nat_eq grant.column 2) c.requires.size;
      rv_valid = c.requires.version;
      column_valid = c.requires.column;
      size_is = c.requires.size;
    }
