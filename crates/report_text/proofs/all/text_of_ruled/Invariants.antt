use Rattle.std.proofs.Common.{◌≡◌, ◌++◌, string_bytes}
use Rattle.std.specs.Iterator.Adapters.{zip_first, zip_second}
use Rattle.std.specs.Slice.Iter.{iter_rest}
use Rattle.lte_types.specs.Carrier.{carriers}
use Rattle.report_parts.proofs.Zipped.{put_for}
use Rattle.report_text.proofs.RuledTexts.{ruled_string}
use Rattle.report_text.proofs.all.text_of_ruled.Given as goal

abbrev pub invariant-loop-carrier : goal.invariant-loop-carrier
invariant-loop-carrier l =
    string_bytes l.all ++ put_for ruled_string (iter_rest (zip_first l.carrier-iterator)) (iter_rest (zip_second l.carrier-iterator)) ≡ put_for ruled_string carriers l.texts
