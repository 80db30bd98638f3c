-- The ranges of the entries of a list.
use Rattle.std.proofs.Common.{ℕ, ◌<◌, arith, get_or, subst, sym, List}
use Rattle.std.specs.Prelude.{All, IfOk}
use Rattle.std.proofs.lemmas.List.Elements.{Contains-get_or}
use Rattle.cs_num.specs.declared.Sample.{Sample}
use Rattle.lte_types.specs.declared.frame.Half.{Half}
use Rattle.lte_types.specs.declared.frame.Half.TheVariants.{Zero, Five}
use Rattle.lte_types.specs.declared.entry.Entry.{Entry}
use Rattle.sss_detect.specs.Place.{start_by_hit}
use Rattle.lte_types.specs.Ranges.{IsValid}
use Rattle.explain.specs.Receiver.{Receiver, one_port_receiver}
use Rattle.explain.specs.Entries.{IsInList, place_of, IsListFor}
use Rattle.explain.proofs.Information.{system_is_valid}
use Rattle.explain.proofs.Listed.{is_sound}

early : (t : ℕ) (half : Half) → start_by_hit t half < 19200
early t Zero = omega arith
early t Five = omega arith

-- an entry's first frame begins within the samples of one frame
pub starts_early : (recording : List Sample) (entry : Entry) → IsInList recording entry → entry.start < 19200
starts_early recording entry listed =
    let known = is_sound one_port_receiver recording listed.list entry listed.explained listed.inside in
    subst (λ n. n < 19200) (sym known.is_of.start) (early _ _)

-- the fields of all entries are in their ranges
pub all_valid : (receiver : Receiver) (recording : List Sample) (list : List Entry) → IsListFor receiver recording list → All (λ entry. IfOk entry.sib1 IsValid) list
all_valid receiver recording list listed k d inside =
    let entry = get_or list k d in
    let known = is_sound receiver recording list entry listed (Contains-get_or list k d inside) in
    system_is_valid receiver recording (place_of entry) entry.sfn entry.ports entry.mib entry.sib1 known.is_of.sib1
