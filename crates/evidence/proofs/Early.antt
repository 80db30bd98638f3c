-- The start of an entry's first frame.
use Rattle.std.proofs.Common.{ℕ, ◌<◌, List, arith, sym, subst}
use Rattle.cs_num.specs.declared.Sample.{Sample}
use Rattle.lte_types.specs.declared.frame.Half.{Half}
use Rattle.lte_types.specs.declared.frame.Half.TheVariants.{Zero, Five}
use Rattle.lte_types.specs.declared.entry.Entry.{Entry}
use Rattle.sss_detect.specs.Place.{start_by_hit}
use Rattle.explain.specs.Entries.{IsEntryFor, place_of}
use Rattle.explain.specs.Frame.{IsWhole}
use Rattle.explain.specs.Laws.{IsEntryOfSome}
use Rattle.explain.specs.Receiver.{Receiver, hits_by}

early : (t : ℕ) (half : Half) → start_by_hit t half < 19200
early t Zero = omega arith
early t Five = omega arith

module _ (receiver : Receiver) (recording : List Sample) (entry : Entry) (e : IsEntryOfSome (IsEntryFor receiver recording) (hits_by receiver.carrier recording) entry) where
  -- the entry starts within the first frame length
  pub starts_early : entry.start < 19200
  starts_early = subst (λ n. n < 19200) (sym e.is_of.start) (early _ _)

  -- the first frame that was read lies within the recording
  pub first_is_whole : IsWhole recording (place_of entry).start entry.frame
  first_is_whole =
      let some = e.is_of.frames.inside.some in
      let first = e.is_of.frames.inside.whole 0 (omega (arith, some)) in omega (arith, first)
