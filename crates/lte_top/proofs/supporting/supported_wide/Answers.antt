use Rattle.std.proofs.Common.{◌≡◌, ◌∙◌, ◌++◌, Bool, Vec, Global, List, length, map, take, drop, ap, arith, sym, subst}
use Rattle.std.proofs.lemmas.List.{take-append-le, take_all}
use Rattle.std.proofs.lemmas.Slice.Zip.{AllZip-long}
use Rattle.halving.specs.Wide.{narrowed}
use Rattle.evidence.specs.Receivers.{receiver_of}
use Rattle.evidence.specs.Shown.{Shown, IsShownFor, with_blocks}
use Rattle.wide_list.specs.List.{IsWideListFor}
use Rattle.wide_list.specs.Bits.{AreWideBits}
use Rattle.wide_list.proofs.Lists.{zip_map, listed_early}
use Rattle.lte_top.proofs.Carriers.{of_carrier}
use Rattle.lte_top.proofs.SupportedLists.{wide_support}
use Rattle.lte_top.proofs.supporting.supported_wide.Goals as goal

pub inform_with_blocks-requires : goal.inform_with_blocks-requires
inform_with_blocks-requires c = record { early = listed_early (receiver_of c.args.carrier) (narrowed c.args.wide.now) c.args.list c.requires.narrow.is_list.explained }

pub set_blocks-requires : goal.set_blocks-requires
set_blocks-requires c =
    let carrier = c.args.carrier in
    let wide = c.args.wide.now in
    let blocks = AllZip-long (λ before (block : Vec Bool Global). AreWideBits carrier wide before block.items) c.args.list c.in_ok-blocks.blocks.items c.in_ok-blocks.ensures.blocks in
    let shown = AllZip-long (IsShownFor (receiver_of carrier) (narrowed wide)) c.args.list c.args.supports.items c.requires.narrow.each in
    omega (arith, ap (λ (shown : List Shown). length shown) c.deref_mut.ensures.value, shown, blocks)

pub returns : goal.returns
returns c =
    let carrier = c.args.carrier in
    let wide = c.args.wide.now in
    let blocks : List (List Bool) = map (λ (block : Vec Bool Global). block.items) c.in_ok-blocks.blocks.items in
    let new = c.set_blocks.new.supports in
    let size : length new ≡ c.args.supports.len = c.set_blocks.auto.supports ∙ c.deref_mut.ensures.len in
    let back : take c.args.supports.len (new ++ drop (length new) c.args.supports.items) ≡ new =
    take-append-le c.args.supports.len new (drop (length new) c.args.supports.items) (omega (arith, size)) ∙ take_all c.args.supports.len new (omega (arith, size)) in
    wide_support carrier wide (record { entries = c.args.list; shown = c.args.supports.items }) c.new-2.result blocks c.requires.valid c.requires.narrow
    (subst (IsWideListFor (receiver_of carrier) wide) (sym c.new-2.ensures.entries)
    (c.in_ok-blocks.ensures.list (receiver_of carrier) (sym (of_carrier carrier)) c.requires.narrow.is_list.explained))
    (zip_map (AreWideBits carrier wide) (λ (block : Vec Bool Global). block.items) c.args.list c.in_ok-blocks.blocks.items c.in_ok-blocks.ensures.blocks)
    (c.new-2.ensures.shown ∙ back ∙ c.set_blocks.ensures ∙ ap (λ (shown : List Shown). with_blocks shown blocks) c.deref_mut.ensures.value)
