-- The soft values of a transport block's resource blocks determine the block that was sent.
use Rattle.std.proofs.Common.{◌≡◌, ◌*◌, true, length, sym, subst, arith}
use Rattle.lte_types.specs.declared.carrier.Carrier.TheVariants.{OnePort}
use Rattle.grid_map.specs.Shared.{shared_places_of}
use Rattle.erasure.specs.Known.{resolvable, sent_of}
use Rattle.turbo_convergence.specs.Conveys.{ValuesSupport}
use Rattle.turbo_convergence.proofs.ReceivedSums.{received_sums_convey, whole_sums_speak, punctured_block_is_decoded}
use Rattle.clean_air.specs.Block.{matched_bit, HeardBlockIsDecoded, HeardSubframeDecodes, CarriedBlockIsDecoded}
use Rattle.clean_air.proofs.Subframes.{values_of_blocks_are_heard, carried_blocks_are_heard}

pub heard_block_is_decoded : HeardBlockIsDecoded
heard_block_is_decoded row rv count word values sent heard =
    let size = heard.size in
    let each : ValuesSupport 1 row word rv values = λ i inside. heard.value i (omega (arith, size, inside)) in
    record {
      sums = received_sums_convey row word rv values sent.is_row each;
      whole = whole_sums_speak row word rv values sent.is_row sent.version each;
      decoded = punctured_block_is_decoded row word rv values sent.is_row sent.size sent.passes each
          (subst (λ n. resolvable row (sent_of row.k rv n) word ≡ true) (sym size) sent.resolvable);
    }

pub heard_subframe_decodes : HeardSubframeDecodes
heard_subframe_decodes first second cfi start blocks row rv word sent heard =
    heard_block_is_decoded row rv (2 * length (shared_places_of OnePort first.identity cfi start blocks)) word _ sent
    (values_of_blocks_are_heard first second cfi start blocks (matched_bit row rv word) heard)

pub carried_block_is_decoded : CarriedBlockIsDecoded
carried_block_is_decoded grids first second cfi start blocks row rv word sent heard carry =
    heard_block_is_decoded row rv (2 * length (shared_places_of OnePort first.identity cfi start blocks)) word _ sent
    (carried_blocks_are_heard grids first second cfi start blocks (matched_bit row rv word) heard carry)
