-- Words that are nearest to the soft values are the ones that the receiver decodes.
use Rattle.std.proofs.Common.{◌≡◌, ℕ, ◌+◌, ◌*◌, ◌%◌, ◌<◌, ◌≤◌, inl, arith, refl, sym, subst, ◌∙◌, Bool, List, length, ℤ, nat_abs, Ok, Some}
use Rattle.cs_num.specs.declared.Sample.{Sample}
use Rattle.finite.specs.Sums.{total_below}
use Rattle.finite.specs.Tables.{sum_at}
use Rattle.finite.proofs.Sums.{total_below_same}
use Rattle.cs_bits.specs.Checks.{message_of}
use Rattle.cs_bits.proofs.Checks.{checked_16}
use Rattle.lte_types.specs.declared.carrier.Carrier.{Carrier}
use Rattle.lte_types.specs.CellPlace.{Place}
use Rattle.lte_types.specs.Frames.{Frames, frames_from}
use Rattle.conv_code.specs.Cost.{word_cost}
use Rattle.conv_code.specs.Reading.{summed}
use Rattle.conv_code.proofs.Sums.{length-summed_by, length-summed}
use Rattle.turbo_code.specs.declared.rows.Row.{Row}
use Rattle.pbch.specs.Master.{total, Decodes}
use Rattle.pbch.specs.Values.{summed_values}
use Rattle.dci.specs.declared.grant.Grant.{Grant}
use Rattle.dci.specs.Fields.{system_information_rnti}
use Rattle.dci.specs.Format1A.{IsGrant, Carries, sent_word}
use Rattle.dci.proofs.Words.{sent_carries}
use Rattle.soft_bits.specs.Places.{Valuing}
use Rattle.sib1_reader.specs.Subframe.{Subframe}
use Rattle.sib1_reader.specs.Control.{Grants}
use Rattle.sib1_reader.specs.Block.{BlockSays}
use Rattle.sib1_reader.specs.Attempt.{Reads}
use Rattle.explain.specs.Receiver.{Receiver, subframes_by, sums_by}
use Rattle.explain.specs.System.{even_frame}
use Rattle.cell_plan.specs.declared.cell.CellPlan.{CellPlan}
use Rattle.cell_plan.specs.Plan.{IsSendableBy, IsSendableWith}
use Rattle.cell_plan.specs.Transport.{checked_size, row_with, shared_word}
use Rattle.cell_plan.proofs.SystemWords.{row_is, word_checked, word_size, word_says}
use Rattle.cell_grid.specs.Control.{grant_of}
use Rattle.cell_grid.proofs.Grants.{grant_is}
use Rattle.code_distance.specs.Distance.{strength, Outweigh}
use Rattle.code_distance.proofs.Shortfalls.{outweighing_is_least, outweighing_is_clear}
use Rattle.turbo_margin.proofs.Deciding.{margin_decodes}
use Rattle.clean_air.specs.Grant.{grant_word}
use Rattle.clean_air.specs.Heard.{SentMaster, word_of_master}
use Rattle.clean_air.specs.Near.{place_found, IsSystemRead}
use Rattle.clean_air.specs.Nearest.{IsSubframeNearest, IsSystemNearest, NearestMasterIsDecoded}
use Rattle.clean_air.proofs.Controls.{grant_parts, four_elements}
use Rattle.clean_air.proofs.SentBlock.{IsMasterWord, is_master_word}

-- ---- the MIB

-- there are sums for 40 indices
sums_size : (receiver : Receiver) (recording : List Sample) (place : Place) (frames : Frames) → length (sums_by receiver recording place frames) ≡ 40
unfolding summed_values
sums_size receiver recording place frames = length-summed_by _ 40 _

three : (f : ℕ → ℕ) → f 0 + f 1 + f 2 ≡ total_below 3 f
unfolding total_below
three f = omega arith

-- the sum of all magnitudes, as the rule for MIBs adds it
strength-total : (values : List (List ℤ)) → length values ≡ 40 → strength values ≡ total values
unfolding strength total
strength-total values size = rw size (total_below_same 40 _ _ (λ k below. three (λ t. nat_abs (sum_at values k t))))

-- if the sums outweigh every other word, the receiver decodes the word
outweighing_decodes : (values : List (List ℤ)) (master : SentMaster) (number : ℕ) (word : List Bool) → length values ≡ 40 → IsMasterWord master number word → Outweigh values word → Decodes values word master.ports
outweighing_decodes values master number word size is outweigh =
    let long : 22 ≤ length values = omega (arith, size) in
    let clear = outweighing_is_clear values word long outweigh in
    let all = strength-total values size in
    record {
      least = outweighing_is_least values word long (is.size ∙ sym size) outweigh;
      heard = subst (λ n. 0 < n) all clear.1;
      clear = subst (λ n. 4 * word_cost values word ≤ n) all clear.0;
      check = is.check;
      width = is.few;
    }

pub nearest_master_is_decoded : NearestMasterIsDecoded
nearest_master_is_decoded receiver recording id master number t half takes near = record {
  fits = near.fits;
  found = near.found;
  each = λ u other m found.
      outweighing_decodes _ master m (word_of_master master m) (sums_size receiver recording (place_found id u other) (frames_from 1 0 (m % 4)))
      (is_master_word master m takes.count takes.spare found.fits) (near.each u other m found);
}

-- ---- subframe 5

-- if the sums outweigh every other word, they carry the grant
outweighing_grants : (count : ℕ) (candidate : List ℤ) (grant : Grant) → IsGrant grant → 4 ≤ count → Outweigh (summed 37 candidate) (grant_word grant) → Grants count candidate (Ok grant)
outweighing_grants count candidate grant is enough outweigh = record {
  word = grant_word grant;
  is = record {
    enough = enough;
    least = outweighing_is_least (summed 37 candidate) (grant_word grant) (omega (arith, length-summed 37 candidate)) ((grant_parts grant).size ∙ sym (length-summed 37 candidate)) outweigh;
  };
  passes = checked_16 system_information_rnti (sent_word grant) (omega arith);
  says = subst (λ bits. Carries bits grant) (sym (grant_parts grant).message) (sent_carries grant is).carries;
}

module _ {Enough : Type 0} (values : Subframe) (plan : CellPlan) (number : ℕ) (sendable : IsSendableWith Enough plan) (elements : 4 ≤ values.elements plan.cfi) (near : IsSubframeNearest values plan number) where
  says_fields : BlockSays (values.shared plan.cfi plan.start plan.blocks) (grant_of plan number) (Ok plan.sib1)
  says_fields =
      let of = row_is plan sendable in
      let row : Row = row_with (checked_size plan) in
      record {
        bits = message_of 24 (shared_word plan);
        is = record {
          row = row;
          is_row = of.is;
          size = of.size;
          decodes = margin_decodes row (shared_word plan) _ (inl of.is) (word_size plan sendable ∙ sym of.size) (word_checked plan sendable) near.block;
        };
        says = word_says plan sendable;
      }

  pub fields_read : Reads values (Ok plan.sib1)
  fields_read = record {
    attempt = record { cfi = plan.cfi; grant = Some (grant_of plan number); answer = Ok plan.sib1 };
    is = record {
      decoded = near.indicator;
      follows = record {
        grants = outweighing_grants (values.elements plan.cfi) (values.candidate plan.cfi) (grant_of plan number) (grant_is plan sendable number) elements near.control;
        decodes = says_fields;
      };
    };
    answers = refl;
  }

-- a receiver that reads both slots of subframe 5 reads the plan's SIB1 there
pub nearest_system_is_read : (carrier : Carrier) (by : Valuing) (recording : List Sample) (plan : CellPlan) (place : Place) (number : ℕ) → IsSendableBy carrier plan →
    IsSystemNearest (Ok (subframes_by carrier by)) recording plan place number → IsSystemRead (Ok (subframes_by carrier by)) recording plan place number
nearest_system_is_read carrier by recording plan place number sendable near =
    let j : ℕ = even_frame number 0 in
    fields_read (subframes_by carrier by recording place j plan.duration plan.resource) plan ((number + j) % 1024) sendable
    (four_elements place.id plan.cfi plan.duration plan.resource sendable.cfi.0 sendable.cfi.1) near
