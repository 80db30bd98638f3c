-- An entry's measurements for a cell to which a recording is faithful, or for which it is clean.
use Rattle.std.proofs.Common.{◌≡◌, ℕ, ◌*◌, ◌^◌, ◌≤◌, arith, refl, ap, sym, subst, ◌∙◌, List, [], ◌∷◌, length}
use Rattle.cs_num.specs.declared.Cpx.{Cpx}
use Rattle.cs_num.specs.declared.Sample.{Sample}
use Rattle.cs_num.specs.Complex.{square}
use Rattle.lte_types.specs.declared.carrier.Carrier.TheVariants.{OnePort}
use Rattle.lte_types.specs.declared.entry.Entry.{Entry}
use Rattle.lte_types.specs.declared.evidence.Evidence.{Evidence}
use Rattle.lte_types.specs.Timing.{start_of, number_at_start}
use Rattle.soft_bits.specs.Soft.{SeenSlot, pilot, pilot_energy}
use Rattle.soft_bits.proofs.Lines.{energy_of_one}
use Rattle.explain.specs.Frame.{broadcast_slot}
use Rattle.explain.specs.Entries.{IsInList}
use Rattle.cell_plan.specs.declared.cell.CellPlan.{CellPlan}
use Rattle.cell_plan.specs.Plan.{IsSendable}
use Rattle.cell_grid.specs.Grid.{Elements}
use Rattle.evidence.specs.Evidence.{IsEvidence, noise_of, differences}
use Rattle.evidence.proofs.SecondDifferences.{differences_of_one}
use Rattle.budget.specs.Received.{in_parts}
use Rattle.clean_air.specs.Faithful.{IsFaithful}
use Rattle.clean_air.specs.Clean.{IsSentEntryOf}
use Rattle.clean_air.proofs.HeldCells.{holds_cells}
use Rattle.clean_air.proofs.LoadedErrors.{loaded_is_faithful}
use Rattle.clean_air.proofs.SentSlots.{loaded_pilots_seen}
use Rattle.evidence.specs.Clear.{IsCertain, FaithfulEntriesAreSupported, CleanEntriesAreClear}
use Rattle.evidence.proofs.PeakOfEntry.{peak_is_high}
use Rattle.evidence.proofs.PilotDifferences.{AreSteady, are_steady, AreQuiet, are_quiet}
use Rattle.evidence.proofs.SeenPilots.{pilots_seen}

-- a multiple of the noise is at most a multiple of the power, as reported
detected_ratio : (whole part m noise e power : ℕ) → noise ≡ m → power ≡ e → whole * m ≤ part * e → whole * noise ≤ part * power
detected_ratio whole part m noise e power h k q = subst (λ n. whole * n ≤ part * power) (sym h) (subst (λ n. whole * m ≤ part * n) (sym k) q)

module _ (recording : List Sample) (entry : Entry) (detected : Evidence) (plan : CellPlan) (grid : Elements) (sfn offset : ℕ) (gain : Cpx) (long : 57600 ≤ length recording)
    (listed : IsInList recording entry) (evidence : IsEvidence recording entry detected) (sendable : IsSendable plan) (faithful : IsFaithful recording plan grid sfn offset gain)
    (id : entry.id ≡ plan.identity) (start : entry.start ≡ start_of offset) (number : entry.sfn ≡ number_at_start sfn offset) where
  -- the entry is the cell's
  is_sent : IsSentEntryOf OnePort plan (number_at_start sfn offset) entry
  is_sent =
      let held = (holds_cells recording listed.list long listed.explained).faithful plan (λ port. grid) sfn offset (gain ∷ []) sendable faithful in
      subst (λ (e : Entry). IsSentEntryOf OnePort plan (number_at_start sfn offset) e) (sym (held.only entry listed.inside id start number)) held.sent

  certain : IsCertain detected
  certain = record {
    cost = evidence.cost ∙ is_sent.cost;
    frames = evidence.frames ∙ is_sent.frames;
    frame = evidence.frame ∙ is_sent.frame;
    peak = subst (λ n. 999 ≤ n) (sym evidence.peak) (peak_is_high recording plan grid sfn offset gain entry detected.t faithful id start evidence.t.detected);
  }

  -- a statement on the first frame's slot holds for the entry's slot
  of_entry : (Is : SeenSlot → Type 0) → Is (broadcast_slot recording plan.identity (start_of offset) 0) → Is (broadcast_slot recording entry.id entry.start entry.frame)
  of_entry Is is =
      subst (λ n. Is (broadcast_slot recording n entry.start entry.frame)) (sym id)
      (subst (λ n. Is (broadcast_slot recording plan.identity n entry.frame)) (sym start)
      (subst (λ n. Is (broadcast_slot recording plan.identity (start_of offset) n)) (sym is_sent.frame) is))

  -- the noise and the power are computed from the pilots of the entry's slot
  noise_is : detected.noise ≡ noise_of (differences 24 2 (pilot (broadcast_slot recording entry.id entry.start entry.frame)))
  noise_is = evidence.noise ∙ ap noise_of (differences_of_one (broadcast_slot recording entry.id entry.start entry.frame))

  power_is : detected.power ≡ pilot_energy (broadcast_slot recording entry.id entry.start entry.frame)
  power_is = evidence.power ∙ energy_of_one OnePort (broadcast_slot recording entry.id entry.start entry.frame) refl

pub faithful_entries_are_supported : FaithfulEntriesAreSupported
faithful_entries_are_supported recording entry detected plan grid sfn offset gain long listed evidence sendable faithful id start number =
    let steady = of_entry recording entry detected plan grid sfn offset gain long listed evidence sendable faithful id start number (AreSteady gain)
    (are_steady gain _ (pilots_seen recording plan grid sfn offset gain faithful)) in
    let noise = noise_is recording entry detected plan grid sfn offset gain long listed evidence sendable faithful id start number in
    let power = power_is recording entry detected plan grid sfn offset gain long listed evidence sendable faithful id start number in
    record {
      certain = certain recording entry detected plan grid sfn offset gain long listed evidence sendable faithful id start number;
      noise = subst (λ n. 2 ^ 28 * n ≤ 289321537 * square gain) (sym noise) steady.small;
      quiet = detected_ratio 8 3 (noise_of (differences 24 2 _)) detected.noise (pilot_energy _) detected.power noise power steady.quiet;
    }

pub clean_entries_are_clear : CleanEntriesAreClear
clean_entries_are_clear recording entry detected plan grid sfn offset gain eps long listed evidence sendable clean id start number =
    let faithful : IsFaithful recording plan grid sfn offset (in_parts gain) = loaded_is_faithful OnePort recording plan (λ port. grid) sfn offset (gain ∷ []) eps long clean in
    let quiet = of_entry recording entry detected plan grid sfn offset (in_parts gain) long listed evidence sendable faithful id start number (AreQuiet gain)
    (are_quiet gain _ (loaded_pilots_seen recording plan grid sfn offset gain eps clean 0 1 (omega (arith, long)) (omega arith))) in
    let noise = noise_is recording entry detected plan grid sfn offset (in_parts gain) long listed evidence sendable faithful id start number in
    let power = power_is recording entry detected plan grid sfn offset (in_parts gain) long listed evidence sendable faithful id start number in
    record {
      certain = certain recording entry detected plan grid sfn offset (in_parts gain) long listed evidence sendable faithful id start number;
      noise = subst (λ n. n ≤ 198841079 * square gain) (sym noise) quiet.small;
      quiet = two (noise_of (differences 24 2 _)) detected.noise (pilot_energy _) detected.power noise power quiet.quiet;
    }
  where
    two : (m noise e power : ℕ) → noise ≡ m → power ≡ e → 4 * m ≤ e → 4 * noise ≤ power
    two m noise e power h k q = omega (arith, h, k, q)
