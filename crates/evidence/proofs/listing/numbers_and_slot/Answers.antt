use Rattle.std.proofs.Common.{ap, sym, subst, ◌∙◌}
use Rattle.lte_types.specs.CellPlace.{Place}
use Rattle.lte_types.specs.declared.carrier.Carrier.{Carrier}
use Rattle.explain.specs.Entries.{place_of}
use Rattle.explain.specs.Frame.{IsWhole}
use Rattle.evidence.specs.Evidence.{shown_in, IsEvidenceFor, IsInRange}
use Rattle.evidence.proofs.Early.{starts_early, first_is_whole}
use Rattle.evidence.proofs.Numbers.{has_fraction, are_numbers, are_in_range}
use Rattle.evidence.proofs.listing.numbers_and_slot.Goals as goal

pub place_in-requires : goal.place_in-requires
place_in-requires g c = starts_early g.receiver c.args.recording.now c.args.entry.now c.requires.1.0

pub shown_in-slot-requires : goal.shown_in-slot-requires
shown_in-slot-requires g c =
    subst (λ (p : Place). IsWhole c.args.recording.now p.start c.args.entry.now.frame) (sym c.place_in.ensures)
    (first_is_whole g.receiver c.args.recording.now c.args.entry.now c.requires.1.0)

pub numbers_of-numbers-requires : goal.numbers_of-numbers-requires
numbers_of-numbers-requires g c = has_fraction g.receiver c.args.recording.now c.args.entry.now c.args.reading.now c.requires.1.0 c.requires.1.1

pub returns-clause-slot : goal.returns-clause-slot
returns-clause-slot g c =
    let entry = c.args.entry.now in
    c.shown_in-slot.ensures ∙ ap (λ (p : Place). shown_in c.args.carrier c.args.recording.now p entry.frame) c.place_in.ensures
    ∙ ap (λ (k : Carrier). shown_in k c.args.recording.now (place_of entry) entry.frame) c.requires.0

pub returns-clause-evidence : goal.returns-clause-evidence
returns-clause-evidence g c =
    subst (IsEvidenceFor g.receiver c.args.recording.now c.args.entry.now) (sym c.numbers_of-numbers.ensures)
    (are_numbers g.receiver c.args.recording.now c.args.entry.now c.args.reading.now c.requires.1.0 c.requires.1.1 c.shown_in-slot.result (returns-clause-slot g c))

pub returns-clause-range : goal.returns-clause-range
returns-clause-range g c =
    subst IsInRange (sym c.numbers_of-numbers.ensures) (are_in_range g.receiver c.args.recording.now c.args.entry.now c.args.reading.now c.requires.1.0 c.requires.1.1 c.shown_in-slot.result)
