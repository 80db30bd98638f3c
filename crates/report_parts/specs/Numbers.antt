-- The named numbers in an entry's evidence, from which both the text line and the JSON object are built. (own)
use Rattle.std.specs.Prelude.{ℕ, List, [], ◌∷◌, codes}
use Rattle.lte_types.specs.declared.evidence.Evidence.{Evidence}

-- the numbers that identify an entry: its cell identity, frame start and frame number
abbrev pub place_in : Evidence → List (List ℕ × ℕ)
place_in entry =
    (codes "identity", entry.id) ∷
    (codes "at", entry.start) ∷
    (codes "sfn", entry.sfn) ∷ []

-- the numbers that support an entry: the PSS detection's sample and its energy fraction in thousandths; the cost of the
-- MIB codeword and the total magnitude of its soft values; the number of summed frames, the index of the first one and
-- its frame number modulo 4; and the power and noise of the pilots
abbrev pub numbers_in : Evidence → List (List ℕ × ℕ)
numbers_in entry =
    (codes "t", entry.t) ∷
    (codes "peak", entry.peak) ∷
    (codes "cost", entry.cost) ∷
    (codes "total", entry.total) ∷
    (codes "frames", entry.frames) ∷
    (codes "frame", entry.frame) ∷
    (codes "phase", entry.phase) ∷
    (codes "power", entry.power) ∷
    (codes "noise", entry.noise) ∷ []
