-- Fractions, and the largest among several. (own)
use Rattle.std.specs.Prelude.{ℕ, ◌*◌, ◌^◌, ◌≤◌, Bool, nat_lt, if◌then◌else◌, List, [], ◌∷◌, Option, Some, None, fold}
use Rattle.lte_types.specs.declared.hit.Hit.{Hit}
use Rattle.pss_search.specs.Correlation.{wave_power}
use Rattle.frequency_offset.specs.declared.fraction.Fraction.{Fraction}

-- the fraction of a hit's energy that belongs to the PSS
abbrev pub fraction_of : Hit → Fraction
fraction_of hit = record { peak = hit.peak; energy = hit.energy; power = wave_power hit.n2 }

-- the denominator of a fraction
abbrev pub whole : Fraction → ℕ
whole a = a.energy * a.power

-- whether fraction `a` is less than fraction `b`, by cross-multiplication
abbrev pub is_less : Fraction → Fraction → Bool
is_less a b = nat_lt (a.peak * whole b) (b.peak * whole a)

-- whichever of `a` and `b` has the larger fraction; `a` on a tie
abbrev pub greater : {A : Type 0} → (A → Fraction) → A → A → A
greater fraction a b = if is_less (fraction a) (fraction b) then b else a

-- the value with the largest fraction in a list; the earliest on a tie, none in an empty list
abbrev pub greatest : {A : Type 0} → (A → Fraction) → List A → Option A
greatest fraction [] = None
greatest fraction (x ∷ xs) = Some (fold (greater fraction) x xs)

-- the numerator and the denominator of a fraction are at most 2^59
pub record IsSmall (a : Fraction) : Type 0 where
  pub peak : a.peak ≤ 2 ^ 59
  pub whole : whole a ≤ 2 ^ 59
