-- The layout of an antenna port's pilots in a slot, in the form that the code uses for all ports.
use Rattle.std.specs.Prelude.{ℕ, ◌/◌, ◌%◌, ◌<◌, ◌≡◌, ◌⊎◌, nat_eq, if◌then◌else◌}
use Rattle.cs_num.specs.declared.Cpx.{Cpx}
use Rattle.crs.specs.Reference.{IsPattern, pattern_reference}
use Rattle.soft_bits.specs.declared.layout.Layout.{Layout}
use Rattle.soft_bits.specs.Estimate.{place_by}
use Rattle.soft_bits.specs.Lines.{Line}
use Rattle.soft_bits.specs.Soft.{SeenSlot}

-- the symbol that carries the pilot at subcarrier k: `early` if k modulo 6 is the layout's residue, otherwise `late`
abbrev pub symbol_with : Layout → ℕ → ℕ
symbol_with layout k = if nat_eq (k % 6) layout.residue then layout.early else layout.late

-- the reference signal sent at subcarrier k, which has a pilot
abbrev pub sent_with : Layout → SeenSlot → ℕ → Cpx
sent_with layout slot k =
    pattern_reference layout.pattern slot.identity slot.number (symbol_with layout k) (k / 6)

-- the pilots in a slot that a layout describes
abbrev pub laid_out : Layout → SeenSlot → Line
laid_out layout slot = record {
  step = layout.step;
  last = layout.last;
  first = layout.first;
  symbol = λ i. symbol_with layout (place_by layout.step layout.first i);
  sent = λ i. sent_with layout slot (place_by layout.step layout.first i);
}

-- a layout has 24 or 12 pilots, which cover the 72 subcarriers and are in the slot's first five symbols
pub record IsLayout (layout : Layout) : Type 0 where
  pub pattern : IsPattern layout.pattern
  pub count : ((layout.step ≡ 3) × (layout.last ≡ 23)) ⊎ ((layout.step ≡ 6) × (layout.last ≡ 11))
  pub first : layout.first < layout.step
  pub early : layout.early < 5
  pub late : layout.late < 5
