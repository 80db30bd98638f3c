-- The fields of the MIB (TS 36.331 section 6.2.2).
use Rattle.std.specs.Prelude.{◌≡◌, ℕ, ◌/◌, ◌%◌}
use Rattle.lte_types.specs.declared.bandwidth.Bandwidth.{Bandwidth}
use Rattle.lte_types.specs.declared.duration.Duration.{Duration}
use Rattle.lte_types.specs.declared.resource.Resource.{Resource}
use Rattle.lte_types.specs.declared.mib.Mib.{Mib}

-- `mib` has the bandwidth `width`, the PHICH duration `length`, the PHICH resource `share`, the upper eight frame
-- number bits `frame` and the last ten bits `bits`
pub record HasFields (mib : Mib) (width : Bandwidth) (length : Duration) (share : Resource)
    (frame bits : ℕ) : Type 0 where
  pub bandwidth : mib.bandwidth ≡ width
  pub duration : mib.duration ≡ length
  pub resource : mib.resource ≡ share
  pub upper : mib.upper ≡ frame
  pub spare : mib.spare ≡ bits

-- schedulingInfoSIB1-BR: the first five of the MIB's last ten bits, which were spare before Release 13
abbrev pub br : Mib → ℕ
br mib = mib.spare / 32

-- the MIB's last five bits, which are still spare in Release 13, as a number
abbrev pub rest : Mib → ℕ
rest mib = mib.spare % 32
