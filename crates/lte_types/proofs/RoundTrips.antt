-- Round trips between codes, names and values of MIB fields.
use Rattle.std.proofs.Common.{◌≡◌, ◌≤◌, refl, arith}
use Rattle.lte_types.specs.declared.bandwidth.Bandwidth.{Bandwidth}
use Rattle.lte_types.specs.declared.bandwidth.Bandwidth.TheVariants.{N6, N15, N25, N50, N75, N100}
use Rattle.lte_types.specs.declared.duration.Duration.{Duration}
use Rattle.lte_types.specs.declared.duration.Duration.TheVariants.{Normal, Extended}
use Rattle.lte_types.specs.declared.resource.Resource.{Resource}
use Rattle.lte_types.specs.declared.resource.Resource.TheVariants.{OneSixth, Half, One, Two}
use Rattle.lte_types.specs.Codes.{bandwidth, bandwidth_code, duration, duration_code, resource, resource_code}

pub bandwidth-code : (width : Bandwidth) → bandwidth (bandwidth_code width) ≡ width
bandwidth-code N6 = refl
bandwidth-code N15 = refl
bandwidth-code N25 = refl
bandwidth-code N50 = refl
bandwidth-code N75 = refl
bandwidth-code N100 = refl

pub duration-code : (d : Duration) → duration (duration_code d) ≡ d
duration-code Normal = refl
duration-code Extended = refl

pub duration_code_fits : (d : Duration) → duration_code d ≤ 1
duration_code_fits Normal = omega arith
duration_code_fits Extended = omega arith

pub resource-code : (r : Resource) → resource (resource_code r) ≡ r
resource-code OneSixth = refl
resource-code Half = refl
resource-code One = refl
resource-code Two = refl

pub resource_code_fits : (r : Resource) → resource_code r ≤ 3
resource_code_fits OneSixth = omega arith
resource_code_fits Half = omega arith
resource_code_fits One = omega arith
resource_code_fits Two = omega arith
