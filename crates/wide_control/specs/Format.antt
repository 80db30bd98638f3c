-- The DCI formats that can grant SIB1 (TS 36.212 sections 5.3.3.1.3 and 5.3.3.1.4).
use Rattle.std.specs.Prelude.{ℕ, Bool, List, Result}
use Rattle.wide_grant.specs.declared.grant.WideGrant.{WideGrant}
use Rattle.wide_grant.specs.declared.grant.Refusal.{Refusal}
use Rattle.wide_grant.specs.Grants.{bits_1a, grant_1a, bits_1c, grant_1c}
use Rattle.wide_control.specs.declared.format.DciFormat.{DciFormat}
use Rattle.wide_control.specs.declared.format.DciFormat.TheVariants.{Format1A, Format1C}

-- the number of bits in a payload of a format, for `blocks` resource blocks
unfoldable pub payload_size : ℕ → DciFormat → ℕ
payload_size blocks Format1A = bits_1a blocks
payload_size blocks Format1C = bits_1c blocks

-- the grant in a payload of a format in a frame, or the reason to refuse it; format 1A does not depend on the frame
unfoldable pub grant_in : ℕ → ℕ → DciFormat → List Bool → Result WideGrant Refusal
grant_in blocks sfn Format1A bits = grant_1a blocks bits
grant_in blocks sfn Format1C bits = grant_1c blocks sfn bits
