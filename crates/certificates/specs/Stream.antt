-- Sequences of certificates: whether each is accepted, and where the format is broken (own).
use Rattle.std.specs.Prelude.{◌≡◌, ◌≢◌, ◌⊎◌, ◌↔◌, ℕ, ◌+◌, ◌<◌, ◌≤◌, ◌++◌, Bool, IsTrue, All, List, [], length}
use Rattle.std.specs.List.{flat_map, AllZip}
use Rattle.tail_cert.specs.Certificate.{Held, IsWhole, IsAccepted}
use Rattle.tail_cert.specs.Form.{bytes_of, IsFirstBreak}

-- the maximum length of the input, in bytes
abbrev pub most_bytes : ℕ
most_bytes = 67108864

-- the bytes of `certificates`, one after another
abbrev pub all_bytes : List Held → List ℕ
all_bytes certificates = flat_map bytes_of certificates

-- ---- the answers

-- the certificate's parts have the required lengths and ranges, and `answer` states whether it is accepted
pub record IsAnswer (certificate : Held) (answer : Bool) : Type 0 where
  pub whole : IsWhole certificate
  pub right : IsTrue answer ↔ IsAccepted certificate

-- `bytes` is a sequence of certificates, and `answers` states in order whether each is accepted
pub record AreAnswers (bytes : List ℕ) (answers : List Bool) : Type 0 where
  pub certificates : List Held
  pub each : AllZip IsAnswer certificates answers
  pub read : bytes ≡ all_bytes certificates

-- ---- format errors

-- the first format error in `bytes` is at offset `place`: complete certificates come first, then a remainder, not
-- empty, whose first format error, a byte or an early end, is at this offset
pub record IsFirstBroken (bytes : List ℕ) (place : ℕ) : Type 0 where
  pub certificates : List Held
  pub whole : All IsWhole certificates
  pub rest : List ℕ
  pub split : bytes ≡ all_bytes certificates ++ rest
  pub some : rest ≢ []
  pub within : ℕ
  pub first : IsFirstBreak rest within
  pub here : place ≡ length (all_bytes certificates) + within

-- the first format error in `bytes` is at offset `place`: either a byte among the first `most_bytes`, or the end of an
-- input of at most `most_bytes` bytes
pub record IsBrokenAt (bytes : List ℕ) (place : ℕ) : Type 0 where
  pub first : IsFirstBroken bytes place
  pub within : (place < most_bytes) ⊎ (length bytes ≤ most_bytes)

-- no byte of `bytes` breaks the format; only an early end of `bytes` may break it
abbrev pub IsUnbroken : List ℕ → Type 0
IsUnbroken bytes = (place : ℕ) → IsFirstBroken bytes place → length bytes ≤ place
