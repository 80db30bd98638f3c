-- A recording's certificates, and the answers to certificates. (own)
use Rattle.std.specs.Prelude.{◌≡◌, ℕ, Bool, List}
use Rattle.std.specs.List.{AllZip}
use Rattle.cs_num.specs.declared.Sample.{Sample}
use Rattle.lte_types.specs.declared.entry.Entry.{Entry}
use Rattle.lte_types.specs.declared.carrier.Carrier.{Carrier}
use Rattle.tail_cert.specs.Certificate.{Held}
use Rattle.certificates.specs.Stream.{all_bytes, AreAnswers}
use Rattle.certificates.specs.Certifying.{Certifies}
use Rattle.report_text.specs.Answers.{check_text}
use Rattle.evidence.specs.Receivers.{receiver_of}
use Rattle.lte_top.specs.Searching.{IsListOf}

-- `output` is one certificate per entry of the recording's cell list, in listing order
pub record IsCertified (carrier : Carrier) (samples : List Sample) (output : List ℕ) : Type 0 where
  pub entries : List Entry
  pub is_list : IsListOf carrier samples entries
  pub certificates : List Held
  pub each : AllZip (Certifies (receiver_of carrier) samples) entries certificates
  pub bytes : output ≡ all_bytes certificates

-- `input` is a sequence of certificates, and `output` the text of the answers to them, in order
pub record IsChecked (input output : List ℕ) : Type 0 where
  pub answers : List Bool
  pub are_answers : AreAnswers input answers
  pub text : output ≡ check_text answers
