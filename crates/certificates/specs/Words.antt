-- The error texts if the certificates in a source could not all be checked (own).
use Rattle.std.specs.Prelude.{ℕ, List, codes}
use Rattle.tail_cert.specs.Form.{broken_text}
use Rattle.certificates.specs.declared.error.StreamError.{StreamError}
use Rattle.certificates.specs.declared.error.StreamError.TheVariants.{Broken, TooLong, ReadFault, OutOfMemory}

-- the error text for each reason why the certificates in a source could not all be checked
abbrev pub error_text : StreamError → List ℕ
error_text (Broken place) = broken_text place
error_text TooLong = codes "too long"
error_text ReadFault = codes "read fault"
error_text OutOfMemory = codes "out of memory"
