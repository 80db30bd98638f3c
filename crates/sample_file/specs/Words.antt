-- The error texts if no recording was read. (own)
use Rattle.std.specs.Prelude.{ℕ, List, codes}
use Rattle.sample_file.specs.declared.reading.FileError.{FileError}
use Rattle.sample_file.specs.declared.reading.FileError.TheVariants.{Ragged, TooShort, TooLong, ReadFault, OutOfMemory}

-- the error text for each reason why no recording was read
abbrev pub error_text : FileError → List ℕ
error_text Ragged = codes "ragged"
error_text TooShort = codes "too short"
error_text TooLong = codes "too long"
error_text ReadFault = codes "read fault"
error_text OutOfMemory = codes "out of memory"
