-- The status of a run that an error ends. (own)
use Rattle.cs_outside.specs.declared.streams.ReadError.{ReadError}
use Rattle.cs_outside.specs.declared.streams.ReadError.TheVariants.{TooLong as PastLimit, ReadFault as Failed}
use Rattle.cs_outside.specs.declared.streams.ReadError.TheVariants.{OutOfMemory as NoMemory}
use Rattle.sample_file.specs.declared.reading.FileError.{FileError}
use Rattle.sample_file.specs.declared.reading.FileError.TheVariants.{Ragged as WithinSample, TooShort as TooFew}
use Rattle.sample_file.specs.declared.reading.FileError.TheVariants.{TooLong as PastMost, ReadFault as Fault}
use Rattle.sample_file.specs.declared.reading.FileError.TheVariants.{OutOfMemory as Memory}
use Rattle.cell_json.specs.declared.error.JsonError.{JsonError}
use Rattle.cell_json.specs.declared.error.JsonError.TheVariants.{Cell, OutOfMemory as Wanting}
use Rattle.certificates.specs.declared.error.StreamError.{StreamError}
use Rattle.certificates.specs.declared.error.StreamError.TheVariants.{Broken, TooLong as PastBytes}
use Rattle.certificates.specs.declared.error.StreamError.TheVariants.{ReadFault as Stopped, OutOfMemory as Refused}
use Rattle.lte_top.specs.declared.status.Status.{Status}
use Rattle.lte_top.specs.declared.status.Status.TheVariants.{Ragged, TooShort, TooLong, ReadFault, OutOfMemory}
use Rattle.lte_top.specs.declared.status.Status.TheVariants.{BadCell, BadCertificate}

-- the status for an input that was not read to its end
abbrev pub of_read : ReadError → Status
of_read PastLimit = TooLong
of_read Failed = ReadFault
of_read NoMemory = OutOfMemory

-- the status for a recording that was not accepted
abbrev pub of_file : FileError → Status
of_file WithinSample = Ragged
of_file TooFew = TooShort
of_file PastMost = TooLong
of_file Fault = ReadFault
of_file Memory = OutOfMemory

-- the status for a description that was not accepted
abbrev pub of_json : JsonError → Status
of_json (Cell cause) = BadCell cause
of_json Wanting = OutOfMemory

-- the status for certificates that were not answered
abbrev pub of_stream : StreamError → Status
of_stream (Broken place) = BadCertificate place
of_stream PastBytes = TooLong
of_stream Stopped = ReadFault
of_stream Refused = OutOfMemory
