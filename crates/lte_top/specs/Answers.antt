-- The exit code of a status, and its text on standard error. (own)
use Rattle.std.specs.Prelude.{ℕ, List, codes, ◌++◌}
use Rattle.cell_plan.specs.Words.{refusal_text}
use Rattle.tail_cert.specs.Form.{broken_text}
use Rattle.lte_top.specs.declared.status.Status.{Status}
use Rattle.lte_top.specs.declared.status.Status.TheVariants.{Done, Usage, Ragged, TooShort, TooLong, ReadFault}
use Rattle.lte_top.specs.declared.status.Status.TheVariants.{WriteFault, OutOfMemory, BadCell, BadCertificate}

abbrev pub code_of : Status → ℕ
code_of Done = 0
code_of Usage = 2
code_of Ragged = 3
code_of TooShort = 4
code_of TooLong = 5
code_of ReadFault = 6
code_of WriteFault = 7
code_of OutOfMemory = 8
code_of (BadCell cause) = 9
code_of (BadCertificate place) = 10

abbrev pub text_of : Status → List ℕ
text_of Done = codes "done"
text_of Usage =
    codes "usage: no command has these arguments; a file is read from standard input (< FILE), "
    ++ codes "and options have one order (see the command help); --rate takes 1.92, 3.84, 7.68, 15.36 or 30.72"
text_of Ragged = codes "ragged: the input ends within a sample; check the format, or cut the last bytes"
text_of TooShort = codes "too short: the recording has less than 30 ms (57,600 samples without --rate); record more"
text_of TooLong =
    codes "too long: the input exceeds its limit; cut it, a recording to 1 s (1,920,000 samples without --rate)"
text_of ReadFault = codes "read fault: standard input could not be read; check the file or the pipe"
text_of WriteFault = codes "write fault: standard output could not be written, and what it has is incomplete"
text_of OutOfMemory = codes "out of memory: an allocation failed; free memory and try again"
text_of (BadCell cause) = refusal_text cause ++ codes "; see the descriptions in FORMATS"
text_of (BadCertificate place) = broken_text place ++ codes "; the input is damaged, or no file of certificates"
