-- The help and version pages. (own)
use Rattle.std.specs.Prelude.{ℕ, List, ◌++◌, codes}
use Rattle.lte_args.specs.declared.form.Program.{Program}
use Rattle.lte_args.specs.declared.form.Program.TheVariants.{Receiver, Tuner}
use Rattle.lte_args.specs.declared.form.Page.{Page}
use Rattle.lte_args.specs.declared.form.Page.TheVariants.{Help, Version}
use Rattle.lte_args.specs.Words.{name_of}

-- the version of the programs, and the version of the cell list's definition
abbrev pub version : List ℕ
version = codes "0.9.0"

abbrev pub definition : List ℕ
definition = codes "2"

-- the version page of the program `name`: its name and version, then the version of the cell list's definition
abbrev pub version_after : List ℕ → List ℕ
version_after name = name ++ codes " " ++ version ++ codes "\ndefinition " ++ definition ++ codes "\n"

-- a program's help page: each command form, with its output
abbrev pub help_text : Program → List ℕ
help_text Receiver =
    codes "usage: lte_cli COMMAND [OPTION].. < INPUT > OUTPUT      (options in the order shown)\n\n"
    ++ codes "A recording is read from standard input: 30 ms to 1 s of raw I/Q samples, centred on the cell.\n"
    ++ codes "  hits [INPUT OPTION]..            PSS detections\n"
    ++ codes "  ids [INPUT OPTION]..             each PSS detection with its cell identity and frame start\n"
    ++ codes "  ids --deep [all] [INPUT OPTION]..\n"
    ++ codes "                                   cells detected over all half-frames of the first 170 ms\n"
    ++ codes "                                   (all: of the complete recording, without --rate)\n"
    ++ codes "  search [LIST] [INPUT OPTION]..   the cell list, with MIB and SIB1\n"
    ++ codes "  evidence [LIST] [INPUT OPTION]..\n"
    ++ codes "                                   measurements that support each listed cell\n"
    ++ codes "  why PCI [LIST] [INPUT OPTION]..  why a cell is listed, or the first rule that it fails\n"
    ++ codes "  certify [LIST] [INPUT OPTION]..  a certificate for the MIB of each listed cell\n\n"
    ++ codes "LIST: which cells are listed (default: one antenna port, normal cyclic prefix)\n"
    ++ codes "  --ports 2 | --ports 4            two or four antenna ports\n"
    ++ codes "  --prefix long                    extended cyclic prefix\n"
    ++ codes "  --all                            all four lists (search, evidence)\n"
    ++ codes "  --cancel                         the list, and a new list after each cancelled cell (search)\n\n"
    ++ codes "INPUT OPTION, in this order\n"
    ++ codes "  --json                           one line of JSON instead of text (not certify)\n"
    ++ codes "  --format cu8                     8-bit I/Q as rtl_sdr writes it (default: signed 16-bit, low byte "
    ++ codes "first)\n"
    ++ codes "  --rate R                         R million samples per second: 1.92, 3.84, 7.68, 15.36 or 30.72\n"
    ++ codes "                                   (default: 1.92); only the first 170 ms are then used, and search "
    ++ codes "reads\n"
    ++ codes "                                   SIB1 at any bandwidth, also at 1.92 (except with --cancel)\n\n"
    ++ codes "Without a recording\n"
    ++ codes "  check                            whether each certificate on standard input is accepted\n"
    ++ codes "  transmit [--ports 2 | --ports 4 | --prefix long] [--load N]\n"
    ++ codes "                                   the samples of the cell described in JSON on standard input\n"
    ++ codes "                                   (--load N: with traffic number N)\n"
    ++ codes "  make N [--ports 2 | --ports 4 | --prefix long]\n"
    ++ codes "                                   the list of synthetic recording number N\n"
    ++ codes "  help, --help, -h                 this page\n"
    ++ codes "  version, --version, -V           versions of the program and of its definition\n\n"
    ++ codes "Exit code: 0 if the input was read and the output written, also without a cell; else 2 to 10.\n"
    ++ codes "Example: lte_cli search --json --format cu8 < recording.cu8\n"
help_text Tuner =
    codes "usage: lte_tune COMMAND [OPTION].. < INPUT > OUTPUT      (options in the order shown)\n\n"
    ++ codes "A recording is read from standard input: 30 ms to 1 s of raw I/Q samples, centred on the cell.\n"
    ++ codes "  tell [--json] [--format cu8] [--rate R]\n"
    ++ codes "                                   the frequency offset, in steps of 117.1875 Hz\n"
    ++ codes "  apply [M] [--format cu8] [--rate R]\n"
    ++ codes "                                   the recording in 16-bit I/Q with its offset corrected: the estimated\n"
    ++ codes "                                   offset, or M steps of 117.1875 Hz (-2048 to 2047)\n\n"
    ++ codes "INPUT OPTION, in this order\n"
    ++ codes "  --json                           one line of JSON instead of text (tell)\n"
    ++ codes "  --format cu8                     8-bit I/Q as rtl_sdr writes it (default: signed 16-bit, low byte "
    ++ codes "first)\n"
    ++ codes "  --rate R                         R million samples per second: 1.92, 3.84, 7.68, 15.36 or 30.72\n"
    ++ codes "                                   (default: 1.92); tell then uses only the first 170 ms\n\n"
    ++ codes "Without a recording\n"
    ++ codes "  help, --help, -h                 this page\n"
    ++ codes "  version, --version, -V           versions of the program and of its definition\n\n"
    ++ codes "Exit code: 0 if the input was read and the output written; else 2 to 8.\n"
    ++ codes "Example: lte_tune apply --format cu8 < recording.cu8 | lte_cli search\n"

abbrev pub page_text : Program → Page → List ℕ
page_text program Help = help_text program
page_text program Version = version_after (name_of program)
