-- What is wrong with a file or with the buffer that is printed into, by number. Assumes nothing.
use Rattle.std.specs.Prelude.{ℕ}
use Rattle.files.specs.declared.fault.FileFaultKind.{FileFaultKind}
use Rattle.files.specs.declared.fault.FileFaultKind.TheVariants.{BoardLength, BoardLines, ClockLine, ClockName, ClockParent, ClockWord, RegisterLine, ScriptLine}
use Rattle.files.specs.declared.fault.FileFault.{FileFault}
use Rattle.files.specs.declared.fault.PrintFault.{PrintFault}
use Rattle.files.specs.declared.fault.PrintFault.TheVariants.{ShortBuffer}

abbrev pub kind_number : FileFaultKind → ℕ
kind_number BoardLength = 1
kind_number BoardLines = 2
kind_number ClockLine = 5
kind_number ClockName = 6
kind_number ClockParent = 7
kind_number ClockWord = 8
kind_number RegisterLine = 9
kind_number ScriptLine = 31

abbrev pub print_number : PrintFault → ℕ
print_number ShortBuffer = 33

-- a board that is too long, and one that has not 1 to 64 ended lines, as a whole
abbrev pub too_long : FileFault
too_long = record { kind = BoardLength; place = 0 }

abbrev pub bad_lines : FileFault
bad_lines = record { kind = BoardLines; place = 0 }

-- a clock line with the place of its first byte; then a name, a parent and any other word of one, with the place of its first byte
abbrev pub bad_clock : ℕ → FileFault
bad_clock p = record { kind = ClockLine; place = p }

abbrev pub bad_name : ℕ → FileFault
bad_name p = record { kind = ClockName; place = p }

abbrev pub bad_parent : ℕ → FileFault
bad_parent p = record { kind = ClockParent; place = p }

abbrev pub bad_word : ℕ → FileFault
bad_word p = record { kind = ClockWord; place = p }

-- a line that is none of a register list, and one that is none of a script, with the place of its first byte
abbrev pub bad_registers : ℕ → FileFault
bad_registers p = record { kind = RegisterLine; place = p }

abbrev pub bad_script : ℕ → FileFault
bad_script p = record { kind = ScriptLine; place = p }
