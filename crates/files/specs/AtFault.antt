-- The word at a fault: which text the fault lies in, and what stands there. Assumes nothing.
use Rattle.std.specs.Prelude.{ℕ, Bool, cond, not, ◌||◌, List, length, take, drop, Some, None, Option, ◌==◌, nat_le}
use Rattle.std.specs.List.{prefix_len}
use Rattle.std.specs.Option.{option_and_then}
use Rattle.files.specs.declared.fault.FileFaultKind.{FileFaultKind}
use Rattle.files.specs.declared.fault.FileFaultKind.TheVariants.{BoardLength, BoardLines, ClockLine, ClockName, ClockParent, ClockWord, RegisterLine, ScriptLine}
use Rattle.files.specs.declared.fault.FileFault.{FileFault}

-- the text that a kind of fault lies in: the board, the script, or neither
abbrev pub text_of : FileFaultKind → List ℕ → List ℕ → Option (List ℕ)
text_of BoardLength board script = Some board
text_of BoardLines board script = Some board
text_of ClockLine board script = Some board
text_of ClockName board script = Some board
text_of ClockParent board script = Some board
text_of ClockWord board script = Some board
text_of RegisterLine board script = None
text_of ScriptLine board script = Some script

-- neither a space nor an LF
abbrev pub in_word : ℕ → Bool
in_word b = not (b == 32 || b == 10)

-- what stands in a text from place p to the next space, LF or end; none where p lies past the end
abbrev pub word_from : List ℕ → ℕ → Option (List ℕ)
word_from text p = cond (nat_le p (length text)) (Some (take (prefix_len in_word (drop p text)) (drop p text))) None

-- the word at a fault in a board or a script
abbrev pub word_at_fault : List ℕ → List ℕ → FileFault → Option (List ℕ)
word_at_fault board script f = option_and_then (λ text. word_from text f.place) (text_of f.kind board script)
