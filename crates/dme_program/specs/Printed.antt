-- What is shown for words that ask for nothing, and the exit status of a fault (this profile).
use Rattle.std.specs.Prelude.{ℕ}
use Rattle.dme_words.specs.declared.words.WordsFault.{WordsFault}
use Rattle.dme_words.specs.declared.words.WordsFault.TheVariants as words
use Rattle.order_parts.specs.Faults.{status_of}
use Rattle.order_parts.specs.declared.faults.OrderFault.TheVariants as order
use Rattle.dme_program.specs.declared.faults.Fault.{Fault}
use Rattle.dme_program.specs.declared.faults.Fault.TheVariants as fault

-- the program is out of memory
abbrev pub short : Fault
short = fault.Order order.Memory

-- what is shown for words that ask for nothing
abbrev pub words_shown : WordsFault → Fault
words_shown words.Memory = short
words_shown refusal = fault.Words refusal

-- 2 for the command line, else the status of the order's fault
abbrev pub exit_status : Fault → ℕ
exit_status (fault.Words refusal) = 2
exit_status fault.NotUtf8 = 2
exit_status (fault.Order cause) = status_of cause
