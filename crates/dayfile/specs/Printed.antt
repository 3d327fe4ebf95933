-- What the program prints of a file's bytes. Assumes nothing.
use Rattle.std.specs.Prelude.{◌≡◌, ℕ, ◌+◌, ◌<◌, ◌≤◌, Bool, true, false, List, [], ◌∷◌, ◌++◌, length, Some, None, ◌≢◌}
use Rattle.std.specs.List.{All}
use Rattle.day.specs.declared.book.Book.{Book}
use Rattle.statements.specs.Lines.{line, each}
use Rattle.statements.specs.Statement.{statement_of, total_text}
use Rattle.dayfile.specs.declared.fault.FileFault.{FileFault}
use Rattle.dayfile.specs.declared.program.Printed.{Printed}
use Rattle.dayfile.specs.declared.program.Printed.TheVariants as p
use Rattle.dayfile.specs.Faults.{why_number}
use Rattle.dayfile.specs.Files.{State, closed, Read}

-- X place number
abbrev pub X_line : (place number : ℕ) → List ℕ
X_line place number = line 88 (place ∷ number ∷ [])

-- The statements of the 96 periods in order, then the total line.
abbrev pub listing : Book → List ℕ
listing b = each (statement_of b) 96 ++ total_text b

-- The text that a file gives, and whether it is refused: 34 for one of more than 65,535 bytes, whatever is in it; else its first refusal, or its listing.
pub data Prints (bs : List ℕ) : List ℕ → Bool → Type 0 where
  too_long : 65535 < length bs → Prints bs (X_line 65535 34) true
  refused : {f : FileFault} {last : State} → length bs ≤ 65535 → Read bs (Some f) last → Prints bs (X_line f.place (why_number f.why)) true
  listed : {b : Book} → length bs ≤ 65535 → Read bs None (closed b) → Prints bs (listing b) false

-- What is printed of a file is its listing, or the line of its refusal.
abbrev pub PrintsAs : List ℕ → Printed → Type 0
PrintsAs bs (p.Statements text) = Prints bs text.items false
PrintsAs bs (p.Refusal text) = Prints bs text.items true

-- Where the bytes begin with a text without line feeds and a line feed, these are n bytes.
abbrev pub FirstLine : List ℕ → ℕ → Type 0
FirstLine bs n = (text rest : List ℕ) → All (λ x. x ≢ 10) text → bs ≡ text ++ 10 ∷ rest → n ≡ length text + 1
