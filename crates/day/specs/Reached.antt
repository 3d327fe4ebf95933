-- A book that calls reach: some calls from a day opened new, which the value in hand has had. Assumes nothing.
use Rattle.std.specs.Prelude.{ℕ, List}
use Rattle.money.specs.declared.share.Share.{Share}
use Rattle.day.specs.declared.book.Book.{Book}
use Rattle.day.specs.Calls.{Answer, Early, Late}
use Rattle.day.specs.Law.{Law}
use Rattle.day.specs.Runs.{Opening, Running}

-- An opening day has had some calls.
abbrev pub Opened : Book → Type 0
Opened b = ∥ ((s : Share) × (es : List (Early × Answer)) × Opening s es b) ∥₁

-- A running day has had some calls.
abbrev pub Ran : Book → Type 0
Ran b = ∥ ((s : Share) × (es : List (Early × Answer)) × (ls : List ((ℕ × Late) × Answer)) × Running s es ls b) ∥₁

-- There are calls that the day has had, and the law holds of them and of what it answers.
abbrev pub Accounted : Book → Type 0
Accounted b = ∥ ((s : Share) × (es : List (Early × Answer)) × (ls : List ((ℕ × Late) × Answer)) × Running s es ls b × Law s es ls b) ∥₁
