-- States and the execution of a run in the domain that a library is.
use Rattle.std.specs.Prelude.{List}
use Rattle.library.specs.Library.{Library, Item}
use Rattle.runs.specs.Domain as domain
use Rattle.runs.specs.Domain.{domain_of}

abbrev pub Fact : Library → Type 0
Fact L = domain.Fact (domain_of L)

abbrev pub State : Library → Type 0
State L = domain.State (domain_of L)

abbrev pub Executes : (L : Library) → List Item → State L → Type 0
Executes L w s = domain.Executes (domain_of L) w s

abbrev pub end : (L : Library) → List Item → State L → State L
end L w s = domain.end (domain_of L) w s
