use Rattle.numbering.specs.Kinds.{season_alike}
use Rattle.std.proofs.Common.{◌≡◌, true, arith}
use Rattle.numbering.specs.declared.generation.SeasonGen.{SeasonGen}
use Rattle.history.proofs.Followed.{followed, said}
use Rattle.examples.proofs.worked_examples.Goals as goal

same : (a : SeasonGen) → season_alike a a ≡ true
same a = grind arith

pub returns-clause-followed : goal.returns-clause-followed
returns-clause-followed c = λ g h k u v w. followed g h k u v w season_alike same

pub returns-clause-said : goal.returns-clause-said
returns-clause-said c = λ g h k u v w. said g h k u v w season_alike same
