use Rattle.history.proofs.Spans.{promise}
use Rattle.directory.proofs.find.find.Goals as goal

pub returns-clause-promise : goal.returns-clause-promise
returns-clause-promise g c = promise g.P.Gen.PartialEq.eq (λ a b e. g.met.P.Gen.PtrGen.same a b e) (λ a. g.met.P.Gen.Eq.laws.refl a) _ _ _
