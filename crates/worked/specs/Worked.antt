-- All worked examples, in one list.
use Rattle.worked.specs.Examples.{Examples}
use Rattle.worked.specs.Saved.{SavedExamples}

pub record WorkedExamples : Type 0 where
  pub frames : Examples
  pub saved : SavedExamples
