-- The examples, by computation.
use Rattle.runs.specs.Runs.{is_digit, is_letter, kind, value_from, by_run}
use Rattle.version.specs.Version.{kind_of, longer, runs, by_text}
use Rattle.version.specs.Examples.{ExamplesRight}

pub examples_right : ExamplesRight
unfolding is_digit is_letter kind value_from by_run kind_of longer runs by_text
examples_right = tt
