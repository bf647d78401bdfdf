-- The flags in all their combinations, by computation.
use Rattle.meets.specs.Meets.{is_set, meets_by}
use Rattle.meets.specs.Examples.{ExamplesRight}

pub examples_right : ExamplesRight
unfolding is_set meets_by
examples_right = tt
