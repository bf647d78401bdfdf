-- The data starts at a 32-bit place.
use Rattle.lookups.proofs.SeekLaws.{sought_fits}
use Rattle.lookups.proofs.find_answer.Goals as goal

pub overflow_cast-result : goal.overflow_cast-result
overflow_cast-result c =
    sought_fits c.args.pkg.now c.args.which c.args.tag c.args.ty c.seek.ensures c.in_ok-entry.was c.get.ensures
