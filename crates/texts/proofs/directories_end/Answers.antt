-- An entry's data ends where its structure does, or before.
use Rattle.std.proofs.Common.{refl, arith}
use Rattle.tags.specs.Tables.{shown_by}
use Rattle.texts.proofs.TextsLaws.{extent_le}
use Rattle.texts.proofs.directories_end.Goals as goal

pub slashes_end-requires : goal.slashes_end-requires
slashes_end-requires c =
    omega (arith, extent_le c.args.pkg.now c.args.header (shown_by c.args.tags.now 1118) c.in-Some.ensures refl)
